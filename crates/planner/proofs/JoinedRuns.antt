-- A run of a plan, and then another from where it ended, is one run of both lists of calls.
use Rattle.std.proofs.Common.{List, [], ◌∷◌, ◌++◌, subst}
use Rattle.plans.specs.Calls.{Told}
use Rattle.plans.specs.Kinds.{Kind}
use Rattle.planner.specs.PlanRuns.{Run}
use Rattle.planner.specs.declared.plan.Plan.{Plan}
use Rattle.representations.specs.declared.representation.Representation.{Ghosts}

module _ {R : Type 0} {g : Ghosts R} {I : Type 0} {L : I → Type 0} (K : (kind : I) → Kind (L kind)) where
  -- two runs, one after the other; three are told as ts ++ (us ++ vs)
  pub runs_join :
      (first : Plan R g) (ts : List (Told L)) (between : Plan R g) (us : List (Told L)) (last : Plan R g)
      → Run K first ts between → Run K between us last → Run K first (ts ++ us) last
  runs_join first [] between us last a b = subst (λ p. Run K p us last) a b
  runs_join first (t ∷ ts) between us last (next, link, rest) b =
      (next, link, runs_join next ts between us last rest b)
