-- The three packings that are not refused: least placements, with "no place" exactly where there is none.
use Rattle.std.proofs.Common.{◌≡◌, ℕ, List, None}
use Rattle.plans.proofs.LeastPlacements.{packed_plan, packed_freely}
use Rattle.plans.proofs.PackRefusals.{not_refused_packable, not_refused_pinned, not_refused_rotated}
use Rattle.plans.specs.Kinds.{Kind, SumLaws, JoinLaws}
use Rattle.plans.specs.Packing.{Task, one_pin, rotated_task}
use Rattle.plans.specs.PackingCalls.{pack_refusal, pin_refusal, rotation_refusal}
use Rattle.plans.specs.PackingTheorems.{PackedPlan, PackedFreely}
use Rattle.plans.specs.Tables.{Feasible}
use Rattle.plans.specs.declared.measures.Placed.{Placed}

module _ {L : Type 0} (K : Kind L) (sum : SumLaws K) (join : JoinLaws K) (t : Task L) (feasible : Feasible t.plan) (results : List (Placed L)) where
  pub pack_law : pack_refusal K t results ≡ None → PackedFreely K t
  pack_law none = packed_freely K sum t (not_refused_packable K t results feasible none).0 join

  pub pinned_law :
      (a : ℕ) (across up : L) → pin_refusal K t results a across up ≡ None → PackedPlan K t (one_pin a across up)
  pinned_law a across up none =
      let q = not_refused_pinned K t results a across up none in
      let ok = (not_refused_packable K t results feasible q.0).0 in
      packed_plan K sum join t (one_pin a across up) ok q.2

-- with another module rotated the refusals are the same
pub rotated_law :
    {L : Type 0} (K : Kind L) (sum : SumLaws K) (join : JoinLaws K) (t : Task L) (feasible : Feasible t.plan)
    (results : List (Placed L)) (a : ℕ)
    → rotation_refusal K t results a ≡ None → PackedFreely K (rotated_task t a)
rotated_law K sum join t feasible results a none =
    pack_law K sum join (rotated_task t a) feasible results (not_refused_rotated K t results a none).0
