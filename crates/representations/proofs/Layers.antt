-- What a layer that exchanges the axes passes on: a change and a load.
use Rattle.std.proofs.Common.{◌≡◌, ℕ, List, map, Some, None, Option, MatchOption, IsSomeAnd, Ok, Err, Result, sym, refl, ap, ◌∙◌, subst}
use Rattle.plans.proofs.TransposeLaw.{transpose_law}
use Rattle.plans.proofs.Transposing.{map_twice}
use Rattle.plans.specs.Changes.{Follows, after_load, after_change}
use Rattle.plans.specs.Directions.{code_along, code_told, turned}
use Rattle.plans.specs.Tables.{Floorplan}
use Rattle.plans.specs.TransposeLaw.{transpose_made}
use Rattle.plans.specs.Transposed.{other_code, transpose}
use Rattle.plans.specs.declared.change.Change.{Change}
use Rattle.plans.specs.declared.direction.Direction.{Direction}
use Rattle.plans.specs.declared.direction.Direction.TheVariants.{Right, Above}
use Rattle.plans.specs.declared.refusals.ChangeRefusal.{ChangeRefusal}
use Rattle.plans.specs.declared.refusals.LoadRefusal.{LoadRefusal}

code_turned : (d : Direction) → code_along (turned d) ≡ other_code (code_along d)
code_turned Right = refl
code_turned Above = refl

-- the code of a direction that is turned, if there is one
pub told_turned :
    (d r : Option Direction) → MatchOption d (r ≡ None) (λ x. IsSomeAnd r (λ y. y ≡ turned x))
    → code_told r ≡ other_code (code_told d)
told_turned None r h = ap code_told h
told_turned (Some x) (Some y) h = ap code_along h ∙ code_turned x
told_turned (Some x) None h = absurd h

-- an answer below follows the made floorplan exchanged, above
follows_made :
    {E : Type 0} (made : Result Floorplan E) (r : Result (Unit {0}) E) (old new : Floorplan) → Follows made r old new
    → Follows (transpose_made made) r (transpose old) (transpose new)
follows_made (Ok p) r old new f = (f.0, ap transpose f.1)
follows_made (Err e) r old new f = (f.0, ap transpose f.1)

pub follows_change :
    (c : Change) (r : Result (Unit {0}) ChangeRefusal) (old new : Floorplan) → Follows (after_change old c) r old new
    → Follows (after_change (transpose old) c) r (transpose old) (transpose new)
follows_change c r old new f =
    rw (transpose_law.changes old c) (follows_made (after_change old c) r old new f)

-- a load of exchanged codes below is the load of the codes above
pub follows_load :
    (inner codes s : List ℕ) (r : Result (Unit {0}) LoadRefusal) (old new : Floorplan) → inner ≡ map other_code codes
    → Follows (after_load inner s) r old new → Follows (after_load codes s) r (transpose old) (transpose new)
follows_load inner codes s r old new same f =
    let e : after_load codes s ≡ transpose_made (after_load inner s) =
    ap (λ l. after_load l s) (sym (map_twice codes)) ∙ transpose_law.loads (map other_code codes) s
    ∙ ap (λ l. transpose_made (after_load l s)) (sym same) in
    subst (λ m. Follows m r (transpose old) (transpose new)) (sym e) (follows_made (after_load inner s) r old new f)
