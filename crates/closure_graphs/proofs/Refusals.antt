-- What the tests of a change tell, passed one after another.
use Rattle.std.proofs.Common.{◌≡◌, Bool, ℕ, Some, None, Option, Ok, refl}
use Rattle.plans.specs.Changes.{unless, bypassed, two_refusal, edge_refusal}
use Rattle.plans.specs.Directions.{code_along}
use Rattle.plans.specs.Search.{refusing}
use Rattle.plans.specs.Tables.{Table}
use Rattle.plans.specs.declared.direction.Direction.{Direction}
use Rattle.plans.specs.declared.direction.Direction.TheVariants.{Right, Above}
use Rattle.plans.specs.declared.refusals.ChangeRefusal.TheVariants.{NoReductionEdge}

-- a test that answers Ok refuses nothing
pub passed : {X E : Type 0} (refusal : Option E) (x y : X) → Ok x ≡ unless refusal y → refusal ≡ None
passed (Some e) x y h = cc
passed None x y h = refl

-- an edge between two modules is refused only where others close it
pub edge_told :
    (m : ℕ) (c : Table) (a b : ℕ) (d : Direction) (t : Bool) → two_refusal m a b ≡ None → code_along d ≡ c a b
    → t ≡ bypassed m c a b → edge_refusal m c a b ≡ refusing t NoReductionEdge
edge_told m c a b Right t two is told = rw (two, ← told, ← is) refl
edge_told m c a b Above t two is told = rw (two, ← told, ← is) refl
