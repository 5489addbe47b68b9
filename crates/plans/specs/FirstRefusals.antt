-- What the first refusal of a call is: it applies, and none before it does.
use Rattle.std.specs.Prelude.{◌≡◌, ℕ, ◌<◌, ◌⊎◌, List, Some, None, Option, slice_index}
use Rattle.plans.specs.First.{RowBefore}

-- refusals E of one call, each with its rank and what it tells, and with when it applies
module _ {E : Type 0} (rank : E → ℕ) (told : E → List ℕ) (Applies : E → Type 0) where
  -- f comes before e: by its rank, or by what it tells, in row order
  abbrev pub Earlier : E → E → Type 0
  Earlier f e =
      (rank f < rank e)
      ⊎ ((rank f ≡ rank e) × RowBefore (slice_index (told f) 0) (slice_index (told f) 1) (slice_index (told e) 0) (slice_index (told e) 1))

  -- the refusal that is answered applies, and none before it does; where none is answered, none applies
  abbrev pub FirstRefusal : Option E → Type 0
  FirstRefusal (Some e) = Applies e × ((f : E) → Earlier f e → Applies f → ⊥)
  FirstRefusal None = (f : E) → Applies f → ⊥
