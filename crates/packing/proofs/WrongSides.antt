-- The first place at which a list passes a test is the first number below its length.
use Rattle.std.proofs.Common.{◌≡◌, Bool, List, length, get_or, Some, None, inl, inr, sym, arith}
use Rattle.std.specs.List.{position, position_or_len}
use Rattle.std.proofs.lemmas.List.Sums.{fails_before_first, passes_at_first}
use Rattle.std.proofs.lemmas.Bool.{cases_lt}
use Rattle.plans.proofs.Searches.{first_is}
use Rattle.plans.specs.Search.{first_below}

pub position_first :
    {X : Type 0} (p : X → Bool) (xs : List X) (d : X) → position p xs ≡ first_below (length xs) (λ k. p (get_or xs k d))
position_first p xs d =
    let n = position_or_len p xs in
    let found = first_is (λ k. p (get_or xs k d)) (length xs) in
    elim (cases_lt n (length xs)) [
      | inl h ↦
          grind (arith, sym (found (Some n) (h, passes_at_first p xs d h, λ k l. fails_before_first p xs k d l)))
      | inr h ↦
          grind (arith, sym (found None (λ k l. fails_before_first p xs k d (omega arith))))
    ]
