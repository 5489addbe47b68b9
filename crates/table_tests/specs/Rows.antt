-- What going through the rows of a table finds first.
use Rattle.std.specs.Prelude.{ℕ, ◌<◌, Some, None, Option, MatchOption}

-- the first row in which something is found, with it, or none where each row gives none
pub record FirstRow (m : ℕ) (gives : ℕ → Option ℕ → Type 0) (r : Option (ℕ × ℕ)) : Type 0 where
  pub first :
      MatchOption r ((i : ℕ) → i < m → gives i None)
      (λ q. (q.0 < m) × gives q.0 (Some q.1) × ((i : ℕ) → i < q.0 → gives i None))
