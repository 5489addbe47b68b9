-- A list that begins with another.
use Rattle.std.proofs.Common.{◌≡◌, ℕ, ◌+◌, ◌<◌, ◌≤◌, set, List, length, take, get_or, sym, ◌∙◌, subst, inl, inr, arith}
use Rattle.std.proofs.lemmas.Bool.{cases_eq}
use Rattle.std.proofs.lemmas.List.{same_lists, length-take-le, get_or-take, get_or_default, get_or-set_same, get_or-set_other}

-- the first n entries of a list are those of another
abbrev pub Begins : ℕ → List ℕ → List ℕ → Type 0
Begins n xs long = (k : ℕ) → k < n → get_or long k 0 ≡ get_or xs k 0

-- one entry more
pub begins_more :
    (xs long : List ℕ) (n x : ℕ) → n < length long → Begins n xs long → x ≡ get_or xs n 0
    → Begins (n + 1) xs (set long n x)
begins_more xs long n x room before here k h =
    elim (cases_eq k n) [
      | inl same ↦
          subst (λ i. get_or (set long n x) i 0 ≡ get_or xs i 0) (sym same) (get_or-set_same long n x 0 room ∙ here)
      | inr other ↦ get_or-set_other long n k x 0 other ∙ before k (omega arith)
    ]

-- all of them
pub begins_whole :
    (xs long : List ℕ) (n : ℕ) → length xs ≡ n → n ≤ length long → Begins n xs long → take n long ≡ xs
begins_whole xs long n size room each =
    let cut : length (take n long) ≡ n = length-take-le n long room in
    same_lists (take n long) xs (cut ∙ sym size)
    (λ k d h.
    let l : k < n = omega (arith, cut) in
    get_or_default (take n long) k d 0 h ∙ get_or-take n long k 0 l ∙ each k l ∙ get_or_default xs k 0 d (omega (arith, size)))
