-- The row stands at the start, and 0 after it.
use Rattle.std.proofs.Common.{◌≡◌, ℕ, ◌-◌, List, ◌++◌, length, get_or, drop, replicate, sym, refl, ap, ◌∙◌, inl, inr, arith}
use Rattle.std.proofs.lemmas.Bool.{cases_lt}
use Rattle.std.proofs.lemmas.List.{get_or_append_left, get_or-append_right, get_or-replicate, get_or_past, drop-replicate}
use Rattle.std.proofs.lemmas.Simd.{length-replicate}
use Rattle.table_tests.proofs.build.padded_row.Goals as goal

zeros : (n i : ℕ) → ◌≡◌ {A = ℕ} (get_or (replicate n 0) i 0) 0
zeros n i =
    elim (cases_lt i n) [
      | inl inside ↦ get_or-replicate n i 0 0 inside
      | inr past ↦ get_or_past (replicate n 0) i 0 (omega (arith, length-replicate {A = ℕ} n 0))
    ]

padded : (row : List ℕ) (n j : ℕ) → get_or (row ++ drop (length row) (replicate n 0)) j 0 ≡ get_or row j 0
padded row n j =
    elim (cases_lt j (length row)) [
      | inl inside ↦ get_or_append_left row (drop (length row) (replicate n 0)) 0 j inside
      | inr past ↦
          get_or-append_right row (drop (length row) (replicate n 0)) (length row) j 0 refl past
          ∙ ap (λ l. get_or l (j - length row) 0) (drop-replicate (length row) n 0)
          ∙ zeros (n - length row) (j - length row) ∙ sym (get_or_past row j 0 past)
    ]

pub returns : goal.returns
returns c = λ j. rw c.copy_from_slice.ensures.after (padded c.row-row.result.now 64 j ∙ c.row-row.ensures.codes j)
