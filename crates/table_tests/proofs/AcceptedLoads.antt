-- The pass over a load accepts what its tests accept, and nothing else.
use Rattle.std.proofs.Common.{◌≡◌, ℕ, ◌+◌, ◌*◌, ◌/◌, ◌%◌, ◌<◌, ◌≤◌, List, length, get_or, Some, None, ap, ◌∙◌, inl, inr, arith}
use Rattle.std.proofs.lemmas.Bool.{cases_lt}
use Rattle.std.proofs.lemmas.List.{get_or_past}
use Rattle.plans.proofs.LoadLaw.{feasible_load, load_feasible}
use Rattle.plans.proofs.TableLists.{code_at, table_inside, table_within, same_table}
use Rattle.plans.specs.Tables.{codes_of, table_of}
use Rattle.table_tests.proofs.Passed.{shown_table}
use Rattle.table_tests.proofs.WalkedFeasible.{walked_feasible, feasible_walked}
use Rattle.table_tests.specs.Tested.{AcceptsExactly, Shows}
use Rattle.table_tests.specs.Walked.{Walked}
use Rattle.table_tests.specs.declared.build.TwoGraphs.{TwoGraphs}

module _ (codes s : List ℕ) where
  abbrev m : ℕ
  m = length s

  -- a code above 2 is refused
  pub too_great : (k : ℕ) → 2 < get_or codes k 0 → AcceptsExactly codes s None
  too_great k more unrefused =
      let f = load_feasible codes s unrefused in
      let inside : k < m * m =
      elim (cases_lt k (length codes)) [
        | inl less ↦ omega (arith, f.full)
        | inr past ↦ let none = get_or_past codes k 0 past in absurd (omega arith)
      ]
      in
      let same = code_at m codes k inside in
      let small = f.table.small (k / m) (k % m) in
      absurd (omega arith)

  -- and where none is above 2, no code of the table is
  pub none_greater : (most : ℕ) → ((k : ℕ) → get_or codes k 0 ≤ most) → most ≤ 2 → (i j : ℕ) → table_of m codes i j ≤ 2
  none_greater most bound few i j =
      elim (cases_lt 0 (table_of m codes i j)) [
        | inl some ↦
            let w = table_within m codes i j some in
            let here = table_inside m codes i j w.0 w.1 in
            let b = bound (i * m + j) in
            omega arith
        | inr none ↦ omega arith
      ]

  -- the graphs of a table with codes up to 2 that are walked along the sequence
  module _ (two : TwoGraphs) (right : Shows (table_of m codes) 1 two.right) (above : Shows (table_of m codes) 2 two.above) where
    pub accepted :
        m ≤ 64 → length codes ≡ m * m → ((i j : ℕ) → table_of m codes i j ≤ 2) → Walked two s
        → AcceptsExactly codes s (Some two)
    accepted few full small walked = (
      (feasible_load codes s (walked_feasible codes s two right above few full small walked), right, above),
      ap (codes_of m) (shown_table (table_of m codes) two.right two.above small right above) ∙ same_table m codes full,
    )

    pub not_accepted : (Walked two s → ⊥) → AcceptsExactly codes s None
    not_accepted stopped unrefused =
        stopped (feasible_walked codes s two right above (load_feasible codes s unrefused))
