-- The graph of a code, built row by row.
use Rattle.std.proofs.Common.{◌≡◌, ℕ, ◌+◌, ◌<◌, true, false, cond, ◌&&◌, eqb, ltb, List, sym, ap, ◌∙◌, inl, inr, arith}
use Rattle.std.proofs.lemmas.Bool.{cases_eq}
use Rattle.std.proofs.lemmas.Bool.Decides.{nat_tests}
use Rattle.graphs.specs.Edges.{edge}
use Rattle.graphs.specs.declared.graph.Graph.{Graph}
use Rattle.module_set.specs.Members.{member}
use Rattle.module_set.specs.declared.set.ModuleSet.{ModuleSet}
use Rattle.plans.proofs.TableLists.{table_within}
use Rattle.plans.specs.Tables.{Table, table_of}
use Rattle.table_tests.specs.Tested.{Shows}

-- a code that is not 0 stands within the table
pub coded_within :
    (m : ℕ) (codes : List ℕ) (code i j : ℕ) → 0 < code → eqb (table_of m codes i j) code ≡ true → (i < m) × (j < m)
coded_within m codes code i j some e = table_within m codes i j (grind (arith, nat_tests))

-- so its graph has no edge to another number
pub shows_inside :
    (m : ℕ) (codes : List ℕ) (code : ℕ) (g : Graph) → 0 < code → Shows (table_of m codes) code g
    → (i j : ℕ) → edge g i j ≡ true → j < m
shows_inside m codes code g some shows i j e = (coded_within m codes code i j some (sym (shows i j) ∙ e)).1

-- an edge of it is its code, and the other way round
pub code_shown : (c : Table) (code : ℕ) (g : Graph) → Shows c code g → (i j : ℕ) → edge g i j ≡ true → c i j ≡ code
code_shown c code g shows i j e = let s = shows i j in grind (arith, nat_tests)

pub edge_shown : (c : Table) (code : ℕ) (g : Graph) → Shows c code g → (i j : ℕ) → c i j ≡ code → edge g i j ≡ true
edge_shown c code g shows i j e = let s = shows i j in grind (arith, nat_tests)

-- a graph that has the rows below n, and no other
abbrev pub Built : Table → ℕ → ℕ → Graph → Type 0
Built c code n g = (k j : ℕ) → edge g k j ≡ (ltb k n && eqb (c k j) code)

-- an edge of a code is seen among the numbers below n, where all that have one are below n
pub seen_below :
    (c : Table) (code n i j : ℕ) → 0 < code → ((i j : ℕ) → 0 < c i j → j < n)
    → (ltb j n && eqb (c i j) code) ≡ eqb (c i j) code
seen_below c code n i j some within =
    elim (cases_eq (c i j) code) [
      | inl same ↦ let w = within i j (omega arith) in grind (arith, nat_tests)
      | inr other ↦ grind (arith, nat_tests)
    ]

-- a row goes into the graph
pub row_put :
    (c : Table) (code i : ℕ) (g h : Graph) (s : ModuleSet) → i < 64 → Built c code i g
    → ((j : ℕ) → member s j ≡ eqb (c i j) code)
    → ((k j : ℕ) → edge h k j ≡ cond (ltb k 64 && eqb k i) (member s j) (edge g k j)) → Built c code (i + 1) h
row_put c code i g h s few built row put k j =
    put k j
    ∙ elim (cases_eq k i) [
      | inl same ↦
          let here : (ltb k 64 && eqb k i) ≡ true = grind (arith, nat_tests) in
          let below : ltb k (i + 1) ≡ true = grind (arith, nat_tests) in
          rw (here, below) (row j ∙ ap (λ n. eqb (c n j) code) (sym same))
      | inr other ↦
          let there : (ltb k 64 && eqb k i) ≡ false = grind (arith, nat_tests) in
          let below : ltb k i ≡ ltb k (i + 1) = grind (arith, nat_tests) in
          rw (there, ← below) (built k j)
    ]
