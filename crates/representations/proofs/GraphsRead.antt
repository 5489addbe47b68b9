-- The graphs and the sequence of a floorplan, read off what it tells.
use Rattle.std.proofs.Common.{◌≡◌, ℕ, ◌+◌, ◌<◌, ◌≤◌, ◌≢◌, set, cond, false, ◌&&◌, ◌||◌, eqb, ltb, List, length, get_or, Some, None, Option, sym, ap, ◌∙◌, subst, inl, inr, arith}
use Rattle.std.proofs.lemmas.Bool.{cases_eq, ne_eqb, lt-ltb}
use Rattle.std.proofs.lemmas.Bool.Decides.{nat_tests}
use Rattle.std.proofs.lemmas.List.{get_or-set_same, get_or-set_other}
use Rattle.module_set.specs.Members.{member}
use Rattle.module_set.specs.declared.set.ModuleSet.{ModuleSet}
use Rattle.plans.specs.Tables.{Table, Floorplan, Feasible, table_in, module_at}
use Rattle.closure_graphs.proofs.Fronts.{Begins}
use Rattle.closure_graphs.proofs.StandsFor.{StandsFor, stands_for}
use Rattle.closure_graphs.specs.Shown.{Shown}
use Rattle.table_tests.proofs.GraphRows.{Built, seen_below}
use Rattle.table_tests.specs.declared.build.TwoGraphs.{TwoGraphs}

-- a set of the modules below n to which i has an edge of a code
abbrev pub RowRead : Table → ℕ → ℕ → ℕ → ModuleSet → Type 0
RowRead c code i n s = (k : ℕ) → member s k ≡ (ltb k n && eqb (c i k) code)

-- one module more is in it
pub row_found :
    (c : Table) (code i n : ℕ) (s t : ModuleSet) → n < 64 → RowRead c code i n s → c i n ≡ code
    → ((k : ℕ) → member t k ≡ (member s k || (ltb k 64 && eqb k n))) → RowRead c code i (n + 1) t
row_found c code i n s t h read here with k = with k ∙ ap (λ x. x || (ltb k 64 && eqb k n)) (read k) ∙ settle
  where
    settle : ((ltb k n && eqb (c i k) code) || (ltb k 64 && eqb k n)) ≡ (ltb k (n + 1) && eqb (c i k) code)
    settle =
        elim (cases_eq k n) [
          | inl same ↦ let e : c i k ≡ code = ap (c i) same ∙ here in grind (arith, nat_tests)
          | inr other ↦ grind (arith, nat_tests)
        ]

-- or is not
pub row_passed :
    (c : Table) (code i n : ℕ) (s : ModuleSet) → RowRead c code i n s → c i n ≢ code → RowRead c code i (n + 1) s
row_passed c code i n s read other k = read k ∙ settle
  where
    settle : (ltb k n && eqb (c i k) code) ≡ (ltb k (n + 1) && eqb (c i k) code)
    settle =
        elim (cases_eq k n) [
          | inl same ↦
              let e : eqb (c i k) code ≡ false = ne_eqb (c i k) code (λ w. other (sym (ap (c i) same) ∙ w)) in
              rw e (grind (arith, nat_tests))
          | inr differs ↦ grind (arith, nat_tests)
        ]

-- a row that was read to its end is whole
pub row_read :
    (c : Table) (code i n : ℕ) (s : ModuleSet) → 0 < code → ((i j : ℕ) → 0 < c i j → j < n) → RowRead c code i n s
    → (j : ℕ) → member s j ≡ eqb (c i j) code
row_read c code i n s some within read j = read j ∙ seen_below c code n i j some within

-- with all rows the two graphs show the floorplan's table
all_rows :
    (p : Floorplan) → Feasible p → (n : ℕ) → p.size ≤ n → (two : TwoGraphs) → Built (table_in p) 1 n two.right
    → Built (table_in p) 2 n two.above → Shown (table_in p) two
all_rows p f n past two beside over =
    (λ i j. beside i j ∙ each 1 (omega arith) i j, λ i j. over i j ∙ each 2 (omega arith) i j)
  where
    each : (code : ℕ) → 0 < code → (i j : ℕ) → (ltb i n && eqb (table_in p i j) code) ≡ eqb (table_in p i j) code
    each code some i j =
        elim (cases_eq (table_in p i j) code) [
          | inl same ↦ let w = f.table.within i j (omega arith) in grind (arith, nat_tests)
          | inr other ↦ grind (arith, nat_tests)
        ]

-- the module that is told at a place of the sequence
pub module_there :
    (p : Floorplan) (k x : ℕ) (r : Option ℕ) → k < length p.sequence → r ≡ module_at p k → r ≡ Some x
    → x ≡ get_or p.sequence k 0
module_there p k x r here told is =
    let e : ◌≡◌ {A = Option ℕ} (Some x) (Some (get_or p.sequence k 0)) =
    sym is ∙ told ∙ ap (λ t. cond t (Some (get_or p.sequence k 0)) None) (lt-ltb k (length p.sequence) here) in
    cc

-- all rows, with the sequence, stand for the floorplan
pub read_stands :
    (p : Floorplan) → Feasible p → (m : ℕ) → m ≡ p.size → (n : ℕ) → m ≤ n → (two : TwoGraphs)
    → Built (table_in p) 1 n two.right → Built (table_in p) 2 n two.above → (k : ℕ) → m ≤ k → (s : List ℕ)
    → length s ≡ 64 → Begins k p.sequence s → StandsFor p m two s
read_stands p f m size n past two beside over k end s long same =
    stands_for p f m size two (all_rows p f n (omega (arith, size)) two beside over) s long (λ l h. same l (omega arith))
