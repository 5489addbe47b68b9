-- A loop that makes the rows of a graph of those of two.
use Rattle.std.proofs.Common.{◌≡◌, ℕ, ◌+◌, ◌<◌, ◌≤◌, Bool, false, List, length, get_or, set, refl, ◌∙◌, inl, inr, arith, length-set, get_or-set_other, get_or-set_same}
use Rattle.std.proofs.lemmas.Bool.{cases_eq}
use Rattle.module_set.specs.Members.{member, no_module}
use Rattle.module_set.specs.declared.set.ModuleSet.{ModuleSet}
use Rattle.graphs.proofs.Rows.{edges_are, edge_inside, edge_outside}
use Rattle.graphs.specs.Edges.{edge, row_of, RowsMade}
use Rattle.graphs.specs.declared.graph.Graph.{Graph}

-- the rows below n are made of those of two graphs, and the others are the first graph's
pub record Combining (Makes : ModuleSet → ModuleSet → ModuleSet → Type 0) (n : ℕ) (first second rows : List ModuleSet) : Type 0 where
  pub long : length rows ≡ 64
  pub made : (k : ℕ) → k < n → Makes (get_or first k no_module) (get_or second k no_module) (get_or rows k no_module)
  pub rest : (k : ℕ) → n ≤ k → get_or rows k no_module ≡ get_or first k no_module

pub combining_none :
    (Makes : ModuleSet → ModuleSet → ModuleSet → Type 0) (first second : List ModuleSet) → length first ≡ 64
    → Combining Makes 0 first second first
combining_none Makes first second e = record {
  long = e;
  made = λ k h. absurd (omega arith);
  rest = λ k h. refl;
}

pub combining_more :
    (Makes : ModuleSet → ModuleSet → ModuleSet → Type 0) (n : ℕ) (first second rows : List ModuleSet) (x : ModuleSet)
    → Combining Makes n first second rows → n < 64 → Makes (get_or rows n no_module) (get_or second n no_module) x
    → Combining Makes (n + 1) first second (set rows n x)
combining_more Makes n first second rows x before h one =
    let inside : n < length rows = omega (arith, before.long) in
    let here = get_or-set_same rows n x no_module inside in
    record {
      long = length-set rows n x ∙ before.long;
      made = λ k l.
          elim (cases_eq k n) [
            | inl same ↦ rw (same, here) (rw (before.rest n (omega arith)) at one)
            | inr other ↦ rw (get_or-set_other rows n k x no_module other) (before.made k (omega arith))
          ];
      rest = λ k l. get_or-set_other rows n k x no_module (λ e. omega arith) ∙ before.rest k (omega arith);
    }

-- rows of a graph by a test of what the two rows have
pub rows_combined :
    (op : Bool → Bool → Bool) (Makes : ModuleSet → ModuleSet → ModuleSet → Type 0) (g h made : Graph)
    → RowsMade Makes g h made
    → ((x y z : ModuleSet) → Makes x y z → (j : ℕ) → member z j ≡ op (member x j) (member y j))
    → op false false ≡ false
    → (i j : ℕ) → edge made i j ≡ op (edge g i j) (edge h i j)
rows_combined op Makes g h made rows each none =
    edges_are made (λ i j. op (edge g i j) (edge h i j))
    (λ i j small. rw (edge_inside g i j small, edge_inside h i j small) (each (row_of g i) (row_of h i) (row_of made i) (rows.each i small) j))
    (λ i j large. rw (edge_outside g i j large, edge_outside h i j large) none)
