-- The packing sequence of closure graphs and the other sequence by counting make the pair of what they mean.
use Rattle.std.proofs.Common.{◌≡◌, ℕ, ◌+◌, ◌<◌, ◌≤◌, false, cond, ◌||◌, eqb, List, length, get_or, set, take, sym, ap, ◌∙◌, ap₂, subst, inl, inr, arith, length-set, get_or-set_other, get_or-set_same}
use Rattle.std.proofs.lemmas.Bool.{cases_eq, cases_lt}
use Rattle.std.proofs.lemmas.Bool.Decides.{nat_tests}
use Rattle.std.proofs.lemmas.List.{get_or-take}
use Rattle.closure_graphs.proofs.Counts.{count_either, count_within}
use Rattle.closure_graphs.specs.Meaning.{graphs_mean}
use Rattle.closure_graphs.specs.Settled.{plan_feasible}
use Rattle.closure_graphs.specs.declared.closure_graphs.ClosureGraphs.{ClosureGraphs}
use Rattle.graphs.specs.Edges.{edge}
use Rattle.graphs.specs.Tallies.{edges_into}
use Rattle.graphs.specs.declared.graph.Graph.{Graph}
use Rattle.module_set.specs.Members.{member, member_count}
use Rattle.module_set.specs.declared.set.ModuleSet.{ModuleSet}
use Rattle.plans.proofs.PairLaw.{pair_law, other_order}
use Rattle.plans.proofs.Searches.{count_le, count_same}
use Rattle.plans.specs.Search.{count_below}
use Rattle.plans.specs.SequencePairs.{from_pair, other_before}
use Rattle.plans.specs.Sequences.{count_before}
use Rattle.plans.specs.Tables.{Table, Feasible, table_in}
use Rattle.sequence_pairs.proofs.Counted.{counted_distinct, counted_ordered}
use Rattle.sequence_pairs.specs.Keeping.{AtPlaces, Distinct, pair_of}
use Rattle.sequence_pairs.specs.declared.order.Order.{Order}

-- to how many modules one has an edge
unfoldable pub edges_from : Graph → ℕ → ℕ
edges_from g i = count_below 64 (λ j. edge g i j)

-- how many modules stand before each in the other sequence
abbrev pub beside_or_over : ClosureGraphs → ℕ → ℕ
beside_or_over x j = edges_into x.graphs.right j + edges_from x.graphs.above j

pub successors_few : (g : Graph) (i : ℕ) (s : ModuleSet) → ((j : ℕ) → member s j ≡ edge g i j) → (member_count s ≡ edges_from g i) × (member_count s ≤ 64)
unfolding edges_from member_count
successors_few g i s is = (count_same 64 (member s) (λ j. edge g i j) (λ j h. is j), count_le 64 (member s))

pub predecessors_few : (g : Graph) (j : ℕ) → edges_into g j ≤ 64
unfolding edges_into
predecessors_few g j = count_le 64 (λ i. edge g i j)

-- the places below n count both, and the others what is beside alone
pub record Adding (x : ClosureGraphs) (n : ℕ) (places : List ℕ) : Type 0 where
  pub long : length places ≡ 64
  pub done : (k : ℕ) → k < n → get_or places k 0 ≡ beside_or_over x k
  pub rest : (k : ℕ) → n ≤ k → k < 64 → get_or places k 0 ≡ edges_into x.graphs.right k

pub adding_more :
    (x : ClosureGraphs) (n : ℕ) (places : List ℕ) (s : ModuleSet) (more : ℕ) → Adding x n places → n < 64
    → ((j : ℕ) → member s j ≡ edge x.graphs.above n j) → more ≡ get_or places n 0 + member_count s
    → Adding x (n + 1) (set places n more)
adding_more x n places s more before h is sum = record {
  long = length-set places n _ ∙ before.long;
  done = λ k l.
      elim (cases_eq k n) [
        | inl same ↦
            rw (same, get_or-set_same places n more 0 (omega (arith, before.long)))
            (sum ∙ (λ t. before.rest n (omega arith) h t + (successors_few x.graphs.above n s is).0 t))
        | inr other ↦ get_or-set_other places n k _ 0 other ∙ before.done k (omega (arith, other))
      ];
  rest = λ k l g. get_or-set_other places n k _ 0 (λ e. omega arith) ∙ before.rest k (omega arith) g;
}

module _ (x : ClosureGraphs) where
  abbrev m : ℕ
  m = x.size

  abbrev c : Table
  c = table_in (graphs_mean x)

  feasible_taken : Feasible (graphs_mean x)
  feasible_taken = plan_feasible m x.graphs x.sequence x.few x.long x.feasible

  -- what counts the modules beside and over one counts those before it
  pub other_counted : (j : ℕ) → beside_or_over x j ≡ count_before m (other_before c) j
  unfolding edges_into edges_from
  other_counted j =
      count_either 64 (λ i. edge x.graphs.right i j) (λ i. edge x.graphs.above j i) (λ i. other_before c i j)
      (λ i.
      let one = feasible_taken.table.oneway i j in
      rw (x.beside i j, x.over j i) (apart (c i j) (c j i) one))
      ∙ count_within m (λ i. other_before c i j) x.few outside
    where
      apart : (y z : ℕ) → (0 < y → z ≡ 0) → cond (eqb y 1) 1 0 + cond (eqb z 2) 1 0 ≡ cond (eqb y 1 || eqb z 2) 1 0
      apart y z one = elim (cases_lt 0 y) [ inl more ↦ let e = one more in grind (arith, nat_tests) | inr less ↦ grind (arith, nat_tests) ]

      outside : (i : ℕ) → m ≤ i → other_before c i j ≡ false
      outside i h =
          let away = feasible_taken.table.within i j in
          let back = feasible_taken.table.within j i in
          grind (arith, nat_tests)

  -- the modules of the packing sequence differ
  pub packing_distinct : Distinct m x.sequence
  packing_distinct = (
    λ k h. rw (get_or-take m x.sequence k 0 h) at (feasible_taken.fits.modules k h),
    λ k l h i e. feasible_taken.fits.once k l h i (get_or-take m x.sequence k 0 h ∙ e ∙ sym (get_or-take m x.sequence l 0 i)),
  )

  module _ (places : List ℕ) (counted : (j : ℕ) → j < m → get_or places j 0 ≡ count_before m (other_before c) j) where
    -- and so do the places of the other
    pub other_distinct : Distinct m places
    other_distinct = counted_distinct m (other_before c) (other_order m c feasible_taken.table) places counted

    pub pair_taken :
        (packing other : Order) → packing.count ≡ m → packing.modules ≡ x.sequence → other.count ≡ m → other.places ≡ places
        → pair_of packing.count other.modules packing.modules ≡ graphs_mean x
    pair_taken packing other count modules same at =
        ap₂ (λ n s. pair_of n other.modules s) count modules
        ∙ ap (λ s. from_pair s (take m x.sequence))
        (counted_ordered m (other_before c) (other_order m c feasible_taken.table) places counted other.modules
        (let few = x.few in omega (arith, other.room))
        (subst (λ l. AtPlaces m other.modules l) at (subst (λ n. AtPlaces n other.modules other.places) same other.kept)))
        ∙ pair_law.determined (graphs_mean x) feasible_taken
