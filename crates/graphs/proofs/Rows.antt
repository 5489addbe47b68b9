-- What rows of sets tell of edges.
use Rattle.std.proofs.Common.{◌≡◌, ℕ, ◌<◌, ◌≤◌, Bool, false, cond, not, ◌&&◌, ◌||◌, eqb, ltb, List, length, get_or, set, replicate, true, sym, refl, ap, ◌∙◌, inl, inr, arith, get_or-set_other, get_or-set_same}
use lib.ListN.{get_or-replicate}
use Rattle.std.proofs.lemmas.Bool.{cases_eq, cases_lt, lt-ltb, le-ltb, eq-eqb, ne_eqb}
use Rattle.std.proofs.lemmas.Bool.Decides.{nat_tests}
use Rattle.std.proofs.lemmas.List.Edits.{Swapped}
use Rattle.module_set.proofs.Membership.{member_outside}
use Rattle.module_set.specs.Members.{member, no_module}
use Rattle.module_set.specs.declared.set.ModuleSet.{ModuleSet}
use Rattle.plans.specs.Changes.{exchange}
use Rattle.graphs.specs.Edges.{row_has, row_of, edge, swapped, RowChanged}
use Rattle.graphs.specs.declared.graph.Graph.{Graph}

-- a module below 64 has the edges of its row
pub edge_inside : (g : Graph) (i j : ℕ) → i < 64 → edge g i j ≡ member (row_of g i) j
unfolding edge row_has
edge_inside g i j h = rw (lt-ltb i 64 h) refl

-- and one beyond has none
pub edge_outside : (g : Graph) (i j : ℕ) → 64 ≤ i → edge g i j ≡ false
unfolding edge row_has
edge_outside g i j h = rw (le-ltb i 64 h) refl

-- so rows tell all edges
pub edges_are :
    (g : Graph) (has : ℕ → ℕ → Bool) → ((i j : ℕ) → i < 64 → member (row_of g i) j ≡ has i j)
    → ((i j : ℕ) → 64 ≤ i → has i j ≡ false) → (i j : ℕ) → edge g i j ≡ has i j
edges_are g has inside outside i j =
    elim (cases_lt i 64) [
      | inl h ↦ edge_inside g i j h ∙ inside i j h
      | inr h ↦ edge_outside g i j h ∙ sym (outside i j h)
    ]

-- rows without members
pub none_edges :
    (g : Graph) (x : ModuleSet) → g.rows ≡ replicate 64 x → ((j : ℕ) → member x j ≡ false) → (i j : ℕ) → edge g i j ≡ false
none_edges g x all none =
    edges_are g (λ i j. false)
    (λ i j h.
    ap (λ rows. member (get_or rows i no_module) j) all ∙ ap (λ s. member s j) (get_or-replicate 64 i x no_module h) ∙ none j)
    (λ i j h. refl)

-- one row replaced
pub row_replaced :
    (g h : Graph) (i : ℕ) (x : ModuleSet) → i < 64 → h.rows ≡ set g.rows i x → (k j : ℕ)
    → edge h k j ≡ cond (ltb k 64 && eqb k i) (member x j) (edge g k j)
row_replaced g h i x inside new =
    edges_are h (λ k j. cond (ltb k 64 && eqb k i) (member x j) (edge g k j))
    (λ k j small.
    ap (λ rows. member (get_or rows k no_module) j) new
    ∙ elim (cases_eq k i) [
      | inl same ↦
          let long : i < length g.rows = omega (arith, g.full) in
          rw (same, lt-ltb i 64 inside, eq-eqb i i refl) (ap (λ s. member s j) (get_or-set_same g.rows i x no_module long))
      | inr other ↦
          let kept = get_or-set_other g.rows i k x no_module other in
          rw (lt-ltb k 64 small, ne_eqb k i other) (ap (λ s. member s j) kept ∙ sym (edge_inside g k j small))
    ])
    (λ k j large. rw (le-ltb k 64 large) (edge_outside g k j large))

-- what a change leaves that gains nothing, or loses nothing
pub or_nothing : (b : Bool) → (b || false) ≡ b
or_nothing true = refl
or_nothing false = refl

pub and_all : (b : Bool) → (b && not false) ≡ b
and_all true = refl
and_all false = refl

-- the rows of a set's modules changed, by a test of what a row had and of what another set has
pub rows_changed :
    (op : Bool → Bool → Bool) (Makes : ModuleSet → ModuleSet → Type 0) (g h : Graph) (from to : ModuleSet)
    → ((i : ℕ) → i < 64 → RowChanged Makes (member from i) (row_of g i) (row_of h i))
    → ((x y : ModuleSet) → Makes x y → (j : ℕ) → member y j ≡ op (member x j) (member to j))
    → ((b : Bool) → op b false ≡ b)
    → (i j : ℕ) → edge h i j ≡ op (edge g i j) (member from i && member to j)
rows_changed op Makes g h from to changed made stays =
    edges_are h (λ i j. op (edge g i j) (member from i && member to j))
    (λ i j small.
    settle (member from i) (row_of g i) (row_of h i) (changed i small) j
    ∙ ap (λ b. op b (member from i && member to j)) (sym (edge_inside g i j small)))
    (λ i j large. rw (edge_outside g i j large, member_outside from i large) (stays false))
  where
    settle :
        (b : Bool) (x y : ModuleSet) → RowChanged Makes b x y → (j : ℕ)
        → member y j ≡ op (member x j) (b && member to j)
    settle true x y m j = made x y m j
    settle false x y m j = ap (λ s. member s j) m ∙ sym (stays (member x j))

-- two rows in each other's place, and their members too
pub rows_swapped :
    (g h : Graph) (mid : List ModuleSet) (a b : ℕ) → a < 64 → b < 64
    → Swapped (λ i. get_or g.rows i no_module) (λ i. get_or mid i no_module) a b
    → ((i j : ℕ) → i < 64 → member (row_of h i) j ≡ member (get_or mid i no_module) (swapped a b j))
    → (i j : ℕ) → edge h i j ≡ edge g (swapped a b i) (swapped a b j)
rows_swapped g h mid a b p q two turned =
    edges_are h (λ i j. edge g (swapped a b i) (swapped a b j))
    (λ i j small.
    turned i j small ∙ ap (λ s. member s (swapped a b j)) (there i)
    ∙ sym (edge_inside g (swapped a b i) (swapped a b j) (below i small)))
    (λ i j large. edge_outside g (swapped a b i) (swapped a b j) (beyond i large))
  where
    below : (i : ℕ) → i < 64 → swapped a b i < 64
    below i small = grind (arith, nat_tests)

    beyond : (i : ℕ) → 64 ≤ i → 64 ≤ swapped a b i
    beyond i large = grind (arith, nat_tests)

    inside : (i : ℕ) → swapped a b i ≡ exchange a b i
    inside i = rw (lt-ltb a 64 p, lt-ltb b 64 q) refl

    there : (i : ℕ) → get_or mid i no_module ≡ row_of g (swapped a b i)
    there i =
        rw (inside i) (elim (cases_eq i a) [
          | inl same ↦ rw (eq-eqb i a same, same) two.0
          | inr not-a ↦
              elim (cases_eq i b) [
                | inl same ↦ rw (ne_eqb i a not-a, eq-eqb i b same, same) two.1
                | inr not-b ↦ rw (ne_eqb i a not-a, ne_eqb i b not-b) (two.2 i not-a not-b)
              ]
        ])
