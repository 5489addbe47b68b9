-- A walk along a kept sequence from its end that gives each module the modules after it.
use Rattle.std.proofs.Common.{◌≡◌, ℕ, ◌+◌, ◌<◌, ◌≤◌, Bool, true, false, cond, ◌&&◌, ◌||◌, eqb, ltb, List, length, get_or, sym, refl, ap, ◌∙◌, inl, inr, arith}
use Rattle.std.specs.Prelude.{nat_le}
use Rattle.std.proofs.lemmas.Bool.{cases_eq}
use Rattle.std.proofs.lemmas.Bool.Decides.{nat_tests}
use Rattle.graphs.specs.Edges.{edge}
use Rattle.graphs.specs.declared.graph.Graph.{Graph}
use Rattle.module_set.specs.Members.{member}
use Rattle.module_set.specs.declared.set.ModuleSet.{ModuleSet}
use Rattle.sequence_pairs.specs.Keeping.{AtPlaces, before_by}
use Rattle.sequence_pairs.specs.Kept.{module_at_lem}

-- j is a module that stands at place k or after it
abbrev pub stands_on : ℕ → List ℕ → ℕ → ℕ → Bool
stands_on m places k j = ltb j m && nat_le k (get_or places j 0)

-- what stands from place k on is met, and has its edges
pub record Following (m : ℕ) (places : List ℕ) (k : ℕ) (graph : Graph) (met : ModuleSet) : Type 0 where
  pub met_is : (j : ℕ) → member met j ≡ stands_on m places k j
  pub edges : (i j : ℕ) → edge graph i j ≡ (nat_le k (get_or places i 0) && before_by m places i j)

module _ (m : ℕ) (modules places : List ℕ) (few : m ≤ 64) (room : m ≤ length modules) (at : AtPlaces m modules places) where
  pub following_none :
      (graph : Graph) (met : ModuleSet) → ((i j : ℕ) → edge graph i j ≡ false) → ((j : ℕ) → member met j ≡ false)
      → Following m places m graph met
  following_none graph met no-edge no-member = record {
    met_is = λ j. no-member j ∙ sym (none j (at j));
    edges = λ i j. no-edge i j ∙ sym (none-before i j (at i));
  }
    where
      none : (j : ℕ) → (j < m → (get_or places j 0 < m) × (get_or modules (get_or places j 0) 0 ≡ j)) → stands_on m places m j ≡ false
      none j h = grind (arith, nat_tests)

      none-before :
          (i j : ℕ) → (i < m → (get_or places i 0 < m) × (get_or modules (get_or places i 0) 0 ≡ i))
          → (nat_le m (get_or places i 0) && before_by m places i j) ≡ false
      none-before i j h = grind (arith, nat_tests)

  -- the place before
  module _ (k n x : ℕ) (next : n ≡ k + 1) (here : k < m) (is : x ≡ get_or modules k 0) where
    x-inside : x < m
    x-inside = rw is (module_at_lem m modules places room at k here).0

    x-place : get_or places x 0 ≡ k
    x-place = rw is (module_at_lem m modules places room at k here).1

    -- only x has its place
    only : (j : ℕ) → j < m → get_or places j 0 ≡ k → j ≡ x
    only j h e = sym (at j h).1 ∙ ap (λ p. get_or modules p 0) e ∙ sym is

    pub following_more :
        (graph after : Graph) (met more : ModuleSet) → Following m places n graph met
        → ((i j : ℕ) → edge after i j ≡ cond (ltb i 64 && eqb i x) (member met j) (edge graph i j))
        → ((j : ℕ) → member more j ≡ (member met j || (ltb j 64 && eqb j x)))
        → Following m places k after more
    following_more graph after met more before row adds = record {
      met_is = λ j.
          adds j ∙ ap (λ b. b || (ltb j 64 && eqb j x)) (before.met_is j) ∙ followed_more j;
      edges = λ i j.
          row i j ∙ ap (λ b. cond (ltb i 64 && eqb i x) b (edge graph i j)) (before.met_is j)
          ∙ ap (λ b. cond (ltb i 64 && eqb i x) (stands_on m places n j) b) (before.edges i j) ∙ edges_more i j;
    }
      where
        followed_more : (j : ℕ) → (stands_on m places n j || (ltb j 64 && eqb j x)) ≡ stands_on m places k j
        followed_more j =
            let inside = x-inside in
            let place = x-place in
            let one = only j in
            elim (cases_eq j x) [ inl same ↦ rw same (grind (arith, nat_tests)) | inr other ↦ grind (arith, nat_tests) ]

        edges_more :
            (i j : ℕ)
            → cond (ltb i 64 && eqb i x) (stands_on m places n j) (nat_le n (get_or places i 0) && before_by m places i j)
            ≡ (nat_le k (get_or places i 0) && before_by m places i j)
        edges_more i j =
            let inside = x-inside in
            let place = x-place in
            let one = only i in
            elim (cases_eq i x) [ inl same ↦ rw same (grind (arith, nat_tests)) | inr other ↦ grind (arith, nat_tests) ]

pub following_all :
    (m : ℕ) (places : List ℕ) (k : ℕ) (graph : Graph) (met : ModuleSet) → k ≡ 0 → Following m places k graph met
    → (i j : ℕ) → edge graph i j ≡ before_by m places i j
following_all m places k graph met e walked i j =
    let first : nat_le k (get_or places i 0) ≡ true = grind (arith, nat_tests) in
    walked.edges i j ∙ rw first refl
