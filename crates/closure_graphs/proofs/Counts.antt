-- How many modules stand before and after each in a feasible table.
use Rattle.std.proofs.Common.{◌≡◌, ℕ, zero, suc, ◌+◌, ◌-◌, ◌<◌, ◌≤◌, Bool, false, cond, eqb, ◌≢◌, List, length, get_or, take, set, sym, refl, ap, ◌∙◌, inl, inr, arith, length-set, get_or-set_other, get_or-set_same}
use Rattle.std.proofs.lemmas.Bool.{cases_eq, cases_lt, le-ltb, eq-eqb, ne_eqb}
use Rattle.std.proofs.lemmas.Bool.Decides.{nat_tests}
use Rattle.graphs.specs.Edges.{edge}
use Rattle.module_set.specs.Members.{member, member_count}
use Rattle.module_set.specs.declared.set.ModuleSet.{ModuleSet}
use Rattle.plans.proofs.Orders.{ordered_by_count}
use Rattle.plans.proofs.Searches.{count_none}
use Rattle.plans.proofs.Sequences.{sequence_determined}
use Rattle.plans.specs.Orders.{OrderedByCount}
use Rattle.plans.specs.Search.{count_below}
use Rattle.plans.specs.Sequences.{count_before, edge_to, fitting}
use Rattle.plans.specs.Tables.{Table, FeasibleTable}
use Rattle.closure_graphs.proofs.Fronts.{begins_whole}
use Rattle.closure_graphs.specs.Shown.{Shown}
use Rattle.table_tests.specs.declared.build.TwoGraphs.{TwoGraphs}

-- nothing passes from m on, so counting further adds nothing
count_further : (m d : ℕ) (p : ℕ → Bool) → ((k : ℕ) → m ≤ k → p k ≡ false) → count_below (m + d) p ≡ count_below m p
count_further m zero p none = ap (λ n. count_below n p) (omega arith)
count_further m (suc d) p none =
    let ih = count_further m d p none in
    let e = none (m + d) (omega arith) in
    let n : m + suc d ≡ suc (m + d) = omega arith in
    ap (λ k. count_below k p) n ∙ rw e (omega arith)

-- so in a count of all 64
pub count_within : (m : ℕ) (p : ℕ → Bool) → m ≤ 64 → ((k : ℕ) → m ≤ k → p k ≡ false) → count_below 64 p ≡ count_below m p
count_within m p few none =
    let all : 64 ≡ m + (64 - m) = omega arith in
    ap (λ n. count_below n p) all ∙ count_further m (64 - m) p none

-- two tests that never pass together count as one of either
pub count_either :
    (n : ℕ) (p q r : ℕ → Bool) → ((k : ℕ) → cond (p k) 1 0 + cond (q k) 1 0 ≡ cond (r k) 1 0)
    → count_below n p + count_below n q ≡ count_below n r
count_either zero p q r e = refl
count_either (suc n) p q r e = let ih = count_either n p q r e in let h = e n in omega arith

-- each number but i passes exactly one of two tests, and i none
count_apart :
    (n i : ℕ) (p q : ℕ → Bool) → ((k : ℕ) → k < n → cond (p k) 1 0 + cond (q k) 1 0 + cond (eqb k i) 1 0 ≡ 1)
    → count_below n p + count_below n q + count_below n (λ k. eqb k i) ≡ n
count_apart zero i p q e = refl
count_apart (suc n) i p q e =
    let ih = count_apart n i p q (λ k h. e k (omega arith)) in
    let h = e n (omega arith) in
    omega arith

count_self : (n i : ℕ) → i < n → count_below n (λ k. eqb k i) ≡ 1
count_self zero i h = absurd (omega arith)
count_self (suc n) i h =
    elim (cases_eq n i) [
      | inl same ↦
          let none = count_none n (λ k. eqb k i) (λ k l. ne_eqb k i (λ e. omega arith)) in
          rw (eq-eqb n i same) (omega (arith, none))
      | inr other ↦
          let ih = count_self n i (omega (arith, other)) in
          rw (ne_eqb n i other) (omega (arith, ih))
    ]

-- the modules below i stand at the places that count those before them
abbrev pub Placed : ℕ → Table → ℕ → List ℕ → Type 0
Placed m c i s = (length s ≡ 64) × ((j : ℕ) → j < i → get_or s (count_before m (edge_to c) j) 0 ≡ j)

module _ (m : ℕ) (c : Table) (law : FeasibleTable m c) where
  abbrev place : ℕ → ℕ
  place i = count_before m (edge_to c) i

  -- every module but i is before i or after it
  pub before_after :
      (i : ℕ) → i < m → count_before m (edge_to c) i + count_below m (λ j. edge_to c i j) + 1 ≡ m
  before_after i h =
      let all =
      count_apart m i (λ j. edge_to c j i) (λ j. edge_to c i j)
      (λ k l.
      let one = law.oneway k i in
      let other = law.oneway i k in
      let self = law.apart i in
      elim (cases_eq k i) [
        | inl same ↦
            let there : c k i ≡ 0 = ap (λ n. c n i) same ∙ self in
            let back : c i k ≡ 0 = ap (λ n. c i n) same ∙ self in
            rw (there, back, eq-eqb k i same) refl
        | inr apart ↦
            let some = law.joined k i l h apart in
            let t : eqb k i ≡ false = ne_eqb k i apart in
            grind (arith, nat_tests)
      ])
      in
      omega (arith, all, count_self m i h)

  -- the successors of i in the two graphs, counted
  pub successors_count :
      (two : TwoGraphs) (i : ℕ) (s t : ModuleSet) → Shown c two → ((j : ℕ) → member s j ≡ edge two.right i j)
      → ((j : ℕ) → member t j ≡ edge two.above i j) → member_count s + member_count t ≡ count_below m (λ j. edge_to c i j)
  unfolding member_count
  successors_count two i s t shown in-s in-t =
      count_either 64 (member s) (member t) (λ j. edge_to c i j)
      (λ k.
      let a : member s k ≡ eqb (c i k) 1 = in-s k ∙ shown.0 i k in
      let b : member t k ≡ eqb (c i k) 2 = in-t k ∙ shown.1 i k in
      let small = law.small i k in
      rw (a, b) (grind (arith, nat_tests)))
      ∙ count_within m (λ j. edge_to c i j) law.few (λ k l. le-ltb 0 (c i k) (zero_at k l))
    where
      zero_at : (k : ℕ) → m ≤ k → c i k ≤ 0
      zero_at k l =
          elim (cases_lt 0 (c i k)) [
            | inl more ↦ absurd (omega (arith, (law.within i k more).1))
            | inr less ↦ less
          ]

  counted : OrderedByCount m (edge_to c)
  counted = ordered_by_count m (edge_to c) (sequence_determined m c law).order

  pub place_of_lem : (i after : ℕ) → i < m → after ≡ count_below m (λ j. edge_to c i j) → (after < m) × (m - 1 - after ≡ place i)
  place_of_lem i after h e = let all = before_after i h in (omega (arith, all, e), omega (arith, all, e))

  place_once : (i j : ℕ) → i < m → j < m → place i ≡ place j → i ≡ j
  place_once i j h l e =
      sym (counted.placed i h).1 ∙ ap (λ k. get_or (fitting m c) k 0) e ∙ (counted.placed j l).1

  pub placed_more :
      (i k : ℕ) (s : List ℕ) → i < m → k ≡ place i → Placed m c i s → Placed m c (i + 1) (set s k i)
  placed_more i k s h e w = (
    length-set s k i ∙ w.0,
    λ j l.
        elim (cases_eq j i) [
          | inl same ↦
              let few = law.few in
              let inside : k < length s = omega (arith, (counted.placed i h).0, w.0, e) in
              rw (same, ← e) (rw get_or-set_same)
          | inr other ↦
              let apart : place j ≢ k = λ f. other (place_once j i (omega (arith, other)) h (f ∙ e)) in
              rw get_or-set_other (w.1 j (omega (arith, other)))
        ],
  )

  pub placed_all : (i : ℕ) (s : List ℕ) → m ≤ i → Placed m c i s → take m s ≡ fitting m c
  placed_all i s all w =
      let few = law.few in
      let fits = (sequence_determined m c law).fits in
      begins_whole (fitting m c) s m fits.long (omega (arith, w.0))
      (λ k l.
      let x = get_or (fitting m c) k 0 in
      let at = counted.placed x (fits.modules k l) in
      let same : place x ≡ k = fits.once (place x) k at.0 l at.1 in
      ap (λ p. get_or s p 0) (sym same) ∙ w.1 x (omega (arith, fits.modules k l)))
