-- A pair of sequences makes a feasible floorplan, whose other sequence is the one of the pair.
use Rattle.std.proofs.Common.{◌≡◌, ℕ, ◌<◌, ◌≤◌, cond, eqb, ltb, ◌≢◌, ◌⊎◌, List, length, get_or, refl, ap, inl, inr, arith}
use Rattle.std.proofs.lemmas.Bool.{cases_lt, lt-ltb, le-ltb, or_cases, eqb-true}
use Rattle.plans.proofs.NamedOnce.{place_at, place_once}
use Rattle.plans.proofs.TableLists.{codes_length, read_back, table_within}
use Rattle.plans.specs.Orders.{RunsAlong}
use Rattle.plans.specs.PairLaw.{Pair}
use Rattle.plans.specs.Search.{place_of}
use Rattle.plans.specs.SequencePairs.{pair_table, from_pair, other_before}
use Rattle.plans.specs.Tables.{Table, Feasible, FeasibleTable, table_in, codes_of}

-- a code, with what it says about places in the packing sequence, P, and in the other, Q
CodeTells : (P Q : ℕ → ℕ) → ℕ → ℕ → ℕ → Type 0
CodeTells P Q i j x =
    ((x ≡ 0) × (P j ≤ P i)) ⊎ (((x ≡ 1) × (P i < P j) × (Q i < Q j)) ⊎ ((x ≡ 2) × (P i < P j) × (Q j ≤ Q i)))

places_code : (P Q : ℕ → ℕ) (i j : ℕ) → CodeTells P Q i j (cond (ltb (P i) (P j)) (cond (ltb (Q i) (Q j)) 1 2) 0)
unfolding CodeTells
places_code P Q i j =
    elim (cases_lt (P i) (P j)) [
      | inl h ↦
          elim (cases_lt (Q i) (Q j)) [
            | inl k ↦ inr (inl (rw (lt-ltb (P i) (P j) h, lt-ltb (Q i) (Q j) k) refl, h, k))
            | inr k ↦ inr (inr (rw (lt-ltb (P i) (P j) h, le-ltb (Q i) (Q j) k) refl, h, k))
          ]
      | inr h ↦ inl (rw (le-ltb (P i) (P j) h) refl, h)
    ]

-- a table of m modules by their places in two sequences
record ByPlaces (m : ℕ) (P Q : ℕ → ℕ) (c : Table) : Type 0 where
  pub few : m ≤ 64
  pub within : (i j : ℕ) → 0 < c i j → (i < m) × (j < m)
  pub apart : (i j : ℕ) → i < m → j < m → P i ≡ P j → i ≡ j
  pub apart_other : (i j : ℕ) → i < m → j < m → Q i ≡ Q j → i ≡ j
  pub code : (i j : ℕ) → i < m → j < m → CodeTells P Q i j (c i j)

by_places : (m : ℕ) (P Q : ℕ → ℕ) (c : Table) → ByPlaces m P Q c → FeasibleTable m c
unfolding CodeTells
by_places m P Q c b =
    record {
      few = b.few;
      small = λ i j.
          elim (cases_lt 0 (c i j)) [
            | inl h ↦ let w = b.within i j h in let t = b.code i j w.0 w.1 in grind arith
            | inr h ↦ omega arith
          ];
      within = b.within;
      apart = λ i.
          elim (cases_lt 0 (c i i)) [
            | inl h ↦ let w = b.within i i h in let t = b.code i i w.0 w.0 in grind arith
            | inr h ↦ omega arith
          ];
      joined = λ i j h k ne.
          let t = b.code i j h k in
          let u = b.code j i k h in
          let e : P i ≢ P j = λ same. ne (b.apart i j h k same) in
          elim (cases_lt 0 (c i j)) [ inl more ↦ inl more | inr less ↦ inr (grind arith) ];
      oneway = λ i j h.
          let w = b.within i j h in
          let t = b.code i j w.0 w.1 in
          let u = b.code j i w.1 w.0 in
          grind arith;
      closed = λ g i j k h x y.
          let w = b.within i j (omega arith) in
          let v = b.within j k (omega arith) in
          let t = b.code i j w.0 w.1 in
          let u = b.code j k w.1 v.1 in
          let z = b.code i k w.0 v.1 in
          grind arith;
    }

-- the floorplan of a pair
module _ (other packing : List ℕ) (two : Pair (length packing) other packing) where
  abbrev m : ℕ
  m = length packing

  abbrev c : Table
  c = table_in (from_pair other packing)

  pub pair_code : (i j : ℕ) → i < m → j < m → c i j ≡ pair_table other packing i j
  pair_code i j h k = read_back m (pair_table other packing) i j h k

  pair_places : ByPlaces m (place_of packing) (place_of other) c
  pair_places =
      record {
        few = two.few;
        within = table_within m (codes_of m (pair_table other packing));
        apart = place_once m packing two.second;
        apart_other = place_once m other two.first;
        code = λ i j h k. rw (pair_code i j h k) (places_code (place_of packing) (place_of other) i j);
      }

  pub pair_table_lem : FeasibleTable m c
  pair_table_lem = by_places m (place_of packing) (place_of other) c pair_places

  pub pair_feasible : Feasible (from_pair other packing)
  unfolding CodeTells
  pair_feasible =
      record {
        full = codes_length m (pair_table other packing);
        table = pair_table_lem;
        fits =
            record {
              long = refl;
              modules = two.second.modules;
              once = two.second.once;
              forward = λ k l h i e.
                  let t = pair_places.code (get_or packing k 0) (get_or packing l 0) (two.second.modules k h) (two.second.modules l i) in
                  let p = place_at m packing two.second k h in
                  let q = place_at m packing two.second l i in
                  grind arith;
            };
      }

  -- the other sequence runs along what its table says
  pub other_runs : RunsAlong m (other_before c) other
  unfolding CodeTells
  other_runs =
      record {
        long = two.first.long;
        modules = two.first.modules;
        once = two.first.once;
        forward = λ k l h i e.
            let x = get_or other k 0 in
            let y = get_or other l 0 in
            let t = pair_places.code x y (two.first.modules k h) (two.first.modules l i) in
            let u = pair_places.code y x (two.first.modules l i) (two.first.modules k h) in
            let p = place_at m other two.first k h in
            let q = place_at m other two.first l i in
            elim (or_cases (eqb (c x y) 1) (eqb (c y x) 2) e) [
              | inl f ↦ let g = eqb-true (c x y) 1 f in grind arith
              | inr f ↦
                  let g = eqb-true (c y x) 2 f in
                  let ne : k ≢ l = λ same. let z = ap (λ n. place_of packing (get_or other n 0)) same in grind arith in
                  grind arith
            ];
      }
