-- The published repair of the sequence after a reverse gives the one that fits.
use Rattle.std.proofs.Common.{◌≡◌, ℕ, suc, ◌<◌, true, not, eqb, ◌≢◌, List, ◌∷◌, ◌++◌, length, get_or, take, drop, sym, ap, ◌∙◌, subst, ap₂, append_assoc, add-one, arith}
use Rattle.std.specs.List.{AllByRecursion as All}
use Rattle.std.proofs.ByRecursion.{All-weaker}
use Rattle.std.proofs.lemmas.List.{length-append, take-append-drop, take-take, drop_more, get_or-take, length-take-le}
use Rattle.std.proofs.lemmas.Bool.{eqb-true, eqb-false, not-true}
use Rattle.plans.proofs.Accepted.{Single, edge_accepted, free_single}
use Rattle.plans.proofs.Pairwise.{Pairs, all_parts, all_both, pairs_from, pairs_parts, kept_all, kept_pairs, kept_length}
use Rattle.plans.proofs.Places.{place_of_module}
use Rattle.plans.proofs.RepairOrder.{Joins, fits_from_pairs, repaired_pairs}
use Rattle.plans.proofs.ReverseFeasible.{reverse_feasible}
use Rattle.plans.proofs.Sequences.{fits_different, fits_earlier, sequence_determined}
use Rattle.plans.specs.Changes.{reverse_table}
use Rattle.plans.specs.Repair.{RepairFits}
use Rattle.plans.specs.Search.{place_of}
use Rattle.plans.specs.Sequences.{kept_by, between_in, repaired}
use Rattle.plans.specs.Tables.{Table, FeasibleTable, Fits, table_in}

-- a list before, at and after one place
split_at :
    (xs : List ℕ) (k : ℕ) → k < length xs → take k xs ++ (get_or xs k 0 ∷ drop (suc k) xs) ≡ xs
split_at xs k h = rw (sym (rw add-one at (drop_more xs k 0 h))) (take-append-drop k xs)

-- and before, at, between and after two places
split_two :
    (xs : List ℕ) (i j : ℕ) → i < j → j < length xs
    → take i xs ++ (get_or xs i 0 ∷ (drop (suc i) (take j xs) ++ (get_or xs j 0 ∷ drop (suc j) xs))) ≡ xs
split_two xs i j h l =
    let short : i < length (take j xs) = omega (arith, length-take-le j xs (omega arith)) in
    let front : take i xs ++ (get_or xs i 0 ∷ drop (suc i) (take j xs)) ≡ take j xs =
    ap₂ (λ ys y. ys ++ (y ∷ drop (suc i) (take j xs))) (sym (take-take i j xs (omega arith))) (sym (get_or-take j xs i 0 h))
    ∙ split_at (take j xs) i short
    in
    sym (append_assoc (take i xs) (get_or xs i 0 ∷ drop (suc i) (take j xs)) (get_or xs j 0 ∷ drop (suc j) xs))
    ∙ ap (λ ys. ys ++ (get_or xs j 0 ∷ drop (suc j) xs)) front ∙ split_at xs j l

module _ (m : ℕ) (c : Table) (law : FeasibleTable m c) (s : List ℕ) (f : Fits m c s) (a b : ℕ) (some : 0 < c a b)
    (single : Single c a b) where
  front : List ℕ
  front = take (place_of s a) s

  rest : List ℕ
  rest = drop (suc (place_of s b)) s

  stay : List ℕ
  stay = kept_by (λ k. not (eqb (c a k) (c a b))) (between_in s a b)

  follow : List ℕ
  follow = kept_by (λ k. eqb (c a k) (c a b)) (between_in s a b)

  -- the sequence around a and b
  around : front ++ (a ∷ (between_in s a b ++ (b ∷ rest))) ≡ s
  unfolding front rest
  around =
      let inside = law.within a b some in
      let different = fits_different m c s f in
      let at_a = place_of_module m s f.long different a inside.0 in
      let at_b = place_of_module m s f.long different b inside.1 in
      let e : 0 < c (get_or s (place_of s a) 0) (get_or s (place_of s b) 0) = rw (at_a.1, at_b.1) some in
      let less = f.forward (place_of s a) (place_of s b) at_a.0 at_b.0 e in
      let two = split_two s (place_of s a) (place_of s b) less (omega (arith, at_b.0, f.long)) in
      subst (λ x. take (place_of s a) s ++ (x ∷ (between_in s a b ++ (b ∷ drop (suc (place_of s b)) s))) ≡ s) at_a.1
      (subst (λ y. take (place_of s a) s ++ (get_or s (place_of s a) 0 ∷ (between_in s a b ++ (y ∷ drop (suc (place_of s b)) s))) ≡ s) at_b.1 two)

  in_order : Pairs (Joins c) (front ++ (a ∷ (between_in s a b ++ (b ∷ rest))))
  in_order =
      subst (Pairs (Joins c)) (sym around)
      (pairs_from (Joins c) s (λ k l h i. fits_earlier m c law s f k l h (omega (arith, f.long))))

  repaired_length : length (repaired c (c a b) a b s) ≡ m
  unfolding front rest stay follow
  repaired_length =
      let old : length (front ++ (a ∷ (between_in s a b ++ (b ∷ rest)))) ≡ m = ap length around ∙ f.long in
      let parts = kept_length (λ k. eqb (c a k) (c a b)) (between_in s a b) in
      let old' = simp length-append at old in
      simp length-append (omega arith)

  repaired_fits : Fits m (reverse_table c a b) (repaired c (c a b) a b s)
  unfolding front rest stay follow
  repaired_fits =
      let inside = law.within a b some in
      let (front-order, from-a, before) = pairs_parts (Joins c) front (a ∷ (between_in s a b ++ (b ∷ rest))) in_order in
      let (between-order, from-b, between-before) = pairs_parts (Joins c) (between_in s a b) (b ∷ rest) from-a.1 in
      let after-a = all_parts (Joins c a) (between_in s a b) (b ∷ rest) from-a.0 in
      let between : All (λ x. (0 < c a x) × (0 < c x b)) (between_in s a b) =
      all_both (Joins c a) (λ x. Joins c x b) (between_in s a b) after-a.0
      (All-weaker (λ x. All (Joins c x) (b ∷ rest)) (λ x. Joins c x b) (λ x h. h.0) (between_in s a b) between-before)
      in
      let n : a ≢ b = λ e. let z : 0 < c b b = rw e at some in omega (arith, law.apart b) in
      fits_from_pairs m (reverse_table c a b) (reverse_feasible m c law a b some single) (omega (arith, n, inside))
      (repaired c (c a b) a b s) repaired_length
      (repaired_pairs m c law a b some single front stay follow rest
      (All-weaker (λ x. All (Joins c x) (a ∷ (between_in s a b ++ (b ∷ rest)))) (λ x. Joins c x a) (λ x h. h.0) front before)
      (All-weaker (λ x. ((0 < c a x) × (0 < c x b)) × (not (eqb (c a x) (c a b)) ≡ true))
      (λ x. ((0 < c a x) × (0 < c x b)) × (c a x ≢ c a b))
      (λ x h. (h.0, eqb-false (c a x) (c a b) (not-true (eqb (c a x) (c a b)) h.1))) stay
      (kept_all (λ k. not (eqb (c a k) (c a b))) (λ x. (0 < c a x) × (0 < c x b)) (between_in s a b) between))
      (All-weaker (λ x. ((0 < c a x) × (0 < c x b)) × (eqb (c a x) (c a b) ≡ true))
      (λ x. ((0 < c a x) × (0 < c x b)) × (c a x ≡ c a b))
      (λ x h. (h.0, eqb-true (c a x) (c a b) h.1)) follow
      (kept_all (λ k. eqb (c a k) (c a b)) (λ x. (0 < c a x) × (0 < c x b)) (between_in s a b) between))
      from-b.0 front-order
      (kept_pairs (λ k. not (eqb (c a k) (c a b))) (Joins c) (between_in s a b) between-order)
      (kept_pairs (λ k. eqb (c a k) (c a b)) (Joins c) (between_in s a b) between-order) from-b.1)

pub repair_fits : RepairFits
repair_fits p a b law e =
    let c = table_in p in
    let r = edge_accepted p.size c a b e in
    let single = free_single p.size c law.table a b r in
    let new = reverse_feasible p.size c law.table a b r.some single in
    (sequence_determined p.size (reverse_table c a b) new).only (repaired c (c a b) a b p.sequence)
    (repaired_fits p.size c law.table p.sequence law.fits a b r.some single)
