-- Lists in which each entry stands in a relation to all after it, and what a filter keeps of them.
use Rattle.std.proofs.Common.{◌≡◌, ℕ, zero, suc, ◌+◌, ◌<◌, Bool, true, false, cond, not, List, [], ◌∷◌, ◌++◌, length, get_or, refl, arith}
use Rattle.std.specs.List.{AllByRecursion as All}
use Rattle.std.proofs.ByRecursion.{All-append, All-get_or, All-from_get_or, All-weaker}
use Rattle.plans.specs.Sequences.{kept_by}

-- each entry stands in the relation to all after it
abbrev pub Pairs : (ℕ → ℕ → Type 0) → List ℕ → Type 0
Pairs R [] = Unit {0}
Pairs R (x ∷ xs) = All (R x) xs × Pairs R xs

-- each entry of the first list stands in the relation to each of the second
abbrev pub Across : (ℕ → ℕ → Type 0) → List ℕ → List ℕ → Type 0
Across R xs ys = All (λ x. All (R x) ys) xs

pub all_parts : (P : ℕ → Type 0) (xs ys : List ℕ) → All P (xs ++ ys) → All P xs × All P ys
all_parts P [] ys h = (tt, h)
all_parts P (x ∷ xs) ys h = let r = all_parts P xs ys h.1 in ((h.0, r.0), r.1)

module _ (R : ℕ → ℕ → Type 0) where
  pub pairs_from :
      (xs : List ℕ) → ((k l : ℕ) → k < l → l < length xs → R (get_or xs k 0) (get_or xs l 0)) → Pairs R xs
  pairs_from [] h = tt
  pairs_from (x ∷ xs) h = (
    All-from_get_or (R x) xs 0 (λ i l. h 0 (suc i) (omega arith) (omega arith)),
    pairs_from xs (λ k l p q. h (suc k) (suc l) (omega arith) (omega arith)),
  )

  pub pairs_at :
      (xs : List ℕ) → Pairs R xs → (k l : ℕ) → k < l → l < length xs → R (get_or xs k 0) (get_or xs l 0)
  pairs_at [] h k l p q = absurd (omega arith)
  pairs_at (x ∷ xs) h k zero p q = absurd (omega arith)
  pairs_at (x ∷ xs) h zero (suc l) p q = All-get_or (R x) xs l 0 (omega arith) h.0
  pairs_at (x ∷ xs) h (suc k) (suc l) p q = pairs_at xs h.1 k l (omega arith) (omega arith)

  pub pairs_append : (xs ys : List ℕ) → Pairs R xs → Pairs R ys → Across R xs ys → Pairs R (xs ++ ys)
  pairs_append [] ys p q h = q
  pairs_append (x ∷ xs) ys p q h =
      (All-append (R x) xs ys p.0 h.0, pairs_append xs ys p.1 q h.1)

  pub pairs_parts : (xs ys : List ℕ) → Pairs R (xs ++ ys) → Pairs R xs × Pairs R ys × Across R xs ys
  pairs_parts [] ys h = (tt, h, tt)
  pairs_parts (x ∷ xs) ys h =
      let (p, q, r) = pairs_parts xs ys h.1 in
      let (s, t) = all_parts (R x) xs ys h.0 in
      ((s, p), q, (t, r))

-- from what holds of each entry
pub across_from :
    (R : ℕ → ℕ → Type 0) (P Q : ℕ → Type 0) → ((x y : ℕ) → P x → Q y → R x y) → (xs ys : List ℕ) → All P xs → All Q ys
    → Across R xs ys
across_from R P Q h xs ys p q = All-weaker P (λ x. All (R x) ys) (λ x a. All-weaker Q (R x) (λ y b. h x y a b) ys q) xs p

-- another relation, from the first and what holds of each entry
pub pairs_weaker :
    (R S : ℕ → ℕ → Type 0) (P : ℕ → Type 0) → ((x y : ℕ) → P x → P y → R x y → S x y) → (xs : List ℕ) → All P xs
    → Pairs R xs → Pairs S xs
pairs_weaker R S P h [] p r = tt
pairs_weaker R S P h (x ∷ xs) p r = (both xs p.1 r.0, pairs_weaker R S P h xs p.1 r.1)
  where
    both : (ys : List ℕ) → All P ys → All (R x) ys → All (S x) ys
    both [] q s = tt
    both (y ∷ ys) q s = (h x y p.0 q.0 s.0, both ys q.1 s.1)

-- two facts of each entry
pub all_both : (P Q : ℕ → Type 0) (xs : List ℕ) → All P xs → All Q xs → All (λ x. P x × Q x) xs
all_both P Q [] p q = tt
all_both P Q (x ∷ xs) p q = ((p.0, q.0), all_both P Q xs p.1 q.1)

-- what a filter keeps has what all had, and passes
pub kept_all :
    (passes : ℕ → Bool) (P : ℕ → Type 0) (xs : List ℕ) → All P xs → All (λ x. P x × (passes x ≡ true)) (kept_by passes xs)
kept_all passes P [] p = tt
kept_all passes P (x ∷ xs) p = go (kept_all passes P xs p.1) (passes x) refl
  where
    go :
        All (λ y. P y × (passes y ≡ true)) (kept_by passes xs) → (t : Bool) → passes x ≡ t
        → All (λ y. P y × (passes y ≡ true)) (cond t (x ∷ kept_by passes xs) (kept_by passes xs))
    go rest true e = ((p.0, e), rest)
    go rest false e = rest

pub kept_pairs : (passes : ℕ → Bool) (R : ℕ → ℕ → Type 0) (xs : List ℕ) → Pairs R xs → Pairs R (kept_by passes xs)
kept_pairs passes R [] r = tt
kept_pairs passes R (x ∷ xs) r = go (kept_pairs passes R xs r.1) (passes x)
  where
    first : All (R x) (kept_by passes xs)
    first = All-weaker (λ y. R x y × (passes y ≡ true)) (R x) (λ y h. h.0) (kept_by passes xs) (kept_all passes (R x) xs r.0)

    go : Pairs R (kept_by passes xs) → (t : Bool) → Pairs R (cond t (x ∷ kept_by passes xs) (kept_by passes xs))
    go rest true = (first, rest)
    go rest false = rest

-- what passes and what does not are all
pub kept_length :
    (passes : ℕ → Bool) (xs : List ℕ)
    → length (kept_by passes xs) + length (kept_by (λ x. not (passes x)) xs) ≡ length xs
kept_length passes [] = omega arith
kept_length passes (x ∷ xs) = go (kept_length passes xs) (passes x)
  where
    go :
        length (kept_by passes xs) + length (kept_by (λ y. not (passes y)) xs) ≡ length xs → (t : Bool)
        → length (cond t (x ∷ kept_by passes xs) (kept_by passes xs))
        + length (cond (not t) (x ∷ kept_by (λ y. not (passes y)) xs) (kept_by (λ y. not (passes y)) xs))
        ≡ suc (length xs)
    go rest true = omega arith
    go rest false = omega arith
