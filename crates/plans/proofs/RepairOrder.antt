-- The parts of a repaired sequence run along the edges of the reversed table.
use Rattle.std.proofs.Common.{◌≡◌, ℕ, zero, suc, ◌<◌, ◌≤◌, ◌≢◌, ◌⊎◌, List, ◌∷◌, ◌++◌, length, get_or, sym, refl, inl, inr, arith}
use Rattle.std.specs.List.{AllByRecursion as All}
use Rattle.std.proofs.ByRecursion.{All-append, All-weaker}
use Rattle.std.proofs.lemmas.Bool.{cases_eq, cases_order}
use Rattle.plans.proofs.Accepted.{Single}
use Rattle.plans.proofs.Pairwise.{Pairs, pairs_at, pairs_append, across_from, pairs_weaker}
use Rattle.plans.proofs.ReverseFeasible.{gained_edge}
use Rattle.plans.proofs.ReverseTables.{ReversedTells, reversed}
use Rattle.plans.proofs.Sequences.{edge_onwards}
use Rattle.plans.specs.Changes.{reverse_table}
use Rattle.plans.specs.ChangesInWords.{ReverseFrom, ReverseTo, ReverseGains}
use Rattle.plans.specs.Tables.{Table, FeasibleTable, Fits}

-- an edge, of either graph
abbrev pub Joins : Table → ℕ → ℕ → Type 0
Joins c x y = 0 < c x y

-- a list of two or more modules, each with an edge to all after it, fits
pub fits_from_pairs :
    (m : ℕ) (c : Table) → FeasibleTable m c → 2 ≤ m → (s : List ℕ) → length s ≡ m → Pairs (Joins c) s → Fits m c s
fits_from_pairs m c law two s long pairs =
    record { long = long; modules = modules; once = once; forward = forward }
  where
    joins : (k l : ℕ) → k < l → l < m → 0 < c (get_or s k 0) (get_or s l 0)
    joins k l h i = pairs_at (Joins c) s pairs k l h (omega (arith, long))

    modules : (k : ℕ) → k < m → get_or s k 0 < m
    modules zero h = (law.within (get_or s 0 0) (get_or s 1 0) (joins 0 1 (omega arith) two)).0
    modules (suc k) h = (law.within (get_or s 0 0) (get_or s (suc k) 0) (joins 0 (suc k) (omega arith) h)).1

    never_self : (k l : ℕ) → k < l → l < m → get_or s k 0 ≡ get_or s l 0 → ⊥
    never_self k l h i e =
        let j : 0 < c (get_or s l 0) (get_or s l 0) = rw e at (joins k l h i) in
        omega (arith, law.apart (get_or s l 0), j)

    once : (k l : ℕ) → k < m → l < m → get_or s k 0 ≡ get_or s l 0 → k ≡ l
    once k l h i e =
        elim (cases_order k l) [
          | inl same ↦ same
          | inr (inl less) ↦ absurd (never_self k l less i e)
          | inr (inr more) ↦ absurd (never_self l k more h (sym e))
        ]

    forward : (k l : ℕ) → k < m → l < m → 0 < c (get_or s k 0) (get_or s l 0) → k < l
    forward k l h i e =
        elim (cases_order k l) [
          | inl same ↦
              let j : 0 < c (get_or s l 0) (get_or s l 0) = rw same at e in
              absurd (omega (arith, law.apart (get_or s l 0), j))
          | inr (inl less) ↦ less
          | inr (inr more) ↦
              let j = law.oneway (get_or s l 0) (get_or s k 0) (joins l k more h) in
              absurd (omega (arith, e, j))
        ]

module _ (m : ℕ) (c : Table) (law : FeasibleTable m c) (a b : ℕ) (some : 0 < c a b) (single : Single c a b) where
  -- between a and b: not joined to a in the graph of (a, b), and joined
  abbrev Stays : ℕ → Type 0
  Stays x = ((0 < c a x) × (0 < c x b)) × (c a x ≢ c a b)

  abbrev Follows : ℕ → Type 0
  Follows x = ((0 < c a x) × (0 < c x b)) × (c a x ≡ c a b)

  -- an edge stays unless one is gained against it
  stays : (x y : ℕ) → 0 < c x y → (ReverseGains c a b y x → ⊥) → 0 < reverse_table c a b x y
  stays x y h n = go (reversed m c law a b some single x y)
    where
      go : ReversedTells c a b some x y → 0 < reverse_table c a b x y
      go (inl r) = rw r.1 some
      go (inr (inl r)) = absurd (n r.0)
      go (inr (inr r)) = rw r.2 h

  gained : (x y : ℕ) → ReverseFrom c a b x → ReverseTo c a b y → 0 < reverse_table c a b x y
  gained x y p q = rw (gained_edge m c law a b some single x y (p, q)).0 some

  different : (x y : ℕ) → 0 < c x y → x ≢ y
  different x y h e = omega (arith, law.apart y, rw e at h)

  before_a : (x : ℕ) → 0 < c x a → ReverseTo c a b x → ⊥
  before_a x h (inl e) = different x a h e
  before_a x h (inr e) = omega (arith, law.oneway x a h, e.1)

  after_b : (y : ℕ) → 0 < c b y → ReverseFrom c a b y → ⊥
  after_b y h (inl e) = different b y h (sym e)
  after_b y h (inr e) = omega (arith, law.oneway b y h, e.1)

  stay_not_to : (x : ℕ) → Stays x → ReverseTo c a b x → ⊥
  stay_not_to x h (inl e) = different a x h.0.0 (sym e)
  stay_not_to x h (inr e) = h.1 e.1

  -- else there would be an edge (a, b) of the other graph
  stay_from : (x : ℕ) → Stays x → ReverseFrom c a b x
  stay_from x h =
      let p = law.small a x in
      let q = law.small x b in
      let r = law.small a b in
      let n : x ≢ a = λ e. different a x h.0.0 (sym e) in
      elim (cases_eq (c x b) (c a b)) [
        | inl e ↦ inr (n, e)
        | inr e ↦
            let f : c a x ≡ c x b = omega (arith, h.0.0, h.0.1, h.1, e) in
            absurd (e (sym (law.closed (c x b) a x b h.0.1 f refl)))
      ]

  follow_to : (y : ℕ) → Follows y → ReverseTo c a b y
  follow_to y h = inr (different y b h.0.1, h.1)

  follow_not_from : (y : ℕ) → Follows y → ReverseFrom c a b y → ⊥
  follow_not_from y h (inl e) = different y b h.0.1 e
  follow_not_from y h (inr e) = single y h.1 e.1

  -- at a or after it, and at b or before it
  abbrev FromA : ℕ → Type 0
  FromA y = (y ≡ a) ⊎ (0 < c a y)

  abbrev UpToB : ℕ → Type 0
  UpToB x = (x ≡ b) ⊎ (0 < c x b)

  front_first : (x y : ℕ) → 0 < c x a → FromA y → 0 < reverse_table c a b x y
  front_first x y h (inl e) = rw e (stays x a h (λ g. before_a x h g.1))
  front_first x y h (inr e) = stays x y (edge_onwards m c law x a y h e) (λ g. before_a x h g.1)

  rest_last : (x y : ℕ) → UpToB x → 0 < c b y → 0 < reverse_table c a b x y
  rest_last x y (inl e) h = rw e (stays b y h (λ g. after_b y h g.0))
  rest_last x y (inr e) h = stays x y (edge_onwards m c law x b y e h) (λ g. after_b y h g.0)

  module _ (front stay follow rest : List ℕ)
      (fronts : All (λ x. 0 < c x a) front) (stay_all : All Stays stay) (follow-all : All Follows follow)
      (rests : All (λ y. 0 < c b y) rest) where
    abbrev After : ℕ → ℕ → Type 0
    After = Joins (reverse_table c a b)

    -- what x stands before in the last two parts
    onto_ends :
        (x : ℕ) → UpToB x → ((y : ℕ) → Follows y → After x y) → All (After x) (follow ++ rest)
    onto_ends x u h =
        All-append (After x) follow rest (All-weaker Follows (After x) h follow follow-all)
        (All-weaker (λ y. 0 < c b y) (After x) (λ y e. rest_last x y u e) rest rests)

    ends_pairs : Pairs (Joins c) follow → Pairs (Joins c) rest → Pairs After (follow ++ rest)
    ends_pairs p q =
        pairs_append After follow rest
        (pairs_weaker (Joins c) After Follows (λ x y h k e. stays x y e (λ g. follow_not_from y k g.0)) follow follow-all p)
        (pairs_weaker (Joins c) After (λ y. 0 < c b y) (λ x y h k e. stays x y e (λ g. after_b y k g.0)) rest rests q)
        (across_from After Follows (λ y. 0 < c b y) (λ x y h e. rest_last x y (inr h.0.1) e) follow rest follow-all rests)

    after_front : All FromA (stay ++ (b ∷ (a ∷ (follow ++ rest))))
    after_front =
        All-append FromA stay (b ∷ (a ∷ (follow ++ rest)))
        (All-weaker Stays FromA (λ x h. inr h.0.0) stay stay_all) (
          inr some,
          (
            inl refl,
            All-append FromA follow rest (All-weaker Follows FromA (λ x h. inr h.0.0) follow follow-all)
                (All-weaker (λ y. 0 < c b y) FromA (λ y h. inr (edge_onwards m c law a b y some h)) rest rests),
          ),
        )

    pub repaired_pairs :
        Pairs (Joins c) front → Pairs (Joins c) stay → Pairs (Joins c) follow → Pairs (Joins c) rest
        → Pairs After (front ++ (stay ++ (b ∷ (a ∷ (follow ++ rest)))))
    repaired_pairs p q r s =
        pairs_append After front (stay ++ (b ∷ (a ∷ (follow ++ rest))))
        (pairs_weaker (Joins c) After (λ x. 0 < c x a) (λ x y h k e. stays x y e (λ g. before_a x h g.1)) front fronts p)
        (pairs_append After stay (b ∷ (a ∷ (follow ++ rest)))
        (pairs_weaker (Joins c) After Stays (λ x y h k e. stays x y e (λ g. stay_not_to x h g.1)) stay stay_all q) (
          (gained b a (inl refl) (inl refl), onto_ends b (inl refl) (λ y h. gained b y (inl refl) (follow_to y h))),
          (onto_ends a (inr some) (λ y h. stays a y h.0.0 (λ g. follow_not_from y h g.0)), ends_pairs r s),
        )
        (All-weaker Stays (λ x. All (After x) (b ∷ (a ∷ (follow ++ rest))))
        (λ x h. (
          stays x b h.0.1 (λ g. stay_not_to x h g.1),
          (
            gained x a (stay_from x h) (inl refl),
            onto_ends x (inr h.0.1) (λ y k. gained x y (stay_from x h) (follow_to y k)),
          ),
        ))
        stay stay_all))
        (across_from After (λ x. 0 < c x a) FromA front_first front (stay ++ (b ∷ (a ∷ (follow ++ rest)))) fronts after_front)
