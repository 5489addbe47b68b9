-- The first refusal of a table, of a sequence and of a load is first.
use Rattle.std.proofs.Common.{◌≡◌, ℕ, ◌*◌, ◌<◌, ◌≤◌, Bool, true, cond, not, ◌&&◌, eqb, ltb, leb, ◌≢◌, ◌⊎◌, List, length, get_or, None, Option, sym, refl, ap, ◌∙◌, inl, inr, arith, lit≤}
use Rattle.std.specs.Option.{option_map}
use Rattle.std.proofs.lemmas.Bool.{eqb-true, eqb-false, ltb-true, lt-ltb, and_from, and_parts, or_cases, or_left, or_right, le-leb, leb-true, eq-eqb, ne_eqb, not-true, both_ways, cases_lt}
use Rattle.std.proofs.lemmas.Bool.Decides.{nat_tests}
use Rattle.plans.proofs.FirstRefusals.{Settles, settles_then, settles_all, settles_last, first_of_two, settles_test, settles_place, settles_pair}
use Rattle.plans.proofs.Searches.{SomeTells, some_tells, some_from}
use Rattle.plans.specs.FirstRefusals.{FirstRefusal}
use Rattle.plans.specs.LoadLaw.{TableApplies, SequenceApplies, LoadApplies}
use Rattle.plans.specs.Numbers.{number_of_load, told_by_load}
use Rattle.plans.specs.Search.{or_else, refusing, first_below, first_pair, some_below}
use Rattle.plans.specs.Tables.{Table, table_of}
use Rattle.plans.specs.Tests.{misshapen, code_wrong, self_related, not_one_edge, not_closed, place_wrong, backwards, telling_pair, table_refusal, sequence_refusal, load_refusal}
use Rattle.plans.specs.declared.refusals.LoadRefusal.{LoadRefusal}
use Rattle.plans.specs.declared.refusals.LoadRefusal.TheVariants.{WrongShape, WrongCode, SelfRelated, NotOneEdge, NotClosed, WrongPlace, Backwards}

-- a refusal by its number and what it tells
abbrev load_of : ℕ → ℕ → ℕ → LoadRefusal
load_of n i j =
    cond (eqb n 10) WrongShape (cond (eqb n 11) (WrongCode i j) (cond (eqb n 12) (SelfRelated i j) (cond (eqb n 13) (NotOneEdge i j) (cond (eqb n 14) (NotClosed i j) (cond (eqb n 15) (WrongPlace i) (Backwards i j))))))

load_of_lem : (f : LoadRefusal) → f ≡ load_of (number_of_load f) (get_or (told_by_load f) 0 0) (get_or (told_by_load f) 1 0)
load_of_lem WrongShape = refl
load_of_lem (WrongCode i j) = refl
load_of_lem (SelfRelated i j) = refl
load_of_lem (NotOneEdge i j) = refl
load_of_lem (NotClosed i j) = refl
load_of_lem (WrongPlace k) = refl
load_of_lem (Backwards i j) = refl

-- the refusal with a number
only :
    (n : ℕ) (f : LoadRefusal) → number_of_load f ≡ n → f ≡ load_of n (get_or (told_by_load f) 0 0) (get_or (told_by_load f) 1 0)
only n f e = load_of_lem f ∙ ap (λ k. load_of k (get_or (told_by_load f) 0 0) (get_or (told_by_load f) 1 0)) e

numbers : (f : LoadRefusal) → (10 ≤ number_of_load f) × (number_of_load f < 17)
numbers WrongShape = (omega arith, omega arith)
numbers (WrongCode i j) = (omega arith, omega arith)
numbers (SelfRelated i j) = (omega arith, omega arith)
numbers (NotOneEdge i j) = (omega arith, omega arith)
numbers (NotClosed i j) = (omega arith, omega arith)
numbers (WrongPlace k) = (omega arith, omega arith)
numbers (Backwards i j) = (omega arith, omega arith)

module _ (limit greatest m : ℕ) (codes : List ℕ) where
  abbrev c : Table
  c = table_of m codes

  abbrev Part : ℕ → ℕ → Option LoadRefusal → Type 0
  Part = Settles number_of_load told_by_load (TableApplies limit greatest m codes)

  shape : Part 10 11 (refusing (misshapen limit m codes) WrongShape)
  shape =
      settles_test number_of_load told_by_load (TableApplies limit greatest m codes) 10 WrongShape (misshapen limit m codes) refl refl (only 10)
      does must
    where
      does : misshapen limit m codes ≡ true → (limit < m) ⊎ (length codes ≢ m * m)
      does e = elim (or_cases _ _ e) [ inl a ↦ inl (ltb-true _ _ a) | inr b ↦ inr (λ f. let w = eq-eqb _ _ f in absurd (grind arith)) ]

      must : (limit < m) ⊎ (length codes ≢ m * m) → misshapen limit m codes ≡ true
      must (inl a) = or_left _ _ (lt-ltb _ _ a)
      must (inr b) = or_right (ltb limit m) (not (eqb (length codes) (m * m))) (ap not (ne_eqb _ _ b))

  code : Part 11 12 (telling_pair WrongCode (first_pair m (code_wrong greatest c)))
  code =
      settles_pair number_of_load told_by_load (TableApplies limit greatest m codes) 11 WrongCode m (code_wrong greatest c) (λ i j. refl)
      (λ i j. refl) (only 11) (λ i j h k e. (h, k, ltb-true _ _ e)) (λ i j a. (a.0, a.1, lt-ltb _ _ a.2))

  self : Part 12 13 (telling_pair SelfRelated (first_pair m (self_related c)))
  self =
      settles_pair number_of_load told_by_load (TableApplies limit greatest m codes) 12 SelfRelated m (self_related c) (λ i j. refl)
      (λ i j. refl) (only 12)
      (λ i j h k e. let p = and_parts _ _ e in (h, k, (eqb-true _ _ p.0, ltb-true _ _ p.1)))
      (λ i j a. (a.0, a.1, and_from _ _ (eq-eqb _ _ a.2.0) (lt-ltb _ _ a.2.1)))

  edges : Part 13 14 (telling_pair NotOneEdge (first_pair m (not_one_edge c)))
  edges =
      settles_pair number_of_load told_by_load (TableApplies limit greatest m codes) 13 NotOneEdge m (not_one_edge c) (λ i j. refl)
      (λ i j. refl) (only 13) (λ i j h k e. (h, k, does (c i j) (c j i) i j e)) (λ i j a. (a.0, a.1, must (c i j) (c j i) i j a.2))
    where
      does :
          (x y i j : ℕ) → (ltb i j && cond (ltb 0 x) (ltb 0 y) (not (ltb 0 y))) ≡ true
          → (i < j) × (((0 < x) × (0 < y)) ⊎ ((x ≡ 0) × (y ≡ 0)))
      does x y i j e = (
        grind (arith, nat_tests),
        elim (cases_lt 0 x) [
          | inl a ↦ inl (a, grind (arith, nat_tests))
          | inr a ↦ inr (omega (arith, a), grind (arith, nat_tests))
        ],
      )

      must :
          (x y i j : ℕ) → (i < j) × (((0 < x) × (0 < y)) ⊎ ((x ≡ 0) × (y ≡ 0)))
          → (ltb i j && cond (ltb 0 x) (ltb 0 y) (not (ltb 0 y))) ≡ true
      must x y i j a = grind (arith, nat_tests)

  closed : Part 14 15 (telling_pair NotClosed (first_pair m (not_closed m c)))
  closed =
      settles_pair number_of_load told_by_load (TableApplies limit greatest m codes) 14 NotClosed m (not_closed m c)
      (λ i j. refl) (λ i j. refl) (only 14) (λ i k h l e. (h, l, does i k (some_tells m (test i k)) e)) (λ i k a. (a.0, a.1, must i k a.2))
    where
      test : ℕ → ℕ → ℕ → Bool
      test i k j = ltb 0 (c i j) && eqb (c i j) (c j k) && not (eqb (c i k) (c i j))

      does :
          (i k : ℕ) → SomeTells m (test i k) → some_below m (test i k) ≡ true
          → (j : ℕ) × (j < m) × (0 < c i j) × (c j k ≡ c i j) × (c i k ≢ c i j)
      does i k (inl t) e =
          let p = and_parts _ _ t.1.2 in
          let q = and_parts _ _ p.0 in
          (t.1.0, t.1.1, ltb-true _ _ q.0, sym (eqb-true _ _ q.1), eqb-false _ _ (not-true _ p.1))
      does i k (inr t) e = absurd (grind arith)

      must :
          (i k : ℕ) → (j : ℕ) × (j < m) × (0 < c i j) × (c j k ≡ c i j) × (c i k ≢ c i j)
          → some_below m (test i k) ≡ true
      must i k a =
          some_from m (test i k) a.0 a.1
          (and_from _ _ (and_from _ _ (lt-ltb _ _ a.2) (eq-eqb _ _ (sym a.3))) (ap not (ne_eqb _ _ a.4)))

  -- one range of numbers after another
  joined : (lo mid hi : ℕ) (p q : Option LoadRefusal) → lo ≤ mid → mid ≤ hi → Part lo mid p → Part mid hi q → Part lo hi (or_else p q)
  joined = settles_then number_of_load told_by_load (TableApplies limit greatest m codes)

  -- the refusals of a table come before those of a sequence
  pub table_before : (e : LoadRefusal) → TableApplies limit greatest m codes e → number_of_load e < 15
  table_before WrongShape a = omega arith
  table_before (WrongCode i j) a = omega arith
  table_before (SelfRelated i j) a = omega arith
  table_before (NotOneEdge i j) a = omega arith
  table_before (NotClosed i j) a = omega arith
  table_before (WrongPlace k) a = absurd a
  table_before (Backwards i j) a = absurd a

  -- the first refusal of a table is first
  pub table_first : FirstRefusal number_of_load told_by_load (TableApplies limit greatest m codes) (table_refusal limit greatest m codes)
  table_first =
      settles_all number_of_load told_by_load (TableApplies limit greatest m codes) 10 17 (table_refusal limit greatest m codes) numbers
      (settles_last number_of_load told_by_load (TableApplies limit greatest m codes) 10 15 17 (table_refusal limit greatest m codes)
      (lit≤ tt) (lit≤ tt)
      (joined 10 14 15 _ _ (lit≤ tt) (lit≤ tt)
      (joined 10 11 14 _ _ (lit≤ tt) (lit≤ tt) shape
      (joined 11 12 14 _ _ (lit≤ tt) (lit≤ tt) code (joined 12 13 14 _ _ (lit≤ tt) (lit≤ tt) self edges)))
      closed)
      (λ e high a. let low = table_before e a in omega arith))

module _ (c : Table) (s : List ℕ) where
  -- the refusals of a sequence come after those of a table
  pub sequence_after : (e : LoadRefusal) → SequenceApplies c s e → 15 ≤ number_of_load e
  sequence_after WrongShape a = absurd a
  sequence_after (WrongCode i j) a = absurd a
  sequence_after (SelfRelated i j) a = absurd a
  sequence_after (NotOneEdge i j) a = absurd a
  sequence_after (NotClosed i j) a = absurd a
  sequence_after (WrongPlace k) a = omega arith
  sequence_after (Backwards i j) a = omega arith

  abbrev SequencePart : ℕ → ℕ → Option LoadRefusal → Type 0
  SequencePart = Settles number_of_load told_by_load (SequenceApplies c s)

  place : SequencePart 15 16 (option_map WrongPlace (first_below (length s) (place_wrong s)))
  place =
      settles_place number_of_load told_by_load (SequenceApplies c s) 15 WrongPlace (length s) (place_wrong s) (λ k. refl) (λ k. refl)
      (only 15) (λ k h e. (h, does k (some_tells k (test k)) e)) (λ k a. (a.0, must k a.1))
    where
      test : ℕ → ℕ → Bool
      test k l = eqb (get_or s l 0) (get_or s k 0)

      does :
          (k : ℕ) → SomeTells k (test k) → place_wrong s k ≡ true
          → (length s ≤ get_or s k 0) ⊎ ((l : ℕ) × (l < k) × (get_or s l 0 ≡ get_or s k 0))
      does k (inl t) e = inr (t.1.0, t.1.1, eqb-true _ _ t.1.2)
      does k (inr t) e =
          elim (or_cases _ _ e) [ inl a ↦ inl (leb-true _ _ a) | inr b ↦ absurd (both_ways (some_below k (test k)) t.0 b) ]

      must :
          (k : ℕ) → (length s ≤ get_or s k 0) ⊎ ((l : ℕ) × (l < k) × (get_or s l 0 ≡ get_or s k 0)) → place_wrong s k ≡ true
      must k (inl a) = or_left _ _ (le-leb _ _ a)
      must k (inr b) =
          or_right (leb (length s) (get_or s k 0)) _ (some_from k (test k) b.0 b.1 (eq-eqb _ _ b.2))

  back : SequencePart 16 17 (telling_pair Backwards (first_pair (length s) (backwards c s)))
  back =
      settles_pair number_of_load told_by_load (SequenceApplies c s) 16 Backwards (length s) (backwards c s) (λ i j. refl)
      (λ i j. refl) (only 16)
      (λ i j h k e. let p = and_parts _ _ e in (h, k, (ltb-true _ _ p.0, ltb-true _ _ p.1)))
      (λ i j a. (a.0, a.1, and_from _ _ (lt-ltb _ _ a.2.0) (lt-ltb _ _ a.2.1)))

  -- the first refusal of a sequence is first
  pub sequence_first : FirstRefusal number_of_load told_by_load (SequenceApplies c s) (sequence_refusal c s)
  sequence_first =
      settles_all number_of_load told_by_load (SequenceApplies c s) 10 17 (sequence_refusal c s) numbers
      (then 10 15 17 None _ (lit≤ tt) (lit≤ tt) (λ e low less a. let high = sequence_after e a in omega arith)
      (then 15 16 17 _ _ (lit≤ tt) (lit≤ tt) place back))
    where
      then : (lo mid hi : ℕ) (p q : Option LoadRefusal) → lo ≤ mid → mid ≤ hi → SequencePart lo mid p → SequencePart mid hi q → SequencePart lo hi (or_else p q)
      then = settles_then number_of_load told_by_load (SequenceApplies c s)

-- the first refusal of a load is first: those of the table come before those of the sequence
pub load_first :
    (codes s : List ℕ) → FirstRefusal number_of_load told_by_load (LoadApplies codes s) (load_refusal codes s)
load_first codes s =
    let m = length s in
    let c = table_of m codes in
    first_of_two number_of_load told_by_load (TableApplies 64 2 m codes) (SequenceApplies c s)
    (λ e f a b. let low = table_before 64 2 m codes e a in let high = sequence_after c s f b in omega arith)
    (table_refusal 64 2 m codes) (sequence_refusal c s)
    (table_first 64 2 m codes) (sequence_first c s)
