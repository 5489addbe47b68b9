-- Packing along one axis is least: by the number of modules before each, with no sequence.
use Rattle.std.proofs.Common.{◌≡◌, ℕ, zero, suc, ◌<◌, true, false, Some, None, Option, unwrap_or, refl, ap, ◌∙◌, inl, inr, arith}
use Rattle.std.proofs.lemmas.Bool.{cases_Bool, both_ways, not-false, not-true}
use Rattle.plans.proofs.Latest.{latest_same, latest_covers, latest_least}
use Rattle.plans.proofs.Searches.{some_tells, count_le, count_less}
use Rattle.plans.specs.Axes.{Axis, Keeps, Inside, free_edge, near_within, near_edge, pushed, stuck}
use Rattle.plans.specs.AxisTheorems.{Orderly, NoneAlong, PackedAlong}
use Rattle.plans.specs.Kinds.{Kind, AtMost, SumLaws, JoinLaws}
use Rattle.plans.specs.Sequences.{count_before}

module _ {L : Type 0} (K : Kind L) (x : Axis L) (law : Orderly K x) where
  -- fewer stand before what stands before a module
  pub fewer_before :
      (j i : ℕ) → j < x.size → i < x.size → x.before j i ≡ true
      → count_before x.size x.before j < count_before x.size x.before i
  fewer_before j i h l b =
      count_less x.size (λ k. x.before k j) (λ k. x.before k i) j h (law.acyclic j h) b
      (λ k g c. law.closed k j i g h l c b)

  -- not all stand before a module
  pub some_not_before : (i : ℕ) → i < x.size → count_before x.size x.before i < x.size
  some_not_before i h =
      let a = count_less x.size (λ k. x.before k i) (λ k. true) i h (law.acyclic i h) refl (λ k g c. refl) in
      omega (arith, a, count_le x.size (λ k. true))

  -- rounds beyond the number of modules before change nothing
  rounds_settle :
      (n k i : ℕ) → i < x.size → count_before x.size x.before i < n
      → count_before x.size x.before i < k → near_within K x n i ≡ near_within K x k i
  rounds_settle zero k i h a b = absurd (omega arith)
  rounds_settle (suc n) zero i h a b = absurd (omega arith)
  rounds_settle (suc n) (suc k) i h a b =
      ap (λ v. unwrap_or (x.fixed i) v)
      (latest_same K (λ j. x.before j i) (λ j. x.before j i)
      (λ j. x.step j (near_within K x n j)) (λ j. x.step j (near_within K x k j)) x.size
      (λ j g. refl)
      (λ j g c.
      let less = fewer_before j i g h c in
      ap (λ v. x.step j v) (rounds_settle n k j g (omega arith) (omega arith))))

  -- each near edge is where it is fixed, or where all before it have ended
  pub near_settled : (i : ℕ) → i < x.size → near_edge K x i ≡ unwrap_or (x.fixed i) (free_edge K x (near_edge K x) i)
  near_settled i h =
      let a = some_not_before i h in
      rounds_settle x.size (suc x.size) i h a (omega arith)

module _ {L : Type 0} (K : Kind L) (sum : SumLaws K) (join : JoinLaws K) (x : Axis L) (law : Orderly K x) where
  -- where near edges are at most those of a placement that keeps the relations, all before i end by its i
  free_below :
      (near e : ℕ → L) → Keeps K x e → Inside K x e → ((j : ℕ) → j < x.size → AtMost K (near j) (e j))
      → (i : ℕ) → i < x.size → AtMost K (free_edge K x near i) (e i)
  free_below near e keeps inside below i h =
      latest_least K sum join (λ j. x.before j i) (λ j. x.step j (near j)) x.size (e i)
      (λ j g c.
      sum.transitive (x.step j (near j)) (x.step j (e j)) (e i)
      (law.monotone j (near j) (e j) g (inside j i g h c) (below j g)) (keeps.relations j i g h c))

  fixed_or_free :
      (e : ℕ → L) → Keeps K x e → (i : ℕ) → i < x.size → (free : L) → AtMost K free (e i)
      → (o : Option L) → x.fixed i ≡ o → AtMost K (unwrap_or o free) (e i)
  fixed_or_free e keeps i h free below (Some v) o = rw (keeps.pins i v h o) (sum.reflexive v)
  fixed_or_free e keeps i h free below None o = below

  -- after any number of rounds
  rounds_lowest :
      (e : ℕ → L) → Keeps K x e → Inside K x e → (n i : ℕ) → i < x.size → AtMost K (near_within K x n i) (e i)
  rounds_lowest e keeps inside zero i h = sum.starts (e i)
  rounds_lowest e keeps inside (suc n) i h =
      fixed_or_free e keeps i h (free_edge K x (near_within K x n) i)
      (free_below (near_within K x n) e keeps inside (λ j g. rounds_lowest e keeps inside n j g) i h) (x.fixed i) refl

  -- near edges are at most those of any placement that keeps the relations
  pub near_lowest :
      (e : ℕ → L) → Keeps K x e → Inside K x e → (i : ℕ) → i < x.size → AtMost K (near_edge K x i) (e i)
  near_lowest e keeps inside i h = rounds_lowest e keeps inside x.size i h

  -- whether a module is pushed past its fixed edge
  pushed_false :
      (i : ℕ) (v : L) → x.fixed i ≡ Some v → pushed K x i ≡ false → AtMost K (free_edge K x (near_edge K x) i) v
  pushed_false i v o p = not-false (K.at_most (free_edge K x (near_edge K x) i) v) (rw o at p)

  pushed_true :
      (i : ℕ) → (o : Option L) → x.fixed i ≡ o → pushed K x i ≡ true
      → (v : L) × (x.fixed i ≡ Some v) × (K.at_most (free_edge K x (near_edge K x) i) v ≡ false)
  pushed_true i (Some v) o p = (v, o, not-true (K.at_most (free_edge K x (near_edge K x) i) v) (rw o at p))
  pushed_true i None o p = absurd (both_ways (pushed K x i) (rw o refl) p)

  -- where no module is pushed, the near edges keep the relations
  near_ends :
      (i : ℕ) → i < x.size → pushed K x i ≡ false → (o : Option L) → x.fixed i ≡ o
      → AtMost K (free_edge K x (near_edge K x) i) (unwrap_or o (free_edge K x (near_edge K x) i))
  near_ends i h p (Some v) o = pushed_false i v o p
  near_ends i h p None o = sum.reflexive (free_edge K x (near_edge K x) i)

  near_keeps : ((i : ℕ) → i < x.size → pushed K x i ≡ false) → Keeps K x (near_edge K x)
  near_keeps free =
      record {
        relations = λ j i g h c.
            sum.transitive (x.step j (near_edge K x j)) (free_edge K x (near_edge K x) i) (near_edge K x i)
            (latest_covers K sum join (λ k. x.before k i) (λ k. x.step k (near_edge K x k)) x.size j g c)
            (rw (near_settled K x law i h) (near_ends i h (free i h) (x.fixed i) refl));
        pins = λ i v h o. near_settled K x law i h ∙ rw o refl;
      }

  -- where one is, nothing does
  none_fits : (i : ℕ) → i < x.size → pushed K x i ≡ true → NoneAlong K x
  none_fits i h p e keeps inside =
      let q = pushed_true i (x.fixed i) refl p in
      let below = free_below (near_edge K x) e keeps inside (near_lowest e keeps inside) i h in
      both_ways (K.at_most (free_edge K x (near_edge K x) i) q.0) q.2 (rw (keeps.pins i q.0 h q.1) at below)

  stuck_none : stuck K x ≡ true → NoneAlong K x
  stuck_none s =
      elim (some_tells x.size (pushed K x)) [
        | inl r ↦ none_fits r.1.0 r.1.1 r.1.2
        | inr r ↦ absurd (both_ways (stuck K x) r.0 s)
      ]

  free_keeps : stuck K x ≡ false → Keeps K x (near_edge K x)
  free_keeps s =
      elim (some_tells x.size (pushed K x)) [
        | inl r ↦ absurd (both_ways (stuck K x) s r.0)
        | inr r ↦ near_keeps r.1
      ]

  -- packing along an axis is least
  pub packed_along : PackedAlong K x
  packed_along =
      record {
        settled = near_settled K x law;
        lowest = near_lowest;
        least = λ s. record { keeps = free_keeps s; least = near_lowest };
        none = stuck_none;
        only = λ inside none.
            elim (cases_Bool (stuck K x)) [
              | inl s ↦ s
              | inr s ↦ absurd (none (near_edge K x) (free_keeps s) inside)
            ];
      }
