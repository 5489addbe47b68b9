-- The law of the sequence pair: a feasible floorplan is determined by the pair that it gives.
use Rattle.std.proofs.Common.{◌≡◌, ℕ, ◌<◌, ◌≤◌, true, cond, ◌||◌, eqb, ltb, ◌≢◌, ◌⊎◌, List, length, sym, ap, ◌∙◌, subst, ap₂, inl, inr, arith}
use Rattle.std.proofs.lemmas.Bool.{cases_eq, cases_lt, or_cases, or_left, or_right, eqb-true, eq-eqb}
use Rattle.std.proofs.lemmas.Bool.Decides.{nat_tests}
use Rattle.plans.proofs.NamedOnce.{places_tell, runs_names}
use Rattle.plans.proofs.Orders.{ordered_by_count}
use Rattle.plans.proofs.PairFeasible.{pair_code, pair_table_lem, pair_feasible, other_runs}
use Rattle.plans.proofs.Sequences.{runs_from_fits, sequence_determined}
use Rattle.plans.proofs.TableLists.{codes_length, read_back, same_codes}
use Rattle.plans.specs.Orders.{TotalOrder, RunsAlong}
use Rattle.plans.specs.PairLaw.{Pair, PairLaw}
use Rattle.plans.specs.SequencePairs.{pair_table, from_pair, other_before, other_sequence}
use Rattle.plans.specs.Sequences.{edge_to}
use Rattle.plans.specs.Tables.{Table, Floorplan, Feasible, FeasibleTable, table_in, codes_of}

-- what a feasible table says of the other sequence is a total order
module _ (m : ℕ) (c : Table) (law : FeasibleTable m c) where
  -- left of, or above: before
  Before : ℕ → ℕ → Type 0
  Before i j = (c i j ≡ 1) ⊎ (c j i ≡ 2)

  before_true : (i j : ℕ) → Before i j → other_before c i j ≡ true
  unfolding Before
  before_true i j (inl e) = or_left (eqb (c i j) 1) (eqb (c j i) 2) (eq-eqb (c i j) 1 e)
  before_true i j (inr e) = or_right (eqb (c i j) 1) (eqb (c j i) 2) (eq-eqb (c j i) 2 e)

  true_before : (i j : ℕ) → other_before c i j ≡ true → Before i j
  unfolding Before
  true_before i j e =
      elim (or_cases (eqb (c i j) 1) (eqb (c j i) 2) e) [
        | inl f ↦ inl (eqb-true (c i j) 1 f)
        | inr f ↦ inr (eqb-true (c j i) 2 f)
      ]

  before_one : (i j : ℕ) → i < m → j < m → i ≢ j → Before i j ⊎ Before j i
  unfolding Before
  before_one i j h k ne =
      let a = law.small i j in
      let b = law.small j i in
      elim (law.joined i j h k ne) [
        | inl e ↦ elim (cases_eq (c i j) 1) [ inl f ↦ inl (inl f) | inr f ↦ inr (inr (omega arith)) ]
        | inr e ↦ elim (cases_eq (c j i) 1) [ inl f ↦ inr (inl f) | inr f ↦ inl (inr (omega arith)) ]
      ]

  -- two that follow each other round a cycle of three are of one kind, and closure refutes them
  before_round : (i j k : ℕ) → Before i j → Before j k → Before k i → ⊥
  unfolding Before
  before_round i j k e f g =
      let a = law.closed 1 i j k (omega arith) in
      let b = law.closed 1 j k i (omega arith) in
      let d = law.closed 1 k i j (omega arith) in
      let x = law.closed 2 k j i (omega arith) in
      let y = law.closed 2 i k j (omega arith) in
      let z = law.closed 2 j i k (omega arith) in
      let p = law.oneway i k in
      let q = law.oneway j i in
      let r = law.oneway k j in
      grind arith

  before_on : (i j k : ℕ) → i < m → k < m → Before i j → Before j k → Before i k
  unfolding Before
  before_on i j k h l e f =
      let p = law.oneway i j in
      let q = law.oneway j i in
      let ne : i ≢ k = λ same. grind arith in
      elim (before_one i k h l ne) [ inl g ↦ g | inr g ↦ absurd (before_round i j k e f g) ]

  pub other_order : TotalOrder m (other_before c)
  other_order =
      record {
        strict = λ i h. let e = law.apart i in grind (arith, nat_tests);
        transitive = λ i j k h h' h'' e f. before_true i k (before_on i j k h h'' (true_before i j e) (true_before j k f));
        total = λ i j h k ne.
            elim (before_one i j h k ne) [ inl e ↦ inl (before_true i j e) | inr e ↦ inr (before_true j i e) ];
      }

-- the code by both orders
by_code : (x y : ℕ) → x ≤ 2 → (0 < x → y ≡ 0) → cond (ltb 0 x) (cond (eqb x 1 || eqb y 2) 1 2) 0 ≡ x
by_code x y h e =
    elim (cases_lt 0 x) [ inl more ↦ let z = e more in grind (arith, nat_tests) | inr less ↦ grind (arith, nat_tests) ]

-- the pair of a feasible floorplan
module _ (p : Floorplan) (f : Feasible p) where
  abbrev n : ℕ
  n = p.size

  abbrev d : Table
  d = table_in p

  abbrev along : RunsAlong n (other_before d) (other_sequence n d)
  along = (ordered_by_count n (other_before d) (other_order n d f.table)).runs

  feasible_pair : Pair n (other_sequence n d) p.sequence
  feasible_pair =
      record {
        few = f.table.few;
        first = runs_names n (other_before d) (other_sequence n d) along;
        second = record { long = f.fits.long; modules = f.fits.modules; once = f.fits.once };
      }

  -- the places in the two sequences tell the codes
  same_code : (i j : ℕ) → i < n → j < n → pair_table (other_sequence n d) p.sequence i j ≡ d i j
  same_code i j h k =
      let e =
      places_tell n (edge_to d) (sequence_determined n d f.table).order p.sequence
      (runs_from_fits n d p.sequence f.fits) i j h k
      in
      let g = places_tell n (other_before d) (other_order n d f.table) (other_sequence n d) along i j h k in
      let a = f.table.small i j in
      let b = f.table.oneway i j in
      ap₂ (λ x y. cond x (cond y 1 2) 0) e g ∙ by_code (d i j) (d j i) a b

  feasible_determined : from_pair (other_sequence n d) p.sequence ≡ p
  feasible_determined =
      let t = pair_table (other_sequence n d) p.sequence in
      let e : codes_of n t ≡ p.codes =
      same_codes n (codes_of n t) p.codes (codes_length n t) f.full
      (λ i j h k. read_back n t i j h k ∙ same_code i j h k) in
      λ i.
      record {
        size = f.fits.long i;
        codes = (ap (λ m. codes_of m t) f.fits.long ∙ e) i;
        sequence = p.sequence;
      }

-- a pair by the length of its packing sequence
by_length : (m : ℕ) (other packing : List ℕ) → Pair m other packing → Pair (length packing) other packing
by_length m other packing two = subst (λ k. Pair k other packing) (sym two.second.long) two

pub pair_law : PairLaw
pair_law =
    record {
      feasible = λ m other packing two. pair_feasible other packing (by_length m other packing two);
      codes = λ m other packing two i j h k.
          pair_code other packing (by_length m other packing two) i j (omega (arith, two.second.long)) (omega (arith, two.second.long));
      pair = feasible_pair;
      determined = feasible_determined;
      back = λ m other packing two.
          let l = by_length m other packing two in
          let s = length packing in
          let c = table_in (from_pair other packing) in
          ap (λ k. other_sequence k c) (sym two.second.long)
          ∙ sym ((ordered_by_count s (other_before c) (other_order s c (pair_table_lem other packing l))).only other (other_runs other packing l));
    }
