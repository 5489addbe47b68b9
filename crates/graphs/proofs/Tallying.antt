-- Counts by binary digits: one set more is counted, and a count is read.
use Rattle.std.proofs.Common.{◌≡◌, ℕ, zero, suc, ◌+◌, ◌^◌, ◌<◌, ◌≤◌, Bool, true, false, cond, not, ◌&&◌, ◌||◌, List, length, get_or, replicate, set, refl, sym, ap, ◌∙◌, subst, arith, add-one, length-set, get_or-set_other, get_or-set_same}
use lib.ListN.{get_or-replicate}
use Rattle.std.proofs.Math.Nat.{two-pow-succ}
use Rattle.std.proofs.lemmas.Nat.{pow_below}
use Rattle.module_set.specs.Members.{member, no_module}
use Rattle.module_set.specs.declared.set.ModuleSet.{ModuleSet}
use Rattle.plans.specs.Search.{count_below}
use Rattle.graphs.proofs.Rows.{edge_inside}
use Rattle.graphs.specs.Edges.{edge, row_of}
use Rattle.graphs.specs.Tallies.{of_digits, has_digit, times_counted, edges_into}
use Rattle.graphs.specs.declared.graph.Graph.{Graph}
use Rattle.graphs.specs.declared.tally.Tally.{Tally}

-- a power of two twice
pub twice_power : (n : ℕ) → 2 ^ (n + 1) ≡ 2 ^ n + 2 ^ n
twice_power n = ap (λ (k : ℕ). 2 ^ k) (add-one n) ∙ two-pow-succ n

-- the powers below seven digits
pub power_few : (n : ℕ) → n < 7 → 2 ^ n < 128
power_few n h = pow_below n 7 h

digits_same : (n : ℕ) (p q : ℕ → Bool) → ((k : ℕ) → k < n → p k ≡ q k) → of_digits n p ≡ of_digits n q
digits_same zero p q same = refl
digits_same (suc n) p q same =
    let ih = digits_same n p q (λ k h. same k (omega arith)) in
    let e = same n (omega arith) in
    cc

-- a number of n digits is below their power
pub digits_few : (n : ℕ) (p : ℕ → Bool) → of_digits n p < 2 ^ n
digits_few zero p = omega arith
digits_few (suc n) p = top (p n) (digits_few n p)
  where
    top : (b : Bool) → of_digits n p < 2 ^ n → of_digits n p + cond b (2 ^ n) 0 < 2 ^ suc n
    top true h = let e = two-pow-succ n in omega arith
    top false h = let e = two-pow-succ n in omega arith

digits_none : (n : ℕ) (p : ℕ → Bool) → ((k : ℕ) → k < n → p k ≡ false) → of_digits n p ≡ 0
digits_none zero p none = refl
digits_none (suc n) p none =
    let ih = digits_none n p (λ k h. none k (omega arith)) in
    let e = none n (omega arith) in
    rw (e, ih) refl

-- one digit more
pub digits_more : (n : ℕ) (p : ℕ → Bool) → of_digits (n + 1) p ≡ of_digits n p + cond (p n) (2 ^ n) 0
digits_more n p = ap (λ k. of_digits k p) (add-one n)

-- the digits below n have taken a set in, but for what is carried to the next
pub record Carrying (n : ℕ) (old digits : List ModuleSet) (added carry : ModuleSet) : Type 0 where
  pub long : length digits ≡ 7
  pub rest : (p : ℕ) → n ≤ p → get_or digits p no_module ≡ get_or old p no_module
  pub sums :
      (k : ℕ) → of_digits n (has_digit digits k) + cond (member carry k) (2 ^ n) 0
      ≡ of_digits n (has_digit old k) + cond (member added k) 1 0

pub carrying_none : (old : List ModuleSet) (added : ModuleSet) → length old ≡ 7 → Carrying 0 old old added added
carrying_none old added e = record { long = e; rest = λ p h. refl; sums = λ k. refl }

pub carrying_more :
    (n : ℕ) (old digits : List ModuleSet) (added carry both digit : ModuleSet) → Carrying n old digits added carry → n < 7
    → ((k : ℕ) → member both k ≡ (member (get_or digits n no_module) k && member carry k))
    → ((k : ℕ) → member digit k ≡ ((member (get_or digits n no_module) k || member carry k) && not (member both k)))
    → Carrying (n + 1) old (set digits n digit) added both
carrying_more n old digits added carry both digit before h shared one = record {
  long = length-set digits n digit ∙ before.long;
  rest = λ p l. get_or-set_other digits n p digit no_module (λ e. omega arith) ∙ before.rest p (omega arith);
  sums = λ k.
      let here : has_digit (set digits n digit) k n ≡ member digit k = ap (λ s. member s k) (get_or-set_same digits n digit no_module inside) in
      let was : has_digit old k n ≡ member (get_or digits n no_module) k = ap (λ s. member s k) (sym (before.rest n (omega arith))) in
      rw (
        digits_more n (has_digit (set digits n digit) k),
        digits_more n (has_digit old k),
        here,
        was,
        one k,
        shared k,
        below k,
      ) (settle (member (get_or digits n no_module) k) (member carry k) (2 ^ n) (2 ^ (n + 1)) _ _ _ (twice_power n) (before.sums k));
}
  where
    inside : n < length digits
    inside = omega (arith, before.long)

    below : (k : ℕ) → of_digits n (has_digit (set digits n digit) k) ≡ of_digits n (has_digit digits k)
    below k =
        digits_same n (has_digit (set digits n digit) k) (has_digit digits k)
        (λ p l. ap (λ s. member s k) (get_or-set_other digits n p digit no_module (λ e. omega arith)))

    settle :
        (a b : Bool) (w w' x y z : ℕ) → w' ≡ w + w → x + cond b w 0 ≡ y + z
        → x + cond ((a || b) && not (a && b)) w 0 + cond (a && b) w' 0 ≡ y + cond a w 0 + z
    settle true true w w' x y z e f = omega arith
    settle true false w w' x y z e f = omega arith
    settle false true w w' x y z e f = omega arith
    settle false false w w' x y z e f = omega arith

-- nothing is carried out of seven digits where no count is 127
pub carrying_all :
    (t u : Tally) (n : ℕ) (added carry : ModuleSet) → n ≡ 7 → Carrying n t.digits u.digits added carry
    → ((k : ℕ) → times_counted t k < 127) → (k : ℕ) → times_counted u k ≡ times_counted t k + cond (member added k) 1 0
unfolding times_counted
carrying_all t u n added carry e made few k =
    settle (member carry k) (member added k) _ _
    (subst (λ m. of_digits m (has_digit u.digits k) + cond (member carry k) (2 ^ m) 0 ≡ of_digits m (has_digit t.digits k) + cond (member added k) 1 0) e (made.sums k))
    (few k)
  where
    settle : (a b : Bool) (x y : ℕ) → x + cond a 128 0 ≡ y + cond b 1 0 → y < 127 → x ≡ y + cond b 1 0
    settle true true x y e h = absurd (omega arith)
    settle true false x y e h = absurd (omega arith)
    settle false b x y e h = omega arith

-- no module is counted where no digit has a member
pub none_counted :
    (t : Tally) (x : ModuleSet) → t.digits ≡ replicate 7 x → ((k : ℕ) → member x k ≡ false) → (k : ℕ) → times_counted t k ≡ 0
unfolding times_counted
none_counted t x all none k =
    digits_none 7 (has_digit t.digits k)
    (λ p h. ap (λ digits. has_digit digits k p) all ∙ ap (λ s. member s k) (get_or-replicate 7 p x no_module h) ∙ none k)

-- a count is read once all digits are
pub counted_all : (t : Tally) (n k x : ℕ) → n ≡ 7 → x ≡ of_digits n (has_digit t.digits k) → x ≡ times_counted t k
unfolding times_counted
counted_all t n k x e f = f ∙ ap (λ m. of_digits m (has_digit t.digits k)) e

-- the edges from the modules below n are counted
abbrev pub CountedBelow : Graph → Tally → ℕ → Type 0
CountedBelow g t n = (k : ℕ) → times_counted t k ≡ count_below n (λ i. edge g i k)

pub below_more :
    (g : Graph) (t u : Tally) (n : ℕ) (row : ModuleSet) → n < 64 → row ≡ row_of g n → CountedBelow g t n
    → ((k : ℕ) → times_counted u k ≡ times_counted t k + cond (member row k) 1 0) → CountedBelow g u (n + 1)
below_more g t u n row h is before adds k =
    adds k ∙ ap (λ x. x + cond (member row k) 1 0) (before k)
    ∙ ap (λ b. count_below n (λ i. edge g i k) + cond b 1 0) (ap (λ s. member s k) is ∙ sym (edge_inside g n k h))
    ∙ ap (λ m. count_below m (λ i. edge g i k)) (sym (add-one n))

pub below_all : (g : Graph) (t : Tally) (n : ℕ) → n ≡ 64 → CountedBelow g t n → (k : ℕ) → times_counted t k ≡ edges_into g k
unfolding edges_into
below_all g t n e below k = below k ∙ ap (λ m. count_below m (λ i. edge g i k)) e
