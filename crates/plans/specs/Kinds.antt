-- Kinds of length: what sides and edges are measured in, by their operations and laws.
use Rattle.std.specs.Prelude.{◌≡◌, ℕ, ◌+◌, ◌≤◌, max, Bool, true, false, cond, ◌&&◌, ◌||◌, ◌⊎◌, Ok, Err, Result, ◌==◌, nat_le, nat_lt}
use Rattle.plans.specs.declared.pack_refusals.LengthRefusal.{LengthRefusal}
use Rattle.plans.specs.declared.pack_refusals.LengthRefusal.TheVariants.{WrongCount}

-- a kind of length by its operations: a zero, the sum, the later of two, "at most", and the extent
pub record Kind (L : Type 0) : Type 0 where
  pub origin : L
  pub plus : L → L → L
  pub later : L → L → L
  pub at_most : L → L → Bool
  pub reach : L → ℕ

-- the greatest extent of a side
abbrev pub side_limit : ℕ
side_limit = 100000

-- of a coordinate of a pin
abbrev pub pin_limit : ℕ
pin_limit = 3600000

-- and of two lengths that are added
abbrev pub sum_limit : ℕ
sum_limit = 10000000

-- a length that a side may have
abbrev pub possible_side : {L : Type 0} → Kind L → L → Bool
possible_side K s = nat_le 1 (K.reach s) && nat_le (K.reach s) side_limit

module _ {L : Type 0} (K : Kind L) where
  -- a is at most b
  abbrev pub AtMost : L → L → Type 0
  AtMost a b = K.at_most a b ≡ true

  -- the laws of the order and of sums, for sums up to the limit
  pub record SumLaws : Type 0 where
    pub reflexive : (a : L) → AtMost a a
    pub transitive : (a b c : L) → AtMost a b → AtMost b c → AtMost a c
    pub antisymmetric : (a b : L) → AtMost a b → AtMost b a → a ≡ b
    -- zero is at most everything
    pub starts : (a : L) → AtMost K.origin a
    -- a length is at most its sum with any length
    pub grows : (a b : L) → K.reach a + K.reach b ≤ sum_limit → AtMost a (K.plus a b)
    -- sums keep the order
    pub ordered : (a b s : L) → K.reach b + K.reach s ≤ sum_limit → AtMost a b → AtMost (K.plus a s) (K.plus b s)
    -- a length plus a side is never at most the length
    pub exceeds : (a s : L) → possible_side K s ≡ true → K.reach a + K.reach s ≤ sum_limit → K.at_most (K.plus a s) a ≡ false
    -- extents
    pub sums : (a b : L) → K.reach a + K.reach b ≤ sum_limit → K.reach (K.plus a b) ≡ K.reach a + K.reach b
    pub empty : K.reach K.origin ≡ 0
    pub wider : (a b : L) → AtMost a b → K.reach a ≤ K.reach b

  -- any two lengths compare, and the later of two is the one that the other is at most
  pub record TotalLaws : Type 0 where
    pub compares : (a b : L) → AtMost a b ⊎ AtMost b a
    pub second : (a b : L) → AtMost a b → K.later a b ≡ b
    pub first : (a b : L) → AtMost b a → K.later a b ≡ a

  -- the later of two is the least that both are at most, and its extent the greater of theirs
  pub record JoinLaws : Type 0 where
    pub left : (a b : L) → AtMost a (K.later a b)
    pub right : (a b : L) → AtMost b (K.later a b)
    pub least : (a b c : L) → AtMost a c → AtMost b c → AtMost (K.later a b) c
    pub extents : (a b : L) → K.reach (K.later a b) ≡ max (K.reach a) (K.reach b)

  -- what a kind of length promises
  pub record Lawful : Type 0 where
    pub sum : SumLaws
    pub total : TotalLaws

-- plain lengths: whole numbers
abbrev pub plain_kind : Kind ℕ
plain_kind =
    record {
      origin = 0;
      plus = λ a b. a + b;
      later = λ a b. cond (nat_le a b) b a;
      at_most = nat_le;
      reach = λ a. a;
    }

-- a whole number with its number of module borders, which the making keeps at or below the number
pub record Count : Type 0 where
  pub long : ℕ
  pub borders : ℕ

-- by length, then by borders
abbrev pub count_at_most : Count → Count → Bool
count_at_most a b = nat_lt a.long b.long || (a.long == b.long && nat_le a.borders b.borders)

-- counted lengths: sums add both, and the extent is the length
abbrev pub counted_kind : Kind Count
counted_kind =
    record {
      origin = record { long = 0; borders = 0 };
      plus = λ a b. record { long = a.long + b.long; borders = a.borders + b.borders };
      later = λ a b. cond (count_at_most a b) b a;
      at_most = count_at_most;
      reach = λ a. a.long;
    }

-- what can't be made a counted length: more borders than length, or too long
abbrev pub count_refused : ℕ → ℕ → Bool
count_refused long borders = nat_lt long borders || nat_lt sum_limit long

-- what making a counted length gives: its refusal, or the length
abbrev pub after_count : ℕ → ℕ → Result Count LengthRefusal
after_count long borders =
    cond (count_refused long borders) (Err WrongCount) (Ok (record { long = long; borders = borders }))
