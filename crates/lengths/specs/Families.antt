-- Families of one kind of length and of two, with their laws.
use Rattle.plans.specs.Kinds.{Kind, Lawful}

-- the lengths of a family of one kind
abbrev pub lengths_of_one : Type 0 → Unit {0} → Type 0
lengths_of_one L kind = L

-- one kind as a family
abbrev pub one_kind : {L : Type 0} → Kind L → (kind : Unit {0}) → Kind (lengths_of_one L kind)
one_kind K kind = K

-- which is lawful where the kind is
pub one_lawful : {L : Type 0} (K : Kind L) → Lawful K → (kind : Unit {0}) → Lawful (one_kind K kind)
one_lawful K k kind = k

-- one of two
pub data OfTwo : Type 0 where
  first_kind : OfTwo
  second_kind : OfTwo

-- the lengths of a family of two kinds
abbrev pub lengths_of_two : Type 0 → Type 0 → OfTwo → Type 0
lengths_of_two L M first_kind = L
lengths_of_two L M second_kind = M

-- two kinds as a family
abbrev pub two_kinds : {L M : Type 0} → Kind L → Kind M → (kind : OfTwo) → Kind (lengths_of_two L M kind)
two_kinds K J first_kind = K
two_kinds K J second_kind = J

-- which is lawful where both are
pub two_lawful :
    {L M : Type 0} (K : Kind L) (J : Kind M) → Lawful K → Lawful J → (kind : OfTwo) → Lawful (two_kinds K J kind)
two_lawful K J k j first_kind = k
two_lawful K J k j second_kind = j
