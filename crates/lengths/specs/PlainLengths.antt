-- Plain lengths as a kind of length.
use Rattle.std.specs.Prelude.{ℕ, ◌+◌, min, cond}
use Rattle.plans.specs.Kinds.{Kind, plain_kind}
use Rattle.lengths.specs.Sums.{greatest}
use Rattle.lengths.specs.declared.plain.Plain.{Plain}

-- the plain length of a number
abbrev pub plain_of : ℕ → Plain
plain_of n = record { 0 = n }

-- sums, order and extent are those of the numbers
abbrev pub plain_lengths : Kind Plain
plain_lengths =
    record {
      origin = plain_of plain_kind.origin;
      plus = λ a b. plain_of (plain_kind.plus a.0 b.0);
      later = λ a b. cond (plain_kind.at_most a.0 b.0) b a;
      at_most = λ a b. plain_kind.at_most a.0 b.0;
      reach = λ a. plain_kind.reach a.0;
    }

-- the sum, stopped at the greatest number
abbrev pub plain_capped : Plain → Plain → Plain
plain_capped a b = plain_of (min (a.0 + b.0) greatest)
