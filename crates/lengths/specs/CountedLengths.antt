-- Counted lengths as a kind of length.
use Rattle.std.specs.Prelude.{◌+◌, ◌≤◌, min, cond, Result}
use Rattle.std.proofs.Common.{zero-le, add-le-add}
use Rattle.std.specs.Result.{result_map_both}
use Rattle.plans.specs.Kinds.{Kind, Count, counted_kind}
use Rattle.plans.specs.declared.pack_refusals.LengthRefusal.{LengthRefusal}
use Rattle.lengths.specs.PlainLengths.{plain_of}
use Rattle.lengths.specs.Sums.{greatest}
use Rattle.lengths.specs.declared.counted.Counted.{Counted}
use Rattle.lengths.specs.declared.plain.Plain.{Plain}

-- the numbers of a counted length
abbrev pub count_of : Counted → Count
count_of a = record { long = a.length; borders = a.borders }

-- the counted length of numbers with no more borders than length
abbrev pub counted_of : (n : Count) → n.borders ≤ n.long → Counted
counted_of n few = record { length = n.long; borders = n.borders; few = few }

-- what a making gives, by its numbers
abbrev pub count_made : Result Counted LengthRefusal → Result Count LengthRefusal
count_made r = result_map_both count_of (λ e. e) r

-- sums, order and extent are those of the numbers; sums have no more borders than length
abbrev pub counted_lengths : Kind Counted
counted_lengths =
    record {
      origin = counted_of counted_kind.origin zero-le;
      plus = λ a b. counted_of (counted_kind.plus (count_of a) (count_of b)) (add-le-add a.few b.few);
      later = λ a b. cond (counted_kind.at_most (count_of a) (count_of b)) b a;
      at_most = λ a b. counted_kind.at_most (count_of a) (count_of b);
      reach = λ a. counted_kind.reach (count_of a);
    }

-- the numbers of a sum, each stopped at the greatest number
abbrev pub count_capped : Count → Count → Count
count_capped a b =
    record { long = min (a.long + b.long) greatest; borders = min (a.borders + b.borders) greatest }

-- a counted length without its borders
abbrev pub without_borders : Counted → Plain
without_borders a = plain_of a.length
