-- Plain and counted lengths: lawful, and a counted length without its borders a plain one.
use Rattle.std.specs.Prelude.{◌≡◌, ◌+◌, ◌≤◌, min, Bool, true, false, cond, nat_le, refl}
use Rattle.std.proofs.Math.Bridge.{le_prop}
use Rattle.std.proofs.Common.{arith, ap, ◌∙◌}
use mathlib.Core.HLevel.{is_prop→PathP}
use Rattle.plans.specs.CarriedPackings.{Carries, PacksCarried}
use Rattle.plans.specs.Kinds.{Lawful, count_at_most, plain_kind, counted_kind, sum_limit}
use Rattle.plans.proofs.CarriedPackings.{packs_carried, long_carries}
use Rattle.plans.proofs.KindLaws.{plain_lawful, counted_lawful}
use Rattle.lengths.specs.CopiedLaws.{copied_lawful}
use Rattle.lengths.specs.CountedLengths.{count_of, count_capped, counted_lengths, without_borders}
use Rattle.lengths.specs.PlainLengths.{plain_of, plain_lengths}
use Rattle.lengths.specs.Sums.{greatest}
use Rattle.lengths.specs.declared.counted.Counted.{Counted}
use Rattle.lengths.specs.declared.plain.Plain.{Plain}

-- what is told of the chosen of two lengths is the choice of what is told
chosen_told : {L M : Type 0} (h : L → M) (c : Bool) (a b : L) → h (cond c a b) ≡ cond c (h a) (h b)
chosen_told h true a b = refl
chosen_told h false a b = refl

number_carries : Carries plain_lengths plain_kind (λ a. a.0)
number_carries =
    record {
      zero = refl;
      sums = λ a b. refl;
      joins = λ a b. chosen_told (λ x. x.0) (nat_le a.0 b.0) b a;
      extents = λ a. refl;
    }

-- two plain lengths of the same number are equal
plain_same : (a b : Plain) → a.0 ≡ b.0 → a ≡ b
plain_same a b e = ap plain_of e

pub plain_laws : Lawful plain_lengths
plain_laws = copied_lawful plain_lengths plain_kind (λ a. a.0) number_carries (λ a b. refl) plain_same plain_lawful

pub count_carries : Carries counted_lengths counted_kind count_of
count_carries =
    record {
      zero = refl;
      sums = λ a b. refl;
      joins = λ a b. chosen_told count_of (count_at_most (count_of a) (count_of b)) b a;
      extents = λ a. refl;
    }

-- two counted lengths of the same numbers are equal: that there are few borders has one proof
pub counted_same : (a b : Counted) → count_of a ≡ count_of b → a ≡ b
counted_same a b e k =
    record {
      length = (e k).long;
      borders = (e k).borders;
      few = is_prop→PathP (λ i. (e i).borders ≤ (e i).long) (λ i. le_prop) a.few b.few k;
    }

-- within the limit neither the length nor the borders of a sum are stopped
pub uncapped :
    (a b : Counted) → a.length + b.length ≤ sum_limit
    → count_capped (count_of a) (count_of b) ≡ counted_kind.plus (count_of a) (count_of b)
uncapped a b within =
    let long : min (a.length + b.length) greatest ≡ a.length + b.length = omega arith in
    let borders : min (a.borders + b.borders) greatest ≡ a.borders + b.borders = omega arith in
    λ k. record { long = long k; borders = borders k }

pub counted_laws : Lawful counted_lengths
counted_laws = copied_lawful counted_lengths counted_kind count_of count_carries (λ a b. refl) counted_same counted_lawful

-- a counted length without its borders is carried as its numbers are
pub borders_dropped : Carries counted_lengths plain_lengths without_borders
borders_dropped =
    record {
      zero = refl;
      sums = λ a b. refl;
      joins = λ a b.
          ap (λ n. plain_of n.long) (count_carries.joins a b)
          ∙ ap plain_of (long_carries.joins (count_of a) (count_of b))
          ∙ chosen_told plain_of (nat_le a.length b.length) b.length a.length;
      extents = λ a. refl;
    }

pub packings_agree : PacksCarried counted_lengths plain_lengths without_borders
packings_agree = packs_carried counted_lengths plain_lengths without_borders borders_dropped
