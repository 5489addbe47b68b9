-- By computing.
use Rattle.listing.proofs.laws.worked_listings.Goals as goal
use Rattle.listing.specs.Decimal.{last_digits, in_decimal}
use Rattle.listing.specs.Whole.{whole_listing}
use Rattle.std.proofs.Common.{refl}

pub returns : goal.returns
unfolding whole_listing last_digits in_decimal
returns c = record {
  moved = refl;
  turned = refl;
  stopped = refl;
  unended = refl;
  against = refl;
  twice = refl;
  none = refl;
}
