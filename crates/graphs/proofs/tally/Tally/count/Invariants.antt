-- The count so far is that of the digits so far.
use Rattle.std.proofs.Common.{◌≡◌, ◌^◌}
use Rattle.graphs.specs.Tallies.{of_digits, has_digit}
use Rattle.graphs.proofs.tally.Tally.count.Given as goal

abbrev pub invariant-loop-digit : goal.invariant-loop-digit
invariant-loop-digit l = record {
  weight : l.weight ≡ 2 ^ l.digit-index;
  count : l.count ≡ of_digits l.digit-index (has_digit l.self.digits l.k);
}
