-- Only digits were passed, and they write the value so far, which fits.
use Rattle.std.proofs.Common.{◌≡◌, ◌^◌, ◌<◌, drop}
use Rattle.sheets.specs.Fields.{all_digits, value_after}
use Rattle.sheets.proofs.field.digits.Given as goal

abbrev pub invariant-loop-b : goal.invariant-loop-b
invariant-loop-b l = record {
  good : all_digits (drop l.b-index l.field) ≡ all_digits l.field;
  worth : value_after l.value (drop l.b-index l.field) ≡ value_after 0 l.field;
  fits : l.value < 10 ^ l.b-index;
}
