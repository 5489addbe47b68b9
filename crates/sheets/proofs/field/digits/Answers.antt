-- The next digit fits: nine at most are read.
use Rattle.std.proofs.Common.{◌+◌, arith}
use Rattle.sheets.proofs.FieldLemmas.{pow_ten_more, pow_ten_fits}
use Rattle.sheets.proofs.field.digits.Goals as goal

pub overflow_mul-value : goal.overflow_mul-value
overflow_mul-value c = omega (arith, c.loop-b.invariant.fits, pow_ten_more c.loop-b.b-index, pow_ten_fits (c.loop-b.b-index + 1) (omega arith))

pub overflow_add-value : goal.overflow_add-value
overflow_add-value c = omega (arith, c.loop-b.invariant.fits, pow_ten_more c.loop-b.b-index, pow_ten_fits (c.loop-b.b-index + 1) (omega arith))
