-- A side is badly written, or else out of its range.
use Rattle.std.proofs.Common.{not, refl, sym, ap, ◌∙◌, arith}
use Rattle.std.proofs.lemmas.Result.{err_from_is_err_and}
use Rattle.sheets.specs.Reading.{is_side}
use Rattle.sheets.proofs.CheckLemmas.{fails_front, fails_behind, fails_here}
use Rattle.sheets.proofs.sizes.read_side.Goals as goal

pub returns-in_err-side : goal.returns-in_err-side
returns-in_err-side c =
    let p = err_from_is_err_and c.from_residual.result c.from_residual.ensures.1 in
    rw (p.1, p.2) (fails_front _ (rw (c.field-field.ensures.line, c.field-field.ensures.offset, c.field-field.ensures.width, c.requires.sizes) at c.in_err-side.ensures))

pub returns-then-not-is_side : goal.returns-then-not-is_side
returns-then-not-is_side c =
    let done = rw (c.field-field.ensures.line, c.field-field.ensures.offset, c.field-field.ensures.width, c.requires.sizes) at c.in_ok-side.ensures in
    rw (c.fault.ensures, c.field-field.ensures.line, c.field-field.ensures.offset, c.field-field.ensures.width, c.requires.sizes) (fails_behind done.0 (fails_here (ap (λ n. not (is_side n)) (sym done.1) ∙ ap not (sym c.if-not-is_side.ensures)) refl (omega arith) refl))
