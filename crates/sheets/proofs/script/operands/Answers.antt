-- The first field that is badly written.
use Rattle.std.proofs.lemmas.Result.{err_from_is_err_and}
use Rattle.sheets.proofs.CheckLemmas.{fails_front, fails_behind}
use Rattle.sheets.proofs.script.operands.Goals as goal

pub returns-in_err-operand : goal.returns-in_err-operand
returns-in_err-operand c =
    let p = err_from_is_err_and c.from_residual.result c.from_residual.ensures.1 in
    rw (p.1, p.2) (fails_front _ c.in_err-operand.ensures)

pub returns-in_err-operand-2 : goal.returns-in_err-operand-2
returns-in_err-operand-2 c =
    let p = err_from_is_err_and c.from_residual-in_err-operand-2.result c.from_residual-in_err-operand-2.ensures.1 in
    rw (p.1, p.2) (fails_behind c.in_ok-operand.ensures.0 c.in_err-operand-2.ensures)
