-- The word and the fields of a line in turn.
use Rattle.std.proofs.Common.{◌+◌, ◌*◌, ◌∷◌, ◌++◌, not, ap, sym, subst, arith}
use Rattle.std.proofs.lemmas.Bool.{le-ltb}
use Rattle.std.proofs.lemmas.Result.{err_from_is_err_and}
use Rattle.sheets.specs.declared.fault.Sheet.TheVariants.{Plan}
use Rattle.sheets.specs.Checks.{tell_if, line_finding}
use Rattle.sheets.specs.Lines.{has_width}
use Rattle.sheets.specs.Promises.{Fails}
use Rattle.sheets.specs.Script.{fields_behind, operand_checks, word_or}
use Rattle.sheets.proofs.CheckLemmas.{fails_behind, fails_front, passes_here}
use Rattle.sheets.proofs.script.read_line.Goals as goal

pub returns-in_err-word : goal.returns-in_err-word
returns-in_err-word c =
    let p = err_from_is_err_and c.from_residual.result c.from_residual.ensures.1 in
    rw (p.1, p.2) (fails_behind (passes_here (le-ltb _ 4 (omega (arith, c.width.ensures.exact)))) (fails_front _ (rw c.requires.plan at c.in_err-word.ensures)))

pub returns-in_err-command : goal.returns-in_err-command
returns-in_err-command c =
    let p = err_from_is_err_and c.from_residual-in_err-command.result c.from_residual-in_err-command.ensures.1 in
    let plan = c.args.line.bytes.now in
    let n = c.args.line.at.line in
    let s = c.args.line.at.offset in
    let known = sym (ap word_or c.in_ok-word.ensures.1) in
    let width = rw (c.fields_behind.ensures, c.requires.plan) at c.in_ok-check_width.ensures.0 in
    let fails = fails_behind width c.in_err-command.ensures in
    let found =
    subst
    (λ w. Fails Plan plan
    (tell_if (not (has_width plan s (4 + 4 * fields_behind w))) (line_finding Plan n) ∷ (operand_checks plan n s (fields_behind w) 0 ++ operand_checks plan n s (fields_behind w) 1))
    c.in_err-command.field-0.0)
    known fails in
    rw (p.1, p.2) (fails_behind (passes_here (le-ltb _ 4 (omega (arith, c.width.ensures.exact)))) (fails_behind (rw c.requires.plan at c.in_ok-word.ensures.0) found))
