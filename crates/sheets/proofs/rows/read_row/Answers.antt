-- The letters of a row in turn, behind the length of its line.
use Rattle.std.proofs.Common.{◌+◌, length, arith}
use Rattle.sheets.specs.Reading.{code_at, letter_checks}
use Rattle.std.proofs.lemmas.Result.{err_from_is_err_and}
use Rattle.sheets.proofs.CheckLemmas.{fails_behind, passes_both}
use Rattle.sheets.proofs.ListLemmas.{front_more}
use Rattle.sheets.proofs.LoopLemmas.{each_passes, each_fails, passed_more}
use Rattle.sheets.proofs.rows.read_row.Goals as goal

pub returns-in_err-code : goal.returns-in_err-code
returns-in_err-code c =
    let p = err_from_is_err_and c.from_residual-in_err-code.result c.from_residual-in_err-code.ensures.1 in
    let line = c.args.line in
    let loop = c.loop-j.invariant in
    rw (p.1, p.2) (fails_behind (rw c.requires.plan at c.in_ok-check_width.ensures.0)
    (each_fails (letter_checks line.bytes.now line.at.line line.at.offset) _ c.loop-j.j c.loop-j-test.true loop.passed c.in_err-code.ensures))

pub loop-j-preserved : goal.loop-j-preserved
loop-j-preserved c =
    let line = c.args.line in
    let loop = c.loop-j.invariant in
    record {
      passed = passed_more (letter_checks line.bytes.now line.at.line line.at.offset) c.loop-j.j loop.passed c.in_ok-code.ensures.0;
      read = front_more 0 (λ j. code_at line.bytes.now (line.at.offset + j)) c.loop-j.j c.loop-j.codes _ (omega arith) c.in_ok-code.ensures.1 loop.read;
    }

pub returns : goal.returns
returns c =
    let line = c.args.line in
    let loop = c.loop-j.invariant in
    let width = rw c.requires.plan at c.in_ok-check_width.ensures in
    let all = each_passes (letter_checks line.bytes.now line.at.line line.at.offset) (length c.args.codes.now) (λ k h. loop.passed k (omega arith)) in
    (passes_both width.0 all, (λ k h. loop.read k (omega arith), width.1))
