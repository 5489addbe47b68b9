-- The fields of the sequence in turn, behind the length of its line.
use Rattle.std.proofs.Common.{◌+◌, ◌*◌, length, arith}
use Rattle.std.proofs.lemmas.Result.{err_from_is_err_and}
use Rattle.sheets.specs.Reading.{number_at, place_checks}
use Rattle.sheets.proofs.CheckLemmas.{fails_behind, passes_both}
use Rattle.sheets.proofs.ListLemmas.{front_more}
use Rattle.sheets.proofs.LoopLemmas.{each_passes, each_fails, passed_more}
use Rattle.sheets.proofs.sequence.read_sequence.Goals as goal

pub returns-in_err-place : goal.returns-in_err-place
returns-in_err-place c =
    let p = err_from_is_err_and c.from_residual-in_err-place.result c.from_residual-in_err-place.ensures.1 in
    let line = c.args.line in
    let loop = c.loop-j.invariant in
    rw (p.1, p.2) (fails_behind (rw c.requires.plan at c.in_ok-check_width.ensures.0)
    (each_fails (place_checks line.bytes.now line.at.line line.at.offset) _ c.loop-j.j c.loop-j-test.true loop.passed (rw (c.field.ensures.line, c.field.ensures.offset, c.field.ensures.width, c.requires.plan) at c.in_err-place.ensures)))

pub loop-j-preserved : goal.loop-j-preserved
loop-j-preserved c =
    let line = c.args.line in
    let loop = c.loop-j.invariant in
    let done = rw (c.field.ensures.line, c.field.ensures.offset, c.field.ensures.width, c.requires.plan) at c.in_ok-place.ensures in
    record {
      passed = passed_more (place_checks line.bytes.now line.at.line line.at.offset) c.loop-j.j loop.passed done.0;
      read = front_more 0 (λ k. number_at line.bytes.now (line.at.offset + 4 * k) 4) c.loop-j.j c.loop-j.places _ (omega arith) done.1 loop.read;
    }

pub returns : goal.returns
returns c =
    let line = c.args.line in
    let loop = c.loop-j.invariant in
    let width = rw c.requires.plan at c.in_ok-check_width.ensures in
    let all = each_passes (place_checks line.bytes.now line.at.line line.at.offset) (length c.args.places.now) (λ k h. loop.passed k (omega arith)) in
    (passes_both width.0 all, (λ k h. loop.read k (omega arith), width.1))
