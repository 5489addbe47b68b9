-- The lines of the modules in turn, and the sheet's end behind them.
use Rattle.std.proofs.Common.{◌≡◌, ℕ, ◌+◌, Bool, true, false, List, length, ap, subst, sym, ◌∙◌, refl, arith}
use Rattle.std.proofs.lemmas.Result.{err_from_is_err_and}
use Rattle.sheets.specs.declared.place.Place.{Place}
use Rattle.sheets.specs.AtLines.{IsLine}
use Rattle.sheets.specs.declared.fault.Sheet.TheVariants.{Sizes}
use Rattle.sheets.specs.Lines.{goes_on, line_start}
use Rattle.sheets.specs.Lists.{blank_sides, sides_of, sides_read}
use Rattle.sheets.specs.Promises.{Fails, Passes}
use Rattle.sheets.specs.Reading.{number_at, size_checks, size_line_checks}
use Rattle.sheets.proofs.CheckLemmas.{fails_front, fails_behind, fails_here, passes_here, passes_both}
use Rattle.sheets.proofs.LineLemmas.{at_line, next_is_line}
use Rattle.sheets.proofs.ListLemmas.{front_more}
use Rattle.sheets.proofs.LoopLemmas.{each_passes, each_fails, passed_more}
use Rattle.sheets.proofs.sizes.read_sizes.Goals as goal

-- whether the sheet goes on behind all lines
ended : (sizes bytes : List ℕ) (i m : ℕ) (at : Place) (b : Bool) → bytes ≡ sizes → IsLine sizes i at → i ≡ m → b ≡ goes_on bytes at.offset → goes_on sizes (line_start sizes m) ≡ b
ended sizes bytes i m at b same here all e =
    subst (λ k. goes_on sizes (line_start sizes k) ≡ b) all (at_line (λ s n o. goes_on s o ≡ b) same here (sym e))

pub returns-in_err-side : goal.returns-in_err-side
returns-in_err-side c =
    let p = err_from_is_err_and c.from_residual.result c.from_residual.ensures.1 in
    let sizes = c.args.first.bytes.now in
    let i = c.loop-side.side-index in
    let loop = c.loop-side.invariant in
    let fails = at_line (λ s n o. Fails Sizes s (size_line_checks s n o) c.in_err-side.field-0.0) loop.same loop.at c.in_err-side.ensures in
    rw (p.1, p.2) (fails_front _ (each_fails (size_checks sizes) _ i c.loop-side-test.true loop.passed fails))

pub loop-side-preserved : goal.loop-side-preserved
loop-side-preserved c =
    let sizes = c.args.first.bytes.now in
    let i = c.loop-side.side-index in
    let loop = c.loop-side.invariant in
    let next = c.next-line.ensures in
    let done = c.in_ok-side.ensures in
    let passes = at_line (λ s n o. Passes (size_line_checks s n o)) loop.same loop.at done.0 in
    let line = rw loop.same at done.1.1 in
    let read : c.in_ok-side.field-0 ≡ sides_read sizes i =
    at_line (λ s n o. c.in_ok-side.field-0 ≡ sides_of (number_at s (o + 0) 8) (number_at s (o + 8) 8)) loop.same loop.at done.1.0 in
    record {
      sheet = next.sheet ∙ loop.sheet;
      same = ap (λ b. b.now) next.bytes ∙ loop.same;
      at = next_is_line sizes i 16 _ _ loop.at line next.offset next.line (omega arith);
      passed = passed_more (size_checks sizes) i loop.passed passes;
      read = front_more blank_sides (sides_read sizes) i c.loop-side.sides _ (omega arith) read loop.read;
    }

pub returns-then-goes_on : goal.returns-then-goes_on
returns-then-goes_on c =
    let sizes = c.args.first.bytes.now in
    let m = length c.args.sides.now in
    let loop = c.loop-side.invariant in
    let all : c.loop-side.side-index ≡ m = omega arith in
    let line : c.loop-side.line.at.line ≡ m + 1 = loop.at.line ∙ ap (λ i. i + 1) all in
    let on = ended sizes _ _ m _ true loop.same loop.at all c.if-goes_on.ensures in
    rw (c.wrong_length.ensures, loop.sheet, line)
    (fails_behind (each_passes (size_checks sizes) m (λ k h. loop.passed k (omega arith))) (fails_here on refl (omega arith) refl))

pub returns : goal.returns
returns c =
    let sizes = c.args.first.bytes.now in
    let m = length c.args.sides.now in
    let loop = c.loop-side.invariant in
    let all : c.loop-side.side-index ≡ m = omega arith in
    let on = ended sizes _ _ m _ false loop.same loop.at all c.if-goes_on.ensures in
    (passes_both (each_passes (size_checks sizes) m (λ k h. loop.passed k (omega arith))) (passes_here on), λ k h. loop.read k (omega arith))
