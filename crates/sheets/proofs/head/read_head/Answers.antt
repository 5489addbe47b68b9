-- A number that is badly written or too large, behind the head's length and its word, or all three of them.
use Rattle.std.proofs.Common.{refl, [], ◌∷◌, arith, rules}
use Rattle.std.specs.Prelude.{nat_lt}
use Rattle.std.proofs.lemmas.Bool.{lt-ltb, le-ltb}
use Rattle.std.proofs.lemmas.Result.{err_from_is_err_and}
use Rattle.sheets.specs.declared.fault.Sheet.TheVariants.{Plan}
use Rattle.sheets.specs.declared.fault.Wrong.TheVariants.{OutOfRange}
use Rattle.sheets.specs.Checks.{tell_if, field_finding}
use Rattle.sheets.specs.Promises.{Passes}
use Rattle.sheets.specs.Reading.{modules_of}
use Rattle.sheets.proofs.CheckLemmas.{fails_front, fails_behind, fails_here, passes_here, passes_both}
use Rattle.sheets.proofs.head.read_head.Goals as goal

pub returns-in_err-modules : goal.returns-in_err-modules
returns-in_err-modules c =
    let p = err_from_is_err_and c.from_residual-in_err-modules.result c.from_residual-in_err-modules.ensures.1 in
    let field = c.field-field.ensures in
    rw (p.1, p.2) (fails_behind c.in_ok-check_width.ensures.0 (fails_behind c.in_ok-head.ensures.0 (fails_front _ (rw (field.line, field.offset, field.width) at c.in_err-modules.ensures))))

pub returns-then-modules-gt64 : goal.returns-then-modules-gt64
returns-then-modules-gt64 c =
    let field = c.field-field.ensures in
    let done = rw (field.line, field.offset, field.width) at c.in_ok-modules.ensures in
    rw (c.fault.ensures, field.line, field.offset, field.width)
    (fails_behind c.in_ok-check_width.ensures.0 (fails_behind c.in_ok-head.ensures.0 (fails_behind done.0 (fails_here (lt-ltb 64 _ (omega (arith, done.1))) refl (omega (arith, c.in_ok-check_width.ensures.1.within)) refl))))

pub returns : goal.returns
returns c =
    let field = c.field-field.ensures in
    let done = rw (field.line, field.offset, field.width) at c.in_ok-modules.ensures in
    let plan = c.args.plan.now in
    let few : Passes (tell_if (nat_lt 64 (modules_of plan)) (field_finding OutOfRange Plan 1 0 4 4) ∷ []) =
    passes_here (le-ltb 64 (modules_of plan) (omega (arith, done.1))) in (
      passes_both c.in_ok-check_width.ensures.0 (passes_both c.in_ok-head.ensures.0 (passes_both done.0 few)),
      (c.in_ok-head.ensures.1, done.1, omega arith, search rules, search rules, search rules),
    )
