-- Each line that is read prints its command's lines, and what is left prints the rest.
use Rattle.listing.proofs.ScriptSteps.{appended_last, end_listed, fault_listed_last, line_listed, shorter, written_on}
use Rattle.listing.proofs.script.run_script.Goals as goal
use Rattle.listing.specs.Bordered.{in_counts}
use Rattle.listing.specs.FaultLine.{fault_line}
use Rattle.listing.specs.ScriptLines.{lines_from}
use Rattle.planner.specs.States.{state_of}
use Rattle.sheets.specs.Script.{ReadsLine}
use Rattle.std.proofs.Common.{◌++◌, length, Ok, vec_items, sym, refl, ap, ◌∙◌, subst, append-nil, arith}

pub loop-line-init : goal.loop-line-init
loop-line-init g c = (length c.args.sheet.now, omega arith, refl)

pub loop-line-smaller : goal.loop-line-smaller
loop-line-smaller g c =
    shorter c.args.sheet c.loop-line.at c.in-Ok-Some.line
    (subst (λ r. ReadsLine c.args.sheet c.loop-line.at (Ok r)) c.in-Ok-Some.field-0-is c.in-Ok-Some.ensures.answer)

pub loop-line-preserved : goal.loop-line-preserved
loop-line-preserved g c =
    let inv = c.loop-line.invariant in
    let sheet = c.args.sheet.now in
    let sides = in_counts c.args.sides.now in
    let line = c.in-Ok-Some.line in
    let state = state_of c.loop-line.scripted.plan in
    let listed = line_listed c.args.sheet c.loop-line.at sides state line inv.0 (subst (λ r. ReadsLine c.args.sheet c.loop-line.at (Ok r)) c.in-Ok-Some.field-0-is c.in-Ok-Some.ensures.answer) inv.1 in
    let did = c.in_ok-run_command-in-Ok-Some.ensures in (
      listed.0,
      listed.1,
      ap (λ t. vec_items c.run_command.new.out ++ lines_from sheet sides listed.0 line.next t) did.leads
          ∙ written_on _ _ _ _ _ _ did.bytes listed.2 inv.2,
    )

pub returns-in-Ok-None : goal.returns-in-Ok-None
returns-in-Ok-None g c =
    let inv = c.loop-line.invariant in
    let state = state_of c.loop-line.scripted.plan in
    let ended = end_listed c.args.sheet c.loop-line.at (in_counts c.args.sides.now) state inv.0 (subst (λ r. ReadsLine c.args.sheet c.loop-line.at (Ok r)) c.in-Ok-None.field-0-is c.in-Ok-None.ensures.answer) in
    sym (append-nil (vec_items c.loop-line.out)) ∙ ap (λ xs. vec_items c.loop-line.out ++ xs) (sym ended) ∙ inv.2

pub returns-in-Err : goal.returns-in-Err
returns-in-Err g c =
    let inv = c.loop-line.invariant in
    let state = state_of c.loop-line.scripted.plan in
    let stopped = fault_listed_last c.args.sheet c.loop-line.at (in_counts c.args.sides.now) state c.in-Err.fault inv.0 c.in-Err.ensures.answer inv.1 in
    appended_last c.append_fault.result (vec_items c.args.out.now) (vec_items c.loop-line.out) (vec_items c.append_fault.new.out) (fault_line c.in-Err.fault.wrong c.in-Err.fault.sheet c.in-Err.fault.line c.in-Err.fault.column)
    (lines_from c.args.sheet.now (in_counts c.args.sides.now) (length c.args.sheet.now) c.args.start (state_of c.args.scripted.now.plan)) (ap (λ xs. vec_items c.loop-line.out ++ xs) (sym stopped) ∙ inv.2) c.append_fault.ensures
