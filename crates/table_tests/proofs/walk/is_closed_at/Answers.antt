-- Each successor is passed over with what it leads to, or leads further than i does.
use Rattle.std.proofs.Common.{sym, refl, ◌∙◌}
use Rattle.std.proofs.lemmas.Bool.{true≢false, false≢true}
use Rattle.module_set.proofs.Taking.{least_in, none_in}
use Rattle.table_tests.proofs.ClosedRows.{left_more, fewer_rows, open_at}
use Rattle.table_tests.proofs.walk.is_closed_at.Goals as goal

pub returns-then-not-is_subset : goal.returns-then-not-is_subset
returns-then-not-is_subset c =
    let here = c.loop-j.invariant.inside c.in-Some.j (least_in c.loop-j.rest c.in-Some.j c.in-Some.ensures.least).1 in (
      λ e. absurd (false≢true e),
      λ closed.
          absurd
          (open_at c.args.graph.now c.args.i c.in-Some.j c.successors-successors.result c.successors-beyond.result
          c.successors-successors.ensures c.successors-beyond.ensures here
          (sym c.is_subset.ensures ∙ c.if-not-is_subset.true) closed),
    )

pub loop-j-init : goal.loop-j-init
loop-j-init c = record {
  inside = λ j h. sym (c.successors-successors.ensures j) ∙ h;
  covered = λ j k h out next. absurd (true≢false (sym h ∙ sym (c.successors-successors.ensures j) ∙ out));
}

pub loop-j-smaller : goal.loop-j-smaller
loop-j-smaller c =
    fewer_rows c.args.graph.now c.args.i c.in-Some.j c.successors-successors.result c.successors-beyond.result
    c.successors-successors.ensures c.successors-beyond.ensures c.loop-j.rest c.pop_first.new.self c.minus-rest.result
    c.in-Some.ensures.least c.in-Some.ensures.rest c.minus-rest.ensures

pub loop-j-preserved : goal.loop-j-preserved
loop-j-preserved c =
    let here = c.loop-j.invariant.inside c.in-Some.j (least_in c.loop-j.rest c.in-Some.j c.in-Some.ensures.least).1 in
    left_more c.args.graph.now c.args.i c.in-Some.j c.successors-successors.result c.successors-beyond.result
    c.successors-successors.ensures c.successors-beyond.ensures c.loop-j.rest c.pop_first.new.self c.minus-rest.result
    c.in-Some.ensures.least c.in-Some.ensures.rest c.minus-rest.ensures c.loop-j.invariant
    (c.requires.closed c.in-Some.j here) (sym c.is_subset.ensures ∙ c.if-not-is_subset.false)

pub returns : goal.returns
returns c = (
  λ _ j k h next. c.loop-j.invariant.covered j k h (none_in c.loop-j.rest c.in_default.ensures.least j) next,
  λ _. refl,
)
