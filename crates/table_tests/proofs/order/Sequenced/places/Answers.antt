-- Each place is written at its module.
use Rattle.std.proofs.Common.{arith}
use Rattle.table_tests.proofs.PlaceMarks.{named_once, written_more, written_all}
use Rattle.table_tests.proofs.order.Sequenced.places.Goals as goal

pub loop-place-preserved : goal.loop-place-preserved
loop-place-preserved c =
    written_more c.args.self.sequence.now c.loop-place.place c.loop-place.places (omega arith) c.loop-place-test.true
    (named_once c.args.self.sequence.now c.requires.once) c.loop-place.invariant

pub returns : goal.returns
returns c =
    written_all c.args.self.sequence.now c.loop-place.place c.loop-place.places c.loop-place-test.false
    (named_once c.args.self.sequence.now c.requires.once) c.loop-place.invariant
