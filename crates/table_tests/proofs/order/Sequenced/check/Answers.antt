-- With no wrong place, each module is named once.
use Rattle.table_tests.proofs.PlaceMarks.{none_wrong}
use Rattle.table_tests.proofs.order.Sequenced.check.Goals as goal

pub check_order-requires : goal.check_order-requires
check_order-requires c =
    record { once = none_wrong c.args.self.sequence.now c.in_ok-check_places.ensures }
