-- Digits without members count nothing.
use Rattle.std.proofs.Common.{refl}
use Rattle.graphs.proofs.Tallying.{none_counted}
use Rattle.graphs.proofs.tally.Tally.new.Goals as goal

pub returns : goal.returns
returns c = none_counted _ c.empty.result refl c.empty.ensures
