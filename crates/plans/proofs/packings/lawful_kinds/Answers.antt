-- Plain and counted lengths are lawful.
use Rattle.plans.proofs.KindLaws.{plain_lawful, counted_lawful}
use Rattle.plans.proofs.packings.lawful_kinds.Goals as goal

pub returns : goal.returns
returns c = record { plain = plain_lawful; counted = counted_lawful }
