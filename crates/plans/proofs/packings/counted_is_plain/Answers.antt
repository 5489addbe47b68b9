-- The length of a counted length carries packings.
use Rattle.plans.proofs.CarriedPackings.{packs_carried, long_carries}
use Rattle.plans.specs.Kinds.{plain_kind, counted_kind}
use Rattle.plans.proofs.packings.counted_is_plain.Goals as goal

pub returns : goal.returns
returns c = packs_carried counted_kind plain_kind (λ a. a.long) long_carries
