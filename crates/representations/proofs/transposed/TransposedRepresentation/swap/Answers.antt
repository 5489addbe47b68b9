-- A swap above is the swap below.
use Rattle.plans.specs.declared.change.Change.TheVariants.{Swap}
use Rattle.representations.proofs.Layers.{follows_change}
use Rattle.representations.proofs.transposed.TransposedRepresentation.swap.Goals as goal

pub returns : goal.returns
returns g c =
    follows_change (Swap c.args.a c.args.b) c.swap.result (g.R.Representation.means c.args.self.now.0)
    (g.R.Representation.means c.swap.new.self) c.swap.ensures
