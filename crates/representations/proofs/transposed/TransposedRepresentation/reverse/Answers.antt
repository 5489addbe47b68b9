-- A reverse above is the reverse below.
use Rattle.plans.specs.declared.change.Change.TheVariants.{Reverse}
use Rattle.representations.proofs.Layers.{follows_change}
use Rattle.representations.proofs.transposed.TransposedRepresentation.reverse.Goals as goal

pub returns : goal.returns
returns g c =
    follows_change (Reverse c.args.a c.args.b) c.reverse.result (g.R.Representation.means c.args.self.now.0)
    (g.R.Representation.means c.reverse.new.self) c.reverse.ensures
