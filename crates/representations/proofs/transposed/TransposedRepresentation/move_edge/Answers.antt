-- A move above is the move below.
use Rattle.plans.specs.declared.change.Change.TheVariants.{MoveEdge}
use Rattle.representations.proofs.Layers.{follows_change}
use Rattle.representations.proofs.transposed.TransposedRepresentation.move_edge.Goals as goal

pub returns : goal.returns
returns g c =
    follows_change (MoveEdge c.args.a c.args.b) c.move_edge.result (g.R.Representation.means c.args.self.now.0)
    (g.R.Representation.means c.move_edge.new.self) c.move_edge.ensures
