-- What is put in below is the floorplan with its axes exchanged, so above it is the floorplan.
use Rattle.std.proofs.Common.{refl, subst}
use Rattle.closure_graphs.specs.Meaning.{graphs_mean}
use Rattle.plans.specs.Changes.{Follows, after_load}
use Rattle.plans.specs.Transposed.{transpose}
use Rattle.representations.proofs.Layers.{follows_load}
use Rattle.representations.proofs.transposed.TransposedRepresentation.load_graphs.Goals as goal

pub returns : goal.returns
returns g c =
    let p = graphs_mean c.args.graphs.now in
    let old = g.R.Representation.means c.args.self.now.0 in
    let new = g.R.Representation.means c.load_graphs.new.self in
    follows_load (transpose p).codes p.codes p.sequence c.load_graphs.result old new refl
    (subst (λ q. Follows (after_load q.codes q.sequence) c.load_graphs.result old new) c.transposed.ensures c.load_graphs.ensures)
