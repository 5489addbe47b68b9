-- What stands from the counter on is met, and has its edges.
use Rattle.sequence_pairs.proofs.Following.{Following}
use Rattle.sequence_pairs.proofs.order.Order.followers.Given as goal

abbrev pub invariant-loop-place : goal.invariant-loop-place
invariant-loop-place l = Following l.self.count l.self.places l.place l.graph l.met
