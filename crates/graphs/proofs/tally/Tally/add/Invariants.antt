-- The digits so far have taken the set in, but for what is carried.
use Rattle.graphs.proofs.Tallying.{Carrying}
use Rattle.graphs.proofs.tally.Tally.add.Given as goal

abbrev pub invariant-loop-digit : goal.invariant-loop-digit
invariant-loop-digit l = Carrying l.digit-index l.fn.self.digits l.digit-items l.fn.set l.carry
