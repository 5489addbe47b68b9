-- Both graphs with the two modules exchanged.
use Rattle.plans.specs.Changes.{two_refusal}
use Rattle.closure_graphs.proofs.Refusals.{passed}
use Rattle.closure_graphs.proofs.Changes.{swap_drawn}
use Rattle.closure_graphs.proofs.closure_graphs.ClosureGraphs.swapped.Goals as goal

pub returns : goal.returns
returns c =
    let x = c.args.self.now in
    let none = passed (two_refusal x.size c.args.a c.args.b) _ _ c.in_ok-two_modules.ensures in (
      none,
      swap_drawn x c.args.a c.args.b none (record { right = c.swap.new.self; above = c.swap-2.new.self })
          c.swap.ensures c.swap-2.ensures,
    )
