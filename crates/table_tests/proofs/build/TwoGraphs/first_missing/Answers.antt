-- The first row that lacks an edge, and the least module that it lacks.
use Rattle.std.proofs.Common.{rules}
use Rattle.table_tests.proofs.ClosureRows.{least_below}
use Rattle.table_tests.proofs.PairRows.{first_rows}
use Rattle.table_tests.specs.Closure.{missing}
use Rattle.table_tests.proofs.build.TwoGraphs.first_missing.Goals as goal

pub returns : goal.returns
returns c =
    first_rows (missing c.args.self.now.right c.args.self.now.above) c.args.modules _ c.first_in_rows.result
    c.first_in_rows.ensures (λ i r l found. search (rules, least_below, c.requires.inside))
