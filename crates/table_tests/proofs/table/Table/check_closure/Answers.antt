-- The first edge that the graphs lack is the table's first pair that is not closed.
use Rattle.std.proofs.Common.{rules, ◌∙◌, arith}
use Rattle.plans.specs.declared.refusals.LoadRefusal.TheVariants.{NotClosed}
use Rattle.table_tests.proofs.ClosureRows.{closure_by_rows, missing_inside}
use Rattle.table_tests.proofs.GraphRows.{shows_inside}
use Rattle.table_tests.proofs.PairRows.{told}
use Rattle.table_tests.proofs.Passed.{shape_few, codes_small}
use Rattle.table_tests.proofs.table.Table.check_closure.Goals as goal

pub of-graphs-requires : goal.of-graphs-requires
of-graphs-requires c = record { few = shape_few c.args.self.modules c.args.self.codes.now c.requires.passed }

pub first_missing-requires : goal.first_missing-requires
first_missing-requires c =
    let m = c.args.self.modules in
    let codes = c.args.self.codes.now in
    let g = c.of-graphs.result.right in
    let h = c.of-graphs.result.above in
    record {
      inside =
          missing_inside m g h (shows_inside m codes 1 g (omega arith) c.of-graphs.ensures.right)
          (shows_inside m codes 2 h (omega arith) c.of-graphs.ensures.above);
    }

pub returns : goal.returns
returns c =
    let m = c.args.self.modules in
    let codes = c.args.self.codes.now in
    told NotClosed c.first_missing.result _ c.map_or.result _ c.map_or.ensures (λ q k. search rules)
    (c.first_missing.ensures
    ∙ closure_by_rows m codes c.of-graphs.result.right c.of-graphs.result.above (shape_few m codes c.requires.passed)
    (codes_small m codes c.requires.passed) c.of-graphs.ensures.right c.of-graphs.ensures.above)
