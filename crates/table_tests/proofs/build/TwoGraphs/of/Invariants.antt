-- The graphs have the rows below the counter.
use Rattle.table_tests.proofs.GraphRows.{Built}
use Rattle.table_tests.specs.Codes.{table_given}
use Rattle.table_tests.proofs.build.TwoGraphs.of.Given as goal

abbrev pub invariant-loop-i : goal.invariant-loop-i
invariant-loop-i l = record {
  right : Built (table_given l.table) 1 l.i l.right;
  above : Built (table_given l.table) 2 l.i l.above;
}
