-- The codes of the rows before, and in a row of the columns before, are written.
use Rattle.std.proofs.Common.{◌≡◌, ◌+◌, ◌*◌, length}
use Rattle.plans.specs.Tables.{table_in, codes_of}
use Rattle.closure_graphs.proofs.Fronts.{Begins}
use Rattle.closure_graphs.specs.Meaning.{graphs_mean}
use Rattle.closure_graphs.proofs.closure_graphs.ClosureGraphs.codes.Given as goal

abbrev pub invariant-loop-i : goal.invariant-loop-i
invariant-loop-i l = record {
  long : length l.codes ≡ 4096;
  written : Begins (l.i * l.self.size) (codes_of l.self.size (table_in (graphs_mean l.self))) l.codes;
}

abbrev pub invariant-loop-j : goal.invariant-loop-j
invariant-loop-j l = record {
  long : length l.codes ≡ 4096;
  written : Begins (l.i * l.self.size + l.j) (codes_of l.self.size (table_in (graphs_mean l.self))) l.codes;
}
