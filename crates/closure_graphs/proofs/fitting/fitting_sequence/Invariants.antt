-- The modules below the counter stand at their places.
use Rattle.closure_graphs.proofs.Counts.{Placed}
use Rattle.closure_graphs.specs.Sound.{table_drawn}
use Rattle.closure_graphs.proofs.fitting.fitting_sequence.Given as goal

abbrev pub invariant-loop-i : goal.invariant-loop-i
invariant-loop-i l = Placed l.m (table_drawn l.graphs) l.i l.sequence
