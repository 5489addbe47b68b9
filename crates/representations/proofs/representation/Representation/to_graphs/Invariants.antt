-- The rows below the counter are read, in a row the modules below the counter, and the first places of the sequence.
use Rattle.std.proofs.Common.{◌≡◌, ℕ, ◌<◌, length, get_or}
use Rattle.closure_graphs.proofs.Fronts.{Begins}
use Rattle.plans.specs.Tables.{table_in}
use Rattle.table_tests.proofs.GraphRows.{Built}
use Rattle.representations.proofs.GraphsRead.{RowRead}
use Rattle.representations.proofs.representation.Representation.to_graphs.Given as goal

abbrev pub invariant-loop-i : goal.invariant-loop-i
invariant-loop-i g l =
    let c = table_in (g.Self.Representation.means l.self) in
    record { beside : Built c 1 l.i l.right; over : Built c 2 l.i l.above }

abbrev pub invariant-loop-j : goal.invariant-loop-j
invariant-loop-j g l =
    let c = table_in (g.Self.Representation.means l.self) in
    record { beside : RowRead c 1 l.i l.j l.beside; over : RowRead c 2 l.i l.j l.over }

abbrev pub invariant-loop-place : goal.invariant-loop-place
invariant-loop-place g l = record {
  long : length l.sequence ≡ 64;
  same : Begins l.place (g.Self.Representation.means l.self).sequence l.sequence;
}
