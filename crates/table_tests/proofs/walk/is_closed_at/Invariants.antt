-- What is left to look at.
use Rattle.module_set.specs.Members.{member_count}
use Rattle.table_tests.proofs.ClosedRows.{LeftAt}
use Rattle.table_tests.proofs.walk.is_closed_at.Given as goal

abbrev pub invariant-loop-j : goal.invariant-loop-j
invariant-loop-j l = LeftAt l.graph l.i l.rest

abbrev pub decreases-loop-j : goal.decreases-loop-j
decreases-loop-j l = member_count l.rest
