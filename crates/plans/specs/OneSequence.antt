-- The packing sequence of a feasible table: the edges of both graphs order the modules, and one sequence fits.
use Rattle.std.specs.Prelude.{◌≡◌, ℕ, List}
use Rattle.plans.specs.Orders.{TotalOrder}
use Rattle.plans.specs.Sequences.{edge_to, fitting}
use Rattle.plans.specs.Tables.{Table, FeasibleTable, Fits}

-- one sequence fits the table
pub record OneSequence (m : ℕ) (c : Table) : Type 0 where
  -- the edges of both graphs together are a total order of the modules
  pub order : TotalOrder m (edge_to c)
  -- the sequence by the number of modules with an edge to each fits
  pub fits : Fits m c (fitting m c)
  -- and no other does
  pub only : (s : List ℕ) → Fits m c s → s ≡ fitting m c

-- for every feasible table
abbrev pub SequenceDetermined : Type 0
SequenceDetermined = (m : ℕ) (c : Table) → FeasibleTable m c → OneSequence m c
