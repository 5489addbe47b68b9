-- The test for a reduction edge by one module between, and the published one by paths.
use Rattle.std.specs.Prelude.{◌≡◌, ℕ, ◌<◌, false, ◌↔◌}
use Rattle.plans.specs.Changes.{bypassed}
use Rattle.plans.specs.Published.{PublishedReduction}
use Rattle.plans.specs.Tables.{Table, FeasibleTable}

-- in a feasible table, an edge that no module bypasses is one with no other path between its ends
abbrev pub ReductionEdges : Type 0
ReductionEdges =
    (m : ℕ) (c : Table) → FeasibleTable m c → (a b : ℕ)
    → ((0 < c a b) × (bypassed m c a b ≡ false)) ↔ PublishedReduction c a b
