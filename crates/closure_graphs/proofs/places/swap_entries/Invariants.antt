-- The entries so far are exchanged, and the others are as they were.
use Rattle.std.proofs.Common.{◌≡◌, ◌++◌, map, take, drop}
use Rattle.plans.specs.Changes.{exchange}
use Rattle.closure_graphs.proofs.places.swap_entries.Given as goal

abbrev pub invariant-loop-module : goal.invariant-loop-module
invariant-loop-module l =
    l.sequence ≡ map (exchange l.a l.b) (take l.module-index l.initial.sequence) ++ drop l.module-index l.initial.sequence
