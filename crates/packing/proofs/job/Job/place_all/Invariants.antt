-- The modules at the places so far have their records, and whether all of them fit is known.
use Rattle.std.proofs.Common.{◌≡◌, not}
use Rattle.plans.specs.Search.{some_below}
use Rattle.packing.specs.Steps.{Reached, at_place, pushed_at}
use Rattle.packing.specs.Tasks.{task_of, pins_of}
use Rattle.packing.proofs.job.Job.place_all.Given as goal

abbrev pub invariant-loop-place : goal.invariant-loop-place
invariant-loop-place g l =
    let K = g.L.Length.kind in
    let task = task_of g.R.Representation.means l.self in
    let pins = pins_of l.pin in
    Reached K task pins l.place l.initial.results l.results
    × (l.fits ≡ not (some_below l.place (λ k. pushed_at K task pins (at_place task.plan k))))
