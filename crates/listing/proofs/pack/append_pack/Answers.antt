-- What is appended is what the packing prints, in the numbers of its lengths.
use Rattle.plans.specs.Kinds.{counted_kind}
use Rattle.plans.specs.Packing.{at_origin}
use Rattle.lengths.specs.CountedLengths.{count_of, counted_lengths}
use Rattle.lengths.specs.declared.counted.Counted.{Counted}
use Rattle.listing.proofs.Packings.{in_numbers, map_replicate, pack_listed}
use Rattle.listing.proofs.Records.{front_packed}
use Rattle.listing.proofs.pack.append_pack.Goals as goal
use Rattle.listing.specs.Bordered.{in_counts}
use Rattle.listing.specs.PackLines.{pack_lines, packed_lines}
use Rattle.packing.specs.Calls.{Packs}
use Rattle.planner.specs.States.{state_of}
use Rattle.plans.specs.CarriedPackings.{carry_chip, carry_placed}
use Rattle.plans.specs.Model.{State, task_at}
use Rattle.plans.specs.declared.measures.Chip.{Chip}
use Rattle.plans.specs.declared.measures.Placed.{Placed}
use Rattle.plans.specs.declared.measures.Sides.{Sides}
use Rattle.plans.specs.declared.pack_refusals.PackRefusal.{PackRefusal}
use Rattle.std.proofs.lemmas.List.{append_assoc}
use Rattle.std.proofs.Common.{◌≡◌, ◌≤◌, List, length, replicate, Ok, Err, Result, ap, subst, ◌∙◌, rules}

-- what a packing lists, into 64 results that are at the origin
listed : (s : State) (sides : List (Sides Counted)) (nowhere : Placed Counted) (after : List (Placed Counted)) (answer : Result (Chip Counted) PackRefusal)
    → carry_placed count_of nowhere ≡ (at_origin counted_kind) → Packs counted_lengths (task_at s sides) (replicate 64 nowhere) answer after
    → pack_lines s (in_counts sides)
    ≡ packed_lines s.current.plan.size (in_numbers answer after).results (in_numbers answer after).answer
listed s sides nowhere after answer is packs =
    pack_listed s sides (replicate 64 nowhere) after answer
    (map_replicate (carry_placed count_of) nowhere 64 ∙ ap (λ p. replicate 64 p) is) packs

pub returns-in-Ok : goal.returns-in-Ok
returns-in-Ok g c =
    let state = state_of c.args.plan.now in
    let after = c.pack-packed.new.results in
    let at_zero = ap (carry_placed count_of) c.unplaced-results.ensures in
    let before = replicate 64 c.unplaced-results.result in
    let packs = subst (λ r. Packs counted_lengths (task_at state c.args.sides.now) before r after) c.in-Ok.is c.pack-packed.ensures.model in
    let lines = listed state c.args.sides.now c.unplaced-results.result after (Ok c.in-Ok.chip) at_zero packs in
    let few : c.modules.result ≤ length after = search rules in
    let front = front_packed after c.modules.result (carry_chip count_of c.in-Ok.chip) few in
    search (rules, append_assoc, lines, front)

pub returns-in-Err : goal.returns-in-Err
returns-in-Err g c =
    let state = state_of c.args.plan.now in
    let after = c.pack-packed.new.results in
    let at_zero = ap (carry_placed count_of) c.unplaced-results.ensures in
    let before = replicate 64 c.unplaced-results.result in
    let packs = subst (λ r. Packs counted_lengths (task_at state c.args.sides.now) before r after) c.in-Err.is c.pack-packed.ensures.model in
    let lines = listed state c.args.sides.now c.unplaced-results.result after (Err c.in-Err.field-0) at_zero packs in
    search (rules, append_assoc, lines)
