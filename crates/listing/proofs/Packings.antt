-- A packing in counted lengths prints what the definition says, in their numbers.
use Rattle.plans.specs.Packing.{at_origin}
use Rattle.std.proofs.Common.{◌≡◌, ℕ, zero, suc, List, ◌∷◌, map, replicate, Result, sym, refl, ap, ◌∙◌}
use Rattle.lengths.specs.OfferedLemmas.{count_carries}
use Rattle.lengths.specs.CountedLengths.{count_of, counted_lengths}
use Rattle.lengths.specs.declared.counted.Counted.{Counted}
use Rattle.listing.specs.PackLines.{pack_lines, packed_lines}
use Rattle.packing.specs.Calls.{Packs}
use Rattle.plans.proofs.CarriedPackings.{packs_carried}
use Rattle.plans.specs.CarriedPackings.{carry_outcome, carry_placed, carry_sides}
use Rattle.plans.specs.Kinds.{Count, counted_kind}
use Rattle.plans.specs.Model.{State, task_at}
use Rattle.plans.specs.PackingCalls.{Outcome, after_pack}
use Rattle.plans.specs.declared.measures.Chip.{Chip}
use Rattle.plans.specs.declared.measures.Placed.{Placed}
use Rattle.plans.specs.declared.measures.Sides.{Sides}
use Rattle.plans.specs.declared.pack_refusals.PackRefusal.{PackRefusal}

-- what an answer and a result list say, in the numbers of their lengths
abbrev pub in_numbers : Result (Chip Counted) PackRefusal → List (Placed Counted) → Outcome Count PackRefusal
in_numbers answer results = carry_outcome count_of (record { answer = answer; results = results })

-- a list of one record many times
pub map_replicate : {X Y : Type 0} (f : X → Y) (x : X) (n : ℕ) → map f (replicate n x) ≡ replicate n (f x)
map_replicate f x zero = refl
map_replicate f x (suc n) = ap (λ ys. f x ∷ ys) (map_replicate f x n)

pub pack_listed :
    (s : State) (sides : List (Sides Counted)) (before after : List (Placed Counted)) (answer : Result (Chip Counted) PackRefusal)
    → map (carry_placed count_of) before ≡ replicate 64 (at_origin counted_kind)
    → Packs counted_lengths (task_at s sides) before answer after
    → pack_lines s (map (carry_sides count_of) sides)
    ≡ packed_lines s.current.plan.size (in_numbers answer after).results (in_numbers answer after).answer
pack_listed s sides before after answer blank packs =
    let counted = map (carry_sides count_of) sides in
    let lines : Outcome Count PackRefusal → List ℕ = λ o. packed_lines s.current.plan.size o.results o.answer in
    let given : Outcome Counted PackRefusal = after_pack counted_lengths (task_at s sides) before in
    let same : given ≡ record { answer = answer; results = after } =
    λ i. record { answer = sym packs.0 i; results = sym packs.1 i } in
    ap (λ rs. lines (after_pack counted_kind (task_at s counted) rs)) (sym blank)
    ∙ ap lines ((packs_carried counted_lengths counted_kind count_of count_carries).pack (task_at s sides) before)
    ∙ ap (λ o. lines (carry_outcome count_of o)) same
