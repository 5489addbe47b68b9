-- What each packing call answers and leaves in the result list: its first refusal, or the chip.
use Rattle.std.specs.Prelude.{ℕ, Bool, cond, not, ◌&&◌, ◌||◌, List, length, Some, None, Ok, Err, Option, Result, ◌==◌, nat_le, nat_lt, slice_index_or}
use Rattle.std.specs.Option.{option_map}
use Rattle.plans.specs.Axes.{stuck}
use Rattle.plans.specs.Kinds.{Kind, possible_side, pin_limit}
use Rattle.plans.specs.Packing.{Task, Pins, no_sides, no_pins, one_pin, rotated_task, axis_of, packed_chip, packed_list}
use Rattle.plans.specs.Search.{first_below, or_else, refusing}
use Rattle.plans.specs.declared.measures.Sides.{Sides}
use Rattle.plans.specs.declared.measures.Placed.{Placed}
use Rattle.plans.specs.declared.measures.Chip.{Chip}
use Rattle.plans.specs.declared.pack_refusals.PackRefusal.{PackRefusal}
use Rattle.plans.specs.declared.pack_refusals.PackRefusal.TheVariants.{WrongSides, ShortResults, WrongSide}
use Rattle.plans.specs.declared.pack_refusals.PinnedRefusal.{PinnedRefusal}
use Rattle.plans.specs.declared.pack_refusals.PinnedRefusal.TheVariants as pinned
use Rattle.plans.specs.declared.pack_refusals.RotationRefusal.{RotationRefusal}
use Rattle.plans.specs.declared.pack_refusals.RotationRefusal.TheVariants as rotation

-- what a packing call answers, and the result list after it
pub record Outcome (L E : Type 0) : Type 0 where
  pub answer : Result (Chip L) E
  pub results : List (Placed L)

module _ {L : Type 0} (K : Kind L) where
  -- a module one of whose sides is not possible
  abbrev pub wrong_side : List (Sides L) → ℕ → Bool
  wrong_side sides i =
      let s = slice_index_or sides i (no_sides K) in
      not (possible_side K s.width && possible_side K s.height)

  -- the first refusal of any packing
  abbrev pub pack_refusal : Task L → List (Placed L) → Option PackRefusal
  pack_refusal t results =
      or_else (refusing (not (length t.sides == t.plan.size)) WrongSides)
      (or_else (refusing (nat_lt (length results) t.plan.size) ShortResults)
      (option_map WrongSide (first_below t.plan.size (wrong_side t.sides))))

  -- the first refusal of a packing with a module pinned, but for "no place"
  abbrev pub pin_refusal : Task L → List (Placed L) → ℕ → L → L → Option PinnedRefusal
  pin_refusal t results a across up =
      or_else (option_map pinned.Packing (pack_refusal t results))
      (or_else (refusing (nat_le t.plan.size a) pinned.NoModule)
      (refusing (nat_lt pin_limit (K.reach across) || nat_lt pin_limit (K.reach up)) pinned.FarPin))

  -- no placement has the pins: along one of the axes a module is pushed past its pin
  abbrev pub no_place : Task L → Pins L → Bool
  no_place t pins = stuck K (axis_of K t pins 1) || stuck K (axis_of K t pins 2)

  -- the first refusal of a packing with a module rotated once more
  abbrev pub rotation_refusal : Task L → List (Placed L) → ℕ → Option RotationRefusal
  rotation_refusal t results a =
      or_else (option_map rotation.Packing (pack_refusal t results))
      (refusing (nat_le t.plan.size a) rotation.NoModule)

  -- a refusal with the list as it was, or else another outcome
  abbrev pub refused_or : {E : Type 0} → Option E → List (Placed L) → Outcome L E → Outcome L E
  refused_or (Some e) results other = record { answer = Err e; results = results }
  refused_or None results other = other

  -- the chip with the list of a packing
  abbrev pub packed_outcome : {E : Type 0} → Task L → Pins L → List (Placed L) → Outcome L E
  packed_outcome t pins results = record { answer = Ok (packed_chip K t pins); results = packed_list K t pins results }

  -- pack
  abbrev pub after_pack : Task L → List (Placed L) → Outcome L PackRefusal
  after_pack t results = refused_or (pack_refusal t results) results (packed_outcome t no_pins results)

  -- pack with module a pinned; where there is no place, the list holds the packing without the pin
  abbrev pub after_pack_pinned : Task L → List (Placed L) → ℕ → L → L → Outcome L PinnedRefusal
  after_pack_pinned t results a across up =
      let pins = one_pin a across up in
      refused_or (pin_refusal t results a across up) results
      (cond (no_place t pins)
      (record { answer = Err pinned.NoPlace; results = packed_list K t no_pins results })
      (packed_outcome t pins results))

  -- pack as if module a were rotated once more
  abbrev pub after_pack_rotated : Task L → List (Placed L) → ℕ → Outcome L RotationRefusal
  after_pack_rotated t results a =
      refused_or (rotation_refusal t results a) results (packed_outcome (rotated_task t a) no_pins results)
