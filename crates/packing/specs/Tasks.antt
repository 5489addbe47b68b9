-- What the packer is handed, in the words of the definitions.
use Rattle.std.specs.Prelude.{◌≡◌, Some, None, Ok, Err, Option, Result}
use Rattle.module_set.specs.Members.{member}
use Rattle.plans.specs.Packing.{Task, Pins, no_pins, one_pin}
use Rattle.plans.specs.Tables.{Floorplan}
use Rattle.packing.specs.declared.job.Job.{Job}
use Rattle.packing.specs.declared.pin.Pin.{Pin}

-- the task of a job
abbrev pub task_of : {R L : Type 0} → (R → Floorplan) → Job R L → Task L
task_of means job =
    record { plan = means job.representation.now; rotated = member job.rotated; sides = job.sides.now }

-- the fixed near edges of a pin
abbrev pub pin_of : {L : Type 0} → Pin L → Pins L
pin_of p = one_pin p.«module» p.across p.up

-- those of a pin, if there is one
abbrev pub pins_of : {L : Type 0} → Option (Pin L) → Pins L
pins_of None = no_pins
pins_of (Some p) = pin_of p

-- a test answers a refusal, if there is one
abbrev pub Refuses : {E : Type 0} → Option E → Result (Unit {0}) E → Type 0
Refuses refusal (Ok _) = refusal ≡ None
Refuses refusal (Err e) = refusal ≡ Some e
