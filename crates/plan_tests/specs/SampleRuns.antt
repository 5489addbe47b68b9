-- The calls of the sample runs, each with what the run says that it was answered.
use Rattle.std.specs.Prelude.{ℕ, List, [], ◌∷◌, ◌++◌, Ok, Err, Result}
use Rattle.lengths.specs.declared.counted.Counted.{Counted}
use Rattle.lengths.specs.declared.plain.Plain.{Plain}
use Rattle.lengths.specs.CountedLengths.{counted_lengths}
use Rattle.lengths.specs.Families.{lengths_of_one, first_kind, second_kind, lengths_of_two, two_kinds}
use Rattle.lengths.specs.PlainLengths.{plain_lengths}
use Rattle.plans.specs.RunKept.{RunKept}
use Rattle.plans.specs.Tables.{no_modules}
use Rattle.plans.specs.Transposed.{transpose}
use Rattle.planner.specs.States.{state_of}
use Rattle.plans.specs.Calls as calls
use Rattle.plans.specs.Calls.{Told, acts, packs, asks, pack, pack_pinned, pack_with_rotation}
use Rattle.plans.specs.declared.change.Change.{Change}
use Rattle.plans.specs.declared.measures.Chip.{Chip}
use Rattle.plans.specs.declared.measures.Placed.{Placed}
use Rattle.plans.specs.declared.measures.Sides.{Sides}
use Rattle.plans.specs.declared.pack_refusals.PackRefusal.{PackRefusal}
use Rattle.plans.specs.declared.refusals.ChangeRefusal.{ChangeRefusal}
use Rattle.plans.specs.declared.refusals.PlanRefusal.{PlanRefusal}
use Rattle.representations.specs.declared.representation.Representation.{Ghosts}
use Rattle.plan_tests.specs.declared.asked.Asked.{Asked}
use Rattle.plan_tests.specs.declared.ending.Ending.TheVariants.{Keep, Undo}
use Rattle.plan_tests.specs.declared.ending.Ending.{Ending}
use Rattle.plan_tests.specs.declared.new_plan.TwoCalls.{TwoCalls}
use Rattle.plan_tests.specs.declared.sample.Sample.{Sample}
use Rattle.plan_tests.specs.declared.trial.Blocked.{Blocked}
use Rattle.plan_tests.specs.declared.trial.Tried.{Tried}
use Rattle.plan_tests.specs.declared.wanted.Wanted.{Wanted}

module _ {I : Type 0} {L : I → Type 0} where
  -- the three questions
  abbrev pub asked_told : ℕ → ℕ → Asked → List (Told L)
  asked_told i j a =
      record { call = asks (calls.code_between i j); answer = a.code }
      ∷ record { call = asks (calls.whether_rotated i); answer = a.rotated }
      ∷ record { call = asks calls.whether_on_trial; answer = a.on_trial } ∷ []

  -- the end of a trial, which is not refused
  abbrev pub end_told : Ending → List (Told L)
  end_told Keep = record { call = acts calls.keep; answer = Ok tt } ∷ []
  end_told Undo = record { call = acts calls.undo; answer = Ok tt } ∷ []

  -- a load, and another change, which is refused, during a trial
  abbrev pub blocked_told : List ℕ → List ℕ → Change → Blocked → List (Told L)
  blocked_told codes sequence c b =
      record { call = acts (calls.load codes sequence); answer = b.load }
      ∷ record { call = acts (calls.change c); answer = Err b.change } ∷ []

  -- a change, and the end of its trial where it is done
  abbrev pub undone_told : Change → Result (Unit {0}) (PlanRefusal ChangeRefusal) → List (Told L)
  undone_told c (Err e) = record { call = acts (calls.change c); answer = Err e } ∷ []
  undone_told c (Ok u) = record { call = acts (calls.change c); answer = Ok tt } ∷ end_told Undo

module _ {L M : Type 0} (w : Wanted L M) where
  -- a change, and the calls of its trial where it is done
  abbrev pub tried_told :
      List (Placed M) → List (Placed M) → List (Placed L) → List (Placed L) → Result (Tried L M) (PlanRefusal ChangeRefusal)
      → List (Told (lengths_of_two L M))
  tried_told pinned pinned' rotated rotated' (Err e) = record { call = acts (calls.change w.kept); answer = Err e } ∷ []
  tried_told pinned pinned' rotated rotated' (Ok t) =
      record { call = acts (calls.change w.kept); answer = Ok tt }
      ∷ record {
        call =
            packs second_kind (pack_pinned (record { sides = w.counts.now; before = pinned }) w.pin.«module» w.pin.across w.pin.up);
        answer = record { answer = t.pinned; results = pinned' };
      }
      ∷ record {
        call = packs first_kind (pack_with_rotation (record { sides = w.sides.now; before = rotated }) w.looked);
        answer = record { answer = t.once_more; results = rotated' };
      }
      ∷ (asked_told w.asked w.looked t.asked
      ++ (blocked_told w.codes.now w.sequence.now w.blocked t.blocked ++ end_told Keep))

-- a packing alone, in plain lengths
abbrev pub packed_told :
    Wanted Plain Counted → List (Placed Plain) → List (Placed Plain) → Result (Chip Plain) PackRefusal
    → Told (lengths_of_two Plain Counted)
packed_told w list list' r = record {
  call = packs first_kind (pack (record { sides = w.sides.now; before = list }));
  answer = record { answer = r; results = list' };
}

-- the whole run; each list stands as it was before its packing and as it is after it
abbrev pub sample_told :
    Wanted Plain Counted → List (Placed Plain) → List (Placed Plain) → List (Placed Counted) → List (Placed Counted)
    → List (Placed Plain) → List (Placed Plain) → List (Placed Plain) → List (Placed Plain) → Sample
    → List (Told (lengths_of_two Plain Counted))
sample_told w plain plain' pinned pinned' rotated rotated' short short' s =
    record { call = acts (calls.load w.codes.now w.sequence.now); answer = s.loaded }
    ∷ packed_told w plain plain' s.packed
    ∷ (tried_told w pinned pinned' rotated rotated' s.tried
    ++ (undone_told w.undone s.undone ++ packed_told w short short' s.short ∷ []))

-- the law's record of the whole run
abbrev pub SampleKept :
    Wanted Plain Counted → List (Placed Plain) → List (Placed Plain) → List (Placed Counted) → List (Placed Counted)
    → List (Placed Plain) → List (Placed Plain) → List (Placed Plain) → List (Placed Plain) → Sample → Type 0
SampleKept w plain plain' pinned pinned' rotated rotated' short short' s =
    RunKept (two_kinds plain_lengths counted_lengths) (transpose no_modules)
    (sample_told w plain plain' pinned pinned' rotated rotated' short short' s) (state_of s.plan)

-- a load and a packing of a new plan, in one kind of length
abbrev pub load_and_pack_told :
    {R L : Type 0} {g : Ghosts R} → List ℕ → List ℕ → List (Sides L) → List (Placed L) → List (Placed L) → TwoCalls R L g
    → List (Told (lengths_of_one L))
load_and_pack_told codes sequence sides list list' t =
    record { call = acts (calls.load codes sequence); answer = t.loaded }
    ∷ record {
      call = packs tt (pack (record { sides = sides; before = list }));
      answer = record { answer = t.packed; results = list' };
    }
    ∷ []
