-- A call given as data, with its answer and its list before and after, as a link of a run.
use Rattle.std.specs.Prelude.{◌≡◌, List}
use Rattle.lengths.specs.Families.{lengths_of_one, one_kind}
use Rattle.plans.specs.Calls as calls
use Rattle.plans.specs.Kinds.{Kind}
use Rattle.plans.specs.declared.measures.Placed.{Placed}
use Rattle.planner.specs.Calls.{without_decision, without_return}
use Rattle.planner.specs.PlanRuns.{Links}
use Rattle.planner.specs.declared.plan.Plan.{Plan}
use Rattle.planner.specs.declared.plan_call.PlanAnswer.{PlanAnswer}
use Rattle.planner.specs.declared.plan_call.PlanAnswer.TheVariants as answers
use Rattle.planner.specs.declared.plan_call.PlanCall.{PlanCall}
use Rattle.planner.specs.declared.plan_call.PlanCall.TheVariants as wanted
use Rattle.representations.specs.declared.representation.Representation.{Ghosts}

module _ {R L : Type 0} {g : Ghosts R} (K : Kind L) where
  -- one link of a run whose packings are in one kind of length
  abbrev pub OneLink : Plan R g → (c : calls.Call (lengths_of_one L)) → calls.AnswerTo c → Plan R g → Type 0
  OneLink before c told after = Links (one_kind K) before c told after

  -- a packing of a plan, with the list before and after it
  abbrev pub PackingLink : Plan R g → (p : calls.Packing L) → calls.PackingOutcome p → Plan R g → Type 0
  PackingLink before p told after = OneLink before (calls.packs tt p) told after

  -- the call is made, and what is no packing leaves the list; no call has the answer of another
  abbrev pub Performs : Plan R g → PlanCall L → List (Placed L) → PlanAnswer L → List (Placed L) → Plan R g → Type 0
  Performs p (wanted.Load codes sequence) before (answers.Loaded r) after q =
      OneLink p (calls.acts (calls.load codes.now sequence.now)) r q × (after ≡ before)
  Performs p (wanted.Change c) before (answers.Changed r) after q =
      OneLink p (calls.acts (calls.change c)) (without_decision r) q × (after ≡ before)
  Performs p (wanted.Keep d) before (answers.Kept r) after q =
      OneLink p (calls.acts calls.keep) (without_return r) q × (after ≡ before)
  Performs p (wanted.Undo d) before (answers.Undone r) after q =
      OneLink p (calls.acts calls.undo) (without_return r) q × (after ≡ before)
  Performs p (wanted.Pack sides) before (answers.Packed r) after q =
      PackingLink p (calls.pack (record { sides = sides.now; before = before })) (record { answer = r; results = after }) q
  Performs p (wanted.PackPinned sides pin) before (answers.PackedPinned r) after q =
      PackingLink p (calls.pack_pinned (record { sides = sides.now; before = before }) pin.«module» pin.across pin.up)
      (record { answer = r; results = after }) q
  Performs p (wanted.PackWithRotation sides a) before (answers.PackedRotated r) after q =
      PackingLink p (calls.pack_with_rotation (record { sides = sides.now; before = before }) a)
      (record { answer = r; results = after }) q
  Performs p wanted.Modules before (answers.HasModules n) after q = OneLink p (calls.asks calls.how_many) n q × (after ≡ before)
  Performs p (wanted.Code i j) before (answers.HasCode n) after q = OneLink p (calls.asks (calls.code_between i j)) n q × (after ≡ before)
  Performs p (wanted.ModuleAt place) before (answers.HasModule o) after q =
      OneLink p (calls.asks (calls.module_in place)) o q × (after ≡ before)
  Performs p (wanted.IsRotated a) before (answers.Rotated b) after q =
      OneLink p (calls.asks (calls.whether_rotated a)) b q × (after ≡ before)
  Performs p wanted.IsOnTrial before (answers.OnTrial b) after q = OneLink p (calls.asks calls.whether_on_trial) b q × (after ≡ before)
  Performs p _ before _ after q = ⊥
