-- Runs worked by hand: what the model makes of calls and answers to them, and the account of what was answered.
use Rattle.std.specs.Prelude.{◌≡◌, ℕ, true, false, cond, List, [], ◌∷◌, map, Some, None, Ok, Err, ◌==◌}
use Rattle.plans.specs.Accounts.{Account, making, loading, new_account, account_from, acts_of, accounted}
use Rattle.plans.specs.Calls.{Act, load, change, keep, undo, pack, pack_pinned, pack_with_rotation, code_between, whether_rotated, whether_on_trial, Call, acts, packs, asks, Told}
use Rattle.plans.specs.Kinds.{plain_kind}
use Rattle.plans.specs.Model.{State, made_of, model_change}
use Rattle.plans.specs.ModelRuns.{after_calls, model_told}
use Rattle.plans.specs.Tables.{Floorplan}
use Rattle.plans.specs.declared.change.Change.TheVariants.{Rotate, Swap, Reverse, MoveEdge}
use Rattle.plans.specs.declared.refusals.ChangeRefusal.TheVariants.{NoReductionEdge}
use Rattle.plans.specs.declared.refusals.PlanRefusal.TheVariants.{Refused}
use Rattle.plans.specs.declared.refusals.TrialRefusal.TheVariants.{NoTrial}
use Rattle.plans.specs.declared.pack_refusals.PinnedRefusal.TheVariants.{NoPlace}
use Rattle.plans.specs.Worked.{two_under_one, two_beside_one, two_beside_one_other, three, three_sides, placed, chip, blank}

-- calls with packings in plain lengths
abbrev pub PlainCall : Type 0
PlainCall = Call (λ (kind : Unit {0}). ℕ)

-- what the model answers to them over a floorplan
abbrev pub plainly_told : Floorplan → List PlainCall → List (Told (λ (kind : Unit {0}). ℕ))
plainly_told p calls = model_told (λ kind. plain_kind) (made_of p) calls

-- the state after acts over a floorplan
abbrev pub acted_on : Floorplan → List Act → State
acted_on p all = after_calls {L = λ (kind : Unit {0}). ℕ} (made_of p) (map (λ a. acts a) all)

-- the account of them
abbrev pub account_on : Floorplan → List Act → Account
account_on p all = account_from new_account (acts_of (plainly_told p (map (λ a. acts a) all)))

-- what the definitions give for each run
pub record WorkedRuns : Type 0 where
  -- a move that takes another module along, kept; then the other edge is no reduction edge
  pub moved :
      acted_on two_beside_one_other (change (MoveEdge 0 1) ∷ keep ∷ []) ≡ made_of (three 0 2 0 0 0 0 2 2 0 2 0 1)
  pub moved_then_not :
      (model_change (acted_on two_beside_one_other (change (MoveEdge 0 1) ∷ keep ∷ [])) (MoveEdge 2 1)).answer
      ≡ Err (Refused NoReductionEdge)
  -- rotations stay with their modules: a rotation kept, a swap undone, and a load that is refused in a trial
  pub rotation_kept :
      (acted_on two_under_one (change (Rotate 1) ∷ keep ∷ change (Swap 0 2) ∷ load [] [] ∷ undo ∷ [])).current.rotated 1 ≡ true
  pub plan_restored :
      (acted_on two_under_one (change (Rotate 1) ∷ keep ∷ change (Swap 0 2) ∷ load [] [] ∷ undo ∷ [])).current.plan
      ≡ two_under_one
  -- the account of a run: a refused change and an undone one leave no trace, a kept one and one on trial do
  pub account_told :
      account_on two_under_one (change (Reverse 1 0) ∷ change (Swap 0 2) ∷ undo ∷ change (Reverse 0 1) ∷ keep ∷ change (Rotate 2) ∷ [])
      ≡ record { origin = making; kept = Reverse 0 1 ∷ []; trial = Some (Rotate 2) }
  pub account_loaded :
      account_on two_under_one (change (Rotate 2) ∷ keep ∷ load two_beside_one.codes two_beside_one.sequence ∷ keep ∷ [])
      ≡ record { origin = loading two_beside_one.codes two_beside_one.sequence; kept = []; trial = None }
  -- and the plan that it gives: as made, with one change kept and one on trial; as loaded, with one kept
  pub accounted_on_trial :
      accounted two_under_one (plainly_told two_under_one (acts (change (Reverse 0 1)) ∷ acts keep ∷ acts (change (Rotate 2)) ∷ acts (load [] []) ∷ []))
      ≡ record {
        current = record { plan = three 0 0 2 1 0 2 0 0 0 1 0 2; rotated = λ i. cond (i == 2) true false };
        noted = Some (record { plan = three 0 0 2 1 0 2 0 0 0 1 0 2; rotated = λ i. false });
      }
  pub accounted_since_load :
      accounted two_under_one (plainly_told two_under_one (
      acts (change (Rotate 2)) ∷ acts keep ∷ acts (load two_beside_one.codes two_beside_one.sequence)
      ∷ acts (change (Reverse 0 1)) ∷ acts keep ∷ acts (change (Rotate 0)) ∷ acts undo ∷ []
      ))
      ≡ made_of (three 0 0 0 1 0 0 1 1 0 2 1 0)
  -- a run with packings and questions: module 2 rotated on trial, packed as it then lies and as if rotated once
  -- more; then undone, and packed with a module pinned too near
  pub run_told :
      plainly_told two_under_one (
      acts (change (Rotate 2))
      ∷ packs tt (pack (record { sides = three_sides; before = blank }))
      ∷ packs tt (pack_with_rotation (record { sides = three_sides; before = blank }) 2)
      ∷ asks (whether_rotated 2)
      ∷ acts undo
      ∷ packs tt (pack_pinned (record { sides = three_sides; before = blank }) 1 3 0)
      ∷ asks whether_on_trial
      ∷ asks (code_between 0 2)
      ∷ acts keep
      ∷ []
      ) ≡
      record { call = acts (change (Rotate 2)); answer = Ok tt }
      ∷ record {
        call = packs tt (pack (record { sides = three_sides; before = blank }));
        answer = record {
          answer = Ok (chip 7 8 56);
          results = placed 0 0 4 2 ∷ placed 4 0 7 3 ∷ placed 0 3 1 8 ∷ placed 9 9 9 9 ∷ [];
        };
      }
      ∷ record {
        call = packs tt (pack_with_rotation (record { sides = three_sides; before = blank }) 2);
        answer = record {
          answer = Ok (chip 7 4 28);
          results = placed 0 0 4 2 ∷ placed 4 0 7 3 ∷ placed 0 3 5 4 ∷ placed 9 9 9 9 ∷ [];
        };
      }
      ∷ record { call = asks (whether_rotated 2); answer = true }
      ∷ record { call = acts undo; answer = Ok tt }
      ∷ record {
        call = packs tt (pack_pinned (record { sides = three_sides; before = blank }) 1 3 0);
        answer = record {
          answer = Err NoPlace;
          results = placed 0 0 4 2 ∷ placed 4 0 7 3 ∷ placed 0 3 5 4 ∷ placed 9 9 9 9 ∷ [];
        };
      }
      ∷ record { call = asks whether_on_trial; answer = false }
      ∷ record { call = asks (code_between 0 2); answer = 2 }
      ∷ record { call = acts keep; answer = Err NoTrial }
      ∷ []
