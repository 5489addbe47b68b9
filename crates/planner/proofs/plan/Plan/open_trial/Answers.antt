-- A change that is done notes what was current; a refused one leaves everything.
use Rattle.std.proofs.Common.{◌≡◌, false, is_some, Some, Ok}
use Rattle.std.specs.Option.{option_map}
use Rattle.module_set.specs.Members.{member}
use Rattle.plans.proofs.PublishedLoad.{feasible_published}
use Rattle.plans.specs.Calls.{change}
use Rattle.plans.specs.Changes.{Follows, after_change}
use Rattle.plans.specs.Model.{model_change}
use Rattle.plans.specs.declared.change.Change.{Change}
use Rattle.planner.proofs.ModelSteps.{not_open, change_done}
use Rattle.planner.proofs.StepsInWords.{change_edges, act_rotations}
use Rattle.planner.specs.Calls.{Steps}
use Rattle.planner.specs.Layouts.{Rotates, layout_of, noted_layout}
use Rattle.planner.specs.States.{state_of}
use Rattle.planner.specs.declared.current.Current.{Current}
use Rattle.planner.specs.declared.noted.Noted.{Noted}
use Rattle.planner.specs.declared.plan.Plan.{Plan}
use Rattle.planner.proofs.plan.Plan.open_trial.Goals as goal
use Rattle.representations.specs.declared.representation.Representation.{Ghosts}

-- what is current after the change, with what the trial notes, is the model's step
opened :
    {R : Type 0} {g : Ghosts R} (p : Plan R g) (c : Change) (now : Current R) (noted : Noted) → is_some p.trial ≡ false
    → Follows (after_change (g.means p.current.representation) c) (Ok tt) (g.means p.current.representation) (g.means now.representation)
    → Rotates c (Ok tt) (member p.current.rotated) (member now.rotated) → noted_layout noted ≡ layout_of g.means p.current
    → Steps (model_change (state_of p) c) (record { current = layout_of g.means now; noted = option_map noted_layout (Some noted) }) (Ok tt)
opened {g = g} p c now noted closed plan turned same =
    change_done (state_of p) (option_map noted_layout p.trial) (not_open p.trial closed) c
    (after_change (g.means p.current.representation) c) (g.means p.current.representation) (g.means now.representation)
    (member now.rotated) (noted_layout noted) plan same turned

pub returns-clause-model : goal.returns-clause-model
returns-clause-model g c =
    opened c.args.self.now c.args.change c.apply.new.self c.new-noted.result c.requires c.in_ok-apply.ensures.plan
    c.in_ok-apply.ensures.rotated c.new-noted.ensures

pub returns-clause-edges : goal.returns-clause-edges
returns-clause-edges g c =
    let p = c.args.self.now in
    change_edges (state_of p) _ c.args.change _ (g.met.R.Representation.feasible p.current.representation)
    (returns-clause-model g c)

pub returns-clause-published : goal.returns-clause-published
returns-clause-published g c = λ done. feasible_published _ (g.met.R.Representation.feasible c.apply.new.self.representation)

pub invariant_of-self-2 : goal.invariant_of-self-2
invariant_of-self-2 g c =
    let p = c.args.self.now in
    record {
      rotations =
          act_rotations (state_of p) _ (change c.args.change) _
          (opened p c.args.change c.apply.new.self c.new-noted.result c.requires c.in_ok-apply.ensures.plan
          c.in_ok-apply.ensures.rotated c.new-noted.ensures) p.rotations;
    }
