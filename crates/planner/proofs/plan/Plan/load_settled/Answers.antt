-- A load that is done leaves no module rotated; a refused one leaves everything.
use Rattle.std.proofs.Common.{refl}
use Rattle.std.proofs.lemmas.Result.{err_from_is_err_and}
use Rattle.std.specs.Option.{option_map}
use Rattle.module_set.specs.Members.{member}
use Rattle.plans.proofs.PublishedLoad.{feasible_published}
use Rattle.plans.specs.Changes.{after_load}
use Rattle.planner.proofs.ModelSteps.{not_open, load_done, load_refused}
use Rattle.planner.proofs.StepsInWords.{load_admits}
use Rattle.planner.specs.Layouts.{noted_layout}
use Rattle.planner.specs.States.{state_of}
use Rattle.planner.proofs.plan.Plan.load_settled.Goals as goal

pub returns-in_err-load-clause-model : goal.returns-in_err-load-clause-model
returns-in_err-load-clause-model g c =
    let p = c.args.self.now in
    let means = g.R.Representation.means in
    let e = err_from_is_err_and c.from_residual.result c.from_residual.ensures.1 in
    rw (e.1, e.2)
    (load_refused (state_of p) (option_map noted_layout p.trial) (not_open p.trial c.requires)
    (after_load c.args.codes.now c.args.sequence.now) c.in_err-load.field-0.0 (means p.current.representation)
    (means c.load.new.self.representation) (member c.load.new.self.rotated) c.in_err-load.ensures.plan refl
    c.in_err-load.ensures.rotated refl)

pub returns-clause-model : goal.returns-clause-model
returns-clause-model g c =
    let p = c.args.self.now in
    let means = g.R.Representation.means in
    load_done (state_of p) (option_map noted_layout p.trial) (not_open p.trial c.requires)
    (after_load c.args.codes.now c.args.sequence.now) (means p.current.representation)
    (means c.load.new.self.representation) (member c.load.new.self.rotated) c.in_ok-load.ensures.plan
    c.in_ok-load.ensures.rotated

pub returns-in_err-load-clause-admits : goal.returns-in_err-load-clause-admits
returns-in_err-load-clause-admits g c =
    load_admits (state_of c.args.self.now) _ c.args.codes.now c.args.sequence.now c.from_residual.result
    (returns-in_err-load-clause-model g c)

pub returns-clause-admits : goal.returns-clause-admits
returns-clause-admits g c =
    load_admits (state_of c.args.self.now) _ c.args.codes.now c.args.sequence.now _ (returns-clause-model g c)

pub returns-clause-published : goal.returns-clause-published
returns-clause-published g c = λ done. feasible_published _ (g.met.R.Representation.feasible c.load.new.self.representation)
