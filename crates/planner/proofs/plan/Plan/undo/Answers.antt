-- What a trial noted rotates modules alone.
use Rattle.std.proofs.Common.{sym, ap, subst}
use Rattle.std.specs.Option.{option_map}
use Rattle.plans.proofs.ModelLaw.{none_noted}
use Rattle.plans.specs.ModelLaw.{WhatNoted, RotatesModules}
use Rattle.planner.specs.Layouts.{noted_layout}
use Rattle.planner.proofs.plan.Plan.undo.Goals as goal

pub invariant_of-self-2 : goal.invariant_of-self-2
invariant_of-self-2 g c =
    let noted = c.in-Some.noted in
    record {
      rotations = (
        subst RotatesModules (sym c.restore.ensures)
            (c.args.self.now.rotations.1 (noted_layout noted) (ap (option_map noted_layout) (sym c.in-Some.ensures.value))),
        subst (λ o. WhatNoted RotatesModules (option_map noted_layout o)) (sym c.in-Some.ensures.after) (none_noted RotatesModules),
      );
    }
