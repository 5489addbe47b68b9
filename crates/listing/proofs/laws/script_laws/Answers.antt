-- Each part is a law of the model or of packings, at the states of a script.
use Rattle.plans.specs.Packing.{at_origin}
use Rattle.listing.proofs.Packings.{map_replicate}
use Rattle.listing.proofs.ScriptEnds.{runs_to_its_end}
use Rattle.listing.proofs.laws.script_laws.Goals as goal
use Rattle.listing.specs.CommandLines.{state_after}
use Rattle.listing.specs.PrintedPackings.{PrintedPackings}
use Rattle.plans.proofs.CarriedPackings.{packs_carried, long_carries}
use Rattle.plans.proofs.KindLaws.{join_laws, counted_lawful}
use Rattle.plans.proofs.ModelLaw.{act_keeps}
use Rattle.plans.proofs.PackingAnswers.{pack_answers}
use Rattle.plans.specs.Calls.{change, keep, undo}
use Rattle.plans.specs.CarriedPackings.{carry_task, carry_placed}
use Rattle.plans.specs.Kinds.{plain_kind, counted_kind}
use Rattle.plans.specs.Model.{State, task_at}
use Rattle.plans.specs.ModelLaw.{FeasibleState}
use Rattle.plans.specs.PackingCalls.{after_pack}
use Rattle.sheets.specs.declared.command.Command.{Command}
use Rattle.sheets.specs.declared.command.Command.TheVariants as commands
use Rattle.std.proofs.Common.{replicate, sym, ap, ◌∙◌}

stays_feasible : (s : State) (c : Command) → FeasibleState s → FeasibleState (state_after s c)
stays_feasible s (commands.Change c) f = act_keeps s (change c) f
stays_feasible s commands.Keep f = act_keeps s keep f
stays_feasible s commands.Undo f = act_keeps s undo f
stays_feasible s commands.Pack f = f

packings : PrintedPackings
packings =
    record {
      feasible = stays_feasible;
      least = λ s sides chip f e.
          pack_answers counted_kind counted_lawful.sum (join_laws counted_kind counted_lawful) (task_at s sides) f.current
          (replicate 64 (at_origin counted_kind)) chip e;
      plain = λ s sides.
          sym ((packs_carried counted_kind plain_kind (λ a. a.long) long_carries).pack (task_at s sides) (replicate 64 (at_origin counted_kind)))
          ∙ ap (after_pack plain_kind (carry_task (λ a. a.long) (task_at s sides)))
          (map_replicate (carry_placed (λ a. a.long)) (at_origin counted_kind) 64);
    }

pub returns : goal.returns
returns c = record { ends = runs_to_its_end; packings = packings }
