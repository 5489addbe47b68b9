-- The calls are a run, by what each promises, so the law of the plan's runs holds of them.
use Rattle.std.proofs.Common.{List, [], ◌∷◌, ◌++◌, refl, subst}
use Rattle.lengths.specs.CountedLengths.{counted_lengths}
use Rattle.lengths.specs.Families.{two_kinds, two_lawful, lengths_of_two}
use Rattle.lengths.specs.OfferedLemmas.{plain_laws, counted_laws}
use Rattle.lengths.specs.PlainLengths.{plain_lengths}
use Rattle.lengths.specs.declared.counted.Counted.{Counted}
use Rattle.lengths.specs.declared.plain.Plain.{Plain}
use Rattle.plans.specs.Calls.{load, acts, Told}
use Rattle.plans.specs.RunKept.{RunKept}
use Rattle.plans.specs.Transposed.{transpose}
use Rattle.planner.proofs.JoinedRuns.{runs_join}
use Rattle.planner.specs.PlanRuns.{Run}
use Rattle.planner.specs.States.{state_of}
use Rattle.plan_tests.specs.SampleRuns.{tried_told, undone_told, packed_told}
use Rattle.plan_tests.proofs.sample.sample_run.Goals as goal

pub returns : goal.returns
returns c =
    let K = two_kinds plain_lengths counted_lengths in
    let w = c.args.wanted.now in
    let p = c.load-loaded.new.self in
    let q = c.try_and_keep-tried.new.plan in
    let r = c.try_and_undo-undone.new.plan in
    let tried =
    tried_told w c.args.pinned_list.now c.try_and_keep-tried.new.pinned_list c.args.rotated_list.now
    c.try_and_keep-tried.new.rotated_list c.try_and_keep-tried.result in
    let undone : List (Told (lengths_of_two Plain Counted)) = undone_told w.undone c.try_and_undo-undone.result in
    let short = packed_told w c.args.short_list.now c.pack-short.new.results c.pack-short.result ∷ [] in
    let told =
    record { call = acts (load w.codes.now w.sequence.now); answer = c.load-loaded.result }
    ∷ packed_told w c.args.plain_list.now c.pack-packed.new.results c.pack-packed.result
    ∷ (tried ++ (undone ++ short)) in
    let run : Run K c.over-plan.result told r = (
      p,
      c.load-loaded.ensures.model,
      (
        p,
        (c.pack-packed.ensures.model, refl),
        runs_join K p tried q (undone ++ short) r c.try_and_keep-tried.ensures
            (runs_join K q undone r short r c.try_and_undo-undone.ensures (r, (c.pack-short.ensures.model, refl), refl)),
      ),
    ) in
    subst (λ made. RunKept K (transpose made) told (state_of r)) c.new.ensures
    (c.over-plan.ensures.law (two_lawful plain_lengths counted_lengths plain_laws counted_laws) told r run)
