-- The model's runs keep the law: floorplans as published, least packings, and the account of the answers.
use Rattle.std.proofs.Common.{◌≡◌, List, [], ◌∷◌, ◌++◌, sym, refl, ap, ◌∙◌, subst}
use Rattle.plans.proofs.Accounts.{FromModel, calls_account}
use Rattle.plans.proofs.KindLaws.{join_laws}
use Rattle.plans.proofs.ModelLaw.{calls_keep, made_feasible}
use Rattle.plans.proofs.PackingAnswers.{pack_answers, pinned_answers, rotated_answers}
use Rattle.plans.proofs.PublishedLoad.{feasible_published}
use Rattle.plans.specs.Accounts.{new_account, accounted}
use Rattle.plans.specs.Calls.{Packing, pack, pack_pinned, pack_with_rotation, PackingOutcome, Call, packs, Told, calls_of}
use Rattle.plans.specs.Kinds.{Kind, Lawful}
use Rattle.plans.specs.Model.{State, made_of, task_at}
use Rattle.plans.specs.ModelRuns.{model_packing, after_call, after_calls, model_answer, model_told}
use Rattle.plans.specs.RunKept.{PackingKept, RunKept, ModelKeeps, RunsAccounted}
use Rattle.plans.specs.Tables.{Floorplan, Feasible}

-- what a packing answers and writes at a feasible state
packing_kept :
    {L : Type 0} (K : Kind L) → Lawful K → (s : State) → Feasible s.current.plan → (p : Packing L)
    → PackingKept K s p (model_packing K s p)
packing_kept K law s f (pack h) = pack_answers K law.sum (join_laws K law) (task_at s h.sides) f h.before
packing_kept K law s f (pack_pinned h a across up) =
    pinned_answers K law.sum (join_laws K law) (task_at s h.sides) f h.before a across up
packing_kept K law s f (pack_with_rotation h a) =
    rotated_answers K law.sum (join_laws K law) (task_at s h.sides) f h.before a

module _ {I : Type 0} {L : I → Type 0} (K : (kind : I) → Kind (L kind)) where
  -- the calls of what the model tells, and its answers
  told_calls : (s : State) (cs : List (Call L)) → calls_of (model_told K s cs) ≡ cs
  told_calls s [] = refl
  told_calls s (c ∷ cs) = ap (λ ds. c ∷ ds) (told_calls (after_call s c) cs)

  from_model : (s : State) (cs : List (Call L)) → FromModel K s (model_told K s cs)
  from_model s [] = tt
  from_model s (c ∷ cs) = (refl, from_model (after_call s c) cs)

  -- the model's answers up to a point
  from_front : (s : State) (earlier later : List (Told L)) → FromModel K s (earlier ++ later) → FromModel K s earlier
  from_front s [] later m = tt
  from_front s (t ∷ ts) later m = (m.0, from_front (after_call s t.call) ts later m.1)

  -- and the one there
  from_at :
      (s : State) (earlier : List (Told L)) (t : Told L) (later : List (Told L)) → FromModel K s (earlier ++ (t ∷ later))
      → t.answer ≡ model_answer K (after_calls s (calls_of earlier)) t.call
  from_at s [] t later m = m.0
  from_at s (e ∷ es) t later m = from_at (after_call s e.call) es t later m.1

  module _ (laws : (kind : I) → Lawful (K kind)) (made : Floorplan) (f : Feasible made) (told : List (Told L)) where
    abbrev first : State
    first = made_of made

    -- calls with the model's answers account for the state that they lead to, which is feasible
    here :
        (earlier : List (Told L)) → FromModel K first earlier
        → after_calls first (calls_of earlier) ≡ accounted made earlier
    here earlier m = calls_account first K new_account first earlier m refl

    here_feasible : (earlier : List (Told L)) → FromModel K first earlier → Feasible (accounted made earlier).current.plan
    here_feasible earlier m =
        subst (λ (s : State). Feasible s.current.plan) (here earlier m)
        (calls_keep first (calls_of earlier) (made_feasible made f)).current

    -- answers that are the model's keep the law
    pub told_kept :
        FromModel K first told → told ≡ model_told K first (calls_of told)
        → RunKept K made told (after_calls first (calls_of told))
    told_kept m answers =
        record {
          published = λ earlier later same.
              feasible_published _ (here_feasible earlier (from_front first earlier later (subst (FromModel K first) same m)));
          packed = λ earlier later kind p outcome same.
              let t : Told L = record { call = packs kind p; answer = outcome } in
              let all = subst (FromModel K first) same m in
              let before = from_front first earlier (t ∷ later) all in
              subst (λ (o : PackingOutcome p). PackingKept (K kind) (accounted made earlier) p o)
              (sym (from_at first earlier t later all ∙ ap (λ s. model_packing (K kind) s p) (here earlier before)))
              (packing_kept (K kind) (laws kind) (accounted made earlier) (here_feasible earlier before) p);
          account = here told m;
          state = refl;
          answers = answers;
        }

  -- so does the model, whatever is called
  pub model_keeps : ModelKeeps K
  model_keeps laws made f cs =
      let s = made_of made in
      let back = told_calls s cs in
      subst (λ (ds : List (Call L)). RunKept K made (model_told K s cs) (after_calls s ds)) back
      (told_kept laws made f (model_told K s cs) (from_model s cs) (ap (model_told K s) (sym back)))

  -- and it accounts for its state, whatever it was made over and whatever the kinds are
  pub runs_accounted : RunsAccounted K
  runs_accounted made cs =
      let s = made_of made in
      let ts = model_told K s cs in
      sym (ap (after_calls s) (told_calls s cs)) ∙ calls_account s K new_account s ts (from_model s cs) refl
