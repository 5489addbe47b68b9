-- The law of runs: a run is one of the model, by what each call promises, and the model's runs keep the law.
use Rattle.std.proofs.Common.{◌≡◌, List, [], ◌∷◌, Result, sym, refl, ap, ◌∙◌, subst}
use Rattle.plans.proofs.RunKept.{model_keeps}
use Rattle.plans.specs.Calls as calls
use Rattle.plans.specs.Calls.{Act, ActRefusal, Packing, PackingOutcome, Call, AnswerTo, Told, calls_of}
use Rattle.plans.specs.Kinds.{Kind}
use Rattle.plans.specs.Model.{State, made_of}
use Rattle.plans.specs.ModelRuns.{model_act, model_packing, after_call, after_calls, model_answer, model_told}
use Rattle.plans.specs.RunKept.{RunKept}
use Rattle.plans.specs.Tables.{Floorplan, Feasible}
use Rattle.planner.specs.Calls.{Makes}
use Rattle.planner.specs.PlanRuns.{ActLinks, PackingLinks, Links, Run}
use Rattle.planner.specs.RunLaw.{RunLaw}
use Rattle.planner.specs.States.{state_of}
use Rattle.planner.specs.declared.plan.Plan.{Plan}
use Rattle.representations.specs.declared.representation.Representation.{Ghosts}

module _ {R : Type 0} {g : Ghosts R} where
  -- each act is a step of the model
  act_leads :
      (p q : Plan R g) (a : Act) (r : Result (Unit {0}) (ActRefusal a)) → ActLinks p a r q
      → (state_of q ≡ (model_act (state_of p) a).state) × (r ≡ (model_act (state_of p) a).answer)
  act_leads p q (calls.load codes sequence) r h = (h.leads, h.answers)
  act_leads p q (calls.change c) r (d, e, h) = (h.leads, e ∙ h.answers)
  act_leads p q calls.keep r (d, e, h) = (h.leads, e ∙ h.answers)
  act_leads p q calls.undo r (d, e, h) = (h.leads, e ∙ h.answers)

  -- each packing answers and writes what the model does
  packs_at :
      {L : Type 0} (K : Kind L) (p : Plan R g) (a : Packing L) (o : PackingOutcome a) → PackingLinks K p a o
      → o ≡ model_packing K (state_of p) a
  packs_at K p (calls.pack h) o e = λ i. record { answer = e.0 i; results = e.1 i }
  packs_at K p (calls.pack_pinned h a across up) o e = λ i. record { answer = e.0 i; results = e.1 i }
  packs_at K p (calls.pack_with_rotation h a) o e = λ i. record { answer = e.0 i; results = e.1 i }

  module _ {I : Type 0} {L : I → Type 0} (K : (kind : I) → Kind (L kind)) where
    -- so each call is a step of the model
    call_leads :
        (p q : Plan R g) (c : Call L) (r : AnswerTo c) → Links K p c r q
        → (state_of q ≡ after_call (state_of p) c) × (r ≡ model_answer K (state_of p) c)
    call_leads p q (calls.acts a) r h = act_leads p q a r h
    call_leads p q (calls.packs kind a) r h = (ap state_of h.1, packs_at (K kind) p a r h.0)
    call_leads p q (calls.asks a) r h = (ap state_of h.1, h.0)

    -- and a run is one of the model
    run_leads :
        (p : Plan R g) (ts : List (Told L)) (q : Plan R g) → Run K p ts q
        → (state_of q ≡ after_calls (state_of p) (calls_of ts)) × (ts ≡ model_told K (state_of p) (calls_of ts))
    run_leads p [] q h = (ap state_of h, refl)
    run_leads p (t ∷ ts) q (n, h, rest) =
        let a = call_leads p n t.call t.answer h in
        let b = run_leads n ts q rest in (
          b.0 ∙ ap (λ s. after_calls s (calls_of ts)) a.0,
          λ i. record { call = t.call; answer = a.1 i } ∷ (b.1 ∙ ap (λ s. model_told K s (calls_of ts)) a.0) i,
        )

    -- the law
    pub run_law : (made : Floorplan) → Feasible made → (first : Plan R g) → Makes made first → RunLaw K made first
    run_law made f first e laws ts now run =
        let m = run_leads first ts now run in
        let state = m.0 ∙ ap (λ s. after_calls s (calls_of ts)) e in
        let answers = m.1 ∙ ap (λ s. model_told K s (calls_of ts)) e in
        subst (λ (s : State). RunKept K made ts s) (sym state)
        (subst (λ (us : List (Told L)). RunKept K made us (after_calls (made_of made) (calls_of ts)))
        (sym answers) (model_keeps K laws made f (calls_of ts)))
