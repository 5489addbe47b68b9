-- A state that the model's calls reach is what the account of its answers gives.
use Rattle.std.proofs.Common.{◌≡◌, ℕ, List, [], ◌∷◌, ◌++◌, is_ok, Some, None, Option, sym, refl, ap, ◌∙◌}
use Rattle.plans.specs.Tables.{given}
use Rattle.plans.specs.Accounts.{Account, Origin, note_if, account_from, replayed, changed_layout, origin_layout, account_state, act_before, acts_of}
use Rattle.plans.specs.Calls.{Act, load, change, keep, undo, Acted, Call, acts, packs, asks, AnswerTo, Told, calls_of}
use Rattle.plans.specs.Changes.{change_refusal, changed, unless}
use Rattle.plans.specs.Kinds.{Kind}
use Rattle.plans.specs.Model.{State, Layout, settled, load_step, change_step}
use Rattle.plans.specs.ModelRuns.{model_act, after_call, after_calls, model_answer}
use Rattle.plans.specs.Tests.{load_refusal}
use Rattle.plans.specs.declared.change.Change.{Change}
use Rattle.plans.specs.declared.refusals.LoadRefusal.{LoadRefusal}
use Rattle.plans.specs.declared.refusals.ChangeRefusal.{ChangeRefusal}

-- one change more, at the end
replayed_more : (l : Layout) (cs : List Change) (c : Change) → replayed l (cs ++ (c ∷ [])) ≡ changed_layout (replayed l cs) c
replayed_more l [] c = refl
replayed_more l (d ∷ ds) c = replayed_more (changed_layout l d) ds c

abbrev noted : Origin → List Change → Option Change → Account
noted o kept t = record { origin = o; kept = kept; trial = t }

module _ {I : Type 0} {L : I → Type 0} (K : (kind : I) → Kind (L kind)) where
  -- each answer is the model's, one after another
  abbrev pub FromModel : State → List (Told L) → Type 0
  FromModel s [] = Unit {0}
  FromModel s (t ∷ ts) = (t.answer ≡ model_answer K s t.call) × FromModel (after_call s t.call) ts

module _ (made : State) where
  -- one act, by whether it was accepted
  abbrev Notes : Account → Act → Type 0
  Notes a act =
      (model_act (account_state made a) act).state
      ≡ account_state made (note_if (is_ok (model_act (account_state made a) act).answer) a act)

  load_notes :
      (o : Origin) (ks : List Change) (codes s : List ℕ) (r : Option LoadRefusal)
      → (load_step (account_state made (noted o ks None)) None (unless r (given codes s))).state
      ≡ account_state made (note_if (is_ok (load_step (account_state made (noted o ks None)) None (unless r (given codes s))).answer) (noted o ks None) (load codes s))
  load_notes o ks codes s (Some e) = refl
  load_notes o ks codes s None = refl

  change_notes :
      (o : Origin) (ks : List Change) (c : Change) (r : Option ChangeRefusal)
      → (change_step (account_state made (noted o ks None)) c None (unless r (changed (account_state made (noted o ks None)).current.plan c))).state
      ≡ account_state made (note_if (is_ok (change_step (account_state made (noted o ks None)) c None (unless r (changed (account_state made (noted o ks None)).current.plan c))).answer) (noted o ks None) (change c))
  change_notes o ks c (Some e) = refl
  change_notes o ks c None = refl

  act_notes : (o : Origin) (ks : List Change) (t : Option Change) (act : Act) → Notes (noted o ks t) act
  act_notes o ks None (load codes s) = load_notes o ks codes s (load_refusal codes s)
  act_notes o ks (Some d) (load codes s) = refl
  act_notes o ks None (change c) =
      change_notes o ks c (change_refusal (replayed (origin_layout made.current o) ks).plan c)
  act_notes o ks (Some d) (change c) = refl
  act_notes o ks None keep = refl
  act_notes o ks (Some d) keep = ap (settled made) (sym (replayed_more (origin_layout made.current o) ks d))
  act_notes o ks None undo = refl
  act_notes o ks (Some d) undo = refl

  module _ {I : Type 0} {L : I → Type 0} (K : (kind : I) → Kind (L kind)) where
    -- the account after one call more
    call_accounts :
        (a : Account) (s : State) (c : Call L) → s ≡ account_state made a
        → after_call s c ≡ account_state made (account_from a (act_before c (model_answer K s c) []))
    call_accounts a s (packs kind p) e = e
    call_accounts a s (asks q) e = e
    call_accounts a s (acts act) e =
        ap (λ x. (model_act x act).state) e ∙ act_notes a.origin a.kept a.trial act
        ∙ ap (λ x. account_state made (note_if (is_ok (model_act x act).answer) a act)) (sym e)

    -- a call, and then others
    told_after :
        (a : Account) (c : Call L) (r : AnswerTo c) (others : List Acted)
        → account_from (account_from a (act_before c r [])) others ≡ account_from a (act_before c r others)
    told_after a (acts act) r others = refl
    told_after a (packs kind p) r others = refl
    told_after a (asks q) r others = refl

    -- calls whose answers are the model's lead to the state that their account gives
    pub calls_account :
        (a : Account) (s : State) (ts : List (Told L)) → FromModel K s ts → s ≡ account_state made a
        → after_calls s (calls_of ts) ≡ account_state made (account_from a (acts_of ts))
    calls_account a s [] m e = e
    calls_account a s (t ∷ ts) m e =
        calls_account (account_from a (act_before t.call t.answer [])) (after_call s t.call) ts m.1
        (call_accounts a s t.call e ∙ ap (λ r. account_state made (account_from a (act_before t.call r []))) (sym m.0))
        ∙ ap (account_state made) (told_after a t.call t.answer (acts_of ts))
