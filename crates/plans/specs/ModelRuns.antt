-- The model's answer to every call, and the model folded over runs of calls.
use Rattle.std.specs.Prelude.{is_some, List, [], ◌∷◌}
use Rattle.plans.specs.Calls.{Act, load, change, keep, undo, ActRefusal, Packing, pack, pack_pinned, pack_with_rotation, PackingOutcome, Question, how_many, code_between, module_in, whether_rotated, whether_on_trial, Reply, Call, acts, packs, asks, AnswerTo, Told}
use Rattle.plans.specs.Kinds.{Kind}
use Rattle.plans.specs.Model.{State, Step, model_load, model_change, model_keep, model_undo, task_at}
use Rattle.plans.specs.PackingCalls.{after_pack, after_pack_pinned, after_pack_rotated}
use Rattle.plans.specs.Tables.{table_in, module_at}

-- an act's step
abbrev pub model_act : State → (a : Act) → Step (ActRefusal a)
model_act s (load codes sequence) = model_load s codes sequence
model_act s (change c) = model_change s c
model_act s keep = model_keep s
model_act s undo = model_undo s

-- a packing's answer and result list
abbrev pub model_packing : {L : Type 0} → Kind L → State → (p : Packing L) → PackingOutcome p
model_packing K s (pack h) = after_pack K (task_at s h.sides) h.before
model_packing K s (pack_pinned h a across up) = after_pack_pinned K (task_at s h.sides) h.before a across up
model_packing K s (pack_with_rotation h a) = after_pack_rotated K (task_at s h.sides) h.before a

-- the reply to a question
abbrev pub model_reply : State → (q : Question) → Reply q
model_reply s how_many = s.current.plan.size
model_reply s (code_between i j) = table_in s.current.plan i j
model_reply s (module_in place) = module_at s.current.plan place
model_reply s (whether_rotated a) = s.current.rotated a
model_reply s whether_on_trial = is_some s.noted

module _ {I : Type 0} {L : I → Type 0} where
  -- the state after a call: packings and questions leave it
  abbrev pub after_call : State → Call L → State
  after_call s (acts a) = (model_act s a).state
  after_call s (packs kind p) = s
  after_call s (asks q) = s

  -- the state after calls in turn
  abbrev pub after_calls : State → List (Call L) → State
  after_calls s [] = s
  after_calls s (c ∷ cs) = after_calls (after_call s c) cs

  module _ (K : (kind : I) → Kind (L kind)) where
    -- the answer to a call
    abbrev pub model_answer : State → (c : Call L) → AnswerTo c
    model_answer s (acts a) = (model_act s a).answer
    model_answer s (packs kind p) = model_packing (K kind) s p
    model_answer s (asks q) = model_reply s q

    -- calls in turn, each with its answer
    abbrev pub model_told : State → List (Call L) → List (Told L)
    model_told s [] = []
    model_told s (c ∷ cs) = record { call = c; answer = model_answer s c } ∷ model_told (after_call s c) cs
