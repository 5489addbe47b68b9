-- The model's loads and changes do what the words say.
use Rattle.std.proofs.Common.{◌≡◌, ℕ, ◌↔◌, List, Some, None, Ok, Option, refl, arith}
use Rattle.plans.proofs.ChangesInWords.{changes_as_told}
use Rattle.plans.proofs.LoadLaw.{load_law}
use Rattle.plans.specs.CallsInWords.{ChangesEdges, StepsInWords}
use Rattle.plans.specs.Changes.{change_refusal, changed, unless}
use Rattle.plans.specs.Model.{State, Layout, load_step, change_step}
use Rattle.plans.specs.Published.{Published}
use Rattle.plans.specs.Tables.{Feasible, given}
use Rattle.plans.specs.Tests.{load_refusal}
use Rattle.plans.specs.declared.change.Change.{Change}
use Rattle.plans.specs.declared.refusals.ChangeRefusal.{ChangeRefusal}
use Rattle.plans.specs.declared.refusals.LoadRefusal.{LoadRefusal}

-- where no trial is open, a load is done exactly where it has no refusal
load_admits :
    (s : State) (codes sequence : List ℕ) (n : Option Layout) → n ≡ None → (r : Option LoadRefusal)
    → load_refusal codes sequence ≡ r
    → ((load_step s n (unless r (given codes sequence))).answer ≡ Ok tt) ↔ Published (given codes sequence)
load_admits s codes sequence (Some l) closed r e = let z : ◌≡◌ {A = ℕ} 0 1 = cc in absurd (omega arith)
load_admits s codes sequence None closed None e = (λ done. load_law.accepted codes sequence e, λ admitted. refl)
load_admits s codes sequence None closed (Some f) e = (
  λ done. let z : ◌≡◌ {A = ℕ} 0 1 = cc in absurd (omega arith),
  λ admitted. let none = load_law.admitted codes sequence admitted in
      let z : ◌≡◌ {A = ℕ} 0 1 = cc in absurd (omega arith),
)

-- a change is done only where it has none
change_edges :
    (s : State) (c : Change) → Feasible s.current.plan → (n : Option Layout) (r : Option ChangeRefusal)
    → change_refusal s.current.plan c ≡ r
    → ChangesEdges s (change_step s c n (unless r (changed s.current.plan c))).state c (change_step s c n (unless r (changed s.current.plan c))).answer
change_edges s c f (Some l) r e done = let z : ◌≡◌ {A = ℕ} 0 1 = cc in absurd (omega arith)
change_edges s c f None (Some r) e done = let z : ◌≡◌ {A = ℕ} 0 1 = cc in absurd (omega arith)
change_edges s c f None None e done = changes_as_told s.current.plan f c e

pub steps_in_words : StepsInWords
steps_in_words =
    record {
      load = λ s codes sequence closed. load_admits s codes sequence s.noted closed (load_refusal codes sequence) refl;
      change = λ s c f. change_edges s c f s.noted (change_refusal s.current.plan c) refl;
    }
