-- Steps of the model, from what a representation answered.
use Rattle.std.proofs.Common.{◌≡◌, ℕ, Bool, false, is_some, Some, None, Ok, Err, Option, Result, sym, refl, ap, ◌∙◌, subst, arith}
use mathlib.Core.Path.{fun_ext}
use Rattle.std.specs.Option.{option_map}
use Rattle.plans.specs.Changes.{Follows}
use Rattle.plans.specs.Model.{State, Layout, load_step, change_step, refused, rotated_after, settled}
use Rattle.plans.specs.Tables.{Floorplan}
use Rattle.plans.specs.declared.change.Change.{Change}
use Rattle.plans.specs.declared.refusals.PlanRefusal.TheVariants.{Refused}
use Rattle.plans.specs.declared.refusals.LoadRefusal.{LoadRefusal}
use Rattle.plans.specs.declared.refusals.ChangeRefusal.{ChangeRefusal}
use Rattle.planner.specs.Calls.{Steps}
use Rattle.planner.specs.Layouts.{noted_layout}
use Rattle.planner.specs.declared.noted.Noted.{Noted}

-- an option that has no value
pub no_value : {X : Type 0} (o : Option X) → is_some o ≡ false → o ≡ None
no_value (Some x) e = absurd (grind arith)
no_value None e = refl

-- no trial is open, read off a plan
pub not_open : (o : Option Noted) → is_some o ≡ false → option_map noted_layout o ≡ None
not_open o e = ap (option_map noted_layout) (no_value o e)

-- a layout by its two parts
pub same_layout : (p q : Floorplan) (r s : ℕ → Bool) → p ≡ q → ((k : ℕ) → r k ≡ s k) → ◌≡◌ {A = Layout} (record { plan = p; rotated = r }) (record { plan = q; rotated = s })
same_layout p q r s a b = λ i. record { plan = a i; rotated = fun_ext b i }

-- two results that can't be equal
pub done_refused : {E : Type 0} (e : E) → ◌≡◌ {A = Result (Unit {0}) E} (Ok tt) (Err e) → ⊥
done_refused e h = let z : ◌≡◌ {A = ℕ} 0 1 = cc in omega arith

-- where no trial is open
module _ (s : State) (o : Option Layout) (closed : o ≡ None) where
  -- a load that was done
  pub load_done :
      (r : Result Floorplan LoadRefusal) (old new : Floorplan) (rotated : ℕ → Bool) → Follows r (Ok tt) old new
      → ((k : ℕ) → rotated k ≡ false)
      → Steps (load_step s o r) (record { current = record { plan = new; rotated = rotated }; noted = o }) (Ok tt)
  load_done (Ok made) old new rotated f none =
      subst (λ (n : Option Layout). Steps (load_step s n (Ok made)) (record { current = record { plan = new; rotated = rotated }; noted = n }) (Ok tt))
      (sym closed)
      (record { leads = ap (settled s) (same_layout new made rotated (λ i. false) f.1 none); answers = refl })
  load_done (Err e) old new rotated f none = absurd (done_refused e f.0)

  -- a change that was done
  pub change_done :
      (c : Change) (r : Result Floorplan ChangeRefusal) (old new : Floorplan) (rotated : ℕ → Bool) (before : Layout)
      → Follows r (Ok tt) old new → before ≡ s.current → ((k : ℕ) → rotated k ≡ rotated_after s.current.rotated c k)
      → Steps (change_step s c o r) (record { current = record { plan = new; rotated = rotated }; noted = Some before }) (Ok tt)
  change_done c (Ok made) old new rotated before f same turned =
      subst
      (λ (n : Option Layout). Steps (change_step s c n (Ok made)) (record { current = record { plan = new; rotated = rotated }; noted = Some before }) (Ok tt))
      (sym closed)
      (record {
        leads =
            λ i. record {
              current = same_layout new made rotated (rotated_after s.current.rotated c) f.1 turned i;
              noted = Some (same i);
            };
        answers = refl;
      })
  change_done c (Err e) old new rotated before f same turned = absurd (done_refused e f.0)

  -- a refusal leaves a state with equal parts
  left_as_it_was :
      {E : Type 0} (x y : E) (new : Floorplan) (rotated : ℕ → Bool) → x ≡ y → new ≡ s.current.plan
      → ((k : ℕ) → rotated k ≡ s.current.rotated k) → o ≡ s.noted
      → Steps (refused s x) (record { current = record { plan = new; rotated = rotated }; noted = o }) (Err y)
  left_as_it_was x y new rotated e was same noted = record {
    leads =
        λ i. record {
          current = same_layout new s.current.plan rotated s.current.rotated was same i;
          noted = noted i;
        };
    answers = ap Err (sym e);
  }

  -- a load that was refused
  pub load_refused :
      (r : Result Floorplan LoadRefusal) (e : LoadRefusal) (old new : Floorplan) (rotated : ℕ → Bool)
      → Follows r (Err e) old new → old ≡ s.current.plan → ((k : ℕ) → rotated k ≡ s.current.rotated k) → o ≡ s.noted
      → Steps (load_step s o r) (record { current = record { plan = new; rotated = rotated }; noted = o }) (Err (Refused e))
  load_refused (Ok made) e old new rotated f was same noted = absurd (done_refused e (sym f.0))
  load_refused (Err d) e old new rotated f was same noted =
      let u : d ≡ e = let h = f.0 in cc in
      subst
      (λ (n : Option Layout). Steps (load_step s n (Err d)) (record { current = record { plan = new; rotated = rotated }; noted = o }) (Err (Refused e)))
      (sym closed) (left_as_it_was (Refused d) (Refused e) new rotated (ap Refused u) (f.1 ∙ was) same noted)
