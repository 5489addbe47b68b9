-- What a load answers says which refusal came first, and that it tells a part of the plan.
use Rattle.std.proofs.Common.{◌≡◌, ℕ, ◌*◌, ◌≤◌, ltb, ◌≢◌, List, map, length, take, Some, None, Ok, Err, Option, refl, ◌∙◌, subst, inl, inr, arith}
use Rattle.std.specs.List.{range_with_len}
use Rattle.std.proofs.lemmas.List.FromFn.{fill_by_all}
use Rattle.std.proofs.lemmas.List.{length-take-le, get_or-take}
use Rattle.std.proofs.lemmas.Bool.{cond-true, lt-ltb}
use Rattle.plans.proofs.LoadLaw.{load_law}
use Rattle.plans.specs.Changes.{Follows, unless}
use Rattle.plans.specs.FirstRefusals.{FirstRefusal}
use Rattle.plans.specs.LoadLaw.{LoadApplies}
use Rattle.plans.specs.Numbers.{number_of_load, told_by_load}
use Rattle.plans.specs.Tables.{Floorplan}
use Rattle.plans.specs.Tests.{load_refusal}
use Rattle.plans.specs.declared.refusals.LoadRefusal.{LoadRefusal}
use Rattle.plans.specs.declared.refusals.LoadRefusal.TheVariants.{WrongShape, WrongCode, SelfRelated, NotOneEdge, NotClosed, WrongPlace, Backwards}
use Rattle.sheets.specs.Lists.{Filled}
use Rattle.reading.specs.Rows.{ToldInPlan}

-- what was read stands in the front of its list
pub front_read : (f : ℕ → ℕ) (n : ℕ) (xs : List ℕ) → Filled 0 f n xs → n ≤ length xs → take n xs ≡ map f (range_with_len 0 n)
front_read f n xs all h =
    fill_by_all f (take n xs) n 0 (length-take-le n xs h)
    (λ k l. get_or-take n xs k 0 l ∙ all k ∙ cond-true (ltb k n) (f k) 0 (lt-ltb k n l))

-- a refused load has that refusal as its first, and keeps what is meant
pub load_refused :
    (o : Option LoadRefusal) (p old new : Floorplan) (e : LoadRefusal) → Follows (unless o p) (Err e) old new
    → (o ≡ Some e) × (new ≡ old)
load_refused (Some f) p old new e h = let same = h.0 in (cc, h.1)
load_refused None p old new e h = let same = h.0 in let z : ◌≡◌ {A = ℕ} 0 1 = cc in absurd (omega arith)

-- an accepted one has none, and what was given is meant
pub load_accepted :
    (o : Option LoadRefusal) (p old new : Floorplan) → Follows (unless o p) (Ok tt) old new → (o ≡ None) × (new ≡ p)
load_accepted (Some f) p old new h = let same = h.0 in let z : ◌≡◌ {A = ℕ} 0 1 = cc in absurd (omega arith)
load_accepted None p old new h = (refl, h.1)

-- a refusal that applies tells a part of the plan
applies_in_plan : (codes s : List ℕ) (e : LoadRefusal) → LoadApplies codes s e → ToldInPlan (length s) e
applies_in_plan codes s WrongShape a = tt
applies_in_plan codes s (WrongCode i j) (inl a) = (a.0, a.1)
applies_in_plan codes s (WrongCode i j) (inr a) = absurd a
applies_in_plan codes s (SelfRelated i j) (inl a) = (a.0, a.1)
applies_in_plan codes s (SelfRelated i j) (inr a) = absurd a
applies_in_plan codes s (NotOneEdge i j) (inl a) = (a.0, a.1)
applies_in_plan codes s (NotOneEdge i j) (inr a) = absurd a
applies_in_plan codes s (NotClosed i j) (inl a) = (a.0, a.1)
applies_in_plan codes s (NotClosed i j) (inr a) = absurd a
applies_in_plan codes s (WrongPlace k) (inl a) = absurd a
applies_in_plan codes s (WrongPlace k) (inr a) = a.0
applies_in_plan codes s (Backwards i j) (inl a) = absurd a
applies_in_plan codes s (Backwards i j) (inr a) = (a.0, a.1)

-- a refusal that is answered is the first
pub answered_first :
    (codes s : List ℕ) (e : LoadRefusal) → load_refusal codes s ≡ Some e
    → FirstRefusal number_of_load told_by_load (LoadApplies codes s) (Some e)
answered_first codes s e h = subst (FirstRefusal number_of_load told_by_load (LoadApplies codes s)) h (load_law.first codes s)

pub told_in_plan : (codes s : List ℕ) (e : LoadRefusal) → load_refusal codes s ≡ Some e → ToldInPlan (length s) e
told_in_plan codes s e h = applies_in_plan codes s e (answered_first codes s e h).0

-- the shape of few enough modules with all their codes is never at fault
pub shape_right :
    (codes s : List ℕ) (e : LoadRefusal) → length s ≤ 64 → length codes ≡ length s * length s → LoadApplies codes s e
    → e ≢ WrongShape
shape_right codes s e few full a same =
    elim (subst (LoadApplies codes s) same a) [
      | inl table ↦ elim table [ inl many ↦ omega (arith, few, many) | inr other ↦ other full ]
      | inr none ↦ none
    ]
