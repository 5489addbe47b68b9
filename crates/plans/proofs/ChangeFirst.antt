-- The first refusal of a change is first.
use Rattle.std.proofs.Common.{◌≡◌, ℕ, ◌<◌, ◌≤◌, Bool, true, cond, ◌&&◌, ◌||◌, eqb, leb, ◌⊎◌, refl, ap, ◌∙◌, inl, inr, arith, lit≤}
use Rattle.std.proofs.lemmas.Bool.{eqb-true, eq-eqb, leb-true, le-leb, and_from, and_parts, or_cases, or_left, or_right, both_ways}
use Rattle.plans.proofs.FirstRefusals.{Settles, settles_then, settles_all, settles_test, settles_last}
use Rattle.plans.proofs.Searches.{SomeTells, some_tells, some_from}
use Rattle.plans.specs.Changes.{two_refusal, edge_refusal, change_refusal, bypassed}
use Rattle.plans.specs.Numbers.{number_of_change, told_by_change}
use Rattle.plans.specs.RefusalLaws.{TwoApplies, EdgeApplies, RotateApplies, ChangeApplies, ChangeLaw}
use Rattle.plans.specs.Search.{some_below}
use Rattle.plans.specs.Tables.{Table, Floorplan, table_in}
use Rattle.plans.specs.declared.change.Change.{Change}
use Rattle.plans.specs.declared.change.Change.TheVariants.{Rotate, Swap, Reverse, MoveEdge}
use Rattle.plans.specs.declared.refusals.ChangeRefusal.{ChangeRefusal}
use Rattle.plans.specs.declared.refusals.ChangeRefusal.TheVariants.{NoModule, SameModule, NoEdge, NoReductionEdge}

-- a refusal of a change by its number
abbrev change_of : ℕ → ChangeRefusal
change_of n = cond (eqb n 21) NoModule (cond (eqb n 22) SameModule (cond (eqb n 23) NoEdge NoReductionEdge))

change_of_lem : (f : ChangeRefusal) → f ≡ change_of (number_of_change f)
change_of_lem NoModule = refl
change_of_lem SameModule = refl
change_of_lem NoEdge = refl
change_of_lem NoReductionEdge = refl

only_change : (n : ℕ) (f : ChangeRefusal) → number_of_change f ≡ n → f ≡ change_of n
only_change n f e = change_of_lem f ∙ ap change_of e

change_numbers : (f : ChangeRefusal) → (21 ≤ number_of_change f) × (number_of_change f < 25)
change_numbers NoModule = (lit≤ tt, lit≤ tt)
change_numbers SameModule = (lit≤ tt, lit≤ tt)
change_numbers NoEdge = (lit≤ tt, lit≤ tt)
change_numbers NoReductionEdge = (lit≤ tt, lit≤ tt)

outside : (m a b : ℕ) → (leb m a || leb m b) ≡ true → (m ≤ a) ⊎ (m ≤ b)
outside m a b e = elim (or_cases _ _ e) [ inl x ↦ inl (leb-true _ _ x) | inr y ↦ inr (leb-true _ _ y) ]

is_outside : (m a b : ℕ) → (m ≤ a) ⊎ (m ≤ b) → (leb m a || leb m b) ≡ true
is_outside m a b (inl h) = or_left _ _ (le-leb _ _ h)
is_outside m a b (inr h) = or_right (leb m a) (leb m b) (le-leb _ _ h)

-- the first two tests, whatever applies after them
two_settles :
    (m a b : ℕ) (Applies : ChangeRefusal → Type 0) → ((m ≤ a) ⊎ (m ≤ b) → Applies NoModule) → (Applies NoModule → (m ≤ a) ⊎ (m ≤ b))
    → (a ≡ b → Applies SameModule) → (Applies SameModule → a ≡ b) → Settles number_of_change told_by_change Applies 21 23 (two_refusal m a b)
two_settles m a b Applies p q r s =
    settles_then number_of_change told_by_change Applies 21 22 23 _ _ (lit≤ tt) (lit≤ tt)
    (settles_test number_of_change told_by_change Applies 21 NoModule (leb m a || leb m b) refl refl (only_change 21)
    (λ e. p (outside m a b e)) (λ x. is_outside m a b (q x)))
    (settles_test number_of_change told_by_change Applies 22 SameModule (eqb a b) refl refl (only_change 22)
    (λ e. r (eqb-true _ _ e)) (λ x. eq-eqb _ _ (s x)))

edge_settles :
    (m : ℕ) (c : Table) (a b : ℕ) → Settles number_of_change told_by_change (EdgeApplies m c a b) 21 25 (edge_refusal m c a b)
edge_settles m c a b =
    settles_then number_of_change told_by_change (EdgeApplies m c a b) 21 23 25 _ _ (lit≤ tt) (lit≤ tt)
    (two_settles m a b (EdgeApplies m c a b) (λ x. x) (λ x. x) (λ x. x) (λ x. x))
    (settles_then number_of_change told_by_change (EdgeApplies m c a b) 23 24 25 _ _ (lit≤ tt) (lit≤ tt)
    (settles_test number_of_change told_by_change (EdgeApplies m c a b) 23 NoEdge (eqb (c a b) 0) refl refl (only_change 23)
    (λ e. eqb-true _ _ e) (λ x. eq-eqb _ _ x))
    (settles_test number_of_change told_by_change (EdgeApplies m c a b) 24 NoReductionEdge (bypassed m c a b) refl refl
    (only_change 24) (does (some_tells m test)) must))
  where
    test : ℕ → Bool
    test k = eqb (c a k) (c a b) && eqb (c k b) (c a b)

    does : SomeTells m test → bypassed m c a b ≡ true → (k : ℕ) × (k < m) × (c a k ≡ c a b) × (c k b ≡ c a b)
    does (inl t) e =
        let p = and_parts _ _ t.1.2 in
        (t.1.0, t.1.1, eqb-true _ _ p.0, eqb-true _ _ p.1)
    does (inr t) e = absurd (both_ways (some_below m test) t.0 e)

    must : (k : ℕ) × (k < m) × (c a k ≡ c a b) × (c k b ≡ c a b) → bypassed m c a b ≡ true
    must x = some_from m test x.0 x.1 (and_from _ _ (eq-eqb _ _ x.2) (eq-eqb _ _ x.3))

two_later : (m a b : ℕ) (f : ChangeRefusal) → 23 ≤ number_of_change f → TwoApplies m a b f → ⊥
two_later m a b NoModule h x = omega arith
two_later m a b SameModule h x = omega arith
two_later m a b NoEdge h x = x
two_later m a b NoReductionEdge h x = x

rotate_later : (m a : ℕ) (f : ChangeRefusal) → 22 ≤ number_of_change f → RotateApplies m a f → ⊥
rotate_later m a NoModule h x = omega arith
rotate_later m a SameModule h x = x
rotate_later m a NoEdge h x = x
rotate_later m a NoReductionEdge h x = x

change_settles :
    (p : Floorplan) (c : Change) → Settles number_of_change told_by_change (ChangeApplies p c) 21 25 (change_refusal p c)
change_settles p (Rotate a) =
    settles_last number_of_change told_by_change (RotateApplies p.size a) 21 22 25 _ (lit≤ tt) (lit≤ tt)
    (settles_test number_of_change told_by_change (RotateApplies p.size a) 21 NoModule (leb p.size a) refl refl
    (only_change 21) (λ e. leb-true _ _ e) (λ x. le-leb _ _ x)) (rotate_later p.size a)
change_settles p (Swap a b) =
    settles_last number_of_change told_by_change (TwoApplies p.size a b) 21 23 25 _ (lit≤ tt) (lit≤ tt)
    (two_settles p.size a b (TwoApplies p.size a b) (λ x. x) (λ x. x) (λ x. x) (λ x. x)) (two_later p.size a b)
change_settles p (Reverse a b) = edge_settles p.size (table_in p) a b
change_settles p (MoveEdge a b) = edge_settles p.size (table_in p) a b

-- a change answers its first refusal
pub change_first : ChangeLaw
change_first p c =
    settles_all number_of_change told_by_change (ChangeApplies p c) 21 25 (change_refusal p c) change_numbers (change_settles p c)
