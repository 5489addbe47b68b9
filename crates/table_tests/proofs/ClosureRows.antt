-- Closure of the two graphs of a table, by their rows.
use Rattle.std.proofs.Common.{◌≡◌, ℕ, ◌<◌, ◌≤◌, Bool, true, false, not, ◌&&◌, ◌||◌, eqb, ltb, ◌≢◌, ◌⊎◌, List, Some, None, Option, sym, refl, ap, ◌∙◌, subst, inl, inr, arith}
use mathlib.Core.Path.{fun_ext}
use Rattle.std.proofs.lemmas.Bool.{cases_eq, cases_lt, true≢false, and_parts, or_cases}
use Rattle.std.proofs.lemmas.Bool.Decides.{nat_tests}
use Rattle.graphs.specs.Edges.{edge, two_steps}
use Rattle.graphs.specs.declared.graph.Graph.{Graph}
use Rattle.module_set.proofs.Membership.{member_outside}
use Rattle.module_set.specs.Members.{member, least_member}
use Rattle.module_set.specs.declared.set.ModuleSet.{ModuleSet}
use Rattle.plans.proofs.Searches.{some_tells, some_from, first_is, first_tells}
use Rattle.plans.proofs.TableLists.{table_within}
use Rattle.plans.specs.First.{IsFirst}
use Rattle.plans.specs.Search.{first_below, first_pair}
use Rattle.plans.specs.Tables.{Table, table_of}
use Rattle.plans.specs.Tests.{not_closed}
use Rattle.table_tests.proofs.GraphRows.{code_shown, edge_shown}
use Rattle.table_tests.specs.Closure.{lacks, missing}
use Rattle.table_tests.specs.Tested.{Shows}

-- the least member of a set is the first that passes, where its members are those that pass
pub least_first :
    (s : ModuleSet) (p : ℕ → Bool) (m : ℕ) → ((k : ℕ) → member s k ≡ p k) → ((k : ℕ) → p k ≡ true → k < m)
    → (r : Option ℕ) → r ≡ least_member s → IsFirst p m r
unfolding least_member
least_first s p m same inside r e = settle r (subst (IsFirst (member s) 64) (sym e) (first_tells (member s) 64))
  where
    settle : (r : Option ℕ) → IsFirst (member s) 64 r → IsFirst p m r
    settle (Some k) f =
        let here = sym (same k) ∙ f.1 in
        (inside k here, here, λ l h. sym (same l) ∙ f.2 l h)
    settle None f =
        λ l h.
        elim (cases_lt l 64) [
          | inl g ↦ sym (same l) ∙ f l g
          | inr g ↦ sym (same l) ∙ member_outside s l g
        ]

-- so it is what is found below the bound
pub least_below :
    (s : ModuleSet) (p : ℕ → Bool) (m : ℕ) (r : Option ℕ) → r ≡ least_member s → ((k : ℕ) → member s k ≡ p k)
    → ((k : ℕ) → p k ≡ true → k < m) → r ≡ first_below m p
least_below s p m r e same inside = sym (first_is p m r (least_first s p m same inside r e))

-- two steps from i to k go over some module
steps_over :
    (g : Graph) (i k : ℕ)
    → ((two_steps g i k ≡ true) × ((j : ℕ) × (edge g i j ≡ true) × (edge g j k ≡ true)))
    ⊎ ((two_steps g i k ≡ false) × ((j : ℕ) → j < 64 → (edge g i j && edge g j k) ≡ false))
unfolding two_steps
steps_over g i k =
    elim (some_tells 64 (λ j. edge g i j && edge g j k)) [
      | inl r ↦ let both = and_parts (edge g i r.1.0) (edge g r.1.0 k) r.1.2 in inl (r.0, (r.1.0, both.0, both.1))
      | inr r ↦ inr (r.0, r.1)
    ]

steps_from : (g : Graph) (i j k : ℕ) → j < 64 → edge g i j ≡ true → edge g j k ≡ true → two_steps g i k ≡ true
unfolding two_steps
steps_from g i j k h p q = some_from 64 (λ j. edge g i j && edge g j k) j h (rw (p, q) refl)

lacks_inside :
    (m : ℕ) (g : Graph) → ((i j : ℕ) → edge g i j ≡ true → j < m) → (i k : ℕ) → lacks g i k ≡ true → k < m
lacks_inside m g inside i k e =
    let both = and_parts (two_steps g i k) (not (edge g i k)) e in
    elim (steps_over g i k) [
      | inl r ↦ inside r.1.0 k r.1.2
      | inr r ↦ absurd (true≢false (sym both.0 ∙ r.0))
    ]

-- what is missing is a module of the plan
pub missing_inside :
    (m : ℕ) (g h : Graph) → ((i j : ℕ) → edge g i j ≡ true → j < m) → ((i j : ℕ) → edge h i j ≡ true → j < m)
    → (i k : ℕ) → missing g h i k ≡ true → k < m
missing_inside m g h p q i k e =
    elim (or_cases (lacks g i k) (lacks h i k) e) [
      | inl l ↦ lacks_inside m g p i k l
      | inr l ↦ lacks_inside m h q i k l
    ]

test_true : (x y z : ℕ) → (ltb 0 x && eqb x y && not (eqb z x)) ≡ true → (0 < x) × (x ≡ y) × (z ≢ x)
test_true x y z e = (grind (arith, nat_tests), grind (arith, nat_tests), λ same. grind (arith, nat_tests))

test_false : (x y z : ℕ) → 0 < x → x ≡ y → (ltb 0 x && eqb x y && not (eqb z x)) ≡ false → z ≡ x
test_false x y z some same e = grind (arith, nat_tests)

module _ (m : ℕ) (few : m ≤ 64) (c : Table) (within : (i j : ℕ) → 0 < c i j → (i < m) × (j < m)) where
  abbrev opens : ℕ → ℕ → ℕ → Bool
  opens i k j = ltb 0 (c i j) && eqb (c i j) (c j k) && not (eqb (c i k) (c i j))

  -- a graph that lacks an edge opens the table
  lacks_opens :
      (code : ℕ) (g : Graph) → 0 < code → Shows c code g → (i k : ℕ)
      → ((j : ℕ) → j < m → opens i k j ≡ false) → lacks g i k ≡ false
  lacks_opens code g some shows i k none =
      elim (steps_over g i k) [
        | inl (e, (j, p, q)) ↦
            let first = code_shown c code g shows i j p in
            let second = code_shown c code g shows j k q in
            let inside = within i j (rw first some) in
            let third = test_false (c i j) (c j k) (c i k) (rw first some) (first ∙ sym second) (none j inside.1) in
            rw (e, edge_shown c code g shows i k (third ∙ first)) refl
        | inr r ↦ rw r.0 refl
      ]

  opens_lacks :
      (code : ℕ) (g : Graph) → Shows c code g → (i k j : ℕ) → j < m → c i j ≡ code → opens i k j ≡ true
      → lacks g i k ≡ true
  opens_lacks code g shows i k j h e unclosed =
      let (some, same, other) = test_true (c i j) (c j k) (c i k) unclosed in
      let two =
      steps_from g i j k (omega arith) (edge_shown c code g shows i j e) (edge_shown c code g shows j k (sym same ∙ e))
      in
      let gap : edge g i k ≡ false = let s = shows i k in grind (arith, nat_tests) in
      rw (two, gap) refl

  -- the two graphs lack an edge exactly where the table is not closed
  pub missing_closed :
      (g h : Graph) → ((i j : ℕ) → c i j ≤ 2) → Shows c 1 g → Shows c 2 h → (i k : ℕ) → missing g h i k ≡ not_closed m c i k
  missing_closed g h small p q i k =
      elim (some_tells m (opens i k)) [
        | inl (e, (j, l, unclosed)) ↦
            let (some, same, other) = test_true (c i j) (c j k) (c i k) unclosed in
            let two = small i j in
            elim (cases_eq (c i j) 1) [
              | inl one ↦ rw (opens_lacks 1 g p i k j l one unclosed) (sym e)
              | inr not-one ↦
                  let b : c i j ≡ 2 = omega (arith, not-one) in
                  or_true (lacks g i k) (lacks h i k) (opens_lacks 2 h q i k j l b unclosed) ∙ sym e
            ]
        | inr (e, none) ↦
            rw (lacks_opens 1 g (omega arith) p i k none, lacks_opens 2 h (omega arith) q i k none) (sym e)
      ]
    where
      or_true : (x y : Bool) → y ≡ true → (x || y) ≡ true
      or_true true y e = refl
      or_true false y e = e

-- so the first pair without its edge is the table's first that is not closed
pub closure_by_rows :
    (m : ℕ) (codes : List ℕ) (g h : Graph) → m ≤ 64 → ((i j : ℕ) → table_of m codes i j ≤ 2)
    → Shows (table_of m codes) 1 g → Shows (table_of m codes) 2 h
    → first_pair m (missing g h) ≡ first_pair m (not_closed m (table_of m codes))
closure_by_rows m codes g h few small p q =
    ap (first_pair m)
    (fun_ext (λ i. fun_ext (λ k. missing_closed m few (table_of m codes) (table_within m codes) g h small p q i k)))
