-- A load accepts exactly what is feasible, and so exactly what the published definition admits.
use Rattle.std.proofs.Common.{◌≡◌, ℕ, ◌*◌, ◌<◌, ◌≤◌, ◌≢◌, ◌⊎◌, true, not, List, length, get_or, is_some, Some, None, Option, sym, refl, ap, ◌∙◌, subst, inl, inr, arith}
use Rattle.std.proofs.lemmas.Bool.{cases_eq, cases_lt, cases_order, false≢true}
use Rattle.plans.proofs.LoadFirst.{table_first, load_first}
use Rattle.plans.proofs.Places.{place_at}
use Rattle.plans.proofs.Pigeonhole.{Different}
use Rattle.plans.proofs.PublishedFeasible.{published_feasible, feasible_unrefused}
use Rattle.plans.proofs.PublishedLoad.{feasible_published}
use Rattle.plans.proofs.TableLists.{table_within}
use Rattle.plans.specs.FirstRefusals.{FirstRefusal}
use Rattle.plans.specs.LoadLaw.{LoadLaw, TableApplies, SequenceApplies, LoadApplies}
use Rattle.plans.specs.Numbers.{number_of_load, told_by_load}
use Rattle.plans.specs.Tables.{Table, Floorplan, ClosedTable, Fits, Feasible, table_of, given}
use Rattle.plans.specs.Tests.{load_refusal, loadable}
use Rattle.plans.specs.declared.refusals.LoadRefusal.{LoadRefusal}
use Rattle.plans.specs.declared.refusals.LoadRefusal.TheVariants.{WrongShape, WrongCode, SelfRelated, NotOneEdge, NotClosed, WrongPlace, Backwards}

-- where no refusal of a table applies
module _ (limit greatest m : ℕ) (codes : List ℕ) (clean : (e : LoadRefusal) → TableApplies limit greatest m codes e → ⊥) where
  abbrev c : Table
  c = table_of m codes

  inside : (i j : ℕ) → 0 < c i j → (i < m) × (j < m)
  inside = table_within m codes

  few : m ≤ limit
  few = elim (cases_lt limit m) [ inl more ↦ absurd (clean WrongShape (inl more)) | inr less ↦ less ]

  pub clean_full : length codes ≡ m * m
  clean_full = elim (cases_eq (length codes) (m * m)) [ inl same ↦ same | inr other ↦ absurd (clean WrongShape (inr other)) ]

  small : (i j : ℕ) → c i j ≤ greatest
  small i j =
      elim (cases_lt greatest (c i j)) [
        | inl more ↦ let w = inside i j (omega arith) in absurd (clean (WrongCode i j) (w.0, w.1, more))
        | inr less ↦ less
      ]

  apart : (i : ℕ) → c i i ≡ 0
  apart i =
      elim (cases_lt 0 (c i i)) [
        | inl more ↦ let w = inside i i more in absurd (clean (SelfRelated i i) (w.0, w.1, (refl, more)))
        | inr less ↦ omega arith
      ]

  -- of two modules, the lower number first, exactly one has an edge to the other
  one_of : (i j : ℕ) → i < j → j < m → ((0 < c i j) × (c j i ≡ 0)) ⊎ ((c i j ≡ 0) × (0 < c j i))
  one_of i j h k =
      elim (cases_lt 0 (c i j)) [
        | inl more ↦
            elim (cases_lt 0 (c j i)) [
              | inl both ↦ absurd (clean (NotOneEdge i j) (omega arith, k, (h, inl (more, both))))
              | inr none ↦ inl (more, omega (arith, none))
            ]
        | inr less ↦
            elim (cases_lt 0 (c j i)) [
              | inl more ↦ inr (omega (arith, less), more)
              | inr none ↦
                  absurd (clean (NotOneEdge i j) (omega arith, k, (h, inr (omega (arith, less), omega (arith, none)))))
            ]
      ]

  some_edge : (i j : ℕ) → i < m → j < m → i ≢ j → (0 < c i j) ⊎ (0 < c j i)
  some_edge i j h k ne =
      elim (cases_order i j) [
        | inl same ↦ absurd (ne same)
        | inr (inl less) ↦ elim (one_of i j less k) [ inl a ↦ inl a.0 | inr b ↦ inr b.1 ]
        | inr (inr more) ↦ elim (one_of j i more h) [ inl a ↦ inr a.0 | inr b ↦ inl b.1 ]
      ]

  no_second : (i j : ℕ) → 0 < c i j → c j i ≡ 0
  no_second i j e =
      let w = inside i j e in
      elim (cases_order i j) [
        | inl same ↦ let a = apart i in absurd (grind arith)
        | inr (inl less) ↦ elim (one_of i j less w.1) [ inl a ↦ a.1 | inr b ↦ absurd (omega (arith, b.0)) ]
        | inr (inr more) ↦ elim (one_of j i more w.0) [ inl a ↦ absurd (omega (arith, a.1)) | inr b ↦ b.0 ]
      ]

  closed : (g i j k : ℕ) → 0 < g → c i j ≡ g → c j k ≡ g → c i k ≡ g
  closed g i j k h a b =
      let u = inside i j (omega arith) in
      let v = inside j k (omega arith) in
      elim (cases_eq (c i k) g) [
        | inl same ↦ same
        | inr other ↦
            absurd (clean (NotClosed i k) (u.0, v.1, (j, u.1, omega arith, b ∙ sym a, λ e. other (e ∙ a))))
      ]

  pub clean_closed : ClosedTable limit greatest m c
  clean_closed =
      record {
        few = few;
        small = small;
        within = inside;
        apart = apart;
        joined = some_edge;
        oneway = no_second;
        closed = closed;
      }

-- where no module is related to itself, and no refusal of a sequence applies
module _ (d : Table) (s : List ℕ) (alone : (i : ℕ) → d i i ≡ 0) (clean : (e : LoadRefusal) → SequenceApplies d s e → ⊥) where
  modules : (k : ℕ) → k < length s → get_or s k 0 < length s
  modules k h =
      elim (cases_lt (get_or s k 0) (length s)) [ inl less ↦ less | inr more ↦ absurd (clean (WrongPlace k) (h, inl more)) ]

  new : (k l : ℕ) → l < k → k < length s → get_or s l 0 ≢ get_or s k 0
  new k l h g e = clean (WrongPlace k) (g, inr (l, h, e))

  at_one : (k l : ℕ) → k < length s → l < length s → get_or s k 0 ≡ get_or s l 0 → k ≡ l
  at_one k l h g e =
      elim (cases_order k l) [
        | inl same ↦ same
        | inr (inl less) ↦ absurd (new l k less g e)
        | inr (inr more) ↦ absurd (new k l more h (sym e))
      ]

  along : (k l : ℕ) → k < length s → l < length s → 0 < d (get_or s k 0) (get_or s l 0) → k < l
  along k l h g e =
      elim (cases_order k l) [
        | inl same ↦
            let z = alone (get_or s k 0) in
            let y : 0 < d (get_or s k 0) (get_or s k 0) = subst (λ n. 0 < d (get_or s k 0) (get_or s n 0)) (sym same) e in
            absurd (omega arith)
        | inr (inl less) ↦ less
        | inr (inr more) ↦
            let different : Different (length s) (λ n. get_or s n 0) = record { below = modules; once = at_one } in
            let u = place_at (length s) s refl different k h in
            let v = place_at (length s) s refl different l g in
            absurd (clean (Backwards (get_or s k 0) (get_or s l 0)) (modules k h, modules l g, (e, omega arith)))
      ]

  pub clean_fits : Fits (length s) d s
  clean_fits = record { long = refl; modules = modules; once = at_one; forward = along }

-- what is not refused is feasible
pub load_feasible : (codes s : List ℕ) → load_refusal codes s ≡ None → Feasible (given codes s)
load_feasible codes s e =
    let m = length s in
    let clean = subst (FirstRefusal number_of_load told_by_load (LoadApplies codes s)) e (load_first codes s) in
    let table = clean_closed 64 2 m codes (λ f a. clean f (inl a)) in
    record {
      full = clean_full 64 2 m codes (λ f a. clean f (inl a));
      table = table;
      fits = clean_fits (table_of m codes) s table.apart (λ f a. clean f (inr a));
    }

-- and what is feasible is not refused
pub feasible_load : (codes s : List ℕ) → Feasible (given codes s) → load_refusal codes s ≡ None
feasible_load codes s f = settle (load_refusal codes s) (load_first codes s)
  where
    settle :
        (r : Option LoadRefusal) → FirstRefusal number_of_load told_by_load (LoadApplies codes s) r → r ≡ None
    settle (Some e) first = absurd (feasible_unrefused codes s f e first.0)
    settle None first = refl

pub load_law : LoadLaw
load_law =
    record {
      table = table_first;
      first = load_first;
      accepted = λ codes s e. feasible_published (given codes s) (load_feasible codes s e);
      admitted = λ codes s f. feasible_load codes s (published_feasible (given codes s) f);
      published = feasible_published;
      feasible = published_feasible;
    }

-- a feasible floorplan is what a load of its own codes and sequence gives
pub feasible_given : (p : Floorplan) → Feasible p → given p.codes p.sequence ≡ p
feasible_given p f =
    λ i. record { size = f.fits.long i; codes = p.codes; sequence = p.sequence }

-- a floorplan that can be loaded is feasible
pub loadable_feasible : (p : Floorplan) → length p.sequence ≡ p.size → loadable p ≡ true → Feasible p
loadable_feasible p long e =
    subst Feasible (λ i. record { size = long i; codes = p.codes; sequence = p.sequence })
    (load_feasible p.codes p.sequence (unrefused (load_refusal p.codes p.sequence) e))
  where
    unrefused : (o : Option LoadRefusal) → not (is_some o) ≡ true → o ≡ None
    unrefused (Some e) h = absurd (false≢true h)
    unrefused None h = refl

-- and a feasible one can be loaded
pub feasible_loadable : (p : Floorplan) → Feasible p → loadable p ≡ true
feasible_loadable p f =
    ap (λ o. not (is_some o)) (feasible_load p.codes p.sequence (subst Feasible (sym (feasible_given p f)) f))
