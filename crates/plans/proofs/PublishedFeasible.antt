-- What the published definition admits is feasible, and a load accepts just that.
use Rattle.std.proofs.Common.{◌≡◌, ℕ, ◌*◌, ◌<◌, ◌≢◌, ◌⊎◌, List, length, get_or, sym, refl, inl, inr, arith}
use Rattle.std.proofs.lemmas.Bool.{cases_eq, cases_lt, cases_order}
use Rattle.std.proofs.lemmas.Bool.Decides.{nat_tests}
use Rattle.plans.proofs.Places.{place_at, times_twice}
use Rattle.plans.proofs.PublishedLoad.{fits_names}
use Rattle.plans.proofs.TableLists.{table_within}
use Rattle.plans.specs.LoadLaw.{TableApplies, SequenceApplies, LoadApplies}
use Rattle.plans.specs.Published.{Published, edge, then}
use Rattle.plans.specs.Search.{place_of}
use Rattle.plans.specs.Tables.{Table, Floorplan, ClosedTable, Feasible, Fits, table_in, table_of, given}
use Rattle.plans.specs.declared.refusals.LoadRefusal.{LoadRefusal}
use Rattle.plans.specs.declared.refusals.LoadRefusal.TheVariants.{WrongShape, WrongCode, SelfRelated, NotOneEdge, NotClosed, WrongPlace, Backwards}

module _ (p : Floorplan) (f : Published p) where
  abbrev c : Table
  c = table_in p

  no_loop : (i : ℕ) → c i i ≡ 0
  no_loop i =
      elim (cases_lt 0 (c i i)) [
        | inl more ↦ absurd (f.acyclic (c i i) more i (edge refl))
        | inr less ↦ omega (arith, less)
      ]

  some_edge : (i j : ℕ) → i < p.size → j < p.size → i ≢ j → (0 < c i j) ⊎ (0 < c j i)
  some_edge i j h k ne =
      elim (cases_lt 0 (c i j)) [
        | inl more ↦ inl more
        | inr less ↦ inr (let e = f.connected i j h k ne in grind (arith, nat_tests))
      ]

  no_second : (i j : ℕ) → 0 < c i j → c j i ≡ 0
  no_second i j h =
      let w = table_within p.size p.codes i j h in
      elim (cases_eq i j) [
        | inl same ↦ let e = no_loop i in absurd (grind arith)
        | inr ne ↦
            let e = f.connected i j w.0 w.1 ne in
            let a = f.codes i j in
            let b = f.codes j i in
            grind (arith, nat_tests)
      ]

  -- a module stands at no two places
  at_one : (k l : ℕ) → k < p.size → l < p.size → get_or p.sequence k 0 ≡ get_or p.sequence l 0 → k ≡ l
  at_one k l h g e =
      elim (cases_order k l) [
        | inl same ↦ same
        | inr other ↦
            elim other [
              | inl less ↦
                  let t = times_twice p.sequence k l less (omega (arith, f.long)) e in
                  let o = f.once (get_or p.sequence l 0) (f.modules l g) in
                  absurd (omega arith)
              | inr more ↦
                  let t = times_twice p.sequence l k more (omega (arith, f.long)) (sym e) in
                  let o = f.once (get_or p.sequence k 0) (f.modules k h) in
                  absurd (omega arith)
            ]
      ]

  along :
      (k l : ℕ) → k < p.size → l < p.size → 0 < c (get_or p.sequence k 0) (get_or p.sequence l 0) → k < l
  along k l h g e =
      let (k', l', less, within, a, b) = f.topological (get_or p.sequence k 0) (get_or p.sequence l 0) e in
      let u = at_one k' k (omega (arith, f.long)) h a in
      let v = at_one l' l (omega (arith, f.long)) g b in
      omega arith

  -- what the published definition admits is feasible
  pub published_feasible : Feasible p
  published_feasible =
      record {
        full = f.full;
        table =
            record {
              few = f.few;
              small = f.codes;
              within = table_within p.size p.codes;
              apart = no_loop;
              joined = some_edge;
              oneway = no_second;
              closed = λ g i j k h a b. f.closure g h i k (then a (edge b));
            };
        fits = record { long = f.long; modules = f.modules; once = at_one; forward = along };
      }

-- in a sequence that fits, a module's place is where it stands
pub fits_place : (m : ℕ) (c : Table) (s : List ℕ) → Fits m c s → (k : ℕ) → k < m → place_of s (get_or s k 0) ≡ k
fits_place m c s t k h =
    place_at m s t.long (record { below = t.modules; once = t.once }) k h

-- no refusal applies to a closed table with all its codes
pub closed_unrefused :
    (limit greatest m : ℕ) (codes : List ℕ) → length codes ≡ m * m → ClosedTable limit greatest m (table_of m codes)
    → (e : LoadRefusal) → TableApplies limit greatest m codes e → ⊥
closed_unrefused limit greatest m codes full t WrongShape (inl more) = let e = t.few in omega arith
closed_unrefused limit greatest m codes full t WrongShape (inr other) = other full
closed_unrefused limit greatest m codes full t (WrongCode i j) a = let e = t.small i j in omega (arith, a.2)
closed_unrefused limit greatest m codes full t (SelfRelated i j) a =
    let e = t.apart i in
    let z : 0 < table_of m codes i i = rw (← a.2.0) at a.2.1 in
    omega arith
closed_unrefused limit greatest m codes full t (NotOneEdge i j) a =
    elim a.2.1 [
      | inl both ↦ let e = t.oneway i j both.0 in omega arith
      | inr neither ↦ elim (t.joined i j a.0 a.1 (omega arith)) [ inl e ↦ omega arith | inr e ↦ omega arith ]
    ]
closed_unrefused limit greatest m codes full t (NotClosed i k) (h, g, (j, w, more, same, other)) =
    other (t.closed (table_of m codes i j) i j k more refl same)
closed_unrefused limit greatest m codes full t (WrongPlace k) a = a
closed_unrefused limit greatest m codes full t (Backwards i j) a = a

-- none applies to a sequence that fits
pub fitting_unrefused : (d : Table) (s : List ℕ) → Fits (length s) d s → (e : LoadRefusal) → SequenceApplies d s e → ⊥
fitting_unrefused d s fits WrongShape a = a
fitting_unrefused d s fits (WrongCode i j) a = a
fitting_unrefused d s fits (SelfRelated i j) a = a
fitting_unrefused d s fits (NotOneEdge i j) a = a
fitting_unrefused d s fits (NotClosed i j) a = a
fitting_unrefused d s fits (WrongPlace k) (h, inl large) = let e = fits.modules k h in omega arith
fitting_unrefused d s fits (WrongPlace k) (h, inr (l, less, same)) =
    let e = fits.once l k (omega arith) h same in
    omega arith
fitting_unrefused d s fits (Backwards i j) a =
    let (k, x, p) = fits_names (length s) d s fits i a.0 in
    let (l, y, q) = fits_names (length s) d s fits j a.1 in
    let e : 0 < d (get_or s k 0) (get_or s l 0) = rw (p, q) a.2.0 in
    let u : place_of s i ≡ k = rw p at (fits_place (length s) d s fits k x) in
    let v : place_of s j ≡ l = rw q at (fits_place (length s) d s fits l y) in
    let w = fits.forward k l x y e in
    omega (arith, a.2.1)

-- so none applies to a feasible floorplan
pub feasible_unrefused :
    (codes s : List ℕ) → Feasible (given codes s) → (e : LoadRefusal) → LoadApplies codes s e → ⊥
feasible_unrefused codes s f e (inl a) = closed_unrefused 64 2 (length s) codes f.full f.table e a
feasible_unrefused codes s f e (inr a) = fitting_unrefused (table_of (length s) codes) s f.fits e a
