-- Feasible, the published definition and an accepted load say the same.
use Rattle.std.proofs.Common.{◌≡◌, ℕ, ◌<◌, ◌≤◌, ◌≢◌, List, get_or, inl, inr, arith}
use Rattle.std.proofs.lemmas.Bool.Decides.{nat_tests}
use Rattle.plans.proofs.Pigeonhole.{all_found}
use Rattle.plans.proofs.ReductionEdges.{path_edge}
use Rattle.plans.proofs.Places.{times_some, times_once}
use Rattle.plans.specs.Published.{Published, edges_between, times_in, Precedes}
use Rattle.plans.specs.Tables.{Table, Floorplan, Feasible, FeasibleTable, Fits, table_in}

-- each module stands somewhere in a sequence that fits
pub fits_names :
    (m : ℕ) (c : Table) (s : List ℕ) → Fits m c s → (i : ℕ) → i < m → (k : ℕ) × (k < m) × (get_or s k 0 ≡ i)
fits_names m c s f = all_found m (λ k. get_or s k 0) (record { below = f.modules; once = f.once })

-- two modules of a feasible table have exactly one edge
one_edge : (m : ℕ) (c : Table) → FeasibleTable m c → (i j : ℕ) → i < m → j < m → i ≢ j → edges_between c i j ≡ 1
one_edge m c f i j h k ne =
    let a = f.small i j in
    let b = f.small j i in
    elim (f.joined i j h k ne) [
      | inl e ↦ let o = f.oneway i j e in grind (arith, nat_tests)
      | inr e ↦ let o = f.oneway j i e in grind (arith, nat_tests)
    ]

fits_precedes :
    (m : ℕ) (c : Table) (s : List ℕ) → FeasibleTable m c → Fits m c s → (i j : ℕ) → 0 < c i j → Precedes s i j
fits_precedes m c s f t i j e =
    let w = f.within i j e in
    let (k, a, p) = fits_names m c s t i w.0 in
    let (l, b, q) = fits_names m c s t j w.1 in
    let edge : 0 < c (get_or s k 0) (get_or s l 0) = rw (p, q) e in
    (k, l, t.forward k l a b edge, omega (arith, t.long), p, q)

fits_once : (m : ℕ) (c : Table) (s : List ℕ) → Fits m c s → (i : ℕ) → i < m → times_in s i ≡ 1
fits_once m c s t i h =
    let (k, a, p) = fits_names m c s t i h in
    let some = times_some s k (omega (arith, t.long)) in
    let once =
    times_once s i (λ k l a b e. let same = t.once k l (omega (arith, t.long)) (omega (arith, t.long)) e in omega arith) in
    let some' : 1 ≤ times_in s i = rw p at some in
    omega arith

-- a feasible floorplan is what the published definition admits
pub feasible_published : (p : Floorplan) → Feasible p → Published p
feasible_published p f =
    record {
      few = f.table.few;
      full = f.full;
      codes = f.table.small;
      acyclic =
          λ g h i path.
          let e = path_edge p.size (table_in p) f.table g h path in
          let a = f.table.apart i in
          omega arith;
      connected = one_edge p.size (table_in p) f.table;
      closure = λ g h i j path. path_edge p.size (table_in p) f.table g h path;
      long = f.fits.long;
      modules = f.fits.modules;
      once = fits_once p.size (table_in p) p.sequence f.fits;
      topological = fits_precedes p.size (table_in p) p.sequence f.table f.fits;
    }
