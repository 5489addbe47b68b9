-- The edges of a feasible table order its modules, so one sequence fits.
use Rattle.std.proofs.Common.{◌≡◌, ℕ, ◌<◌, ◌≢◌, List, get_or, refl, ap, inl, inr, arith}
use Rattle.std.proofs.lemmas.Bool.{lt-ltb, le-ltb, ltb-true}
use Rattle.plans.proofs.Orders.{ordered_by_count}
use Rattle.plans.proofs.Pigeonhole.{Different}
use Rattle.plans.specs.OneSequence.{SequenceDetermined}
use Rattle.plans.specs.Orders.{TotalOrder, RunsAlong}
use Rattle.plans.specs.Sequences.{edge_to, fitting}
use Rattle.plans.specs.Tables.{Table, Floorplan, FeasibleTable, Fits, Feasible, table_in}

-- fitting is running along the edges
pub runs_from_fits : (m : ℕ) (c : Table) (s : List ℕ) → Fits m c s → RunsAlong m (edge_to c) s
runs_from_fits m c s f =
    record {
      long = f.long;
      modules = f.modules;
      once = f.once;
      forward = λ k l h i e. f.forward k l h i (ltb-true 0 (c (get_or s k 0) (get_or s l 0)) e);
    }

pub fits_from_runs : (m : ℕ) (c : Table) (s : List ℕ) → RunsAlong m (edge_to c) s → Fits m c s
fits_from_runs m c s r =
    record {
      long = r.long;
      modules = r.modules;
      once = r.once;
      forward = λ k l h i e. r.forward k l h i (lt-ltb 0 (c (get_or s k 0) (get_or s l 0)) e);
    }

-- the entries of a sequence that fits are different modules
pub fits_different : (m : ℕ) (c : Table) (s : List ℕ) → Fits m c s → Different m (λ k. get_or s k 0)
fits_different m c s f = record { below = f.modules; once = f.once }

module _ (m : ℕ) (c : Table) (law : FeasibleTable m c) where
  -- of three edges round a cycle two that follow each other have one graph, and closure refutes them
  pub no_cycle : (i j k : ℕ) → 0 < c i j → 0 < c j k → 0 < c k i → ⊥
  no_cycle i j k p q r =
      let a = law.closed (c i j) i j k p refl in
      let b = law.closed (c j k) j k i q refl in
      let d = law.closed (c k i) k i j r refl in
      let e = law.oneway i j p in
      let f = law.oneway j k q in
      let g = law.oneway k i r in
      let s = law.small i j in
      let t = law.small j k in
      let u = law.small k i in
      grind arith

  -- an edge to a module with an edge to a third: an edge to the third, of some graph
  pub edge_onwards : (i j k : ℕ) → 0 < c i j → 0 < c j k → 0 < c i k
  edge_onwards i j k p q =
      let e = law.oneway i j p in
      let n : i ≢ k = λ same. let z : c j i ≡ c j k = ap (λ x. c j x) same in omega arith in
      elim (law.joined i k (law.within i j p).0 (law.within j k q).1 n) [
        | inl h ↦ h
        | inr h ↦ absurd (no_cycle i j k p q h)
      ]

  edges_order : TotalOrder m (edge_to c)
  edges_order =
      record {
        strict = λ i h. le-ltb 0 (c i i) (omega (arith, law.apart i));
        transitive = λ i j k h h' h'' e f.
            lt-ltb 0 (c i k) (edge_onwards i j k (ltb-true 0 (c i j) e) (ltb-true 0 (c j k) f));
        total = λ i j h k n.
            elim (law.joined i j h k n) [ inl e ↦ inl (lt-ltb 0 (c i j) e) | inr e ↦ inr (lt-ltb 0 (c j i) e) ];
      }

pub sequence_determined : SequenceDetermined
sequence_determined m c law =
    let counted = ordered_by_count m (edge_to c) (edges_order m c law) in
    record {
      order = edges_order m c law;
      fits = fits_from_runs m c (fitting m c) counted.runs;
      only = λ s f. counted.only s (runs_from_fits m c s f);
    }

-- the edges point the way the sequence runs
pub fits_earlier :
    (m : ℕ) (c : Table) → FeasibleTable m c → (s : List ℕ) → Fits m c s → (k l : ℕ) → k < l → l < m
    → 0 < c (get_or s k 0) (get_or s l 0)
fits_earlier m c law s f k l h i =
    let once = f.once k l (omega arith) i in
    elim (law.joined (get_or s k 0) (get_or s l 0) (f.modules k (omega arith)) (f.modules l i) (λ e. absurd (omega (arith, once e)))) [
      | inl e ↦ e
      | inr e ↦ absurd (omega (arith, f.forward l k i (omega arith) e))
    ]

-- the sequence of a feasible floorplan is the one by counting
pub sequence_is_fitting : (p : Floorplan) → Feasible p → p.sequence ≡ fitting p.size (table_in p)
sequence_is_fitting p law = (sequence_determined p.size (table_in p) law.table).only p.sequence law.fits
