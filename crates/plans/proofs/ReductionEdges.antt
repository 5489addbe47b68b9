-- Paths in a feasible table are edges, and so a reduction edge is one that no module bypasses.
use Rattle.std.proofs.Common.{◌≡◌, ℕ, ◌<◌, Bool, false, ◌&&◌, eqb, inl, inr}
use Rattle.std.proofs.lemmas.Bool.{and_parts, eqb-true, cases_Bool}
use Rattle.plans.proofs.Accepted.{free_single}
use Rattle.plans.proofs.Searches.{none_from}
use Rattle.plans.specs.Changes.{bypassed}
use Rattle.plans.specs.Published.{Edge, Path, PublishedReduction}
use Rattle.plans.specs.Published.Path.{edge, then}
use Rattle.plans.specs.ReductionEdges.{ReductionEdges}
use Rattle.plans.specs.Tables.{Table, FeasibleTable}

-- where there is a path there is an edge
pub path_edge : (m : ℕ) (c : Table) → FeasibleTable m c → (g : ℕ) → 0 < g → {i j : ℕ} → Path c g i j → Edge c g i j
path_edge m c law g h (edge e) = e
path_edge m c law g h (then {i = i} {j = j} {k = k} e p) = law.closed g i j k h e (path_edge m c law g h p)

-- the test for one module between
between : Table → ℕ → ℕ → ℕ → Bool
between c a b k = eqb (c a k) (c a b) && eqb (c k b) (c a b)

alone_free : (m : ℕ) (c : Table) (a b : ℕ) → PublishedReduction c a b → bypassed m c a b ≡ false
unfolding between
alone_free m c a b r =
    none_from m (between c a b)
    (λ k h.
    elim (cases_Bool (between c a b k)) [
      | inl t ↦
          let q = and_parts (eqb (c a k) (c a b)) (eqb (c k b) (c a b)) t in
          absurd (r.alone k (eqb-true (c a k) (c a b) q.0) (edge (eqb-true (c k b) (c a b) q.1)))
      | inr t ↦ t
    ])

pub reduction_edges : ReductionEdges
reduction_edges m c law a b = (
  λ r. record {
    some = r.0;
    alone = λ k e p.
        free_single m c law a b (record { some = r.0; free = r.1 }) k e (path_edge m c law (c a b) r.0 p);
  },
  λ r. (r.some, alone_free m c a b r),
)
