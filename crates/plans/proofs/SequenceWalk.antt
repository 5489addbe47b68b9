-- Near edges along the packing sequence: what stands before a module has an earlier place.
use Rattle.std.proofs.Common.{◌≡◌, ℕ, ◌<◌, List, length, get_or, take, unwrap_or, sym, ap, ◌∙◌, arith}
use Rattle.std.proofs.lemmas.List.{get_or-take, length-take}
use Rattle.std.proofs.lemmas.Bool.{eqb-true}
use Rattle.plans.proofs.AxisPacking.{near_settled}
use Rattle.plans.proofs.FlatAxes.{axis_orderly}
use Rattle.plans.proofs.Latest.{latest_along}
use Rattle.plans.specs.Axes.{free_edge}
use Rattle.plans.specs.Kinds.{Kind, SumLaws, JoinLaws}
use Rattle.plans.specs.LaterOfTwo.{latest_onto}
use Rattle.plans.specs.Packing.{Task, Pins, next_of, axis_of, packed_edge}
use Rattle.plans.specs.PackingTheorems.{Packable}
use Rattle.plans.specs.Tables.{table_in}

module _ {L : Type 0} (K : Kind L) (sum : SumLaws K) (join : JoinLaws K) (t : Task L) (ok : Packable K t) (pins : Pins L) (g : ℕ) (edge : 0 < g) where
  -- the modules at the places before k
  abbrev earlier : ℕ → List ℕ
  earlier k = take k t.plan.sequence

  -- where each module has a place, the one at place k is free to begin after all at earlier places that stand
  -- before it
  pub free_along :
      ((j : ℕ) → j < t.plan.size → (l : ℕ) × (l < t.plan.size) × (get_or t.plan.sequence l 0 ≡ j))
      → (e : ℕ → L) (k i : ℕ) → k < t.plan.size → get_or t.plan.sequence k 0 ≡ i
      → free_edge K (axis_of K t pins g) e i
      ≡ latest_onto K (λ j. (axis_of K t pins g).before j i) (λ j. next_of K t g j (e j)) K.origin (earlier k)
  free_along placed e k i h stands =
      let s = t.plan.sequence in
      let fits = ok.feasible.fits in
      let long : length (earlier k) ≡ k = length-take k s ∙ omega (arith, fits.long) in
      sym
      (latest_along K sum join (λ j. (axis_of K t pins g).before j i) (λ j. next_of K t g j (e j)) t.plan.size (earlier k)
      (λ j l b.
      let p = placed j l in
      let code : table_in t.plan j i ≡ g = eqb-true (table_in t.plan j i) g b in
      let some : 0 < table_in t.plan (get_or s p.0 0) (get_or s k 0) = rw (p.2, stands, code) edge in
      let less = fits.forward p.0 k p.1 h some in
      (p.0, omega (arith, less, long), get_or-take k s p.0 0 less ∙ p.2))
      (λ l m b.
      let less : l < k = omega (arith, m, long) in
      rw (get_or-take k s l 0 less) (fits.modules l (omega arith))))

  -- so each near edge follows from those at earlier places
  pub near_along :
      ((j : ℕ) → j < t.plan.size → (l : ℕ) × (l < t.plan.size) × (get_or t.plan.sequence l 0 ≡ j))
      → (k i : ℕ) → k < t.plan.size → get_or t.plan.sequence k 0 ≡ i
      → packed_edge K t pins g i
      ≡ unwrap_or (pins g i) (latest_onto K (λ j. (axis_of K t pins g).before j i) (λ j. next_of K t g j (packed_edge K t pins g j)) K.origin (earlier k))
  near_along placed k i h stands =
      let inside : i < t.plan.size = rw stands at (ok.feasible.fits.modules k h) in
      near_settled K (axis_of K t pins g) (axis_orderly K sum t ok pins g edge) i inside
      ∙ ap (λ v. unwrap_or (pins g i) v) (free_along placed (packed_edge K t pins g) k i h stands)
