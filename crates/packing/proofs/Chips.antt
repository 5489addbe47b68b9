-- The chip around the records of a list is that of their packing.
use Rattle.std.proofs.Common.{◌≡◌, ℕ, zero, suc, ◌≤◌, true, List, length, take, refl, ap, ◌∙◌, arith}
use Rattle.std.proofs.Math.Seq.{take-suc}
use Rattle.std.proofs.lemmas.List.Sums.{fold_push}
use Rattle.plans.proofs.PackingAnswers.{list_shows}
use Rattle.plans.specs.Axes.{latest}
use Rattle.plans.specs.Kinds.{Kind}
use Rattle.plans.specs.Packing.{Task, Pins, far_of, packed_edge, packed_module, packed_chip, packed_list}
use Rattle.plans.specs.declared.measures.Placed.{Placed}
use Rattle.packing.specs.Corners.{first_corner, moved_out, far_corner, chip_to, chip_around}

module _ {L : Type 0} (K : Kind L) (t : Task L) (pins : Pins L) (results : List (Placed L)) (room : t.plan.size ≤ length results) where
  -- the far corner of the first records of a packing
  far_packed :
      (m : ℕ) → m ≤ t.plan.size
      → far_corner K (take m (packed_list K t pins results))
      ≡ record {
        across = latest K (λ i. true) (far_of K t 1 (packed_edge K t pins 1)) m;
        up = latest K (λ i. true) (far_of K t 2 (packed_edge K t pins 2)) m;
      }
  far_packed zero h = refl
  far_packed (suc m) h =
      let shows = list_shows K t pins results room in
      let d = packed_module K t pins m in
      ap (far_corner K) (take-suc (packed_list K t pins results) m d (omega (arith, shows.long)))
      ∙ fold_push (moved_out K) (first_corner K) (take m (packed_list K t pins results)) _
      ∙ (λ x. moved_out K (far_packed m (omega arith) x) (shows.records m d (omega arith) x))

  -- the chip around all of them
  pub chip_packed : chip_around K (take t.plan.size (packed_list K t pins results)) ≡ packed_chip K t pins
  chip_packed = ap (chip_to K) (far_packed t.plan.size (omega arith))
