-- What is known of a packing that is not refused.
use Rattle.std.proofs.Common.{◌≡◌, ℕ, ◌<◌, ◌≤◌, not, ◌||◌, eqb, ltb, leb, List, length, Some, None, Option, refl, arith}
use Rattle.std.specs.Option.{option_map}
use Rattle.std.proofs.lemmas.Bool.{not-false, eqb-true, or_parts, ltb-false, leb-false}
use Rattle.std.proofs.lemmas.Bool.Decides.{nat_tests}
use Rattle.plans.proofs.Accepted.{or_else_none, refusing_none}
use Rattle.plans.proofs.Searches.{first_tells}
use Rattle.plans.specs.First.{IsFirst}
use Rattle.plans.specs.Kinds.{Kind, pin_limit}
use Rattle.plans.specs.Packing.{Task, one_pin}
use Rattle.plans.specs.PackingCalls.{wrong_side, pack_refusal, pin_refusal, rotation_refusal}
use Rattle.plans.specs.PackingTheorems.{Packable, NearPins}
use Rattle.plans.specs.Search.{first_below, or_else, refusing}
use Rattle.plans.specs.Tables.{Feasible}
use Rattle.plans.specs.declared.measures.Placed.{Placed}
use Rattle.plans.specs.declared.pack_refusals.PackRefusal.TheVariants.{WrongSides, ShortResults, WrongSide}
use Rattle.plans.specs.declared.pack_refusals.PinnedRefusal.TheVariants as pinned
use Rattle.plans.specs.declared.pack_refusals.RotationRefusal.TheVariants as rotation

-- nothing told is nothing found
pub not_told : {X E : Type 0} (f : X → E) (o : Option X) → option_map f o ≡ None → o ≡ None
not_told f (Some x) h = let z : ◌≡◌ {A = ℕ} 0 1 = cc in absurd (omega arith)
not_told f None h = refl

module _ {L : Type 0} (K : Kind L) (t : Task L) (results : List (Placed L)) where
  -- a packing that is not refused has two possible sides for each module, and room for the results
  pub not_refused_packable :
      Feasible t.plan → pack_refusal K t results ≡ None → Packable K t × (t.plan.size ≤ length results)
  not_refused_packable feasible none =
      let size = t.plan.size in
      let wrong = first_below size (wrong_side K t.sides) in
      let sides = refusing (not (eqb (length t.sides) size)) WrongSides in
      let short = refusing (ltb (length results) size) ShortResults in
      let first = or_else_none sides (or_else short (option_map WrongSide wrong)) none in
      let rest = or_else_none short (option_map WrongSide wrong) first.1 in
      let listed = refusing_none (not (eqb (length t.sides) size)) WrongSides first.0 in
      let room = refusing_none (ltb (length results) size) ShortResults rest.0 in
      let found : wrong ≡ None = not_told WrongSide wrong rest.1 in
      let possible : IsFirst (wrong_side K t.sides) size None = rw found at (first_tells (wrong_side K t.sides) size) in (
        record {
          feasible = feasible;
          listed = eqb-true (length t.sides) size (not-false (eqb (length t.sides) size) listed);
          possible = possible;
        },
        ltb-false (length results) size room,
      )

  -- one that is not refused with a module pinned has its pin not too far out
  pub not_refused_pinned :
      (a : ℕ) (across up : L) → pin_refusal K t results a across up ≡ None
      → (pack_refusal K t results ≡ None) × (a < t.plan.size) × NearPins K (one_pin a across up)
  not_refused_pinned a across up none =
      let far = ltb pin_limit (K.reach across) || ltb pin_limit (K.reach up) in
      let packing = option_map pinned.Packing (pack_refusal K t results) in
      let number = refusing (leb t.plan.size a) pinned.NoModule in
      let first = or_else_none packing (or_else number (refusing far pinned.FarPin)) none in
      let rest = or_else_none number (refusing far pinned.FarPin) first.1 in
      let near = or_parts (ltb pin_limit (K.reach across)) (ltb pin_limit (K.reach up)) (refusing_none far pinned.FarPin rest.1) in
      let near_across = ltb-false pin_limit (K.reach across) near.0 in
      let near_up = ltb-false pin_limit (K.reach up) near.1 in (
        not_told pinned.Packing (pack_refusal K t results) first.0,
        leb-false t.plan.size a (refusing_none (leb t.plan.size a) pinned.NoModule rest.0),
        λ g i v e. pin_near a across up g i v e near_across near_up,
      )
    where
      pin_near :
          (a : ℕ) (across up : L) (g i : ℕ) (v : L) → one_pin a across up g i ≡ Some v → K.reach across ≤ pin_limit
          → K.reach up ≤ pin_limit → K.reach v ≤ pin_limit
      pin_near a across up g i v e c u = grind (arith, nat_tests)

  -- nor one with a module rotated once more
  pub not_refused_rotated :
      (a : ℕ) → rotation_refusal K t results a ≡ None → (pack_refusal K t results ≡ None) × (a < t.plan.size)
  not_refused_rotated a none =
      let packing = option_map rotation.Packing (pack_refusal K t results) in
      let first = or_else_none packing (refusing (leb t.plan.size a) rotation.NoModule) none in (
        not_told rotation.Packing (pack_refusal K t results) first.0,
        leb-false t.plan.size a (refusing_none (leb t.plan.size a) rotation.NoModule first.1),
      )
