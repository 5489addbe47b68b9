-- One kind of length carried to another: what keeps zero, sums, the later of two and extents keeps packings.
use Rattle.std.specs.Prelude.{◌≡◌, ℕ, List, map, Ok, Err, Result}
use Rattle.std.specs.Option.{option_map}
use Rattle.plans.specs.Kinds.{Kind, plain_kind, counted_kind}
use Rattle.plans.specs.Packing.{Task, Pins, packed_edge, packed_module, packed_chip, packed_list}
use Rattle.plans.specs.PackingCalls.{Outcome, after_pack, after_pack_rotated}
use Rattle.plans.specs.declared.measures.Sides.{Sides}
use Rattle.plans.specs.declared.measures.Placed.{Placed}
use Rattle.plans.specs.declared.measures.Chip.{Chip}

module _ {L M : Type 0} (h : L → M) where
  -- each length carried, in sides
  abbrev pub carry_sides : Sides L → Sides M
  carry_sides s = record { width = h s.width; height = h s.height }

  -- so in a task
  abbrev pub carry_task : Task L → Task M
  carry_task t = record { plan = t.plan; rotated = t.rotated; sides = map carry_sides t.sides }

  -- in pins
  abbrev pub carry_pins : Pins L → Pins M
  carry_pins pins g i = option_map h (pins g i)

  -- in a placed module
  abbrev pub carry_placed : Placed L → Placed M
  carry_placed p = record { left = h p.left; bottom = h p.bottom; right = h p.right; top = h p.top }

  -- a chip
  abbrev pub carry_chip : Chip L → Chip M
  carry_chip c = record { width = h c.width; height = h c.height; area = c.area }

  -- and an outcome
  abbrev pub carry_outcome : {E : Type 0} → Outcome L E → Outcome M E
  carry_outcome o = record { answer = carry_answer o.answer; results = map carry_placed o.results }
    where
      carry_answer : {E : Type 0} → Result (Chip L) E → Result (Chip M) E
      carry_answer (Ok c) = Ok (carry_chip c)
      carry_answer (Err e) = Err e

module _ {L M : Type 0} (K : Kind L) (N : Kind M) (h : L → M) where
  -- a map of lengths that keeps zero, sums, the later of two and extents
  pub record Carries : Type 0 where
    pub zero : h K.origin ≡ N.origin
    pub sums : (a b : L) → h (K.plus a b) ≡ N.plus (h a) (h b)
    pub joins : (a b : L) → h (K.later a b) ≡ N.later (h a) (h b)
    pub extents : (a : L) → N.reach (h a) ≡ K.reach a

  -- packing carried lengths gives the carried packing
  pub record PacksCarried : Type 0 where
    pub near :
        (t : Task L) (pins : Pins L) (g i : ℕ)
        → packed_edge N (carry_task h t) (carry_pins h pins) g i ≡ h (packed_edge K t pins g i)
    pub modules :
        (t : Task L) (pins : Pins L) (i : ℕ)
        → packed_module N (carry_task h t) (carry_pins h pins) i ≡ carry_placed h (packed_module K t pins i)
    pub chip :
        (t : Task L) (pins : Pins L)
        → packed_chip N (carry_task h t) (carry_pins h pins) ≡ carry_chip h (packed_chip K t pins)
    pub list :
        (t : Task L) (pins : Pins L) (results : List (Placed L))
        → packed_list N (carry_task h t) (carry_pins h pins) (map (carry_placed h) results)
        ≡ map (carry_placed h) (packed_list K t pins results)
    pub pack :
        (t : Task L) (results : List (Placed L))
        → after_pack N (carry_task h t) (map (carry_placed h) results) ≡ carry_outcome h (after_pack K t results)
    pub rotated :
        (t : Task L) (results : List (Placed L)) (a : ℕ)
        → after_pack_rotated N (carry_task h t) (map (carry_placed h) results) a
        ≡ carry_outcome h (after_pack_rotated K t results a)

-- for any two kinds
abbrev pub CarriedPackings : Type 0 → Type 0 → Type 0
CarriedPackings L M = (K : Kind L) (N : Kind M) (h : L → M) → Carries K N h → PacksCarried K N h

-- the lengths of a counted packing are those of the plain packing
abbrev pub CountedIsPlain : Type 0
CountedIsPlain = PacksCarried counted_kind plain_kind (λ a. a.long)
