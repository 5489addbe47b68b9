-- Plans worked by hand, with all their numbers, and the literature's example.
use Rattle.std.specs.Prelude.{◌≡◌, ℕ, Bool, true, false, not, List, [], ◌∷◌, map, Some, None, Ok, Err, Result}
use Rattle.std.specs.List.{range_with_len}
use Rattle.plans.specs.Changes.{after_load, after_change, change_refusal, changed, bypassed}
use Rattle.plans.specs.Kinds.{Count, plain_kind, counted_kind}
use Rattle.plans.specs.Packing.{Task}
use Rattle.plans.specs.PackingCalls.{after_pack, after_pack_pinned, after_pack_rotated}
use Rattle.plans.specs.Numbers.{number_of_load, number_of_change, number_of_pinned, number_of_pack}
use Rattle.plans.specs.SequencePairs.{from_pair, other_sequence}
use Rattle.plans.specs.Sequences.{repaired}
use Rattle.plans.specs.Shortcuts.{reverse_only, move_only, unclosed_refusal}
use Rattle.plans.specs.Tables.{Floorplan, table_in, codes_of, no_modules}
use Rattle.plans.specs.Tests.{load_refusal}
use Rattle.plans.specs.Transposed.{transpose}
use Rattle.plans.specs.declared.change.Change.TheVariants.{Swap, Reverse, MoveEdge}
use Rattle.plans.specs.declared.measures.Sides.{Sides}
use Rattle.plans.specs.declared.measures.Placed.{Placed}
use Rattle.plans.specs.declared.measures.Chip.{Chip}
use Rattle.plans.specs.declared.refusals.LoadRefusal.{LoadRefusal}
use Rattle.plans.specs.declared.refusals.LoadRefusal.TheVariants.{NotClosed, Backwards}
use Rattle.plans.specs.declared.refusals.ChangeRefusal.TheVariants.{NoEdge, NoReductionEdge}
use Rattle.plans.specs.declared.pack_refusals.PackRefusal.{PackRefusal}
use Rattle.plans.specs.declared.pack_refusals.PackRefusal.TheVariants.{WrongSide}
use Rattle.plans.specs.declared.pack_refusals.PinnedRefusal.TheVariants.{NoPlace}

-- a floorplan of three modules, its codes row by row, and its sequence
abbrev pub three : (a b c d e f g h i : ℕ) → (x y z : ℕ) → Floorplan
three a b c d e f g h i x y z =
    record { size = 3; codes = a ∷ b ∷ c ∷ d ∷ e ∷ f ∷ g ∷ h ∷ i ∷ []; sequence = x ∷ y ∷ z ∷ [] }

-- 0 left of 1, both below 2
abbrev pub two_under_one : Floorplan
two_under_one = three 0 1 2 0 0 2 0 0 0 0 1 2

-- 0 and 2 left of 1, 0 below 2
abbrev pub two_beside_one : Floorplan
two_beside_one = three 0 1 2 0 0 0 0 1 0 0 2 1

-- 0 and 2 left of 1, 2 below 0
abbrev pub two_beside_one_other : Floorplan
two_beside_one_other = three 0 1 0 0 0 0 2 1 0 2 0 1

-- 0 left of 1 and 1 left of 2, but 0 below 2
abbrev pub unclosed : Floorplan
unclosed = three 0 1 2 0 0 1 0 0 0 0 1 2

-- a load of a floorplan's own codes and sequence
abbrev pub reload : Floorplan → Result Floorplan LoadRefusal
reload p = after_load p.codes p.sequence

-- the sides of a module
abbrev pub sides : {L : Type 0} → L → L → Sides L
sides w h = record { width = w; height = h }

-- the sides of the three modules: 4 × 2, 3 × 3, 5 × 1
abbrev pub three_sides : List (Sides ℕ)
three_sides = sides 4 2 ∷ sides 3 3 ∷ sides 5 1 ∷ []

-- the same with one border a side
abbrev pub counted_sides : List (Sides Count)
counted_sides = map (λ s. sides (record { long = s.width; borders = 1 }) (record { long = s.height; borders = 1 })) three_sides

-- a task with no module rotated
abbrev pub unrotated_task : {L : Type 0} → Floorplan → List (Sides L) → Task L
unrotated_task p all = record { plan = p; rotated = λ i. false; sides = all }

-- a placed module
abbrev pub placed : {L : Type 0} → L → L → L → L → Placed L
placed l b r t = record { left = l; bottom = b; right = r; top = t }

-- a chip
abbrev pub chip : {L : Type 0} → L → L → ℕ → Chip L
chip w h a = record { width = w; height = h; area = a }

-- four places of results: the last stays
abbrev pub blank : List (Placed ℕ)
blank = placed 9 9 9 9 ∷ placed 9 9 9 9 ∷ placed 9 9 9 9 ∷ placed 9 9 9 9 ∷ []

-- what packing one module of given sides answers
abbrev pub one_of : ℕ → ℕ → Result (Chip ℕ) PackRefusal
one_of w h =
    (after_pack plain_kind (unrotated_task (record { size = 1; codes = 0 ∷ []; sequence = 0 ∷ [] }) (sides w h ∷ [])) blank).answer

-- the literature's seven modules, a to g, by its sequence pair
abbrev pub seven : Floorplan
seven = from_pair (2 ∷ 1 ∷ 5 ∷ 4 ∷ 3 ∷ 0 ∷ 6 ∷ []) (0 ∷ 1 ∷ 2 ∷ 3 ∷ 4 ∷ 6 ∷ 5 ∷ [])

-- their sides, doubled to whole numbers
abbrev pub seven_sides : List (Sides ℕ)
seven_sides = sides 7 3 ∷ sides 4 5 ∷ sides 4 7 ∷ sides 6 4 ∷ sides 3 3 ∷ sides 10 3 ∷ sides 2 4 ∷ []

-- an edge (a, b) that no module bypasses
abbrev pub reduces : Floorplan → ℕ → ℕ → Bool
reduces p a b = not (bypassed p.size (table_in p) a b)

-- what the definitions give for each
pub record WorkedPlans : Type 0 where
  -- two modules beside each other under a third
  pub accepted : reload two_under_one ≡ Ok two_under_one
  pub packed :
      after_pack plain_kind (unrotated_task two_under_one three_sides) blank ≡
      record {
        answer = Ok (chip 7 4 28);
        results = placed 0 0 4 2 ∷ placed 4 0 7 3 ∷ placed 0 3 5 4 ∷ placed 9 9 9 9 ∷ [];
      }
  -- its sequence against an edge, refused by 16
  pub against : after_load two_under_one.codes (1 ∷ 0 ∷ 2 ∷ []) ≡ Err (Backwards 0 1)
  pub against_number : number_of_load (Backwards 0 1) ≡ 16
  -- a graph that is not closed, refused by 14
  pub not_closed : reload unclosed ≡ Err (NotClosed 0 2)
  pub not_closed_number : number_of_load (NotClosed 0 2) ≡ 14
  -- a swap, and that its result is accepted
  pub swapped : after_change two_under_one (Swap 0 2) ≡ Ok (three 0 0 0 2 0 0 2 1 0 2 1 0)
  pub swapped_accepted : reload (three 0 0 0 2 0 0 2 1 0 2 1 0) ≡ Ok (three 0 0 0 2 0 0 2 1 0 2 1 0)
  -- a reverse of an edge that stands alone
  pub reversed : after_change two_under_one (Reverse 0 1) ≡ Ok (three 0 0 2 1 0 2 0 0 0 1 0 2)
  pub reversed_accepted : reload (three 0 0 2 1 0 2 0 0 0 1 0 2) ≡ Ok (three 0 0 2 1 0 2 0 0 0 1 0 2)
  -- a reverse that takes another module along, with the published repair of the sequence
  pub beside_accepted : reload two_beside_one ≡ Ok two_beside_one
  pub reversed_with_more : after_change two_beside_one (Reverse 0 1) ≡ Ok (three 0 0 0 1 0 0 1 1 0 2 1 0)
  pub reversed_with_more_accepted : reload (three 0 0 0 1 0 0 1 1 0 2 1 0) ≡ Ok (three 0 0 0 1 0 0 1 1 0 2 1 0)
  pub reversed_repaired : repaired (table_in two_beside_one) 1 0 1 two_beside_one.sequence ≡ 2 ∷ 1 ∷ 0 ∷ []
  -- a plan for a move that takes another module along, what it gives, and the refusal of the next, 24
  pub beside_other_accepted : reload two_beside_one_other ≡ Ok two_beside_one_other
  pub moved_accepted : reload (three 0 2 0 0 0 0 2 2 0 2 0 1) ≡ Ok (three 0 2 0 0 0 0 2 2 0 2 0 1)
  pub moved_number : number_of_change NoReductionEdge ≡ 24
  -- a reverse against the edge, refused by 23
  pub no_edge : after_change two_under_one (Reverse 1 0) ≡ Err NoEdge
  pub no_edge_number : number_of_change NoEdge ≡ 23
  -- module 1 pinned with room, where it is anyway, and too near, refused by 45
  pub pinned_far : (after_pack_pinned plain_kind (unrotated_task two_under_one three_sides) blank 1 6 0).answer ≡ Ok (chip 9 4 36)
  pub pinned_there : (after_pack_pinned plain_kind (unrotated_task two_under_one three_sides) blank 1 4 0).answer ≡ Ok (chip 7 4 28)
  pub pinned_near :
      after_pack_pinned plain_kind (unrotated_task two_under_one three_sides) blank 1 3 0 ≡
      record {
        answer = Err NoPlace;
        results = placed 0 0 4 2 ∷ placed 4 0 7 3 ∷ placed 0 3 5 4 ∷ placed 9 9 9 9 ∷ [];
      }
  pub pinned_number : number_of_pinned NoPlace ≡ 45
  -- module 2 as if rotated once more
  pub rotated_once : (after_pack_rotated plain_kind (unrotated_task two_under_one three_sides) blank 2).answer ≡ Ok (chip 7 8 56)
  -- no modules
  pub none :
      (after_load [] [] ≡ Ok no_modules)
      × (after_pack plain_kind (unrotated_task no_modules []) blank ≡
      record { answer = Ok (chip 0 0 0); results = blank })
  -- sides of 100,000 are taken; 0 and 100,001, of either side and of whichever module, are refused by 42
  pub greatest_side : one_of 100000 100000 ≡ Ok (chip 100000 100000 10000000000)
  pub no_width : one_of 0 1 ≡ Err (WrongSide 0)
  pub no_height : one_of 1 0 ≡ Err (WrongSide 0)
  pub width_beyond : one_of 100001 1 ≡ Err (WrongSide 0)
  pub height_beyond : one_of 1 100001 ≡ Err (WrongSide 0)
  pub later_module :
      after_pack plain_kind (unrotated_task two_under_one (sides 4 2 ∷ sides 3 3 ∷ sides 5 0 ∷ [])) blank
      ≡ record { answer = Err (WrongSide 2); results = blank }
  pub side_number : number_of_pack (WrongSide 2) ≡ 42
  -- borders are counted along the longest paths of the plan after a move
  pub counted_plan : after_change two_under_one (MoveEdge 0 1) ≡ Ok (three 0 2 2 0 0 2 0 0 0 0 1 2)
  pub counted :
      (after_pack counted_kind (unrotated_task (three 0 2 2 0 0 2 0 0 0 0 1 2) counted_sides)
      (map (λ p. placed (record { long = 9; borders = 9 }) (record { long = 9; borders = 9 }) (record { long = 9; borders = 9 }) (record { long = 9; borders = 9 })) blank)).answer
      ≡ Ok (chip (record { long = 5; borders = 1 }) (record { long = 6; borders = 3 }) 30)
  -- the three shortcuts give plans that a load refuses, or accept one that it refuses
  pub reversing_only_the_edge :
      load_refusal (codes_of 3 (reverse_only (table_in two_beside_one) 0 1)) (2 ∷ 1 ∷ 0 ∷ []) ≡ Some (NotClosed 2 0)
  pub moving_only_the_edge :
      load_refusal (codes_of 3 (move_only (table_in two_beside_one_other) 0 1)) (2 ∷ 0 ∷ 1 ∷ []) ≡ Some (NotClosed 2 1)
  pub not_testing_closure : unclosed_refusal unclosed.codes unclosed.sequence ≡ None
  -- the axes exchanged
  pub transposed : transpose two_under_one ≡ three 0 2 1 0 0 1 0 0 0 0 1 2
  -- the literature's example: its table, its other sequence, the reduction edges from c, and two changes
  pub seven_table :
      seven.codes ≡
      (0 ∷ 2 ∷ 2 ∷ 2 ∷ 2 ∷ 2 ∷ 1 ∷
      0 ∷ 0 ∷ 2 ∷ 1 ∷ 1 ∷ 1 ∷ 1 ∷
      0 ∷ 0 ∷ 0 ∷ 1 ∷ 1 ∷ 1 ∷ 1 ∷
      0 ∷ 0 ∷ 0 ∷ 0 ∷ 2 ∷ 2 ∷ 1 ∷
      0 ∷ 0 ∷ 0 ∷ 0 ∷ 0 ∷ 2 ∷ 1 ∷
      0 ∷ 0 ∷ 0 ∷ 0 ∷ 0 ∷ 0 ∷ 0 ∷
      0 ∷ 0 ∷ 0 ∷ 0 ∷ 0 ∷ 2 ∷ 0 ∷ [])
  pub seven_accepted : reload seven ≡ Ok seven
  pub seven_reduced :
      (reduces seven 2 3 ≡ true) × (reduces seven 2 4 ≡ true) × (reduces seven 2 5 ≡ true) × (reduces seven 2 6 ≡ false)
  pub seven_other : other_sequence 7 (table_in seven) ≡ 2 ∷ 1 ∷ 5 ∷ 4 ∷ 3 ∷ 0 ∷ 6 ∷ []
  pub seven_swap_taken : change_refusal seven (Swap 2 6) ≡ None
  pub seven_swapped : (changed seven (Swap 2 6)).sequence ≡ 0 ∷ 1 ∷ 6 ∷ 3 ∷ 4 ∷ 2 ∷ 5 ∷ []
  pub seven_reverse_taken : change_refusal (changed seven (Swap 2 6)) (Reverse 3 4) ≡ None
  pub seven_reversed :
      (changed (changed seven (Swap 2 6)) (Reverse 3 4)).sequence ≡ 0 ∷ 1 ∷ 6 ∷ 4 ∷ 3 ∷ 2 ∷ 5 ∷ []
  pub seven_repaired :
      repaired (table_in (changed seven (Swap 2 6))) 2 3 4 (0 ∷ 1 ∷ 6 ∷ 3 ∷ 4 ∷ 2 ∷ 5 ∷ []) ≡ 0 ∷ 1 ∷ 6 ∷ 4 ∷ 3 ∷ 2 ∷ 5 ∷ []
  -- its packing, worked out here
  pub seven_packed :
      after_pack plain_kind (unrotated_task seven seven_sides) (map (λ k. placed 9 9 9 9) (range_with_len 0 7)) ≡
      record {
        answer = Ok (chip 14 15 210);
        results =
            placed 0 0 7 3 ∷ placed 0 3 4 8 ∷ placed 0 8 4 15 ∷ placed 4 3 10 7 ∷ placed 4 7 7 10 ∷ placed 4 10 14 13
            ∷ placed 10 0 12 4 ∷ [];
      }
