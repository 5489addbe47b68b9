-- What a packing prints: its answer and, where it is done, the chip, each module and the borders.
use Rattle.std.specs.Prelude.{ℕ, List, ◌++◌, replicate, Ok, Err, codes, Result, slice_index_or}
use Rattle.listing.specs.Line.{word_line, chip_line, module_line, edge_line}
use Rattle.plans.specs.Kinds.{Count, counted_kind}
use Rattle.plans.specs.Model.{State, task_at}
use Rattle.plans.specs.Numbers.{number_of_pack}
use Rattle.plans.specs.Packing.{at_origin}
use Rattle.plans.specs.PackingCalls.{Outcome, after_pack}
use Rattle.plans.specs.declared.measures.Chip.{Chip}
use Rattle.plans.specs.declared.measures.Placed.{Placed}
use Rattle.plans.specs.declared.measures.Sides.{Sides}
use Rattle.plans.specs.declared.pack_refusals.PackRefusal.{PackRefusal}
use Rattle.std.specs.List.{range_with_len, flat_map}

-- The line of one module by its record.
abbrev pub record_line : ℕ → Placed Count → List ℕ
record_line i p = module_line i p.left.long p.bottom.long

-- The lines of modules 0 to m - 1 by their records.
abbrev pub record_lines : ℕ → List (Placed Count) → List ℕ
record_lines m results = flat_map (λ i. record_line i (slice_index_or results i (at_origin counted_kind))) (range_with_len 0 m)

-- The chip, the modules and the borders.
abbrev pub chip_lines : ℕ → List (Placed Count) → Chip Count → List ℕ
chip_lines m results c =
    chip_line c.width.long c.height.long c.area
    ++ record_lines m results
    ++ edge_line c.width.borders c.height.borders

-- The answer, and with a chip also its lines.
abbrev pub packed_lines : ℕ → List (Placed Count) → Result (Chip Count) PackRefusal → List ℕ
packed_lines m results (Ok c) = word_line (codes "PACK") 0 ++ chip_lines m results c
packed_lines m results (Err e) = word_line (codes "PACK") (number_of_pack e)

-- What a packing of a state gives, in counted lengths, with room for 64 modules.
abbrev pub packing_at : State → List (Sides Count) → Outcome Count PackRefusal
packing_at s sides = after_pack counted_kind (task_at s sides) (replicate 64 (at_origin counted_kind))

-- What PACK prints at a state.
abbrev pub pack_lines : State → List (Sides Count) → List ℕ
pack_lines s sides = packed_lines s.current.plan.size (packing_at s sides).results (packing_at s sides).answer
