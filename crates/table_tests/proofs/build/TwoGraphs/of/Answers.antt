-- Each row goes into both graphs.
use Rattle.std.proofs.Common.{◌≡◌, ℕ, ◌<◌, ◌&&◌, eqb, ltb, get_or, refl, ◌∙◌, arith}
use Rattle.module_set.specs.Members.{member}
use Rattle.module_set.specs.declared.set.ModuleSet.{ModuleSet}
use Rattle.plans.proofs.TableLists.{table_within}
use Rattle.table_tests.proofs.GraphRows.{seen_below, row_put}
use Rattle.table_tests.specs.Codes.{table_given}
use Rattle.table_tests.proofs.build.TwoGraphs.of.Goals as goal

pub loop-i-preserved : goal.loop-i-preserved
loop-i-preserved c =
    let t = table_given c.args.table in
    let row = c.padded_row-row.result in
    let i = c.loop-i.i in
    let few : i < 64 = omega (arith, c.requires.few) in
    let within : (i j : ℕ) → 0 < t i j → j < 64 =
    λ i j h. let w = table_within c.args.table.modules c.args.table.codes.now i j h in omega (arith, c.requires.few)
    in
    let read : (code own : ℕ) (s : ModuleSet) → 0 < code → own ≡ code
    → ((j : ℕ) → member s j ≡ (ltb j 64 && eqb (get_or row j 0) own)) → (j : ℕ) → member s j ≡ eqb (t i j) code =
    λ code own s some same is j.
    is j ∙ rw (same, c.padded_row-row.ensures j) refl ∙ seen_below t code 64 i j some within
    in
    record {
      right =
          row_put t 1 i c.loop-i.right c.set_successors.new.self c.places_of.result few c.loop-i.invariant.right
          (read 1 c.into.result c.places_of.result (omega arith) c.into.ensures c.places_of.ensures) c.set_successors.ensures;
      above =
          row_put t 2 i c.loop-i.above c.set_successors-in-loop-i.new.self c.places_of-in-loop-i.result few
          c.loop-i.invariant.above
          (read 2 c.into-in-loop-i.result c.places_of-in-loop-i.result (omega arith) c.into-in-loop-i.ensures
          c.places_of-in-loop-i.ensures)
          c.set_successors-in-loop-i.ensures;
    }
