-- Row by row and place by place, the graphs and the sequence of what is meant, which is feasible.
use Rattle.std.proofs.Common.{◌≡◌, ℕ, ◌+◌, ◌<◌, ◌≤◌, length, sym, ap, ◌∙◌, subst, arith}
use Rattle.std.proofs.Math.ListN.{length-set}
use Rattle.closure_graphs.proofs.Fronts.{begins_more}
use Rattle.plans.specs.Directions.{code_along, code_told}
use Rattle.plans.specs.Tables.{table_in}
use Rattle.table_tests.proofs.GraphRows.{row_put}
use Rattle.representations.proofs.GraphsRead.{RowRead, row_found, row_passed, row_read, read_stands, module_there}
use Rattle.representations.proofs.representation.Representation.to_graphs.Goals as goal
use Rattle.representations.proofs.representation.Representation.to_graphs.Goals.{in-Some-Right, in-Some-Above, in-None}

pub loop-j-preserved : goal.loop-j-preserved
loop-j-preserved g c =
    let p = g.Self.Representation.means c.args.self.now in
    let f = g.met.Self.Representation.feasible c.args.self.now in
    let t = table_in p in
    let i = c.loop-i.i in
    let j = c.loop-j.j in
    let few : j < 64 = omega (arith, c.modules-size.ensures, f.table.few) in
    let before = c.loop-j.invariant in
    elim c.match-direction.branch [
      | in-Some-Right w ↦
          let is : t i j ≡ 1 = sym w.in-Some-Right.ensures ∙ ap code_along w.in-Some-Right.field-0-is in
          record {
            beside =
                subst (RowRead t 1 i (j + 1)) (sym w.beside-is)
                (row_found t 1 i j c.loop-j.beside w.with-beside.result few before.beside is w.with-beside.ensures);
            over =
                subst (RowRead t 2 i (j + 1)) (sym w.over-is) (row_passed t 2 i j c.loop-j.over before.over (λ e. omega arith));
          }
      | in-Some-Above w ↦
          let is : t i j ≡ 2 = sym w.in-Some-Above.ensures ∙ ap code_along w.in-Some-Above.field-0-is in
          record {
            beside =
                subst (RowRead t 1 i (j + 1)) (sym w.beside-is)
                (row_passed t 1 i j c.loop-j.beside before.beside (λ e. omega arith));
            over =
                subst (RowRead t 2 i (j + 1)) (sym w.over-is)
                (row_found t 2 i j c.loop-j.over w.with-over.result few before.over is w.with-over.ensures);
          }
      | in-None w ↦
          let is : t i j ≡ 0 = sym c.direction.ensures ∙ ap code_told w.in-None.is in
          record {
            beside =
                subst (RowRead t 1 i (j + 1)) (sym w.beside-is)
                (row_passed t 1 i j c.loop-j.beside before.beside (λ e. omega arith));
            over =
                subst (RowRead t 2 i (j + 1)) (sym w.over-is) (row_passed t 2 i j c.loop-j.over before.over (λ e. omega arith));
          }
    ]

pub loop-i-preserved : goal.loop-i-preserved
loop-i-preserved g c =
    let p = g.Self.Representation.means c.args.self.now in
    let f = g.met.Self.Representation.feasible c.args.self.now in
    let t = table_in p in
    let i = c.loop-i.i in
    let m = c.loop-j.j in
    let few : i < 64 = omega (arith, c.modules-size.ensures, f.table.few) in
    let end : p.size ≤ m = omega (arith, c.modules-size.ensures) in
    let within : (i j : ℕ) → 0 < t i j → j < m = λ i j h. let w = f.table.within i j h in omega arith in
    record {
      beside =
          row_put t 1 i c.loop-i.right c.set_successors.new.self c.loop-j.beside few c.loop-i.invariant.beside
          (row_read t 1 i m c.loop-j.beside (omega arith) within c.loop-j.invariant.beside) c.set_successors.ensures;
      over =
          row_put t 2 i c.loop-i.above c.set_successors-in-loop-i.new.self c.loop-j.over few c.loop-i.invariant.over
          (row_read t 2 i m c.loop-j.over (omega arith) within c.loop-j.invariant.over) c.set_successors-in-loop-i.ensures;
    }

pub loop-place-preserved : goal.loop-place-preserved
loop-place-preserved g c =
    let p = g.Self.Representation.means c.args.self.now in
    let f = g.met.Self.Representation.feasible c.args.self.now in
    let place = c.loop-place.place in
    let here : place < length p.sequence = omega (arith, c.modules-size.ensures, f.fits.long) in
    record {
      long = length-set c.loop-place.sequence place c.unwrap.result ∙ c.loop-place.invariant.long;
      same =
          begins_more p.sequence c.loop-place.sequence place c.unwrap.result
          (omega (arith, c.modules-size.ensures, f.table.few, c.loop-place.invariant.long)) c.loop-place.invariant.same
          (module_there p place c.unwrap.result c.module_at.result here c.module_at.ensures c.unwrap.ensures);
    }

pub invariant_of-result : goal.invariant_of-result
invariant_of-result g c =
    let p = g.Self.Representation.means c.args.self.now in
    let f = g.met.Self.Representation.feasible c.args.self.now in
    let read = c.loop-i.invariant in
    let placed = c.loop-place.invariant in
    let made =
    read_stands p f c.modules-size.result c.modules-size.ensures c.loop-i.i (omega arith) (record { right = c.loop-i.right; above = c.loop-i.above })
    read.beside read.over c.loop-place.place (omega arith) c.loop-place.sequence placed.long placed.same
    in
    record { few = made.few; long = made.long; feasible = made.feasible; beside = made.shown.0; over = made.shown.1 }

pub returns : goal.returns
returns g c =
    let p = g.Self.Representation.means c.args.self.now in
    let f = g.met.Self.Representation.feasible c.args.self.now in
    let read = c.loop-i.invariant in
    let placed = c.loop-place.invariant in
    (read_stands p f c.modules-size.result c.modules-size.ensures c.loop-i.i (omega arith) (record { right = c.loop-i.right; above = c.loop-i.above })
    read.beside read.over c.loop-place.place (omega arith) c.loop-place.sequence placed.long placed.same).is
