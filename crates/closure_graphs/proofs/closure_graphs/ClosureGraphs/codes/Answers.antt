-- One code more is written, and at the end all are.
use Rattle.std.proofs.Common.{◌+◌, ◌≡◌, ◌*◌, subst, ◌∙◌, arith}
use Rattle.std.proofs.Math.ListN.{length-set}
use Rattle.std.proofs.lemmas.Nat.{mul-le}
use Rattle.plans.proofs.TableLists.{codes_length, same_table}
use Rattle.plans.specs.Tables.{table_in, codes_of}
use Rattle.closure_graphs.proofs.CodeRows.{cell_inside, code_more}
use Rattle.closure_graphs.proofs.Fronts.{Begins, begins_whole}
use Rattle.closure_graphs.specs.Meaning.{graphs_mean}
use Rattle.closure_graphs.specs.Settled.{plan_feasible}
use Rattle.closure_graphs.proofs.closure_graphs.ClosureGraphs.codes.Goals as goal

pub loop-j-preserved : goal.loop-j-preserved
loop-j-preserved c =
    let x = c.args.self.now in
    let i = c.loop-i.i in
    let j = c.loop-j.j in
    let inside = cell_inside x.size i j (omega arith) (omega arith) in
    let all = mul-le x.size x.size 64 64 x.few x.few in
    record {
      long = length-set c.loop-j.codes (i * x.size + j) c.code.result ∙ c.loop-j.invariant.long;
      written =
          code_more x.size (table_in (graphs_mean x)) i j c.code.result c.loop-j.codes (omega arith) (omega arith)
          (omega (arith, inside, all, c.loop-j.invariant.long)) c.loop-j.invariant.written c.code.ensures;
    }

pub returns : goal.returns
returns c =
    let x = c.args.self.now in
    let p = graphs_mean x in
    let f = plan_feasible x.size x.graphs x.sequence x.few x.long x.feasible in
    let all = mul-le x.size x.size 64 64 x.few x.few in
    let end : c.loop-i.i ≡ x.size = omega arith in
    begins_whole (codes_of x.size (table_in p)) c.loop-i.codes (x.size * x.size) (codes_length x.size (table_in p))
    (omega (arith, all, c.loop-i.invariant.long))
    (subst (λ n. Begins (n * x.size) (codes_of x.size (table_in p)) c.loop-i.codes) end c.loop-i.invariant.written)
    ∙ same_table x.size p.codes f.full
