-- The place of a module leaves room for those after it.
use Rattle.std.proofs.Common.{◌≡◌, ◌+◌, ◌∙◌, arith, rules}
use Rattle.plans.specs.Search.{count_below}
use Rattle.plans.specs.Sequences.{edge_to}
use Rattle.closure_graphs.proofs.Counts.{successors_count, place_of_lem, placed_more, placed_all}
use Rattle.closure_graphs.specs.Sound.{table_drawn}
use Rattle.closure_graphs.proofs.fitting.fitting_sequence.Goals as goal

-- what the two sets count is the number of modules after i
after_i :
    (c : goal.After-len-in-loop-i)
    → c.len.result + c.len-in-loop-i.result
    ≡ count_below c.args.m (λ j. edge_to (table_drawn c.args.graphs.now) c.loop-i.i j)
after_i c =
    (λ t. c.len.ensures t + c.len-in-loop-i.ensures t)
    ∙ successors_count c.args.m (table_drawn c.args.graphs.now) c.requires.feasible
    c.args.graphs.now c.loop-i.i c.successors.result c.successors-in-loop-i.result
    c.requires.shown c.successors.ensures c.successors-in-loop-i.ensures

pub overflow_add-after : goal.overflow_add-after
overflow_add-after c =
    let at =
    place_of_lem c.args.m (table_drawn c.args.graphs.now) c.requires.feasible c.loop-i.i _
    c.loop-i-test.true (after_i c)
    in
    let less = at.0 in
    search rules

pub overflow_sub-sequence-in-loop-i : goal.overflow_sub-sequence-in-loop-i
overflow_sub-sequence-in-loop-i c =
    let at =
    place_of_lem c.args.m (table_drawn c.args.graphs.now) c.requires.feasible c.loop-i.i _
    c.loop-i-test.true (after_i c)
    in
    let less = at.0 in
    omega arith

pub loop-i-preserved : goal.loop-i-preserved
loop-i-preserved c =
    let at =
    place_of_lem c.args.m (table_drawn c.args.graphs.now) c.requires.feasible c.loop-i.i _
    c.loop-i-test.true (after_i c)
    in
    placed_more c.args.m (table_drawn c.args.graphs.now) c.requires.feasible c.loop-i.i _
    c.loop-i.sequence c.loop-i-test.true at.1 c.loop-i.invariant

pub returns : goal.returns
returns c =
    placed_all c.args.m (table_drawn c.args.graphs.now) c.requires.feasible c.loop-i.i
    c.loop-i.sequence c.loop-i-test.false c.loop-i.invariant
