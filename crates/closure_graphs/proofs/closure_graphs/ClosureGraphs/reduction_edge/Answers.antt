-- An edge between two modules, with two steps of its graph or without.
use Rattle.std.proofs.Common.{ap, ◌∙◌, rules}
use Rattle.plans.specs.Changes.{two_refusal}
use Rattle.plans.specs.Directions.{turned}
use Rattle.plans.specs.Search.{refusing}
use Rattle.plans.specs.declared.refusals.ChangeRefusal.TheVariants.{NoReductionEdge}
use Rattle.closure_graphs.specs.Shown.{facing, graph_along}
use Rattle.closure_graphs.proofs.Refusals.{passed}
use Rattle.closure_graphs.proofs.Changes.{edge_refused}
use Rattle.closure_graphs.proofs.Directions.{facing_along}
use Rattle.closure_graphs.proofs.closure_graphs.ClosureGraphs.reduction_edge.Goals as goal

pub returns-then-contains : goal.returns-then-contains
returns-then-contains c =
    let x = c.args.self.now in
    let d = c.in_ok-direction.direction in
    let other = graph_along (turned d) x.graphs in
    let known =
    edge_refused x c.args.a c.args.b c.direction.result d c.along.result.now other c.two_steps.result c.contains.result
    (passed (two_refusal x.size c.args.a c.args.b) _ _ c.in_ok-two_modules.ensures) c.direction.ensures
    c.in_ok-direction.ensures.ok_part (ap (λ g. facing d g other) c.along.ensures ∙ facing_along d x.graphs)
    c.two_steps.ensures c.contains.ensures
    in
    known.0 ∙ ap (λ t. refusing t NoReductionEdge) c.if-contains.true

pub returns : goal.returns
returns c =
    let x = c.args.self.now in
    let d = c.in_ok-direction.direction in
    let other = graph_along (turned d) x.graphs in
    let known =
    edge_refused x c.args.a c.args.b c.direction.result d c.along.result.now other c.two_steps.result c.contains.result
    (passed (two_refusal x.size c.args.a c.args.b) _ _ c.in_ok-two_modules.ensures) c.direction.ensures
    c.in_ok-direction.ensures.ok_part (ap (λ g. facing d g other) c.along.ensures ∙ facing_along d x.graphs)
    c.two_steps.ensures c.contains.ensures
    in (
      known.0 ∙ ap (λ t. refusing t NoReductionEdge) c.if-contains.false,
      known.1,
      search rules,
      search rules,
    )
