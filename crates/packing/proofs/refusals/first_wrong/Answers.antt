-- The place that is found is the first number whose module has a wrong side.
use Rattle.std.proofs.Common.{◌≡◌, not, ◌&&◌, rules, ◌∙◌}
use Rattle.std.proofs.lemmas.Iterator.{YieldsList-from_slice}
use Rattle.std.proofs.lemmas.Iterator.Search.{position_from_yields_List}
use Rattle.std.specs.List.{position}
use Rattle.plans.specs.Kinds.{possible_side}
use Rattle.plans.specs.Packing.{no_sides}
use Rattle.plans.specs.declared.measures.Sides.{Sides}
use Rattle.packing.proofs.WrongSides.{position_first}
use Rattle.packing.proofs.refusals.first_wrong.Goals as goal

pub returns : goal.returns
returns g c =
    let K = g.L.Length.kind in
    let wrong = λ (s : Sides g.row.L.Denot). not (possible_side K s.width && possible_side K s.height) in
    let found : c.position.result ≡ position wrong c.args.sides.now =
    position_from_yields_List wrong _ _ c.position.result c.position.ensures.ran
    (YieldsList-from_slice _ c.iter.ensures.rest) (λ x b q k. search rules) in
    found ∙ position_first wrong c.args.sides.now (no_sides K)
