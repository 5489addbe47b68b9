-- The first row with an edge backwards.
use Rattle.std.proofs.Common.{rules, sym, ap, ◌∙◌}
use Rattle.plans.specs.Search.{first_pair}
use Rattle.plans.specs.Tests.{backwards}
use Rattle.plans.specs.declared.refusals.LoadRefusal.TheVariants.{Backwards}
use Rattle.table_tests.proofs.PairRows.{first_rows, told}
use Rattle.table_tests.proofs.PlaceMarks.{against_first}
use Rattle.table_tests.specs.Codes.{table_given}
use Rattle.table_tests.proofs.order.Sequenced.check_order.Goals as goal

pub returns : goal.returns
returns c =
    let s = c.args.self.sequence.now in
    let t = table_given c.args.self.table in
    let m = c.args.self.table.modules in
    let first =
    first_rows (backwards t s) m _ c.first_in_rows.result c.first_in_rows.ensures
    (λ i r l found. against_first t s c.places-places.result m i c.args.self.long l c.places-places.ensures r (search rules))
    in
    told Backwards c.first_in_rows.result _ c.map_or.result _ c.map_or.ensures (λ q k. search rules)
    (first ∙ ap (λ n. first_pair n (backwards t s)) (sym c.args.self.long))
