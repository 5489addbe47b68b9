-- The first row with a pair that has no edge or two.
use Rattle.std.proofs.Common.{rules}
use Rattle.plans.specs.Tests.{not_one_edge}
use Rattle.plans.specs.declared.refusals.LoadRefusal.TheVariants.{NotOneEdge}
use Rattle.table_tests.proofs.PairRows.{first_rows, told}
use Rattle.table_tests.specs.Codes.{table_given}
use Rattle.table_tests.proofs.table.Table.check_pairs.Goals as goal

pub returns : goal.returns
returns c =
    told NotOneEdge c.first_in_rows.result _ c.map_or.result _ c.map_or.ensures (λ q k. search rules)
    (first_rows (not_one_edge (table_given c.args.self)) c.args.self.modules _ c.first_in_rows.result c.first_in_rows.ensures
    (λ i r h found. search rules))
