-- What the first row that gives something gives, with its number.
use Rattle.std.proofs.Common.{rules, refl}
use Rattle.std.proofs.lemmas.Iterator.{serves_from_Range}
use Rattle.table_tests.proofs.RowRuns.{rows_run}
use Rattle.table_tests.proofs.rows.first_in_rows.Goals as goal

pub find_map-requires-clause-callable : goal.find_map-requires-clause-callable
find_map-requires-clause-callable g c =
    serves_from_Range (λ x q k. search rules) (λ x a b. let asked = c.requires x b in search (rules, asked))

pub returns : goal.returns
returns g c =
    rows_run _ _ _ c.args.modules _ refl refl (λ a r f k. search rules) (λ x k. search rules) (λ x y k. search rules) c.find_map.result c.find_map.ensures.runs
