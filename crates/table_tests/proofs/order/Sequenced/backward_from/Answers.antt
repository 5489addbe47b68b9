-- The first module of a row that stands before its own.
use Rattle.std.proofs.Common.{◌≡◌, ℕ, ◌&&◌, true, false, ltb, get_or, length, rules, sym, ap, ◌∙◌, arith}
use mathlib.Core.Path.{fun_ext}
use Rattle.std.proofs.lemmas.Iterator.{IsFirst-from_position, YieldsList-from_slice, YieldsList-from_zip}
use Rattle.plans.proofs.Searches.{first_is}
use Rattle.plans.specs.Search.{first_below}
use Rattle.table_tests.proofs.PlaceMarks.{beside_first}
use Rattle.table_tests.proofs.order.Sequenced.backward_from.Goals as goal
use borrow.Author.Tests.{tests}

pub returns : goal.returns
returns c =
    let m = c.args.self.table.modules in
    let row = c.row.result.now in
    let places = c.args.places.now in
    let own = get_or places c.args.i 0 in
    let long = c.row.ensures.long c.requires.inside in
    let full : length places ≡ 64 = search rules in
    let found =
    IsFirst-from_position c.position.new.self _ c.position.result (λ (x : ℕ × ℕ). (ltb 0 x.0 && ltb x.1 own) ≡ true)
    (λ (x : ℕ × ℕ). (ltb 0 x.0 && ltb x.1 own) ≡ false) c.position.ensures.ran
    (YieldsList-from_zip (YieldsList-from_slice row cc) (YieldsList-from_slice places cc)) (λ x q k. search (rules, tests))
    (λ x q k. search (rules, tests))
    in
    let first = first_is (λ j. ltb 0 (get_or row j 0) && ltb (get_or places j 0) own) m c.position.result (beside_first row places own m c.position.result long (omega (arith, full)) found) in
    sym first ∙ ap (first_below m) (fun_ext (λ j. ap (λ x. ltb 0 x && ltb (get_or places j 0) own) (c.row.ensures.codes j)))
