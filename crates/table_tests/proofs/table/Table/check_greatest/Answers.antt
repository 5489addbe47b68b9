-- The first code that is too great, by its row and column.
use Rattle.std.proofs.Common.{◌≡◌, ℕ, ◌/◌, ◌%◌, true, false, ltb, rules}
use Rattle.std.proofs.lemmas.Iterator.{IsFirst-from_position, YieldsList-from_slice}
use Rattle.plans.specs.declared.refusals.LoadRefusal.TheVariants.{WrongCode}
use Rattle.table_tests.proofs.CodeTests.{great_first}
use Rattle.table_tests.proofs.PairRows.{told_as}
use Rattle.table_tests.proofs.table.Table.check_greatest.Goals as goal
use borrow.Author.Tests.{tests}

pub returns : goal.returns
returns c =
    let m = c.args.self.modules in
    let g = c.args.greatest in
    let codes = c.args.self.codes.now in
    let place = c.position-wrong.result in
    let found =
    IsFirst-from_position c.position-wrong.new.self _ place (λ (x : ℕ). ltb g x ≡ true) (λ (x : ℕ). ltb g x ≡ false)
    c.position-wrong.ensures.ran (YieldsList-from_slice codes c.iter.ensures.rest) (λ x q k. search (rules, tests)) (λ x q k. search (rules, tests))
    in
    told_as WrongCode (λ (k : ℕ). (k / m, k % m)) place _ c.map_or.result _ c.map_or.ensures (λ q k. search rules)
    (great_first g m codes c.args.self.full place found)
