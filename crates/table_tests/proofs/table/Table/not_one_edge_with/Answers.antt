-- The first module of a row that has no edge with the row's, or two.
use Rattle.std.proofs.Common.{◌≡◌, ℕ, ◌+◌, true, false, ltb, rules, sym, arith}
use mathlib.Core.Bool.{beq}
use Rattle.std.proofs.lemmas.Iterator.{first_from_Range}
use Rattle.plans.proofs.Searches.{first_is}
use Rattle.plans.specs.Tests.{not_one_edge}
use Rattle.table_tests.proofs.CodeTests.{range_first, pair_at, pair_low}
use Rattle.table_tests.specs.Codes.{table_given}
use Rattle.table_tests.proofs.table.Table.not_one_edge_with.Goals as goal
use borrow.Author.Tests.{tests}

pub returns : goal.returns
returns c =
    let t = table_given c.args.self in
    let i = c.args.i in
    let q = λ (j : ℕ). beq (ltb 0 (t i j)) (ltb 0 (t j i)) in
    let found =
    first_from_Range _ _ _ c.find.result (λ j. q j ≡ true) (λ j. q j ≡ false) c.find.ensures.ran (λ x q k. search (rules, tests))
    (λ x q k. search (rules, tests))
    in
    sym (first_is (not_one_edge t i) c.args.self.modules c.find.result
    (range_first (not_one_edge t i) q (i + 1) c.args.self.modules c.find.result (λ k h. pair_low t i k (omega arith))
    (λ k h l. pair_at t i k (omega arith)) found))
