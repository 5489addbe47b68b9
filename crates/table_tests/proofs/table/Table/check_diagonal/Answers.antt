-- The first module that is related to itself, as a pair.
use Rattle.std.proofs.Common.{◌≡◌, ℕ, true, false, ltb, rules, refl, arith}
use Rattle.std.proofs.lemmas.Iterator.{first_from_Range}
use Rattle.plans.specs.declared.refusals.LoadRefusal.TheVariants.{SelfRelated}
use Rattle.table_tests.proofs.CodeTests.{diagonal_first, range_first}
use Rattle.table_tests.proofs.PairRows.{told_as}
use Rattle.table_tests.specs.Codes.{table_given}
use Rattle.table_tests.proofs.table.Table.check_diagonal.Goals as goal
use borrow.Author.Tests.{tests}

pub returns : goal.returns
returns c =
    let m = c.args.self.modules in
    let p = λ (i : ℕ). ltb 0 (table_given c.args.self i i) in
    let found =
    first_from_Range _ _ _ c.find.result (λ i. p i ≡ true) (λ i. p i ≡ false) c.find.ensures.ran (λ x q k. search (rules, tests))
    (λ x q k. search (rules, tests))
    in
    told_as SelfRelated (λ (i : ℕ). (i, i)) c.find.result _ c.map_or.result _ c.map_or.ensures (λ q k. search rules)
    (diagonal_first (table_given c.args.self) m c.find.result
    (range_first p p 0 m c.find.result (λ k h. absurd (omega arith)) (λ k h l. refl) found))
