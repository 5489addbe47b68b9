-- A code too great and a walk that stops are refused, and else the load is accepted.
use Rattle.std.proofs.Common.{◌≡◌, ◌*◌, length, sym, ap, ◌∙◌, subst, arith}
use Rattle.std.proofs.lemmas.Bool.{true≢false}
use Rattle.plans.specs.Tables.{Table, table_of}
use Rattle.table_tests.proofs.AcceptedLoads.{accepted, none_greater, not_accepted, too_great}
use Rattle.table_tests.specs.Codes.{table_given}
use Rattle.table_tests.specs.Tested.{Shows}
use Rattle.table_tests.proofs.accepted.accepted_graphs.Goals as goal

pub returns-then-greatest-gt2 : goal.returns-then-greatest-gt2
returns-then-greatest-gt2 c =
    let (k, is) = c.greatest.ensures.reached in
    too_great c.args.codes.now c.args.sequence.now k (omega (arith, c.if-greatest-gt2.true))

pub returns-then-closed_along : goal.returns-then-closed_along
returns-then-closed_along c =
    let codes = c.args.codes.now in
    let s = c.args.sequence.now in
    let t = c.in_ok-table.table in
    let two = c.of-graphs.result in
    let (modules, given) = c.in_ok-table.ensures in
    let same : table_given t ≡ table_of (length s) codes = λ i. table_of (modules i) (given i) in
    accepted codes s two (subst (λ (x : Table). Shows x 1 two.right) same c.of-graphs.ensures.right)
    (subst (λ (x : Table). Shows x 2 two.above) same c.of-graphs.ensures.above) (omega arith)
    (sym (ap length given) ∙ t.full ∙ ap (λ n. n * n) modules)
    (none_greater codes s c.greatest.result c.greatest.ensures.bound (omega arith))
    (c.closed_along.ensures.0 c.if-closed_along.true)

pub returns-else-closed_along : goal.returns-else-closed_along
returns-else-closed_along c =
    let codes = c.args.codes.now in
    let s = c.args.sequence.now in
    let t = c.in_ok-table.table in
    let two = c.of-graphs.result in
    let (modules, given) = c.in_ok-table.ensures in
    let same : table_given t ≡ table_of (length s) codes = λ i. table_of (modules i) (given i) in
    not_accepted codes s two (subst (λ (x : Table). Shows x 1 two.right) same c.of-graphs.ensures.right)
    (subst (λ (x : Table). Shows x 2 two.above) same c.of-graphs.ensures.above)
    (λ walked. true≢false (sym (c.closed_along.ensures.1 walked) ∙ c.if-closed_along.false))
