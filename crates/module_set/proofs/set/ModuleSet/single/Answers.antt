-- A power of two has one bit.
use Rattle.std.proofs.Common.{◌≡◌, ℕ, ◌≤◌, false, ◌&&◌, eqb, ltb, ap, ◌∙◌, arith}
use Rattle.std.proofs.lemmas.Nat.{one_shl}
use Rattle.std.proofs.lemmas.Bool.Decides.{nat_tests}
use Rattle.module_set.proofs.Membership.{single_member}
use Rattle.module_set.specs.Members.{member}
use Rattle.module_set.proofs.set.ModuleSet.single.Goals as goal

pub returns-then-i-lt64 : goal.returns-then-i-lt64
returns-then-i-lt64 c =
    λ k.
    ap (λ x. member (record { bits = x }) k) (one_shl c.args.i 64 c.if-i-lt64.true) ∙ single_member c.args.i k

-- no number below 64 is one over 63
beyond : (i k : ℕ) → 64 ≤ i → false ≡ (ltb k 64 && eqb k i)
beyond i k h = grind (arith, nat_tests)

pub returns-else-i-lt64 : goal.returns-else-i-lt64
returns-else-i-lt64 c = λ k. c.empty.ensures k ∙ beyond c.args.i k c.if-i-lt64.false
