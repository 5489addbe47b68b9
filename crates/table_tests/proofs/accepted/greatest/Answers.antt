-- The greatest so far or the next code is the greater of both.
use Rattle.std.proofs.Common.{length, get_or, inl, inr, ◌∙◌, arith}
use Rattle.std.proofs.lemmas.Bool.{cases_eq, cases_lt}
use Rattle.std.proofs.lemmas.List.{get_or_past}
use Rattle.table_tests.proofs.accepted.greatest.Goals as goal

pub loop-code-init : goal.loop-code-init
loop-code-init c = record {
  bound = λ k h. absurd (omega arith);
  reached = (length c.args.codes.now, get_or_past c.args.codes.now (length c.args.codes.now) 0 (omega arith));
}

pub loop-code-preserved : goal.loop-code-preserved
loop-code-preserved c = record {
  bound = λ k h.
      elim (cases_eq k c.loop-code.code-index) [
        | inl same ↦ rw same (omega (arith, c.max-greatest.ensures))
        | inr other ↦ omega (arith, c.loop-code.invariant.bound k (omega (arith, other)), c.max-greatest.ensures)
      ];
  reached =
      elim (cases_lt c.loop-code.greatest (get_or c.args.codes.now c.loop-code.code-index 0)) [
        | inl less ↦ (c.loop-code.code-index, omega (arith, c.max-greatest.ensures))
        | inr more ↦ (c.loop-code.invariant.reached.0, c.loop-code.invariant.reached.1 ∙ omega (arith, c.max-greatest.ensures))
      ];
}
