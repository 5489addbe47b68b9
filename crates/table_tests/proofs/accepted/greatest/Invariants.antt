-- No code so far is above the greatest, and one is it.
use Rattle.std.proofs.Common.{◌≡◌, ℕ, ◌<◌, ◌≤◌, get_or}
use Rattle.table_tests.proofs.accepted.greatest.Given as goal

abbrev pub invariant-loop-code : goal.invariant-loop-code
invariant-loop-code l = record {
  bound : (k : ℕ) → k < l.code-index → get_or l.codes k 0 ≤ l.greatest;
  reached : (k : ℕ) × (get_or l.codes k 0 ≡ l.greatest);
}
