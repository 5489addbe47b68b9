-- The entries so far stand where they are told to.
use Rattle.std.proofs.Common.{◌≡◌, ℕ, ◌<◌, length, get_or}
use Rattle.sequence_pairs.proofs.order.inverse.Given as goal

abbrev pub invariant-loop-k : goal.invariant-loop-k
invariant-loop-k l =
    (length l.stands ≡ 64) × ((x : ℕ) → x < l.k → get_or l.stands (get_or l.entries x 0) 0 ≡ x)
