-- The law of the sequence pair: two sequences determine a feasible floorplan, and each feasible floorplan gives its pair.
use Rattle.std.specs.Prelude.{◌≡◌, ℕ, ◌<◌, ◌≤◌, List, length, slice_index}
use Rattle.plans.specs.SequencePairs.{pair_table, from_pair, other_sequence}
use Rattle.plans.specs.Tables.{Floorplan, Feasible, table_in}

-- a list that names each number below m once
pub record NamesEach (m : ℕ) (s : List ℕ) : Type 0 where
  -- one place for each number
  pub long : length s ≡ m
  -- a number below m at each place
  pub modules : (k : ℕ) → k < m → slice_index s k < m
  -- and no number at two
  pub once : (k l : ℕ) → k < m → l < m → slice_index s k ≡ slice_index s l → k ≡ l

-- two sequences of the same modules, at most 64
pub record Pair (m : ℕ) (other packing : List ℕ) : Type 0 where
  pub few : m ≤ 64
  pub first : NamesEach m other
  pub second : NamesEach m packing

-- pairs and feasible floorplans determine each other
pub record PairLaw : Type 0 where
  -- a pair makes a feasible floorplan
  pub feasible : (m : ℕ) (other packing : List ℕ) → Pair m other packing → Feasible (from_pair other packing)
  -- whose codes the places in the two sequences tell
  pub codes :
      (m : ℕ) (other packing : List ℕ) → Pair m other packing → (i j : ℕ) → i < m → j < m
      → table_in (from_pair other packing) i j ≡ pair_table other packing i j
  -- a feasible floorplan has a pair: the other sequence of its table, and its packing sequence
  pub pair : (p : Floorplan) → Feasible p → Pair p.size (other_sequence p.size (table_in p)) p.sequence
  -- which determines it
  pub determined : (p : Floorplan) → Feasible p → from_pair (other_sequence p.size (table_in p)) p.sequence ≡ p
  -- and a pair is got back from its floorplan
  pub back :
      (m : ℕ) (other packing : List ℕ) → Pair m other packing → other_sequence m (table_in (from_pair other packing)) ≡ other
