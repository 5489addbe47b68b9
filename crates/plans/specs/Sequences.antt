-- The packing sequence that fits a table, and the published way to repair one after a reverse.
use Rattle.std.specs.Prelude.{ℕ, suc, Bool, cond, not, List, [], ◌∷◌, ◌++◌, map, take, drop, ◌==◌, nat_eq, nat_lt}
use Rattle.std.specs.List.{range_with_len}
use Rattle.std.specs.Option.{unwrap_or}
use Rattle.plans.specs.Search.{first_below, count_below, place_of}
use Rattle.plans.specs.Tables.{Table}

-- how many of m modules stand before i
abbrev pub count_before : ℕ → (ℕ → ℕ → Bool) → ℕ → ℕ
count_before m before i = count_below m (λ j. before j i)

-- the sequence in which each module stands at the place that counts those before it, for an order in which any two
-- compare; 0 at a place that no module counts
abbrev pub ordered_by : ℕ → (ℕ → ℕ → Bool) → List ℕ
ordered_by m before = map (λ k. unwrap_or (first_below m (λ i. nat_eq (count_before m before i) k)) 0) (range_with_len 0 m)

-- i has an edge to j, in either graph
abbrev pub edge_to : Table → ℕ → ℕ → Bool
edge_to c i j = nat_lt 0 (c i j)

-- the packing sequence that fits a feasible table
abbrev pub fitting : ℕ → Table → List ℕ
fitting m c = ordered_by m (edge_to c)

-- the entries that pass, in their order
abbrev pub kept_by : (ℕ → Bool) → List ℕ → List ℕ
kept_by passes [] = []
kept_by passes (x ∷ xs) = cond (passes x) (x ∷ kept_by passes xs) (kept_by passes xs)

-- the modules from the place after a up to the one before b
abbrev pub between_in : List ℕ → ℕ → ℕ → List ℕ
between_in s a b = drop (suc (place_of s a)) (take (place_of s b) s)

-- after a reverse of (a, b) in graph g of the table c, where a stands before b: take a out and put it after b; then take each
-- module between them to which a has an edge of g out and put it after the one put in last
abbrev pub repaired : Table → ℕ → ℕ → ℕ → List ℕ → List ℕ
repaired c g a b s =
    take (place_of s a) s ++
    (kept_by (λ k. not (c a k == g)) (between_in s a b) ++
    (b ∷ a ∷ (kept_by (λ k. nat_eq (c a k) g) (between_in s a b) ++ drop (suc (place_of s b)) s)))
