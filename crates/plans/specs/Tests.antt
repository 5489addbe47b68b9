-- The first refusal of a table, of a sequence and of a load.
use Rattle.std.specs.Prelude.{ℕ, ◌*◌, Bool, cond, not, ◌&&◌, ◌||◌, List, length, is_some, Option, ◌==◌, nat_eq, nat_le, nat_lt, slice_index}
use Rattle.std.specs.Option.{option_map}
use Rattle.plans.specs.Search.{first_below, first_pair, some_below, or_else, refusing, place_of}
use Rattle.plans.specs.Tables.{Table, Floorplan, table_of}
use Rattle.plans.specs.declared.refusals.LoadRefusal.{LoadRefusal}
use Rattle.plans.specs.declared.refusals.LoadRefusal.TheVariants.{WrongShape, WrongCode, SelfRelated, NotOneEdge, NotClosed, WrongPlace, Backwards}

-- more modules than the limit, or not m × m codes
abbrev pub misshapen : ℕ → ℕ → List ℕ → Bool
misshapen limit m codes = nat_lt limit m || not (length codes == m * m)

-- a code above the greatest
abbrev pub code_wrong : ℕ → Table → ℕ → ℕ → Bool
code_wrong greatest c i j = nat_lt greatest (c i j)

-- a module related to itself
abbrev pub self_related : Table → ℕ → ℕ → Bool
self_related c i j = i == j && nat_lt 0 (c i j)

-- two modules, the lower number first, with no edge or with two
abbrev pub not_one_edge : Table → ℕ → ℕ → Bool
not_one_edge c i j = nat_lt i j && cond (nat_lt 0 (c i j)) (nat_lt 0 (c j i)) (not (nat_lt 0 (c j i)))

-- no edge (i, k) in a graph that has (i, j) and (j, k)
abbrev pub not_closed : ℕ → Table → ℕ → ℕ → Bool
not_closed m c i k = some_below m (λ j. nat_lt 0 (c i j) && c i j == c j k && not (c i k == c i j))

-- a place of the sequence with no module, or with one that stands earlier too
abbrev pub place_wrong : List ℕ → ℕ → Bool
place_wrong s k = nat_le (length s) (slice_index s k) || some_below k (λ l. nat_eq (slice_index s l) (slice_index s k))

-- an edge that points backwards in the sequence
abbrev pub backwards : Table → List ℕ → ℕ → ℕ → Bool
backwards c s i j = nat_lt 0 (c i j) && nat_lt (place_of s j) (place_of s i)

-- a refusal that tells a pair
abbrev pub telling_pair : (ℕ → ℕ → LoadRefusal) → Option (ℕ × ℕ) → Option LoadRefusal
telling_pair refusal pair = option_map (λ q. refusal q.0 q.1) pair

-- the first refusal, but for closure, of the codes of m modules, at most limit of them, with codes up to the greatest:
-- each test goes over the whole table before the next
abbrev pub codes_refusal : (limit greatest m : ℕ) → List ℕ → Option LoadRefusal
codes_refusal limit greatest m codes =
    let c = table_of m codes in
    or_else (refusing (misshapen limit m codes) WrongShape)
    (or_else (telling_pair WrongCode (first_pair m (code_wrong greatest c)))
    (or_else (telling_pair SelfRelated (first_pair m (self_related c)))
    (telling_pair NotOneEdge (first_pair m (not_one_edge c)))))

-- the first refusal of a table: closure is tested last
abbrev pub table_refusal : (limit greatest m : ℕ) → List ℕ → Option LoadRefusal
table_refusal limit greatest m codes =
    or_else (codes_refusal limit greatest m codes) (telling_pair NotClosed (first_pair m (not_closed m (table_of m codes))))

-- the first refusal of a sequence, whose length is the number of modules
abbrev pub sequence_refusal : Table → List ℕ → Option LoadRefusal
sequence_refusal c s =
    or_else (option_map WrongPlace (first_below (length s) (place_wrong s)))
    (telling_pair Backwards (first_pair (length s) (backwards c s)))

-- the first refusal of a load: m is the sequence's length, at most 64, and codes are 0, 1 and 2
abbrev pub load_refusal : List ℕ → List ℕ → Option LoadRefusal
load_refusal codes s =
    or_else (table_refusal 64 2 (length s) codes) (sequence_refusal (table_of (length s) codes) s)

-- a load of a floorplan's own codes and sequence is not refused
abbrev pub loadable : Floorplan → Bool
loadable p = not (is_some (load_refusal p.codes p.sequence))
