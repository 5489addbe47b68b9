-- The changes of a floorplan, their refusals, and what a load or a change makes of a floorplan.
use Rattle.std.specs.Prelude.{◌≡◌, ℕ, ◌-◌, Bool, cond, not, ◌&&◌, ◌||◌, List, map, Some, None, Ok, Err, Option, Result, ◌==◌, nat_le}
use Rattle.plans.specs.Search.{some_below, or_else, refusing}
use Rattle.plans.specs.Sequences.{fitting}
use Rattle.plans.specs.Tables.{Table, Floorplan, given, table_in, codes_of}
use Rattle.plans.specs.Tests.{load_refusal}
use Rattle.plans.specs.declared.change.Change.{Change}
use Rattle.plans.specs.declared.change.Change.TheVariants.{Rotate, Swap, Reverse, MoveEdge}
use Rattle.plans.specs.declared.refusals.LoadRefusal.{LoadRefusal}
use Rattle.plans.specs.declared.refusals.ChangeRefusal.{ChangeRefusal}
use Rattle.plans.specs.declared.refusals.ChangeRefusal.TheVariants.{NoModule, SameModule, NoEdge, NoReductionEdge}

-- the other of the two graphs
abbrev pub other_graph : ℕ → ℕ
other_graph g = 3 - g

-- a floorplan of as many modules with another table and sequence
abbrev pub with_table : Floorplan → Table → List ℕ → Floorplan
with_table p c s = record { size = p.size; codes = codes_of p.size c; sequence = s }

-- a and b in each other's place
abbrev pub exchange : ℕ → ℕ → ℕ → ℕ
exchange a b i = cond (i == a) b (cond (i == b) a i)

-- both graphs with a and b in each other's place
abbrev pub swap_table : Table → ℕ → ℕ → Table
swap_table c a b i j = c (exchange a b i) (exchange a b j)

-- a table without its edge (a, b)
abbrev pub without_edge : Table → ℕ → ℕ → Table
without_edge c a b i j = cond (i == a && j == b) 0 (c i j)

-- x, or a module with an edge of g to x
abbrev pub up_to : Table → ℕ → ℕ → ℕ → Bool
up_to c g x i = i == x || c i x == g

-- x, or a module to which x has an edge of g
abbrev pub on_from : Table → ℕ → ℕ → ℕ → Bool
on_from c g x i = i == x || c x i == g

-- a reverse of (a, b) in its graph g: g loses (a, b), then gains every (k, l) from b and what has an edge to b
-- to a and what a has an edge to; the other graph loses its edge between such k and l in either direction
abbrev pub reverse_table : Table → ℕ → ℕ → Table
reverse_table c a b i j =
    let g = c a b in
    let d = without_edge c a b in
    let gained = λ (k l : ℕ). up_to d g b k && on_from d g a l in
    cond (gained i j) g (cond (gained j i && not (d i j == g)) 0 (d i j))

-- a move of (a, b) from its graph g to the other: the other gains every (k, l) from a and what has an edge
-- to a there to b and what b has an edge to there, and g loses it
abbrev pub move_table : Table → ℕ → ℕ → Table
move_table c a b i j =
    let f = other_graph (c a b) in
    cond (up_to c f a i && on_from c f b j) f (c i j)

-- some module k has (a, k) and (k, b) in the graph of (a, b)
abbrev pub bypassed : ℕ → Table → ℕ → ℕ → Bool
bypassed m c a b = some_below m (λ k. (c a k == c a b) && c k b == c a b)

-- the first refusal of two different modules
abbrev pub two_refusal : ℕ → ℕ → ℕ → Option ChangeRefusal
two_refusal m a b = or_else (refusing (nat_le m a || nat_le m b) NoModule) (refusing (a == b) SameModule)

-- the first refusal of a reduction edge (a, b)
abbrev pub edge_refusal : ℕ → Table → ℕ → ℕ → Option ChangeRefusal
edge_refusal m c a b =
    or_else (two_refusal m a b)
    (or_else (refusing (c a b == 0) NoEdge) (refusing (bypassed m c a b) NoReductionEdge))

-- the first refusal of a change
abbrev pub change_refusal : Floorplan → Change → Option ChangeRefusal
change_refusal p (Rotate a) = refusing (nat_le p.size a) NoModule
change_refusal p (Swap a b) = two_refusal p.size a b
change_refusal p (Reverse a b) = edge_refusal p.size (table_in p) a b
change_refusal p (MoveEdge a b) = edge_refusal p.size (table_in p) a b

-- the floorplan that an accepted change gives; a rotation leaves it
abbrev pub changed : Floorplan → Change → Floorplan
changed p (Rotate a) = p
changed p (Swap a b) = with_table p (swap_table (table_in p) a b) (map (exchange a b) p.sequence)
changed p (Reverse a b) =
    let c = reverse_table (table_in p) a b in
    with_table p c (fitting p.size c)
changed p (MoveEdge a b) = with_table p (move_table (table_in p) a b) p.sequence

-- a refusal, or else the value
abbrev pub unless : {X E : Type 0} → Option E → X → Result X E
unless (Some e) x = Err e
unless None x = Ok x

-- what a load gives: its first refusal, or the floorplan that was loaded
abbrev pub after_load : List ℕ → List ℕ → Result Floorplan LoadRefusal
after_load codes s = unless (load_refusal codes s) (given codes s)

-- what a change of a floorplan gives: its first refusal, or the changed floorplan
abbrev pub after_change : Floorplan → Change → Result Floorplan ChangeRefusal
after_change p change = unless (change_refusal p change) (changed p change)

-- a call's answer and what is meant after it: a refusal, and what was meant before; or done, and what was made
abbrev pub Follows : {E : Type 0} → Result Floorplan E → Result (Unit {0}) E → Floorplan → Floorplan → Type 0
Follows (Ok made) answer old new = (answer ≡ Ok tt) × (new ≡ made)
Follows (Err e) answer old new = (answer ≡ Err e) × (new ≡ old)
