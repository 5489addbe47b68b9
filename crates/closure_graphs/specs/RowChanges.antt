-- What a change of an edge (a, b) makes of the edges of its own graph and of the other.
use Rattle.std.specs.Prelude.{ℕ, Bool, not, ◌&&◌, ◌||◌, ◌==◌}

-- edges, by whether there is one from i to j
abbrev pub Edges : Type 0
Edges = ℕ → ℕ → Bool

-- without the edge (a, b)
abbrev pub cut_edge : Edges → ℕ → ℕ → Edges
cut_edge e a b i j = e i j && not (i == a && j == b)

-- x, or a module with an edge to x; and x, or one to which x has an edge
abbrev pub toward : Edges → ℕ → ℕ → Bool
toward e x i = e i x || i == x

abbrev pub onward : Edges → ℕ → ℕ → Bool
onward e x j = e x j || j == x

-- the edges that a reverse of (a, b) adds to its own graph
abbrev pub reverse_adds : Edges → ℕ → ℕ → Edges
reverse_adds e a b i j = toward (cut_edge e a b) b i && onward (cut_edge e a b) a j

-- the own graph after a reverse, and the other, which loses the added edges in both directions
abbrev pub reversed_own : Edges → ℕ → ℕ → Edges
reversed_own e a b i j = cut_edge e a b i j || reverse_adds e a b i j

abbrev pub reversed_other : Edges → Edges → ℕ → ℕ → Edges
reversed_other e f a b i j = (f i j && not (reverse_adds e a b i j)) && not (reverse_adds e a b j i)

-- the edges that a move of (a, b) adds to the other graph
abbrev pub move_adds : Edges → ℕ → ℕ → Edges
move_adds f a b i j = toward f a i && onward f b j

-- the own graph after a move, and the other
abbrev pub moved_own : Edges → Edges → ℕ → ℕ → Edges
moved_own e f a b i j = e i j && not (move_adds f a b i j)

abbrev pub moved_other : Edges → ℕ → ℕ → Edges
moved_other f a b i j = f i j || move_adds f a b i j
