-- What swap, reverse and move do to each graph: the edges that it gains and loses, and that the rest stays.
use Rattle.std.specs.Prelude.{◌≡◌, ℕ, ◌≢◌, ◌⊎◌, ◌↔◌, map, None}
use Rattle.plans.specs.Changes.{other_graph, exchange, change_refusal, changed}
use Rattle.plans.specs.Published.{Edge}
use Rattle.plans.specs.Sequences.{fitting}
use Rattle.plans.specs.Tables.{Table, Floorplan, Feasible, table_in}
use Rattle.plans.specs.declared.change.Change.{Change}
use Rattle.plans.specs.declared.change.Change.TheVariants.{Rotate, Swap, Reverse, MoveEdge}

-- b, and each module with an edge to b once (a, b) is gone
abbrev pub ReverseFrom : Table → ℕ → ℕ → ℕ → Type 0
ReverseFrom c a b k = (k ≡ b) ⊎ ((k ≢ a) × Edge c (c a b) k b)

-- a, and each module to which a has an edge once (a, b) is gone
abbrev pub ReverseTo : Table → ℕ → ℕ → ℕ → Type 0
ReverseTo c a b l = (l ≡ a) ⊎ ((l ≢ b) × Edge c (c a b) a l)

-- an edge from one of the first to one of the second
abbrev pub ReverseGains : Table → ℕ → ℕ → ℕ → ℕ → Type 0
ReverseGains c a b k l = ReverseFrom c a b k × ReverseTo c a b l

-- a, and each module with an edge to a in the graph that (a, b) moves to
abbrev pub MoveFrom : Table → ℕ → ℕ → ℕ → Type 0
MoveFrom c a b k = (k ≡ a) ⊎ Edge c (other_graph (c a b)) k a

-- b, and each module to which b has an edge there
abbrev pub MoveTo : Table → ℕ → ℕ → ℕ → Type 0
MoveTo c a b l = (l ≡ b) ⊎ Edge c (other_graph (c a b)) b l

-- an edge from one of the first to one of the second
abbrev pub MoveGains : Table → ℕ → ℕ → ℕ → ℕ → Type 0
MoveGains c a b k l = MoveFrom c a b k × MoveTo c a b l

-- what a graph has afterwards: what it gains, and what it had and does not lose
abbrev pub Becomes : (after had gains loses : Type 0) → Type 0
Becomes after had gains loses = after ↔ (gains ⊎ (had × (loses → ⊥)))

-- a swap in words, from a floorplan p to q: a and b stand in each other's place, in both graphs and in the sequence
pub record SwapWords (p q : Floorplan) (a b : ℕ) : Type 0 where
  pub size : q.size ≡ p.size
  pub graphs : (g i j : ℕ) → Edge (table_in q) g i j ↔ Edge (table_in p) g (exchange a b i) (exchange a b j)
  pub sequence : q.sequence ≡ map (exchange a b) p.sequence

-- a reverse of (a, b) in words
pub record ReverseWords (p q : Floorplan) (a b : ℕ) : Type 0 where
  pub size : q.size ≡ p.size
  -- its graph gains the edges above, and loses (a, b) alone
  pub own :
      (i j : ℕ) →
      Becomes (Edge (table_in q) (table_in p a b) i j) (Edge (table_in p) (table_in p a b) i j)
      (ReverseGains (table_in p) a b i j) ((i ≡ a) × (j ≡ b))
  -- the other graph gains none, and loses its edges between the same modules in either direction
  pub other :
      (i j : ℕ) →
      Becomes (Edge (table_in q) (other_graph (table_in p a b)) i j) (Edge (table_in p) (other_graph (table_in p a b)) i j)
      ⊥ (ReverseGains (table_in p) a b i j ⊎ ReverseGains (table_in p) a b j i)
  -- the sequence is the one that fits
  pub sequence : q.sequence ≡ fitting q.size (table_in q)

-- a move of (a, b) in words
pub record MoveWords (p q : Floorplan) (a b : ℕ) : Type 0 where
  pub size : q.size ≡ p.size
  -- its graph gains none, and loses the edges that the other gains
  pub own :
      (i j : ℕ) →
      Becomes (Edge (table_in q) (table_in p a b) i j) (Edge (table_in p) (table_in p a b) i j)
      ⊥ (MoveGains (table_in p) a b i j)
  -- the other graph gains the edges above, and loses none
  pub other :
      (i j : ℕ) →
      Becomes (Edge (table_in q) (other_graph (table_in p a b)) i j) (Edge (table_in p) (other_graph (table_in p a b)) i j)
      (MoveGains (table_in p) a b i j) ⊥
  pub sequence : q.sequence ≡ p.sequence

-- what a change does to a floorplan; a rotation leaves it
abbrev pub ChangeWords : Floorplan → Floorplan → Change → Type 0
ChangeWords p q (Rotate a) = q ≡ p
ChangeWords p q (Swap a b) = SwapWords p q a b
ChangeWords p q (Reverse a b) = ReverseWords p q a b
ChangeWords p q (MoveEdge a b) = MoveWords p q a b

-- of every feasible floorplan, by every change that is not refused
abbrev pub ChangesAsTold : Type 0
ChangesAsTold =
    (p : Floorplan) → Feasible p → (c : Change) → change_refusal p c ≡ None → ChangeWords p (changed p c) c

-- and a rotation leaves every floorplan, also where it is refused
abbrev pub RotationsLeave : Type 0
RotationsLeave = (p : Floorplan) (a : ℕ) → changed p (Rotate a) ≡ p
