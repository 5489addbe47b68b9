-- A change of an edge's own graph and of the other is the change of the table, in either direction.
use Rattle.std.proofs.Common.{◌≡◌, ℕ, ◌<◌, ◌≢◌, sym, refl, subst, arith}
use Rattle.graphs.specs.Edges.{edge}
use Rattle.graphs.specs.declared.graph.Graph.{Graph}
use Rattle.plans.specs.Changes.{reverse_table, move_table, other_graph}
use Rattle.plans.specs.Directions.{code_along, turned}
use Rattle.plans.specs.Tables.{Table}
use Rattle.plans.specs.declared.direction.Direction.{Direction}
use Rattle.plans.specs.declared.direction.Direction.TheVariants.{Right, Above}
use Rattle.table_tests.specs.Tested.{Shows}
use Rattle.table_tests.specs.declared.build.TwoGraphs.{TwoGraphs}
use Rattle.closure_graphs.proofs.RowTables.{reverse_shown, move_shown}
use Rattle.closure_graphs.specs.RowChanges.{reversed_own, reversed_other, moved_own, moved_other}
use Rattle.closure_graphs.specs.Shown.{Shown, facing, graph_along}

-- the codes of the two directions
pub record Codes (d : Direction) : Type 0 where
  pub some : 0 < code_along d
  pub other : 0 < code_along (turned d)
  pub turn : code_along (turned d) ≡ other_graph (code_along d)

pub codes : (d : Direction) → Codes d
codes Right = record { some = omega arith; other = omega arith; turn = omega arith }
codes Above = record { some = omega arith; other = omega arith; turn = omega arith }

-- two graphs are that of a direction and that of the other
pub facing_along : (d : Direction) (two : TwoGraphs) → facing d (graph_along d two) (graph_along (turned d) two) ≡ two
facing_along Right two = refl
facing_along Above two = refl

-- what two graphs show, by the direction that one of them has
pub shown_own : (c : Table) (d : Direction) (g h : Graph) → Shown c (facing d g h) → Shows c (code_along d) g
shown_own c Right g h shown = shown.0
shown_own c Above g h shown = shown.1

shown_other : (c : Table) (d : Direction) (g h : Graph) → Shown c (facing d g h) → Shows c (code_along (turned d)) h
shown_other c Right g h shown = shown.1
shown_other c Above g h shown = shown.0

shown_both :
    (c : Table) (d : Direction) (g h : Graph) → Shows c (code_along d) g → Shows c (code_along (turned d)) h
    → Shown c (facing d g h)
shown_both c Right g h own other = (own, other)
shown_both c Above g h own other = (other, own)

module _ (d : Direction) (c : Table) (a b : ℕ) (is : c a b ≡ code_along d) (g h : Graph)
    (shown : Shown c (facing d g h)) (g' h' : Graph) where
  apart : code_along (turned d) ≢ c a b
  apart e = let k = codes d in let some = k.some in let turn = k.turn in omega arith

  own : Shows c (c a b) g
  own = subst (λ n. Shows c n g) (sym is) (shown_own c d g h shown)

  pub reverse_along :
      ((i j : ℕ) → edge g' i j ≡ reversed_own (edge g) a b i j)
      → ((i j : ℕ) → edge h' i j ≡ reversed_other (edge g) (edge h) a b i j) → Shown (reverse_table c a b) (facing d g' h')
  reverse_along p q =
      let some : 0 < c a b = rw is (codes d).some in
      let both =
      reverse_shown c a b (code_along (turned d)) some (codes d).other apart g h g' h' own (shown_other c d g h shown) p q
      in
      shown_both (reverse_table c a b) d g' h' (subst (λ n. Shows (reverse_table c a b) n g') is both.0) both.1

  pub move_along :
      ((i j : ℕ) → edge g' i j ≡ moved_own (edge g) (edge h) a b i j)
      → ((i j : ℕ) → edge h' i j ≡ moved_other (edge h) a b i j) → Shown (move_table c a b) (facing d g' h')
  move_along p q =
      let turn : code_along (turned d) ≡ other_graph (c a b) = rw is (codes d).turn in
      let both =
      move_shown c a b (code_along (turned d)) turn apart g h g' h' own (shown_other c d g h shown) p q
      in
      shown_both (move_table c a b) d g' h' (subst (λ n. Shows (move_table c a b) n g') is both.0) both.1
