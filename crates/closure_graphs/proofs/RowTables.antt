-- Changes of the edges of two graphs are the changes of their table.
use Rattle.std.proofs.Common.{◌≡◌, ℕ, ◌<◌, Bool, true, false, cond, not, ◌&&◌, ◌||◌, eqb, ◌≢◌, sym, refl, ap, ◌∙◌, arith}
use mathlib.Core.Path.{fun_ext}
use Rattle.std.proofs.lemmas.Bool.{ne_eqb}
use Rattle.std.proofs.lemmas.Bool.Decides.{nat_tests}
use Rattle.graphs.specs.Edges.{edge}
use Rattle.graphs.specs.declared.graph.Graph.{Graph}
use Rattle.plans.specs.Changes.{without_edge, up_to, on_from, reverse_table, move_table, other_graph}
use Rattle.plans.specs.Tables.{Table}
use Rattle.table_tests.specs.Tested.{Shows}
use Rattle.closure_graphs.specs.RowChanges.{Edges, cut_edge, onward, reverse_adds, reversed_own, reversed_other, move_adds, moved_own, moved_other}

-- the edges of a code
abbrev pub having : Table → ℕ → Edges
having c g i j = eqb (c i j) g

or_swap : (x y : Bool) → (x || y) ≡ (y || x)
or_swap true true = refl
or_swap true false = refl
or_swap false true = refl
or_swap false false = refl

-- the number that a cut, a reverse or a move leaves, against one code
cut_number : (t : Bool) (n g : ℕ) → 0 < g → (eqb n g && not t) ≡ eqb (cond t 0 n) g
cut_number true n g h = grind (arith, nat_tests)
cut_number false n g h = grind (arith, nat_tests)

own_number :
    (x y : Bool) (n g : ℕ) → 0 < g → (eqb n g || x) ≡ eqb (cond x g (cond (y && not (eqb n g)) 0 n)) g
own_number true true n g h = grind (arith, nat_tests)
own_number true false n g h = grind (arith, nat_tests)
own_number false true n g h = grind (arith, nat_tests)
own_number false false n g h = grind (arith, nat_tests)

other_number :
    (x y : Bool) (n g f : ℕ) → 0 < f → f ≢ g
    → ((eqb n f && not x) && not y) ≡ eqb (cond x g (cond (y && not (eqb n g)) 0 n)) f
other_number true true n g f h ne = grind (arith, nat_tests)
other_number true false n g f h ne = grind (arith, nat_tests)
other_number false true n g f h ne = grind (arith, nat_tests)
other_number false false n g f h ne = grind (arith, nat_tests)

gain_number : (x : Bool) (n f : ℕ) → (eqb n f || x) ≡ eqb (cond x f n) f
gain_number true n f = grind (arith, nat_tests)
gain_number false n f = grind (arith, nat_tests)

lose_number : (x : Bool) (n f g : ℕ) → f ≢ g → (eqb n g && not x) ≡ eqb (cond x f n) g
lose_number true n f g ne = grind (arith, nat_tests)
lose_number false n f g ne = grind (arith, nat_tests)

module _ (c : Table) (a b : ℕ) (some : 0 < c a b) where
  abbrev g : ℕ
  g = c a b

  abbrev d : Table
  d = without_edge c a b

  cut_is : (i j : ℕ) → cut_edge (having c g) a b i j ≡ eqb (d i j) g
  cut_is i j = cut_number (eqb i a && eqb j b) (c i j) g some

  abbrev gained : ℕ → ℕ → Bool
  gained k l = up_to d g b k && on_from d g a l

  adds_is : (i j : ℕ) → reverse_adds (having c g) a b i j ≡ gained i j
  adds_is i j =
      ap (λ x. (x || eqb i b) && onward (cut_edge (having c g) a b) a j) (cut_is i b)
      ∙ ap (λ x. (eqb (d i b) g || eqb i b) && (x || eqb j a)) (cut_is a j)
      ∙ ap (λ x. x && (eqb (d a j) g || eqb j a)) (or_swap (eqb (d i b) g) (eqb i b))
      ∙ ap (λ x. up_to d g b i && x) (or_swap (eqb (d a j) g) (eqb j a))

  -- a reverse of the own graph
  pub reversed_own_lem : (i j : ℕ) → reversed_own (having c g) a b i j ≡ eqb (reverse_table c a b i j) g
  reversed_own_lem i j =
      ap (λ x. x || reverse_adds (having c g) a b i j) (cut_is i j)
      ∙ ap (λ x. eqb (d i j) g || x) (adds_is i j)
      ∙ own_number (gained i j) (gained j i) (d i j) g some

  -- an edge of the other graph is not the one that is cut
  kept_is : (f : ℕ) → 0 < f → f ≢ g → (i j : ℕ) → eqb (c i j) f ≡ eqb (d i j) f
  kept_is f h ne i j = settle (eqb i a && eqb j b) refl
    where
      settle : (t : Bool) → (eqb i a && eqb j b) ≡ t → eqb (c i j) f ≡ eqb (cond t 0 (c i j)) f
      settle true e =
          let x : i ≡ a = grind (arith, nat_tests) in
          let y : j ≡ b = grind (arith, nat_tests) in
          let z : c i j ≡ g = ap (λ n. c n j) x ∙ ap (λ n. c a n) y in
          ne_eqb (c i j) f (λ w. ne (sym w ∙ z)) ∙ sym (ne_eqb 0 f (λ w. omega arith))
      settle false e = refl

  pub reversed_other_lem :
      (f : ℕ) → 0 < f → f ≢ g → (i j : ℕ)
      → reversed_other (having c g) (having c f) a b i j ≡ eqb (reverse_table c a b i j) f
  reversed_other_lem f h ne i j =
      ap (λ x. (x && not (reverse_adds (having c g) a b i j)) && not (reverse_adds (having c g) a b j i)) (kept_is f h ne i j)
      ∙ ap (λ x. (eqb (d i j) f && not x) && not (reverse_adds (having c g) a b j i)) (adds_is i j)
      ∙ ap (λ x. (eqb (d i j) f && not (gained i j)) && not x) (adds_is j i)
      ∙ other_number (gained i j) (gained j i) (d i j) g f h ne

module _ (c : Table) (a b f : ℕ) (f-is : f ≡ other_graph (c a b)) where
  abbrev taken : ℕ → ℕ → Bool
  taken i j = up_to c f a i && on_from c f b j

  move_adds_is : (i j : ℕ) → move_adds (having c f) a b i j ≡ taken i j
  move_adds_is i j =
      ap (λ x. x && onward (having c f) b j) (or_swap (eqb (c i a) f) (eqb i a))
      ∙ ap (λ x. up_to c f a i && x) (or_swap (eqb (c b j) f) (eqb j b))

  moved_is : (i j : ℕ) → cond (taken i j) f (c i j) ≡ move_table c a b i j
  moved_is i j = ap (λ n. cond (up_to c n a i && on_from c n b j) n (c i j)) f-is

  pub moved_other_lem : (i j : ℕ) → moved_other (having c f) a b i j ≡ eqb (move_table c a b i j) f
  moved_other_lem i j =
      ap (λ x. eqb (c i j) f || x) (move_adds_is i j) ∙ gain_number (taken i j) (c i j) f
      ∙ ap (λ n. eqb n f) (moved_is i j)

  pub moved_own_lem :
      (g : ℕ) → f ≢ g → (i j : ℕ) → moved_own (having c g) (having c f) a b i j ≡ eqb (move_table c a b i j) g
  moved_own_lem g ne i j =
      ap (λ x. eqb (c i j) g && not x) (move_adds_is i j) ∙ lose_number (taken i j) (c i j) f g ne
      ∙ ap (λ n. eqb n g) (moved_is i j)

-- the graphs show the table after a reverse, where they showed it before
pub reverse_shown :
    (c : Table) (a b f : ℕ) → 0 < c a b → 0 < f → f ≢ c a b → (own other own' other' : Graph) → Shows c (c a b) own
    → Shows c f other → ((i j : ℕ) → edge own' i j ≡ reversed_own (edge own) a b i j)
    → ((i j : ℕ) → edge other' i j ≡ reversed_other (edge own) (edge other) a b i j)
    → Shows (reverse_table c a b) (c a b) own' × Shows (reverse_table c a b) f other'
reverse_shown c a b f some some' ne own other own' other' p q r s =
    let e : edge own ≡ having c (c a b) = fun_ext (λ i. fun_ext (λ j. p i j)) in
    let o : edge other ≡ having c f = fun_ext (λ i. fun_ext (λ j. q i j)) in (
      λ i j. r i j ∙ ap (λ x. reversed_own x a b i j) e ∙ reversed_own_lem c a b some i j,
      λ i j.
          s i j ∙ ap (λ x. reversed_other x (edge other) a b i j) e ∙ ap (λ x. reversed_other (having c (c a b)) x a b i j) o
          ∙ reversed_other_lem c a b some f some' ne i j,
    )

-- and after a move
pub move_shown :
    (c : Table) (a b f : ℕ) → f ≡ other_graph (c a b) → f ≢ c a b → (own other own' other' : Graph) → Shows c (c a b) own
    → Shows c f other → ((i j : ℕ) → edge own' i j ≡ moved_own (edge own) (edge other) a b i j)
    → ((i j : ℕ) → edge other' i j ≡ moved_other (edge other) a b i j)
    → Shows (move_table c a b) (c a b) own' × Shows (move_table c a b) f other'
move_shown c a b f is ne own other own' other' p q r s =
    let e : edge own ≡ having c (c a b) = fun_ext (λ i. fun_ext (λ j. p i j)) in
    let o : edge other ≡ having c f = fun_ext (λ i. fun_ext (λ j. q i j)) in (
      λ i j.
          r i j ∙ ap (λ x. moved_own x (edge other) a b i j) e ∙ ap (λ x. moved_own (having c (c a b)) x a b i j) o
          ∙ moved_own_lem c a b f is (c a b) ne i j,
      λ i j. s i j ∙ ap (λ x. moved_other x a b i j) o ∙ moved_other_lem c a b f is i j,
    )
