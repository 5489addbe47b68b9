-- The law of transposition.
use Rattle.std.proofs.Common.{◌≡◌, ℕ, Bool, true, false, cond, not, ◌&&◌, ◌||◌, eqb, List, map, sym, refl, ap, ◌∙◌, subst, ap₂}
use mathlib.Core.Path.{fun_ext}
use Rattle.plans.proofs.LoadLaw.{load_feasible, feasible_load, feasible_given}
use Rattle.plans.proofs.Transposing.{other_same, other_some, other_none, other_graph_lem, other_cond, other_table, other_codes, map_twice, load_other, loads, made_other}
use Rattle.plans.specs.Changes.{other_graph, exchange, swap_table, without_edge, up_to, on_from, reverse_table, move_table, bypassed, two_refusal, edge_refusal, change_refusal, changed, with_table}
use Rattle.plans.specs.Search.{some_below, or_else, refusing}
use Rattle.plans.specs.Sequences.{fitting, ordered_by}
use Rattle.plans.specs.Tables.{Table, Floorplan, Feasible, table_in, codes_of, given}
use Rattle.plans.specs.Transposed.{other_code, transpose, transpose_table}
use Rattle.plans.specs.TransposeLaw.{TransposeLaw}
use Rattle.plans.specs.declared.change.Change.{Change}
use Rattle.plans.specs.declared.change.Change.TheVariants.{Rotate, Swap, Reverse, MoveEdge}
use Rattle.plans.specs.declared.refusals.ChangeRefusal.TheVariants.{NoEdge, NoReductionEdge}

-- a table and its exchange have the same edges up to and on from a module
up_other : (c : Table) (g x i : ℕ) → up_to (transpose_table c) (other_code g) x i ≡ up_to c g x i
up_other c g x i = ap (λ b. eqb i x || b) (other_same (c i x) g)

on_other : (c : Table) (g x i : ℕ) → on_from (transpose_table c) (other_code g) x i ≡ on_from c g x i
on_other c g x i = ap (λ b. eqb i x || b) (other_same (c x i) g)

without_other : (c : Table) (a b : ℕ) → without_edge (transpose_table c) a b ≡ transpose_table (without_edge c a b)
without_other c a b = fun_ext (λ i. fun_ext (λ j. other_cond (eqb i a && eqb j b) 0 (c i j)))

-- a reverse by the table without the edge, and its graph
reverse_with : Table → ℕ → ℕ → ℕ → Table
reverse_with d g a b i j =
    cond (up_to d g b i && on_from d g a j) g
    (cond (up_to d g b j && on_from d g a i && not (eqb (d i j) g)) 0 (d i j))

gained_other : (b c : Bool) (g x : ℕ) → cond b (other_code g) (cond c 0 (other_code x)) ≡ other_code (cond b g (cond c 0 x))
gained_other true c g x = refl
gained_other false c g x = other_cond c 0 x

reverse_with_other :
    (d : Table) (g a b i j : ℕ) → reverse_with (transpose_table d) (other_code g) a b i j ≡ other_code (reverse_with d g a b i j)
unfolding reverse_with
reverse_with_other d g a b i j =
    let p = up_other d g b i in
    let q = on_other d g a j in
    let r = up_other d g b j in
    let s = on_other d g a i in
    let t = other_same (d i j) g in
    let gain = ap₂ (λ x y. x && y) p q in
    let lose = ap₂ (λ x y. x && y) (ap₂ (λ x y. x && y) r s) (ap not t) in
    ap₂ (λ x y. cond x (other_code g) (cond y 0 (other_code (d i j)))) gain lose
    ∙ gained_other (up_to d g b i && on_from d g a j) (up_to d g b j && on_from d g a i && not (eqb (d i j) g)) g (d i j)

reverse_other : (c : Table) (a b : ℕ) → reverse_table (transpose_table c) a b ≡ transpose_table (reverse_table c a b)
unfolding reverse_with
reverse_other c a b =
    fun_ext
    (λ i. fun_ext
    (λ j. ap (λ (d : Table). reverse_with d (other_code (c a b)) a b i j) (without_other c a b)
    ∙ reverse_with_other (without_edge c a b) (c a b) a b i j))

-- a move by the graph that gains
move_with : Table → ℕ → ℕ → ℕ → Table
move_with c f a b i j = cond (up_to c f a i && on_from c f b j) f (c i j)

move_other : (c : Table) (a b : ℕ) → move_table (transpose_table c) a b ≡ transpose_table (move_table c a b)
unfolding move_with
move_other c a b =
    let f = other_graph (c a b) in
    fun_ext
    (λ i. fun_ext
    (λ j. ap (λ h. move_with (transpose_table c) h a b i j) (other_graph_lem (c a b))
    ∙ ap₂ (λ x y. cond (x && y) (other_code f) (other_code (c i j))) (up_other c f a i) (on_other c f b j)
    ∙ other_cond (up_to c f a i && on_from c f b j) f (c i j)))

bypassed_other : (m : ℕ) (c : Table) (a b : ℕ) → bypassed m (transpose_table c) a b ≡ bypassed m c a b
bypassed_other m c a b =
    ap (some_below m)
    (fun_ext (λ k. ap₂ (λ x y. x && y) (other_same (c a k) (c a b)) (other_same (c k b) (c a b))))

fitting_other : (m : ℕ) (c : Table) → fitting m (transpose_table c) ≡ fitting m c
fitting_other m c = ap (ordered_by m) (fun_ext (λ i. fun_ext (λ j. other_some (c i j))))

edge_other : (m : ℕ) (c : Table) (a b : ℕ) → edge_refusal m (transpose_table c) a b ≡ edge_refusal m c a b
edge_other m c a b =
    ap₂ (λ x y. or_else (two_refusal m a b) (or_else (refusing x NoEdge) (refusing y NoReductionEdge))) (other_none (c a b))
    (bypassed_other m c a b)

table_other : (p : Floorplan) → table_in (transpose p) ≡ transpose_table (table_in p)
table_other p = other_table p.size p.codes

refusal_other : (p : Floorplan) (c : Change) → change_refusal (transpose p) c ≡ change_refusal p c
refusal_other p (Rotate a) = refl
refusal_other p (Swap a b) = refl
refusal_other p (Reverse a b) =
    ap (λ (t : Table). edge_refusal p.size t a b) (table_other p) ∙ edge_other p.size (table_in p) a b
refusal_other p (MoveEdge a b) =
    ap (λ (t : Table). edge_refusal p.size t a b) (table_other p) ∙ edge_other p.size (table_in p) a b

-- a floorplan with an exchanged table and a sequence
with_other :
    (p : Floorplan) (c d : Table) (s t : List ℕ) → d ≡ transpose_table c → s ≡ t → with_table (transpose p) d s ≡ transpose (with_table p c t)
with_other p c d s t e f =
    λ i. record { size = p.size; codes = (ap (codes_of p.size) e ∙ other_codes p.size c) i; sequence = f i }

changed_other : (p : Floorplan) (c : Change) → changed (transpose p) c ≡ transpose (changed p c)
changed_other p (Rotate a) = refl
changed_other p (Swap a b) =
    with_other p (swap_table (table_in p) a b) (swap_table (table_in (transpose p)) a b) (map (exchange a b) p.sequence)
    (map (exchange a b) p.sequence) (ap (λ (t : Table). swap_table t a b) (table_other p)) refl
changed_other p (Reverse a b) =
    let e : reverse_table (table_in (transpose p)) a b ≡ transpose_table (reverse_table (table_in p) a b) =
    ap (λ (t : Table). reverse_table t a b) (table_other p) ∙ reverse_other (table_in p) a b in
    with_other p (reverse_table (table_in p) a b) (reverse_table (table_in (transpose p)) a b)
    (fitting p.size (reverse_table (table_in (transpose p)) a b)) (fitting p.size (reverse_table (table_in p) a b)) e
    (ap (fitting p.size) e ∙ fitting_other p.size (reverse_table (table_in p) a b))
changed_other p (MoveEdge a b) =
    with_other p (move_table (table_in p) a b) (move_table (table_in (transpose p)) a b) p.sequence p.sequence
    (ap (λ (t : Table). move_table t a b) (table_other p) ∙ move_other (table_in p) a b) refl

transpose_feasible : (p : Floorplan) → Feasible p → Feasible (transpose p)
transpose_feasible p f =
    let q = given p.codes p.sequence in
    let e : q ≡ p = feasible_given p f in
    let g : Feasible q = subst Feasible (sym e) f in
    subst (λ r. Feasible (transpose r)) e
    (load_feasible (map other_code p.codes) p.sequence
    (load_other p.codes p.sequence ∙ feasible_load p.codes p.sequence g))

pub transpose_law : TransposeLaw
transpose_law =
    record {
      inverse = λ p. λ i. record { size = p.size; codes = map_twice p.codes i; sequence = p.sequence };
      codes = λ p i j. ap (λ (t : Table). t i j) (table_other p);
      feasible = transpose_feasible;
      loads = loads;
      changes =
          λ p c. made_other (change_refusal (transpose p) c) (change_refusal p c) (changed (transpose p) c) (changed p c)
          (refusal_other p c) (changed_other p c);
    }
