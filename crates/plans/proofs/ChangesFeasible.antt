-- The accepted changes of a feasible floorplan are feasible.
use Rattle.std.proofs.Common.{◌≡◌, ℕ, ◌<◌, List, map, sym, subst, inl, inr, arith}
use mathlib.Core.Path.{fun_ext}
use Rattle.std.proofs.lemmas.Bool.{cases_lt}
use Rattle.plans.proofs.Accepted.{two_accepted, edge_accepted, free_single}
use Rattle.plans.proofs.MoveFeasible.{move_feasible, move_fits}
use Rattle.plans.proofs.ReverseFeasible.{reverse_feasible}
use Rattle.plans.proofs.Sequences.{sequence_determined}
use Rattle.plans.proofs.SwapFeasible.{swap_feasible, swap_fits}
use Rattle.plans.proofs.TableLists.{codes_length, read_back, table_within}
use Rattle.plans.specs.Changes.{with_table, exchange, swap_table, reverse_table, move_table}
use Rattle.plans.specs.ChangesFeasible.{ChangesFeasible}
use Rattle.plans.specs.Sequences.{fitting}
use Rattle.plans.specs.Tables.{Table, Floorplan, FeasibleTable, Fits, Feasible, table_of, codes_of, table_in}
use Rattle.plans.specs.declared.change.Change.TheVariants.{Rotate, Swap, Reverse, MoveEdge}

-- a table that is 0 outside m modules is the table of its codes
pub whole_table :
    (m : ℕ) (c : Table) → ((i j : ℕ) → 0 < c i j → (i < m) × (j < m)) → table_of m (codes_of m c) ≡ c
whole_table m c within = fun_ext (λ i. fun_ext (λ j. at i j))
  where
    zero_there : (i j : ℕ) → ((i < m) × (j < m) → ⊥) → table_of m (codes_of m c) i j ≡ c i j
    zero_there i j out =
        let p : 0 < c i j → ⊥ = λ h. out (within i j h) in
        let q : 0 < table_of m (codes_of m c) i j → ⊥ = λ h. out (table_within m (codes_of m c) i j h) in
        omega (arith, p, q)

    at : (i j : ℕ) → table_of m (codes_of m c) i j ≡ c i j
    at i j =
        elim (cases_lt i m) [
          | inl h ↦
              elim (cases_lt j m) [
                | inl k ↦ read_back m c i j h k
                | inr k ↦ zero_there i j (λ w. omega (arith, w.1))
              ]
          | inr h ↦ zero_there i j (λ w. omega (arith, w.0))
        ]

-- the table of a floorplan that was given one
pub table_of_changed :
    (p : Floorplan) (c : Table) (s : List ℕ) → FeasibleTable p.size c → table_in (with_table p c s) ≡ c
table_of_changed p c s law = whole_table p.size c law.within

-- a feasible table and a sequence that fits it make a feasible floorplan
pub feasible_with :
    (p : Floorplan) (c : Table) (s : List ℕ) → FeasibleTable p.size c → Fits p.size c s → Feasible (with_table p c s)
feasible_with p c s law f =
    let same = sym (table_of_changed p c s law) in
    record {
      full = codes_length p.size c;
      table = subst (λ t. FeasibleTable p.size t) same law;
      fits = subst (λ t. Fits p.size t s) same f;
    }

pub changes_feasible : ChangesFeasible
changes_feasible p (Rotate a) law e = law
changes_feasible p (Swap a b) law e =
    let two = two_accepted p.size a b e in
    feasible_with p (swap_table (table_in p) a b) (map (exchange a b) p.sequence)
    (swap_feasible p.size (table_in p) law.table a b two.first two.second)
    (swap_fits p.size (table_in p) p.sequence law.fits a b two.first two.second)
changes_feasible p (Reverse a b) law e =
    let r = edge_accepted p.size (table_in p) a b e in
    let single = free_single p.size (table_in p) law.table a b r in
    let c = reverse_table (table_in p) a b in
    let new = reverse_feasible p.size (table_in p) law.table a b r.some single in
    feasible_with p c (fitting p.size c) new (sequence_determined p.size c new).fits
changes_feasible p (MoveEdge a b) law e =
    let r = edge_accepted p.size (table_in p) a b e in
    let single = free_single p.size (table_in p) law.table a b r in
    feasible_with p (move_table (table_in p) a b) p.sequence
    (move_feasible p.size (table_in p) law.table a b r.some single)
    (move_fits p.size (table_in p) law.table a b r.some single p.sequence law.fits)
