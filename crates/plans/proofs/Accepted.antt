-- What nothing refused tells, and what a change that is not refused tells of its modules.
use Rattle.std.proofs.Common.{◌≡◌, ℕ, ◌<◌, Bool, true, false, ◌&&◌, ◌||◌, eqb, leb, ◌≢◌, Some, None, Option, sym, refl, ◌∙◌, arith}
use Rattle.std.proofs.lemmas.Bool.{true≢false, leb-false, eqb-false, eq-eqb, or_parts}
use Rattle.plans.proofs.Searches.{some_from}
use Rattle.plans.specs.Changes.{bypassed, two_refusal, edge_refusal}
use Rattle.plans.specs.Search.{or_else, refusing}
use Rattle.plans.specs.Tables.{Table, FeasibleTable}
use Rattle.plans.specs.declared.refusals.ChangeRefusal.TheVariants.{NoModule, SameModule, NoEdge, NoReductionEdge}

-- nothing refused is neither of two
pub or_else_none : {X : Type 0} (x y : Option X) → or_else x y ≡ None → (x ≡ None) × (y ≡ None)
or_else_none (Some x) y e = let z : ◌≡◌ {A = ℕ} 0 1 = cc in absurd (omega arith)
or_else_none None y e = (refl, e)

-- a test that refuses nothing fails
pub refusing_none : {E : Type 0} (t : Bool) (x : E) → refusing t x ≡ None → t ≡ false
refusing_none true x e = let z : ◌≡◌ {A = ℕ} 0 1 = cc in absurd (omega arith)
refusing_none false x e = refl

-- two different modules
pub record Two (m a b : ℕ) : Type 0 where
  pub first : a < m
  pub second : b < m
  pub different : a ≢ b

pub two_accepted : (m a b : ℕ) → two_refusal m a b ≡ None → Two m a b
two_accepted m a b e =
    let p = or_else_none (refusing (leb m a || leb m b) NoModule) (refusing (eqb a b) SameModule) e in
    let q = or_parts (leb m a) (leb m b) (refusing_none (leb m a || leb m b) NoModule p.0) in
    record {
      first = leb-false m a q.0;
      second = leb-false m b q.1;
      different = eqb-false a b (refusing_none (eqb a b) SameModule p.1);
    }

-- a reduction edge
pub record Reduction (m : ℕ) (c : Table) (a b : ℕ) : Type 0 where
  pub some : 0 < c a b
  pub free : bypassed m c a b ≡ false

pub edge_accepted : (m : ℕ) (c : Table) (a b : ℕ) → edge_refusal m c a b ≡ None → Reduction m c a b
edge_accepted m c a b e =
    let rest = or_else (refusing (eqb (c a b) 0) NoEdge) (refusing (bypassed m c a b) NoReductionEdge) in
    let p = or_else_none (two_refusal m a b) rest e in
    let q = or_else_none (refusing (eqb (c a b) 0) NoEdge) (refusing (bypassed m c a b) NoReductionEdge) p.1 in
    let n = eqb-false (c a b) 0 (refusing_none (eqb (c a b) 0) NoEdge q.0) in
    record { some = omega (arith, n); free = refusing_none (bypassed m c a b) NoReductionEdge q.1 }

-- no module stands between a and b in the graph of (a, b)
abbrev pub Single : Table → ℕ → ℕ → Type 0
Single c a b = (k : ℕ) → c a k ≡ c a b → c k b ≡ c a b → ⊥

-- no module bypasses a reduction edge, of any number
pub free_single : (m : ℕ) (c : Table) → FeasibleTable m c → (a b : ℕ) → Reduction m c a b → Single c a b
free_single m c law a b r k e f =
    let h = (law.within a k (rw e r.some)).1 in
    let t =
    some_from m (λ k. eqb (c a k) (c a b) && eqb (c k b) (c a b)) k h
    (rw (eq-eqb (c a k) (c a b) e, eq-eqb (c k b) (c a b) f) refl)
    in
    true≢false (sym t ∙ r.free)
