-- A swap leaves a feasible table feasible, and its sequence fits.
use Rattle.std.proofs.Common.{◌≡◌, ℕ, ◌<◌, List, map, get_or, sym, ap, ◌∙◌, arith}
use Rattle.std.proofs.lemmas.List.{length-map, get_or-map}
use Rattle.std.proofs.lemmas.Bool.Decides.{nat_tests}
use Rattle.plans.specs.Changes.{exchange, swap_table}
use Rattle.plans.specs.Tables.{Table, FeasibleTable, Fits}

-- a renaming of the numbers below m that undoes itself
record Renames (m : ℕ) (e : ℕ → ℕ) : Type 0 where
  pub back : (i : ℕ) → e (e i) ≡ i
  pub below : (i : ℕ) → i < m → e i < m

exchange_renames : (m a b : ℕ) → a < m → b < m → Renames m (exchange a b)
exchange_renames m a b h k =
    record { back = λ i. grind (arith, nat_tests); below = λ i l. grind (arith, nat_tests) }

renamed_feasible :
    (m : ℕ) (c : Table) (e : ℕ → ℕ) → Renames m e → FeasibleTable m c → FeasibleTable m (λ i j. c (e i) (e j))
renamed_feasible m c e r law =
    record {
      few = law.few;
      small = λ i j. law.small (e i) (e j);
      within = λ i j h.
          let w = law.within (e i) (e j) h in
          (rw (r.back i) at (r.below (e i) w.0), rw (r.back j) at (r.below (e j) w.1));
      apart = λ i. law.apart (e i);
      joined = λ i j h k n.
          law.joined (e i) (e j) (r.below i h) (r.below j k) (λ s. n (sym (r.back i) ∙ ap e s ∙ r.back j));
      oneway = λ i j h. law.oneway (e i) (e j) h;
      closed = λ g i j k h p q. law.closed g (e i) (e j) (e k) h p q;
    }

renamed_fits :
    (m : ℕ) (c : Table) (e : ℕ → ℕ) → Renames m e → (s : List ℕ) → Fits m c s → Fits m (λ i j. c (e i) (e j)) (map e s)
renamed_fits m c e r s f =
    record {
      long = length-map s e ∙ f.long;
      modules = λ k h. rw (entry k h) (r.below (get_or s k 0) (f.modules k h));
      once = λ k l h i p.
          f.once k l h i
          (sym (r.back (get_or s k 0)) ∙ ap e (sym (entry k h) ∙ p ∙ entry l i) ∙ r.back (get_or s l 0));
      forward = λ k l h i p.
          f.forward k l h i (rw (entry k h, entry l i, r.back (get_or s k 0), r.back (get_or s l 0)) at p);
    }
  where
    entry : (k : ℕ) → k < m → get_or (map e s) k 0 ≡ e (get_or s k 0)
    entry k h = get_or-map e s k 0 0 (omega (arith, f.long))

pub swap_feasible :
    (m : ℕ) (c : Table) → FeasibleTable m c → (a b : ℕ) → a < m → b < m → FeasibleTable m (swap_table c a b)
swap_feasible m c law a b h k = renamed_feasible m c (exchange a b) (exchange_renames m a b h k) law

pub swap_fits :
    (m : ℕ) (c : Table) (s : List ℕ) → Fits m c s → (a b : ℕ) → a < m → b < m
    → Fits m (swap_table c a b) (map (exchange a b) s)
swap_fits m c s f a b h k = renamed_fits m c (exchange a b) (exchange_renames m a b h k) s f
