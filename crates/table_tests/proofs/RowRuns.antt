-- What `find_map` over the numbers of rows finds.
use Rattle.std.proofs.Common.{◌≡◌, ℕ, ◌+◌, ◌<◌, Some, None, Option, sym, ap, ◌∙◌, subst, arith}
use denote.Param.Members.{Mut}
use Rattle.std.proofs.iter.runs.Sources.{range_runs}
use Rattle.std.proofs.iter.Yields.{nat_range_steps}
use Rattle.std.specs.Fn.{Called}
use Rattle.std.specs.Bool.{IsTrue}
use Rattle.std.specs.Iterator.Runs.{SomeRun, Run, AllItemsGive, IsFirstToGive, CallKeepsClosure}
use Rattle.std.specs.declared.ops.Range.{Range}
use Rattle.std.specs.Option.{option_map, IfSome, IsSomeAnd}
use Rattle.std.specs.Prelude.{MatchOption}
use Rattle.table_tests.specs.Rows.{FirstRow}

some_item : (o : Option ℕ) (n : ℕ) (P : ℕ → Type 0) → option_map (λ y. y) o ≡ Some n → IsSomeAnd o P → P n
some_item (Some x) n P e h = let same : x ≡ n = cc in subst P same h
some_item None n P e h = absurd cc

each_item : (o : Option ℕ) (n : ℕ) (P : ℕ → Type 0) → option_map (λ y. y) o ≡ Some n → IfSome o P → P n
each_item (Some x) n P e h = let same : x ≡ n = cc in subst P same h
each_item None n P e h = absurd cc

module _ {F : Type 0} (g : Mut F (ℕ × Unit {0}) (Option (ℕ × ℕ))) (f : F) (s : Range ℕ) (m : ℕ) (gives : ℕ → Option ℕ → Type 0) (start : s.start ≡ 0) (end : s.end ≡ m) (keeps : CallKeepsClosure g f) (none : (x : ℕ) → Called g f (x, tt) None f → gives x None) (some : (x : ℕ) (y : ℕ × ℕ) → Called g f (x, tt) (Some y) f → (y.0 ≡ x) × gives x (Some y.1)) where
  at : (p : Run nat_range_steps) → p.from ≡ s → (k : ℕ) → k < p.len → option_map (λ y. y) (p.at k) ≡ Some k
  at p e k l =
      let a : p.from.start + k ≡ k = omega (arith, ap (λ (r : Range ℕ). r.start) e, start) in
      (range_runs p p.seen).3 k l ∙ ap (λ x. Some x) a

  -- the first row in which something is found
  pub rows_run :
      (r : Option (ℕ × ℕ))
      → SomeRun nat_range_steps s (λ p. MatchOption r (IsTrue p.whole × AllItemsGive p g f None) (λ y. (i : ℕ) × (i < p.len) × (p.len ≡ i + 1) × IsFirstToGive p g f (Some y) None i))
      → FirstRow m gives r
  rows_run (Some y) (p, e, (i, l, long, found)) =
      let first = found keeps in
      let here = some i y (some_item (p.at i) i (λ x. Called g f (x, tt) (Some y) f) (at p e i l) first.0) in
      record {
        first = (
          omega (arith, here.0, l, (range_runs p p.seen).0, ap (λ (r : Range ℕ). r.start) e, ap (λ (r : Range ℕ). r.end) e, start, end),
          subst (λ x. gives x (Some y.1)) (sym here.0) here.1,
          λ k h. none k (some_item (p.at k) k (λ x. Called g f (x, tt) None f) (at p e k (omega (arith, l, h, here.0))) (first.1 k (omega (arith, h, here.0)))),
        );
      }
  rows_run None (p, e, (whole, all)) =
      record {
        first = λ k h.
            let l : k < p.len = omega (arith, h, (range_runs p p.seen).1 whole, ap (λ (r : Range ℕ). r.start) e, ap (λ (r : Range ℕ). r.end) e, start, end) in
            none k (each_item (p.at k) k (λ x. Called g f (x, tt) None f) (at p e k l) (all keeps k));
      }
