-- Loops that change the rows of a graph.
use Rattle.std.proofs.Common.{◌≡◌, ℕ, ◌+◌, ◌<◌, ◌≤◌, Bool, true, false, cond, not, ◌&&◌, eqb, ltb, List, length, get_or, set, Some, None, sym, refl, ap, ◌∙◌, inl, inr, arith, length-set, get_or-set_other, get_or-set_same}
use Rattle.std.proofs.lemmas.Bool.{cases_eq, lt-ltb, le-ltb, eq-eqb, ne_eqb}
use Rattle.std.proofs.lemmas.Bool.Decides.{nat_tests}
use Rattle.module_set.proofs.Taking.{least_in, none_in}
use Rattle.module_set.specs.Members.{member, no_module, least_member, TakesLeast}
use Rattle.module_set.specs.declared.set.ModuleSet.{ModuleSet}
use Rattle.graphs.proofs.Rows.{and_all}
use Rattle.graphs.specs.Edges.{swapped, RowChanged}

-- the rows of a set's modules are changed, but for the modules that are left
pub record Changing (Makes : ModuleSet → ModuleSet → Type 0) (s left : ModuleSet) (old new : List ModuleSet) : Type 0 where
  pub long : length new ≡ 64
  pub within : (k : ℕ) → member left k ≡ true → member s k ≡ true
  pub rows : (k : ℕ) → k < 64 → RowChanged Makes (member s k && not (member left k)) (get_or old k no_module) (get_or new k no_module)

pub changing_none :
    (Makes : ModuleSet → ModuleSet → Type 0) (s left : ModuleSet) (rows : List ModuleSet) → length rows ≡ 64 → left ≡ s
    → Changing Makes s left rows rows
changing_none Makes s left rows e same = record {
  long = e;
  within = λ k m. ap (λ t. member t k) (sym same) ∙ m;
  rows = λ k h. rw same (none (member s k) (get_or rows k no_module));
}
  where
    none : (b : Bool) (row : ModuleSet) → RowChanged Makes (b && not b) row row
    none true row = refl
    none false row = refl

pub changing_more :
    (Makes : ModuleSet → ModuleSet → Type 0) (s left rest : ModuleSet) (old new : List ModuleSet) (i : ℕ) (x : ModuleSet)
    → Changing Makes s left old new → TakesLeast left (Some i) rest → Makes (get_or new i no_module) x
    → Changing Makes s rest old (set new i x)
changing_more Makes s left rest old new i x before takes made =
    let (small, has) = least_in left i takes.0 in
    let here = before.within i has in
    let gone : member rest i ≡ false = takes.1 i ∙ rw (has, eq-eqb i i refl) refl in
    let kept : get_or new i no_module ≡ get_or old i no_module = rw (here, has) at (before.rows i small) in
    let inside : i < length new = omega (arith, before.long) in
    let inside' = get_or-set_same new i x no_module inside in
    record {
      long = length-set new i x ∙ before.long;
      within = λ k m. before.within k (was (member left k) (not (eqb k i)) (sym (takes.1 k) ∙ m));
      rows =
          λ k h.
          elim (cases_eq k i) [
            | inl same ↦ rw (same, here, gone, inside') (rw kept at made)
            | inr other ↦
                rw (takes.1 k, ne_eqb k i other, and_all (member left k), get_or-set_other new i k x no_module other) (before.rows k h)
          ];
    }
  where
    was : (a b : Bool) → (a && b) ≡ true → a ≡ true
    was true b e = refl
    was false b e = e

pub changing_all :
    (Makes : ModuleSet → ModuleSet → Type 0) (s left : ModuleSet) (old new : List ModuleSet)
    → Changing Makes s left old new → None ≡ least_member left
    → (k : ℕ) → k < 64 → RowChanged Makes (member s k) (get_or old k no_module) (get_or new k no_module)
changing_all Makes s left old new before none k h =
    rw (none_in left none k, and_all (member s k)) at (before.rows k h)

-- the rows below n have a and b in each other's place
pub record Turned (a b n : ℕ) (old new : List ModuleSet) : Type 0 where
  pub long : length new ≡ 64
  pub rows :
      (k j : ℕ) → member (get_or new k no_module) j ≡ member (get_or old k no_module) (cond (ltb k n) (swapped a b j) j)

pub turned_none : (a b : ℕ) (rows : List ModuleSet) → length rows ≡ 64 → Turned a b 0 rows rows
turned_none a b rows e = record { long = e; rows = λ k j. rw (le-ltb k 0 (omega arith)) refl }

pub turned_more :
    (a b n : ℕ) (old new : List ModuleSet) (x : ModuleSet) → n < 64 → Turned a b n old new
    → ((j : ℕ) → member x j ≡ member (get_or new n no_module) (swapped a b j)) → Turned a b (n + 1) old (set new n x)
turned_more a b n old new x h before turns =
    let inside : n < length new = omega (arith, before.long) in
    record {
      long = length-set new n x ∙ before.long;
      rows =
          λ k j.
          elim (cases_eq k n) [
            | inl same ↦
                rw (same, lt-ltb n (n + 1) (omega arith), get_or-set_same new n x no_module inside)
                (turns j ∙ rw (le-ltb n n (omega arith)) at (before.rows n (swapped a b j)))
            | inr other ↦
                let s : ltb k (n + 1) ≡ ltb k n = grind (arith, nat_tests) in
                rw (s, get_or-set_other new n k x no_module other) (before.rows k j)
          ];
    }

pub turned_all :
    (a b n : ℕ) (old new : List ModuleSet) → 64 ≤ n → Turned a b n old new → (k j : ℕ) → k < 64
    → member (get_or new k no_module) j ≡ member (get_or old k no_module) (swapped a b j)
turned_all a b n old new h turned k j small = rw (lt-ltb k n (omega arith)) at (turned.rows k j)
