-- The mask of a comparison has a bit for each place that passes it.
use Rattle.std.proofs.Common.{◌≡◌, ℕ, Bool, true, false, cond, ◌&&◌, eqb, ltb, List, map, length, get_or, rules, refl, ap, ◌∙◌, inl, inr, arith}
use mir.Syntax.{w8}
use lib.Lanes.{mask_l}
use Rattle.std.proofs.lemmas.Bool.{cases_lt, lt-ltb, le-ltb}
use Rattle.std.proofs.lemmas.Simd.{bitmask_splat, bit_mask_l}
use Rattle.std.proofs.lemmas.List.{get_or-map}
use Rattle.module_set.specs.Members.{member}
use Rattle.module_set.proofs.set.ModuleSet.places_of.Goals as goal

is_one : (b : Bool) → eqb (cond b 1 0) 1 ≡ b
is_one true = refl
is_one false = refl

marked :
    (p : ℕ → Bool) (row : List ℕ) (k : ℕ) → length row ≡ 64
    → member (record { bits = mask_l (map p row) }) k ≡ (ltb k 64 && p (get_or row k 0))
unfolding member
marked p row k long =
    elim (cases_lt k 64) [
      | inl h ↦
          rw (lt-ltb k 64 h)
          (ap (λ y. eqb y 1) (bit_mask_l (map p row) k) ∙ is_one (get_or (map p row) k false)
          ∙ get_or-map p row k 0 false (omega arith))
      | inr h ↦ rw (le-ltb k 64 h) refl
    ]

pub returns : goal.returns
returns c =
    λ k.
    ap (λ b. member (record { bits = b }) k)
    (bitmask_splat w8 eqb c.args.row.now 64 c.args.code (search rules) (omega arith))
    ∙ marked (λ x. eqb x c.args.code) c.args.row.now k (search rules)
