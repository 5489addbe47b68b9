-- Taking the least member out of a set, again and again.
use Rattle.std.proofs.Common.{◌≡◌, ℕ, ◌<◌, true, false, not, ◌&&◌, Some, None, Option, eqb, sym, refl, ◌∙◌, subst, inl, inr}
use Rattle.std.proofs.lemmas.Bool.{cases_lt, eq-eqb, and_parts}
use Rattle.plans.proofs.Searches.{count_less, first_tells}
use Rattle.plans.specs.First.{IsFirst}
use Rattle.module_set.proofs.Membership.{member_outside}
use Rattle.module_set.specs.Members.{member, least_member, member_count}
use Rattle.module_set.specs.declared.set.ModuleSet.{ModuleSet}

-- what the least member is
least_is : (s : ModuleSet) (r : Option ℕ) → r ≡ least_member s → IsFirst (member s) 64 r
unfolding least_member
least_is s r e = subst (IsFirst (member s) 64) (sym e) (first_tells (member s) 64)

-- the least member is one
pub least_in : (s : ModuleSet) (i : ℕ) → Some i ≡ least_member s → (i < 64) × (member s i ≡ true)
least_in s i e = let f = least_is s (Some i) e in (f.0, f.1)

-- where there is none, there is no member
pub none_in : (s : ModuleSet) → None ≡ least_member s → (k : ℕ) → member s k ≡ false
none_in s e k = elim (cases_lt k 64) [ inl h ↦ least_is s None e k h | inr h ↦ member_outside s k h ]

-- a set whose least member is taken out has fewer left
pub fewer_left :
    (s t : ModuleSet) (i : ℕ) → Some i ≡ least_member s → ((k : ℕ) → member t k ≡ (member s k && not (eqb k i)))
    → member_count t < member_count s
unfolding member_count
fewer_left s t i e rest =
    let (small, has) = least_in s i e in
    let gone : member t i ≡ false = rest i ∙ rw (has, eq-eqb i i refl) refl in
    count_less 64 (member t) (member s) i small gone has
    (λ k h m. (and_parts (member s k) (not (eqb k i)) (sym (rest k) ∙ m)).0)
