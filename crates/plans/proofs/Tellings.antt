-- Tests with what they tell, and what "and" and "or" of them tell.
use Rattle.std.proofs.Common.{◌≡◌, Bool, true, false, ◌&&◌, ◌||◌, ◌⊎◌, refl, inl, inr}

-- a test with what it tells
abbrev pub Tells : Bool → Type 0 → Type 0
Tells t P = ((t ≡ true) × P) ⊎ ((t ≡ false) × (P → ⊥))

pub both_tell : {P Q : Type 0} {s t : Bool} → Tells s P → Tells t Q → Tells (s && t) (P × Q)
both_tell (inl p) (inl q) = inl (rw (p.0, q.0) refl, (p.1, q.1))
both_tell (inl p) (inr q) = inr (rw (p.0, q.0) refl, λ r. q.1 r.1)
both_tell (inr p) q = inr (rw p.0 refl, λ r. p.1 r.0)

pub either_tell : {P Q : Type 0} {s t : Bool} → Tells s P → Tells t Q → Tells (s || t) (P ⊎ Q)
either_tell (inl p) q = inl (rw p.0 refl, inl p.1)
either_tell (inr p) (inl q) = inl (rw (p.0, q.0) refl, inr q.1)
either_tell (inr p) (inr q) = inr (rw (p.0, q.0) refl, elim [ inl e ↦ p.1 e | inr e ↦ q.1 e ])
