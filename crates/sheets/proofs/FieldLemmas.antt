-- A number of at most nine digits fits.
use Rattle.std.proofs.Common.{◌≡◌, ℕ, ◌+◌, ◌*◌, ◌^◌, ◌≤◌, ap, ◌∙◌, pow-suc, add-one, arith}
use native.Mathlib.Nat.{pow-le-pow_right}

pub pow_ten_more : (i : ℕ) → 10 ^ (i + 1) ≡ 10 * 10 ^ i
pow_ten_more i = let e : 10 ^ (i + 1) ≡ 10 ^ i * 10 = ap (λ (x : ℕ). 10 ^ x) (add-one i) ∙ pow-suc 10 i in omega arith

-- a number below the power of ten of at most nine digits
pub pow_ten_fits : (i : ℕ) → i ≤ 9 → 10 ^ i ≤ 1000000000
pow_ten_fits i h = pow-le-pow_right (omega arith) h
