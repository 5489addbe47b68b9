-- Lemmas on the checks for 0, for 1 and so on, of which a loop has passed the first.
use Rattle.std.proofs.Common.{refl, ℕ, zero, suc, ◌+◌, ◌<◌, List, subst, arith}
use borrow.Author.Count.{below_more}
use Rattle.std.specs.List.{range_with_len, flat_map}
use Rattle.sheets.specs.Checks.{Check, each}
use Rattle.sheets.specs.Promises.{Fails, Passes}
use Rattle.sheets.specs.declared.fault.Finding.{Finding}
use Rattle.sheets.specs.declared.fault.Sheet.{Sheet}
use Rattle.sheets.proofs.CheckLemmas.{fails_front, fails_behind, passes_both}

-- no check for the n numbers from a on applies
passes_from : (F : ℕ → List Check) (a n : ℕ) → ((k : ℕ) → k < n → Passes (F (a + k))) → Passes (flat_map F (range_with_len a n))
passes_from F a zero passed = record { none = refl }
passes_from F a (suc n) passed =
    let here : Passes (F a) = subst (λ k. Passes (F k)) (omega arith) (passed 0 (omega arith)) in
    passes_both here (passes_from F (a + 1) n (λ k h. subst (λ j. Passes (F j)) (omega arith) (passed (k + 1) (omega arith))))

-- the first that does is for number i of them
fails_from :
    {name : Sheet} {bytes : List ℕ} {f : Finding} (F : ℕ → List Check) (a n i : ℕ) → i < n → ((k : ℕ) → k < i → Passes (F (a + k)))
    → Fails name bytes (F (a + i)) f → Fails name bytes (flat_map F (range_with_len a n)) f
fails_from F a zero i h passed fails = absurd (omega arith)
fails_from {name = name} {bytes = bytes} {f = f} F a (suc n) zero h passed fails = fails_front (flat_map F (range_with_len (a + 1) n)) (subst (λ k. Fails name bytes (F k) f) (omega arith) fails)
fails_from {name = name} {bytes = bytes} {f = f} F a (suc n) (suc i) h passed fails =
    let here : Passes (F a) = subst (λ k. Passes (F k)) (omega arith) (passed 0 (omega arith)) in
    fails_behind here (fails_from F (a + 1) n i (omega arith) (λ k h. subst (λ j. Passes (F j)) (omega arith) (passed (k + 1) (omega arith)))
    (subst (λ k. Fails name bytes (F k) f) (omega arith) fails))

pub each_passes : (F : ℕ → List Check) (n : ℕ) → ((k : ℕ) → k < n → Passes (F k)) → Passes (each n F)
each_passes F n passed = passes_from F 0 n (λ k h. subst (λ j. Passes (F j)) (omega arith) (passed k h))

pub each_fails :
    {name : Sheet} {bytes : List ℕ} {f : Finding} (F : ℕ → List Check) (n i : ℕ) → i < n → ((k : ℕ) → k < i → Passes (F k))
    → Fails name bytes (F i) f → Fails name bytes (each n F) f
each_fails {name = name} {bytes = bytes} {f = f} F n i h passed fails =
    fails_from F 0 n i h (λ k l. subst (λ j. Passes (F j)) (omega arith) (passed k l)) (subst (λ k. Fails name bytes (F k) f) (omega arith) fails)

-- one number more is passed
pub passed_more : (F : ℕ → List Check) (i : ℕ) → ((k : ℕ) → k < i → Passes (F k)) → Passes (F i) → (k : ℕ) → k < i + 1 → Passes (F k)
passed_more F i passed here = below_more (λ k. Passes (F k)) i passed here
