-- Lemmas on checks: the first that applies, in a list made of parts, and its law.
use Rattle.std.proofs.Common.{length, ◌≤◌, ◌≡◌, ℕ, zero, suc, ◌+◌, ◌<◌, Bool, true, false, cond, List, [], ◌∷◌, ◌++◌, get_or, Some, None, sym, refl, ◌∙◌, ⊎_elim, suc-le-suc, le_of_suc-le-suc, arith}
use Rattle.std.proofs.lemmas.Bool.{cond-true, cond-false, cases_Bool}
use Rattle.sheets.specs.declared.fault.Finding.{Finding}
use Rattle.sheets.specs.declared.fault.Sheet.{Sheet}
use Rattle.sheets.specs.Faults.{clears}
use Rattle.sheets.specs.Promises.{Fails, Passes}
use Rattle.sheets.specs.Checks.{Check, tell_if, first, StandsFirst, NoneApplies}

pub first_here : (b : Bool) (f : Finding) (cs : List Check) → b ≡ true → first (tell_if b f ∷ cs) ≡ Some f
first_here b f cs e = cond-true b (Some f) (first cs) e

pub first_next : (b : Bool) (f : Finding) (cs : List Check) → b ≡ false → first (tell_if b f ∷ cs) ≡ first cs
first_next b f cs e = cond-false b (Some f) (first cs) e

-- a fault of the front is the fault of the whole
pub first_front : (xs ys : List Check) (f : Finding) → first xs ≡ Some f → first (xs ++ ys) ≡ Some f
first_front [] ys f e = let z : ◌≡◌ {A = ℕ} 0 1 = cc in absurd (omega arith)
first_front (x ∷ xs) ys f e =
    elim x.applies as (λ b. cond b (Some x.tells) (first xs) ≡ Some f → cond b (Some x.tells) (first (xs ++ ys)) ≡ Some f)
    [ true ↦ λ h. h | false ↦ λ h. first_front xs ys f h ] e

-- where no check of the front applies, the fault of the rest is the fault of the whole
pub first_rest : (xs ys : List Check) → first xs ≡ None → first (xs ++ ys) ≡ first ys
first_rest [] ys e = refl
first_rest (x ∷ xs) ys e =
    elim x.applies as (λ b. cond b (Some x.tells) (first xs) ≡ None → cond b (Some x.tells) (first (xs ++ ys)) ≡ first ys)
    [ true ↦ λ h. (let z : ◌≡◌ {A = ℕ} 0 1 = cc in absurd (omega arith)) | false ↦ λ h. first_rest xs ys h ] e

-- the law of the first
pub stands_first : (cs : List Check) (f : Finding) → first cs ≡ Some f → StandsFirst cs f
stands_first [] f e = let z : ◌≡◌ {A = ℕ} 0 1 = cc in absurd (omega arith)
stands_first (x ∷ xs) f e =
    ⊎_elim
    (λ t. record {
      place = 0;
      within = omega arith;
      found = (let h : Some x.tells ≡ Some f = sym (cond-true x.applies (Some x.tells) (first xs) t) ∙ e in let g : x.tells ≡ f = cc in λ i. record { applies = t i; tells = g i });
      none_before = λ k h. absurd (omega arith);
    })
    (λ n. let h = stands_first xs f (sym (cond-false x.applies (Some x.tells) (first xs) n) ∙ e) in
    record {
      place = suc h.place;
      within = suc-le-suc h.within;
      found = h.found;
      none_before = before x xs f n h;
    })
    (cases_Bool x.applies)
  where
    before : (x : Check) (xs : List Check) (f : Finding) → x.applies ≡ false → (h : StandsFirst xs f) → (k : ℕ) → k < suc h.place → (get_or (x ∷ xs) k (tell_if false f)).applies ≡ false
    before x xs f n h zero l = n
    before x xs f n h (suc k) l = h.none_before k (le_of_suc-le-suc l)

pub none_applies : (cs : List Check) → first cs ≡ None → NoneApplies cs
none_applies [] e k d = refl
none_applies (x ∷ xs) e zero d =
    ⊎_elim
    (λ t. let h : Some x.tells ≡ None = sym (cond-true x.applies (Some x.tells) (first xs) t) ∙ e in let z : ◌≡◌ {A = ℕ} 0 1 = cc in absurd (omega arith))
    (λ n. n)
    (cases_Bool x.applies)
none_applies (x ∷ xs) e (suc k) d =
    ⊎_elim
    (λ t. let h : Some x.tells ≡ None = sym (cond-true x.applies (Some x.tells) (first xs) t) ∙ e in let z : ◌≡◌ {A = ℕ} 0 1 = cc in absurd (omega arith))
    (λ n. none_applies xs (sym (cond-false x.applies (Some x.tells) (first xs) n) ∙ e) k d)
    (cases_Bool x.applies)

-- the same of stages, one behind the other: a fault of the first, a fault of the second, and none of both
pub fails_front : {name : Sheet} {bytes : List ℕ} {xs : List Check} {f : Finding} (ys : List Check) → Fails name bytes xs f → Fails name bytes (xs ++ ys) f
fails_front {xs = xs} {f = f} ys h = record { found = first_front xs ys f h.found; named = h.named; within = h.within; clearing = h.clearing }

pub fails_behind : {name : Sheet} {bytes : List ℕ} {xs ys : List Check} {f : Finding} → Passes xs → Fails name bytes ys f → Fails name bytes (xs ++ ys) f
fails_behind {xs = xs} {ys = ys} p h = record { found = first_rest xs ys p.none ∙ h.found; named = h.named; within = h.within; clearing = h.clearing }

pub passes_both : {xs ys : List Check} → Passes xs → Passes ys → Passes (xs ++ ys)
passes_both {xs = xs} {ys = ys} p q = record { none = first_rest xs ys p.none ∙ q.none }

-- a fault that the first check finds
pub fails_here : {name : Sheet} {bytes : List ℕ} {b : Bool} {f : Finding} {cs : List Check} → b ≡ true → f.sheet ≡ name → f.from + f.width ≤ length bytes → clears f.wrong ≡ true → Fails name bytes (tell_if b f ∷ cs) f
fails_here {b = b} {f = f} {cs = cs} here named within clearing = record { found = first_here b f cs here; named = named; within = within; clearing = clearing }

-- and one that finds none
pub passes_here : {b : Bool} {f : Finding} → b ≡ false → Passes (tell_if b f ∷ [])
passes_here {b = b} {f = f} e = record { none = first_next b f [] e }
