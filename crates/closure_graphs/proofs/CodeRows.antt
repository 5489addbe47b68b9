-- The codes of a table, written one after another.
use Rattle.std.proofs.Common.{◌≡◌, ℕ, suc, ◌+◌, ◌*◌, ◌/◌, ◌%◌, ◌<◌, ◌≤◌, set, List, length, get_or, sym, refl, ◌∙◌, subst, arith}
use Rattle.std.proofs.lemmas.List.FromFn.{get_or-map-range_with_len}
use Rattle.std.proofs.lemmas.Nat.{mul-le, div-mul-add, mod-mul-add}
use Rattle.plans.specs.Tables.{Table, codes_of}
use Rattle.closure_graphs.proofs.Fronts.{Begins, begins_more}

-- a cell of the table stands inside it
pub cell_inside : (m i j : ℕ) → i < m → j < m → i * m + j < m * m
cell_inside m i j h g = let e : suc i * m ≤ m * m = mul-le (suc i) m m m h (omega arith) in omega (arith, e)

-- the code of (i, j) stands in row i at column j
cell : (m : ℕ) (c : Table) (i j : ℕ) → i < m → j < m → get_or (codes_of m c) (i * m + j) 0 ≡ c i j
cell m c i j h g =
    get_or-map-range_with_len (λ n. c (n / m) (n % m)) 0 (m * m) (i * m + j) (i * m + j) 0 (cell_inside m i j h g) (omega arith)
    ∙ rw (div-mul-add i m j g, mod-mul-add i m j g) refl

-- one code more
pub code_more :
    (m : ℕ) (c : Table) (i j x : ℕ) (codes : List ℕ) → i < m → j < m → i * m + j < length codes
    → Begins (i * m + j) (codes_of m c) codes → x ≡ c i j
    → Begins (i * m + (j + 1)) (codes_of m c) (set codes (i * m + j) x)
code_more m c i j x codes h g room before here =
    let next : (i * m + j) + 1 ≡ i * m + (j + 1) = omega arith in
    subst (λ n. Begins n (codes_of m c) (set codes (i * m + j) x)) next
    (begins_more (codes_of m c) codes (i * m + j) x room before (here ∙ sym (cell m c i j h g)))
