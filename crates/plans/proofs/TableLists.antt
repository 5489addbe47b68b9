-- Tables as lists of codes: what is read back, and when two lists are equal.
use Rattle.std.proofs.Common.{◌≡◌, ℕ, zero, suc, ◌+◌, ◌*◌, ◌/◌, ◌%◌, ◌<◌, List, length, get_or, sym, refl, ap, ◌∙◌, arith}
use Rattle.std.proofs.lemmas.Nat.{mul-add-lt, div-mul-add, mod-mul-add, div_below, mod_below, div-add-mod'}
use Rattle.std.proofs.lemmas.List.FromFn.{length-map-range_with_len, get_or-map-range_with_len}
use Rattle.std.proofs.lemmas.List.{same_lists, get_or_default}
use Rattle.std.proofs.lemmas.Bool.{lt-ltb}
use Rattle.std.proofs.lemmas.Bool.Decides.{nat_tests}
use Rattle.plans.specs.Tables.{Table, table_of, codes_of}

-- a code within the table is the list's at its row and column
pub table_inside :
    (m : ℕ) (codes : List ℕ) (i j : ℕ) → i < m → j < m → table_of m codes i j ≡ get_or codes (i * m + j) 0
table_inside m codes i j h k = rw (lt-ltb i m h, lt-ltb j m k) refl

-- outside the table the code is 0, and so a code that is not 0 lies within
pub table_within : (m : ℕ) (codes : List ℕ) (i j : ℕ) → 0 < table_of m codes i j → (i < m) × (j < m)
table_within m codes i j h = (grind (arith, nat_tests), grind (arith, nat_tests))

-- a row and a column below m, from a place below m × m
pub row_below : (m k : ℕ) → k < m * m → k / m < m
row_below zero k h = absurd (omega arith)
row_below (suc n) k h = div_below k (suc n) (suc n) (omega arith) h

pub column_below : (m k : ℕ) → k < m * m → k % m < m
column_below zero k h = absurd (omega arith)
column_below (suc n) k h = mod_below k (suc n) (omega arith)

-- the place of a row and a column
pub place_below : (m i j : ℕ) → i < m → j < m → i * m + j < m * m
place_below m i j h k = mul-add-lt i m j m h k

pub codes_length : (m : ℕ) (c : Table) → length (codes_of m c) ≡ m * m
codes_length m c = length-map-range_with_len (λ k. c (k / m) (k % m)) 0 (m * m)

-- the list of a table's codes holds them
pub read_back : (m : ℕ) (c : Table) (i j : ℕ) → i < m → j < m → table_of m (codes_of m c) i j ≡ c i j
read_back m c i j h k =
    table_inside m (codes_of m c) i j h k
    ∙ get_or-map-range_with_len (λ n. c (n / m) (n % m)) 0 (m * m) (i * m + j) (i * m + j) 0 (place_below m i j h k) (omega arith)
    ∙ rw (div-mul-add i m j k, mod-mul-add i m j k) refl

-- a list's code at a place is its table's at that row and column
pub code_at : (m : ℕ) (codes : List ℕ) (k : ℕ) → k < m * m → get_or codes k 0 ≡ table_of m codes (k / m) (k % m)
code_at m codes k h =
    ap (λ n. get_or codes n 0) (sym (div-add-mod' k m)) ∙ sym (table_inside m codes (k / m) (k % m) (row_below m k h) (column_below m k h))

-- two lists of m × m codes with the same table are equal
pub same_codes :
    (m : ℕ) (xs ys : List ℕ) → length xs ≡ m * m → length ys ≡ m * m
    → ((i j : ℕ) → i < m → j < m → table_of m xs i j ≡ table_of m ys i j) → xs ≡ ys
same_codes m xs ys p q same =
    same_lists xs ys (p ∙ sym q)
    (λ k d h.
    let l : k < m * m = omega (arith, p) in
    get_or_default xs k d 0 h ∙ code_at m xs k l ∙ same (k / m) (k % m) (row_below m k l) (column_below m k l)
    ∙ sym (code_at m ys k l) ∙ get_or_default ys k 0 d (omega (arith, q)))

-- a list of m × m codes is that of its table
pub same_table : (m : ℕ) (codes : List ℕ) → length codes ≡ m * m → codes_of m (table_of m codes) ≡ codes
same_table m codes p =
    same_codes m (codes_of m (table_of m codes)) codes (codes_length m (table_of m codes)) p
    (λ i j h k. read_back m (table_of m codes) i j h k)
