-- Exchanging the axes of a floorplan goes along with every test and every change.
use Rattle.std.proofs.Common.{◌≡◌, ℕ, suc, ◌+◌, ◌*◌, ◌/◌, ◌%◌, Bool, true, false, cond, not, ◌&&◌, ◌||◌, eqb, ltb, List, [], ◌∷◌, map, length, get_or, Some, None, Ok, Option, refl, ap, ◌∙◌, ap₂, arith}
use mathlib.Core.Path.{fun_ext}
use Rattle.std.specs.List.{range_with_len}
use Rattle.std.proofs.lemmas.List.{length-map}
use Rattle.std.proofs.lemmas.Bool.Decides.{nat_tests}
use Rattle.plans.specs.Changes.{other_graph, after_load, unless}
use Rattle.plans.specs.Search.{some_below, place_of, or_else, refusing, first_pair, first_below}
use Rattle.plans.specs.declared.refusals.LoadRefusal.{LoadRefusal}
use Rattle.plans.specs.declared.refusals.LoadRefusal.TheVariants.{WrongShape, WrongCode, SelfRelated, NotOneEdge, NotClosed, WrongPlace, Backwards}
use Rattle.std.specs.Option.{option_map}
use Rattle.plans.specs.Tables.{Table, Floorplan, table_of, codes_of}
use Rattle.plans.specs.Tests.{misshapen, code_wrong, self_related, not_one_edge, not_closed, place_wrong, backwards, telling_pair, load_refusal}
use Rattle.plans.specs.Transposed.{other_code, transpose, transpose_table}
use Rattle.plans.specs.TransposeLaw.{transpose_made}

-- codes exchanged twice
pub other_twice : (x : ℕ) → other_code (other_code x) ≡ x
other_twice x = grind (arith, nat_tests)

-- the tests on codes
pub other_same : (x y : ℕ) → eqb (other_code x) (other_code y) ≡ eqb x y
other_same x y = grind (arith, nat_tests)

pub other_some : (x : ℕ) → ltb 0 (other_code x) ≡ ltb 0 x
other_some x = grind (arith, nat_tests)

pub other_large : (x : ℕ) → ltb 2 (other_code x) ≡ ltb 2 x
other_large x = grind (arith, nat_tests)

pub other_none : (x : ℕ) → eqb (other_code x) 0 ≡ eqb x 0
other_none x = grind (arith, nat_tests)

pub other_graph_lem : (x : ℕ) → other_graph (other_code x) ≡ other_code (other_graph x)
other_graph_lem x = grind (arith, nat_tests)

-- the list of exchanged codes has the exchanged table
get_d_other : (codes : List ℕ) (k : ℕ) → get_or (map other_code codes) k 0 ≡ other_code (get_or codes k 0)
get_d_other [] k = refl
get_d_other (x ∷ xs) Prim.Native.Nat.zero = refl
get_d_other (x ∷ xs) (suc k) = get_d_other xs k

pub map_twice : (codes : List ℕ) → map other_code (map other_code codes) ≡ codes
map_twice [] = refl
map_twice (x ∷ xs) = ap₂ (λ y ys. y ∷ ys) (other_twice x) (map_twice xs)

map_after : (f : ℕ → ℕ) (xs : List ℕ) → map (λ k. other_code (f k)) xs ≡ map other_code (map f xs)
map_after f [] = refl
map_after f (x ∷ xs) = ap (λ ys. other_code (f x) ∷ ys) (map_after f xs)

pub other_cond : (b : Bool) (x y : ℕ) → cond b (other_code x) (other_code y) ≡ other_code (cond b x y)
other_cond true x y = refl
other_cond false x y = refl

pub other_table : (m : ℕ) (codes : List ℕ) → table_of m (map other_code codes) ≡ transpose_table (table_of m codes)
other_table m codes =
    fun_ext
    (λ i. fun_ext
    (λ j. ap (λ x. cond (ltb i m && ltb j m) x 0) (get_d_other codes (i * m + j))
    ∙ other_cond (ltb i m && ltb j m) (get_or codes (i * m + j) 0) 0))

pub other_codes : (m : ℕ) (c : Table) → codes_of m (transpose_table c) ≡ map other_code (codes_of m c)
other_codes m c = map_after (λ k. c (k / m) (k % m)) (range_with_len 0 (m * m))

-- each test of a table is the same of the exchanged one
code_other : (c : Table) → code_wrong 2 (transpose_table c) ≡ code_wrong 2 c
code_other c = fun_ext (λ i. fun_ext (λ j. other_large (c i j)))

self_other : (c : Table) → self_related (transpose_table c) ≡ self_related c
self_other c = fun_ext (λ i. fun_ext (λ j. ap (λ b. eqb i j && b) (other_some (c i j))))

edges_other : (c : Table) → not_one_edge (transpose_table c) ≡ not_one_edge c
edges_other c =
    fun_ext
    (λ i. fun_ext (λ j. ap₂ (λ x y. ltb i j && cond x y (not y)) (other_some (c i j)) (other_some (c j i))))

closed_other : (m : ℕ) (c : Table) → not_closed m (transpose_table c) ≡ not_closed m c
closed_other m c =
    fun_ext
    (λ i. fun_ext
    (λ k. ap (some_below m)
    (fun_ext
    (λ j.
    let x = other_some (c i j) in
    let y = other_same (c i j) (c j k) in
    let z = other_same (c i k) (c i j) in
    cc))))

back_other : (c : Table) (s : List ℕ) → backwards (transpose_table c) s ≡ backwards c s
back_other c s = fun_ext (λ i. fun_ext (λ j. ap (λ b. b && ltb (place_of s j) (place_of s i)) (other_some (c i j))))

-- the first refusal by the tests that it makes
verdict :
    List ℕ → Bool → (ℕ → ℕ → Bool) → (ℕ → ℕ → Bool) → (ℕ → ℕ → Bool) → (ℕ → ℕ → Bool) → (ℕ → ℕ → Bool)
    → Option LoadRefusal
verdict s shape code self edges closed back =
    or_else
    (or_else
    (or_else (refusing shape WrongShape)
    (or_else (telling_pair WrongCode (first_pair (length s) code))
    (or_else (telling_pair SelfRelated (first_pair (length s) self))
    (telling_pair NotOneEdge (first_pair (length s) edges)))))
    (telling_pair NotClosed (first_pair (length s) closed)))
    (or_else (option_map WrongPlace (first_below (length s) (place_wrong s))) (telling_pair Backwards (first_pair (length s) back)))

load_verdict :
    (codes s : List ℕ) (c : Table) → table_of (length s) codes ≡ c
    → load_refusal codes s
    ≡ verdict s (misshapen 64 (length s) codes) (code_wrong 2 c) (self_related c) (not_one_edge c) (not_closed (length s) c) (backwards c s)
unfolding verdict
load_verdict codes s c e =
    ap (λ (t : Table). verdict s (misshapen 64 (length s) codes) (code_wrong 2 t) (self_related t) (not_one_edge t) (not_closed (length s) t) (backwards t s)) e

pub load_other : (codes s : List ℕ) → load_refusal (map other_code codes) s ≡ load_refusal codes s
load_other codes s =
    let c = table_of (length s) codes in
    let shape = ap (λ n. ltb 64 (length s) || not (eqb n (length s * length s))) (length-map codes other_code) in
    let a = load_verdict (map other_code codes) s (transpose_table c) (other_table (length s) codes) in
    let b = load_verdict codes s c refl in
    let p = code_other c in
    let q = self_other c in
    let r = edges_other c in
    let t = closed_other (length s) c in
    let u = back_other c s in
    cc

pub made_other :
    {E : Type 0} (r t : Option E) (p q : Floorplan) → r ≡ t → p ≡ transpose q → unless r p ≡ transpose_made (unless t q)
made_other r (Some e) p q a b = ap (λ x. unless x p) a
made_other r None p q a b = ap (λ x. unless x p) a ∙ ap (λ x. Ok x) b

pub loads : (codes s : List ℕ) → after_load (map other_code codes) s ≡ transpose_made (after_load codes s)
loads codes s =
    made_other (load_refusal (map other_code codes) s) (load_refusal codes s)
    (record { size = length s; codes = map other_code codes; sequence = s })
    (record { size = length s; codes = codes; sequence = s }) (load_other codes s) refl
