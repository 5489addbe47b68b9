-- The lines of one module more, from a result list in counted lengths.
use Rattle.plans.specs.Packing.{at_origin}
use Rattle.std.proofs.Common.{◌≡◌, ℕ, zero, suc, ◌+◌, ◌<◌, ◌≤◌, List, ◌++◌, map, length, get_or, take, sym, refl, ap, ◌∙◌, append-nil, add-one, arith}
use Rattle.lengths.specs.CountedLengths.{count_of}
use Rattle.lengths.specs.declared.counted.Counted.{Counted}
use Rattle.listing.specs.Line.{chip_line, edge_line, module_line}
use Rattle.listing.specs.PackLines.{chip_lines, record_line, record_lines}
use Rattle.plans.specs.CarriedPackings.{carry_placed}
use Rattle.plans.specs.Kinds.{Count, counted_kind}
use Rattle.plans.specs.declared.measures.Chip.{Chip}
use Rattle.plans.specs.declared.measures.Placed.{Placed}
use Rattle.std.proofs.lemmas.List.{get_or-map, get_or-take, length-take-le, take-map, append_assoc}
use Rattle.std.specs.List.{range_with_len, flat_map}

-- what is joined over one number more
joined_counting_more : {X : Type 0} (f : ℕ → List X) (a n : ℕ) → flat_map f (range_with_len a (suc n)) ≡ flat_map f (range_with_len a n) ++ f (a + n)
joined_counting_more f a zero = append-nil (f a) ∙ ap f (omega arith)
joined_counting_more f a (suc n) =
    let ih = joined_counting_more f (a + 1) n in
    let e : a + 1 + n ≡ a + suc n = omega arith in
    ap (λ xs. f a ++ xs) ih
    ∙ sym (append_assoc (f a) (flat_map f (range_with_len (a + 1) n)) (f (a + 1 + n)))
    ∙ ap (λ k. (f a ++ flat_map f (range_with_len (a + 1) n)) ++ f k) e

-- one module more
pub records_more :
    (results : List (Placed Counted)) (i : ℕ) (p : Placed Counted)
    → i < length results → p ≡ get_or results i p
    → record_lines (i + 1) (map (carry_placed count_of) results)
    ≡ record_lines i (map (carry_placed count_of) results) ++ module_line i p.left.length p.bottom.length
records_more results i p h e =
    let counted = map (carry_placed count_of) results in
    let f : ℕ → List ℕ = λ k. record_line k (get_or counted k (at_origin counted_kind)) in
    let at : get_or counted i (at_origin counted_kind) ≡ carry_placed count_of p = get_or-map (carry_placed count_of) results i p (at_origin counted_kind) h ∙ ap (carry_placed count_of) (sym e) in
    let zeros : 0 + i ≡ i = omega arith in
    ap (λ n. flat_map f (range_with_len 0 n)) (add-one i)
    ∙ joined_counting_more f 0 i
    ∙ ap (λ k. flat_map f (range_with_len 0 i) ++ f k) zeros
    ∙ ap (λ q. flat_map f (range_with_len 0 i) ++ record_line i q) at

-- the lines of modules at the front of a list are those of the front alone
front_lines : (rs : List (Placed Count)) (n m : ℕ) → m ≤ n → record_lines m (take n rs) ≡ record_lines m rs
front_lines rs n zero h = refl
front_lines rs n (suc m) h =
    let line : List (Placed Count) → ℕ → List ℕ = λ xs k. record_line k (get_or xs k (at_origin counted_kind)) in
    joined_counting_more (line (take n rs)) 0 m
    ∙ (λ i. front_lines rs n m (omega arith) i ++ record_line (0 + m) (get_or-take n rs (0 + m) (at_origin counted_kind) (omega arith) i))
    ∙ sym (joined_counting_more (line rs) 0 m)

-- so are the lines of a done packing
pub front_packed :
    (results : List (Placed Counted)) (m : ℕ) (c : Chip Count) → m ≤ length results
    → chip_lines (length (take m results)) (map (carry_placed count_of) (take m results)) c
    ≡ chip_lines m (map (carry_placed count_of) results) c
front_packed results m c h =
    ap (λ n. chip_lines n (map (carry_placed count_of) (take m results)) c) (length-take-le m results h)
    ∙ ap (λ rs. chip_lines m rs c) (sym (take-map (carry_placed count_of) m results))
    ∙ ap (λ ls. chip_line c.width.long c.height.long c.area ++ ls ++ edge_line c.width.borders c.height.borders)
    (front_lines (map (carry_placed count_of) results) m m (omega arith))
