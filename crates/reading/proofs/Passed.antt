-- What follows where no check of the lists and sheets applies: room, few modules, and where the rows stand.
use Rattle.std.proofs.Common.{◌≡◌, ℕ, zero, suc, ◌+◌, ◌*◌, ◌<◌, ◌≤◌, true, false, cond, ◌||◌, ltb, List, [], ◌∷◌, ◌++◌, length, Some, None, sym, refl, ap, ◌∙◌, zero-add, arith}
use Rattle.std.specs.List.{range_with_len, flat_map}
use Rattle.std.proofs.lemmas.Bool.{ltb-false, not-false, or_parts}
use Rattle.sheets.specs.declared.fault.Finding.{Finding}
use Rattle.sheets.specs.declared.fault.Sheet.TheVariants.{Plan}
use Rattle.sheets.specs.Checks.{Check, each, first, line_finding}
use Rattle.sheets.specs.Lines.{line_start, next_line, has_width}
use Rattle.sheets.specs.Parsing.{Held, checks_for}
use Rattle.sheets.specs.Reading.{modules_of, list_checks, length_checks, head_checks, sizes_checks, module_row_checks, rows_checks, last_checks, sheet_checks}
use Rattle.sheets.proofs.CheckLemmas.{first_rest, none_applies}
use Rattle.sheets.proofs.LineLemmas.{line_start_more, line_within}
use Rattle.sheets.proofs.ListLemmas.{row_more}
use Rattle.sheets.proofs.StageLemmas.{head_on, sizes_on, rows_on}
use Rattle.reading.specs.Rows.{WellPlaced, row_start}

-- where none of the whole applies, none of a part does
front_none : (xs ys : List Check) → first (xs ++ ys) ≡ None → first xs ≡ None
front_none [] ys e = refl
front_none (x ∷ xs) ys e =
    elim x.applies as (λ b. cond b (Some x.tells) (first (xs ++ ys)) ≡ None → cond b (Some x.tells) (first xs) ≡ None)
    [ true ↦ λ h. h | false ↦ λ h. front_none xs ys h ] e

rest_none : (xs ys : List Check) → first (xs ++ ys) ≡ None → first ys ≡ None
rest_none xs ys e = sym (first_rest xs ys (front_none xs ys e)) ∙ e

each_from : (F : ℕ → List Check) (a n i : ℕ) → first (flat_map F (range_with_len a n)) ≡ None → i < n → first (F (a + i)) ≡ None
each_from F a zero i e h = absurd (omega arith)
each_from F a (suc n) zero e h =
    let s : a + 0 ≡ a = omega arith in ap (λ k. first (F k)) s ∙ front_none (F a) (flat_map F (range_with_len (a + 1) n)) e
each_from F a (suc n) (suc i) e h =
    let s : a + suc i ≡ a + 1 + i = omega arith in
    ap (λ k. first (F k)) s ∙ each_from F (a + 1) n i (rest_none (F a) (flat_map F (range_with_len (a + 1) n)) e) (omega arith)

each_none : (F : ℕ → List Check) (n i : ℕ) → first (each n F) ≡ None → i < n → first (F i) ≡ None
each_none F n i e h = ap (λ k. first (F k)) (sym (zero-add i)) ∙ each_from F 0 n i e h

-- the law of no check is given for any finding that would stand behind the list
any : Finding
any = line_finding Plan 0

module _ (sizes plan : List ℕ) (h : Held) (none : first (checks_for sizes plan h) ≡ None) where
  abbrev m : ℕ
  m = modules_of plan

  abbrev lists : List Check
  lists = list_checks (length h.sides) (length h.codes) (length h.places)

  short : (ltb (length h.codes) 4096 || ltb (length h.places) 64) ≡ false
  short = none_applies lists (front_none lists (sheet_checks sizes plan) none) 1 any

  -- the lists have room
  pub code_room : 4096 ≤ length h.codes
  code_room = ltb-false _ _ (or_parts _ _ short).0

  pub place_room : 64 ≤ length h.places
  place_room = ltb-false _ _ (or_parts (ltb (length h.codes) 4096) (ltb (length h.places) 64) short).1

  from_head : first (head_on sizes plan) ≡ None
  from_head = rest_none (length_checks sizes plan) (head_on sizes plan) (rest_none lists (sheet_checks sizes plan) none)

  head_none : first (head_checks plan) ≡ None
  head_none = front_none (head_checks plan) (sizes_on sizes plan) from_head

  from_rows : first (rows_on plan) ≡ None
  from_rows = rest_none (sizes_checks sizes m) (rows_on plan) (rest_none (head_checks plan) (sizes_on sizes plan) from_head)

  -- there are few modules
  pub few_modules : m ≤ 64
  few_modules = ltb-false 64 m (none_applies (head_checks plan) head_none 3 any)

  row_width : (i : ℕ) → i < m → has_width plan (line_start plan (i + 1)) m ≡ true
  row_width i l =
      let none = each_none (module_row_checks plan m) m i (front_none (rows_checks plan m) (last_checks plan m) from_rows) l in
      not-false (has_width plan (line_start plan (i + 1)) m) (none_applies (module_row_checks plan m i) none 0 any)

  row_starts : (i : ℕ) → i ≤ m → line_start plan (i + 1) ≡ row_start m i
  row_starts zero l =
      let w : next_line plan 0 ≡ 0 + 8 + 1 = (line_within plan 0 8 (not-false (has_width plan 0 8) (none_applies (head_checks plan) head_none 0 any))).1 in
      line_start_more plan 0 ∙ w ∙ omega arith
  row_starts (suc i) l =
      let s = row_starts i (omega arith) in
      let w = (line_within plan (line_start plan (i + 1)) m (row_width i (omega arith))).1 in
      let more = row_more i (m + 1) in
      let one : suc i + 1 ≡ i + 1 + 1 = omega arith in
      let next : suc i ≡ i + 1 = omega arith in
      let same : line_start plan (i + 1) + m + 1 ≡ 9 + (i + 1) * (m + 1) = omega (arith, s, more) in
      ap (line_start plan) one ∙ line_start_more plan (i + 1) ∙ w ∙ same ∙ ap (row_start m) (sym next)

  last_width : has_width plan (line_start plan (m + 1)) (4 * m) ≡ true
  last_width =
      not-false (has_width plan (line_start plan (m + 1)) (4 * m))
      (none_applies (last_checks plan m) (rest_none (rows_checks plan m) (last_checks plan m) from_rows) 0 any)

  -- and the rows and the sequence stand where they should
  pub well_placed : WellPlaced plan m
  well_placed = record {
    few = few_modules;
    starts = row_starts;
    letters = λ i l. (let s = row_starts i (omega arith) in let w = (line_within plan (line_start plan (i + 1)) m (row_width i l)).0 in omega (arith, s, w));
    fields =
        (let s = row_starts m (omega arith) in
        let w = (line_within plan (line_start plan (m + 1)) (4 * m) last_width).0 in
        omega (arith, s, w));
  }
