-- The parts of the two sheets in turn: the fault of one, behind those that passed, or all that was read.
use Rattle.std.proofs.Common.{◌≡◌, ℕ, ◌+◌, ◌*◌, ◌≤◌, List, ◌++◌, length, take, drop, ap, sym, ◌∙◌, subst, arith}
use Rattle.std.proofs.lemmas.Nat.{mul-le}
use Rattle.std.proofs.lemmas.List.{length-take-le}
use Rattle.std.proofs.lemmas.Result.{err_from_is_err_and}
use Rattle.sheets.specs.declared.fault.Sheet.{Sheet}
use Rattle.sheets.specs.declared.fault.Sheet.TheVariants.{Sizes, Plan}
use Rattle.sheets.specs.declared.fault.Finding.{Finding}
use Rattle.sheets.specs.declared.place.Place.{Place}
use Rattle.sheets.specs.AtLines.{IsLine}
use Rattle.sheets.specs.Checks.{Check}
use Rattle.sheets.specs.Lines.{line_start}
use Rattle.sheets.specs.Lists.{Filled, Front, blank_sides, sides_read}
use Rattle.sheets.specs.Parsing.{Found, of_sheet}
use Rattle.sheets.specs.Promises.{Fails, Passes, Passed}
use Rattle.sheets.specs.Reading.{code_read, last_checks, modules_of, number_at, place_read, rows_checks, sequence_checks, sizes_checks}
use Rattle.sheets.proofs.CheckLemmas.{fails_front, fails_behind, passes_both}
use Rattle.sheets.proofs.LineLemmas.{at_line, next_is_line}
use Rattle.sheets.proofs.ListLemmas.{filled_front}
use Rattle.sheets.proofs.StageLemmas.{rows_on, sizes_on}
use Rattle.sheets.proofs.reader.read_all.Goals as goal

-- a fault of one of the sheets
found : (sizes plan : List ℕ) (name : Sheet) (cs : List Check) (f : Finding) → Fails name (of_sheet sizes plan name) cs f → Found sizes plan cs f
found sizes plan name cs f h = (h.found, subst (λ s. f.from + f.width ≤ length (of_sheet sizes plan s)) (sym h.named) h.within, h.clearing)

-- what is said of the line behind m rows, with a list of n places, is said of the sequence
at_last : {plan bytes : List ℕ} {at : Place} (P : List ℕ → ℕ → ℕ → ℕ → Type 0) (m n : ℕ) → bytes ≡ plan → IsLine plan (m + 1) at → n ≡ m → m ≡ modules_of plan
    → P bytes n at.line at.offset → P plan (modules_of plan) (modules_of plan + 2) (line_start plan (modules_of plan + 1))
at_last {plan = plan} P m n same at long e h =
    let two : m + 1 + 1 ≡ m + 2 = omega arith in
    subst (λ k. P plan k (k + 2) (line_start plan (k + 1))) e
    (subst (λ l. P plan m l (line_start plan (m + 1))) two (subst (λ w. P plan w (m + 1 + 1) (line_start plan (m + 1))) long (at_line (λ s l o. P s n l o) same at h)))

pub returns-in_err-head : goal.returns-in_err-head
returns-in_err-head c =
    let p = err_from_is_err_and c.from_residual-in_err-head.result c.from_residual-in_err-head.ensures.1 in
    let sizes = c.args.sizes.now in
    let plan = c.args.plan.now in
    rw (p.1, p.2) (found sizes plan Plan _ _ (fails_behind c.in_ok-check_lengths.ensures (fails_front (sizes_on sizes plan) c.in_err-head.ensures)))

pub returns-in_err-read_sizes : goal.returns-in_err-read_sizes
returns-in_err-read_sizes c =
    let p = err_from_is_err_and c.from_residual-in_err-read_sizes.result c.from_residual-in_err-read_sizes.ensures.1 in
    let sizes = c.args.sizes.now in
    let plan = c.args.plan.now in
    let head = c.in_ok-head.ensures in
    let f = c.in_err-read_sizes.field-0.0 in
    let long : length (take c.in_ok-head.modules c.args.sides.now) ≡ c.in_ok-head.modules = length-take-le _ _ (omega (arith, c.requires.sides.room)) in
    let fails = subst (λ k. Fails Sizes sizes (sizes_checks sizes k) f) (long ∙ head.1.1) c.in_err-read_sizes.ensures in
    rw (p.1, p.2) (found sizes plan Sizes _ f (fails_behind c.in_ok-check_lengths.ensures (fails_behind head.0 (fails_front (rows_on plan) fails))))

pub returns-in_err-last : goal.returns-in_err-last
returns-in_err-last c =
    let p = err_from_is_err_and c.from_residual-in_err-last.result c.from_residual-in_err-last.ensures.1 in
    let sizes = c.args.sizes.now in
    let plan = c.args.plan.now in
    let m = c.in_ok-head.modules in
    let head = c.in_ok-head.ensures in
    let f = c.in_err-last.field-0.0 in
    let long : length (take m c.args.sides.now) ≡ m = length-take-le _ _ (omega (arith, c.requires.sides.room)) in
    let sizes_passed = subst (λ k. Passes (sizes_checks sizes k)) (long ∙ head.1.1) c.in_ok-read_sizes.ensures.0 in
    let fails = subst (λ k. Fails Plan plan (rows_checks plan k) f) head.1.1 (subst (λ s. Fails Plan s (rows_checks s m) f) (ap (λ b. b.now) head.1.4) c.in_err-last.ensures) in
    rw (p.1, p.2)
    (found sizes plan Plan _ f (fails_behind c.in_ok-check_lengths.ensures (fails_behind head.0 (fails_behind sizes_passed (fails_front (last_checks plan (modules_of plan)) fails)))))

pub returns-in_err-read_sequence : goal.returns-in_err-read_sequence
returns-in_err-read_sequence c =
    let p = err_from_is_err_and c.from_residual-in_err-read_sequence.result c.from_residual-in_err-read_sequence.ensures.1 in
    let sizes = c.args.sizes.now in
    let plan = c.args.plan.now in
    let m = c.in_ok-head.modules in
    let head = c.in_ok-head.ensures in
    let rows = c.in_ok-last.ensures in
    let f = c.in_err-read_sequence.field-0.0 in
    let same = ap (λ b. b.now) head.1.4 in
    let long : length (take m c.args.sides.now) ≡ m = length-take-le _ _ (omega (arith, c.requires.sides.room)) in
    let sizes_passed = subst (λ k. Passes (sizes_checks sizes k)) (long ∙ head.1.1) c.in_ok-read_sizes.ensures.0 in
    let rows_passed = subst (λ k. Passes (rows_checks plan k)) head.1.1 (subst (λ s. Passes (rows_checks s m)) same rows.0) in
    let at = subst (λ s. IsLine s (m + 1) c.in_ok-last.last.at) same rows.1.2 in
    let wide : length (take m c.args.places.now) ≡ m = length-take-le _ _ (omega (arith, c.requires.places.room)) in
    let fails = at_last (λ s w l o. Fails Plan s (sequence_checks s w l o) f) m _ (ap (λ b. b.now) rows.1.1 ∙ same) at wide head.1.1 c.in_err-read_sequence.ensures in
    rw (p.1, p.2)
    (found sizes plan Plan _ f (fails_behind c.in_ok-check_lengths.ensures (fails_behind head.0 (fails_behind sizes_passed (fails_behind rows_passed fails)))))

pub returns : goal.returns
returns c =
    let sizes = c.args.sizes.now in
    let plan = c.args.plan.now in
    let m = c.in_ok-head.modules in
    let head = c.in_ok-head.ensures in
    let rows = c.in_ok-last.ensures in
    let last = c.in_ok-read_sequence.ensures in
    let same = ap (λ b. b.now) head.1.4 in
    let long : length (take m c.args.sides.now) ≡ m = length-take-le _ _ (omega (arith, c.requires.sides.room)) in
    let sizes_passed = subst (λ k. Passes (sizes_checks sizes k)) (long ∙ head.1.1) c.in_ok-read_sizes.ensures.0 in
    let rows_passed = subst (λ k. Passes (rows_checks plan k)) head.1.1 (subst (λ s. Passes (rows_checks s m)) same rows.0) in
    let at = subst (λ s. IsLine s (m + 1) c.in_ok-last.last.at) same rows.1.2 in
    let wide : length (take m c.args.places.now) ≡ m = length-take-le _ _ (omega (arith, c.requires.places.room)) in
    let bytes = ap (λ b. b.now) rows.1.1 ∙ same in
    let last_passed = at_last (λ s w l o. Passes (sequence_checks s w l o)) m _ bytes at wide head.1.1 last.0 in
    let passed = subst (λ s. Passed s c.in_ok-last.last.at.offset (4 * m)) bytes (subst (λ w. Passed c.in_ok-last.last.bytes.now c.in_ok-last.last.at.offset (4 * w)) wide last.1.1) in
    let e : m ≡ modules_of plan = head.1.1 in
    let two : m + 1 + 1 ≡ modules_of plan + 2 = omega arith in
    let script = next_is_line plan (m + 1) (4 * m) c.in_ok-last.last.at _ at passed c.next.ensures.offset c.next.ensures.line (omega arith) in (
      (passes_both c.in_ok-check_lengths.ensures (passes_both head.0 (passes_both sizes_passed (passes_both rows_passed last_passed)))).none,
      record { head = head.1.0; modules = head.1.1; offset = script.offset ∙ ap (line_start plan) two; line = script.line ∙ ap (λ k. k + 1) two ∙ omega arith },
      record {
        sides_there =
            subst (λ k. Filled blank_sides (sides_read sizes) k (c.read_sizes.new.sides ++ drop m c.args.sides.now)) e
            (filled_front blank_sides (sides_read sizes) m c.args.sides.now c.read_sizes.new.sides c.requires.sides.clear (c.read_sizes.auto.sides ∙ long) (λ k h. c.in_ok-read_sizes.ensures.1 k (omega arith)));
        codes_read =
            subst (λ k. Filled 0 (code_read plan k) (k * k) (c.read_rows.new.codes ++ drop (m * m) c.args.codes.now)) e
            (filled_front 0 (code_read plan m) (m * m) c.args.codes.now c.read_rows.new.codes c.requires.codes.clear (c.read_rows.auto.codes ∙ length-take-le _ _ (omega (arith, mul-le m m 64 64 head.1.2 head.1.2, c.requires.codes.room)))
            (subst (λ s. Front 0 (code_read s m) (m * m) c.read_rows.new.codes) same rows.1.3));
        places_read =
            subst (λ k. Filled 0 (place_read plan (modules_of plan)) (modules_of plan) (c.read_sequence.new.places ++ drop k c.args.places.now)) (sym e)
            (filled_front 0 (place_read plan (modules_of plan)) (modules_of plan) c.args.places.now c.read_sequence.new.places c.requires.places.clear (c.read_sequence.auto.places ∙ wide ∙ e)
            (at_last (λ s w l o. Front 0 (λ k. number_at s (o + 4 * k) 4) w c.read_sequence.new.places) m _ bytes at wide e last.1.0));
      },
    )
