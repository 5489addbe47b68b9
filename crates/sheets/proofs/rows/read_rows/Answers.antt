-- The rows of the modules in turn.
use Rattle.std.proofs.Common.{refl, get_or, ◌≡◌, ℕ, ◌+◌, ◌-◌, ◌*◌, ◌<◌, ◌≤◌, List, length, take, drop, ap, sym, ◌∙◌, subst, arith}
use Rattle.std.proofs.lemmas.Nat.{mul-le}
use Rattle.std.proofs.lemmas.List.{length-drop, length-take-le}
use Rattle.std.proofs.lemmas.Result.{err_from_is_err_and}
use Rattle.sheets.specs.declared.fault.Sheet.TheVariants.{Plan}
use Rattle.sheets.specs.AtLines.{IsLine}
use Rattle.sheets.specs.Lines.{line_start}
use Rattle.sheets.specs.Lists.{Front}
use Rattle.sheets.specs.Promises.{Fails, Passes, Passed}
use Rattle.sheets.specs.Reading.{code_at, code_read, module_row_checks, row_checks}
use Rattle.sheets.proofs.LineLemmas.{at_line, next_is_line}
use Rattle.sheets.proofs.ListLemmas.{front_part, row_codes, row_more}
use Rattle.sheets.proofs.LoopLemmas.{each_passes, each_fails, passed_more}
use Rattle.sheets.proofs.rows.read_rows.Goals as goal

-- row i of m lies in the list, m codes long
row_within : (i m n : ℕ) → i < m → m * m ≤ n → (i + 1) * m ≤ n
row_within i m n h room = omega (arith, mul-le (i + 1) m m m (omega arith) (omega arith))

row_long : (i m : ℕ) (codes : List ℕ) → i < m → m * m ≤ length codes → length (take ((i + 1) * m - i * m) (drop (i * m) codes)) ≡ m
row_long i m codes h room =
    let more = row_more i m in
    let within = row_within i m (length codes) h room in
    let left = length-drop (i * m) codes in
    length-take-le ((i + 1) * m - i * m) (drop (i * m) codes) (omega arith) ∙ omega arith

pub returns-in_err-read_row : goal.returns-in_err-read_row
returns-in_err-read_row c =
    let p = err_from_is_err_and c.from_residual.result c.from_residual.ensures.1 in
    let plan = c.args.second.bytes.now in
    let m = c.args.modules in
    let i = c.loop-i.i in
    let loop = c.loop-i.invariant in
    let f = c.in_err-read_row.field-0.0 in
    let long = row_long i m c.loop-i.codes c.loop-i-test.true (omega (arith, c.requires.room)) in
    let line = c.loop-i.line in
    let fails = subst (λ w. Fails Plan line.bytes.now (row_checks line.bytes.now w line.at.line line.at.offset) f) long c.in_err-read_row.ensures in
    let two : i + 1 + 1 ≡ i + 2 = omega arith in
    let row =
    subst (λ n. Fails Plan plan (row_checks plan m n (line_start plan (i + 1))) f) two
    (at_line (λ s n o. Fails Plan s (row_checks s m n o) f) (ap (λ b. b.now) loop.same) loop.at fails) in
    rw (p.1, p.2) (each_fails (module_row_checks plan m) m i c.loop-i-test.true loop.passed row)

pub loop-i-preserved : goal.loop-i-preserved
loop-i-preserved c =
    let plan = c.args.second.bytes.now in
    let m = c.args.modules in
    let i = c.loop-i.i in
    let loop = c.loop-i.invariant in
    let done = c.in_ok-read_row.ensures in
    let next = c.next-line.ensures in
    let same = ap (λ b. b.now) loop.same in
    let within = row_within i m (length c.loop-i.codes) c.loop-i-test.true (omega (arith, c.requires.room)) in
    let long = row_long i m c.loop-i.codes c.loop-i-test.true (omega (arith, c.requires.room)) in
    let more = row_more i m in
    let line = c.loop-i.line in
    let passes = subst (λ w. Passes (row_checks line.bytes.now w line.at.line line.at.offset)) long done.0 in
    let two : i + 1 + 1 ≡ i + 2 = omega arith in
    let row =
    subst (λ n. Passes (row_checks plan m n (line_start plan (i + 1)))) two
    (at_line (λ s n o. Passes (row_checks s m n o)) same loop.at passes) in
    let passed = subst (λ s. Passed s line.at.offset m) same (subst (λ w. Passed line.bytes.now line.at.offset w) long done.1.1) in
    let kept : length c.read_row.new.codes ≡ m = c.read_row.auto.codes ∙ long in
    record {
      sheet = next.sheet ∙ loop.sheet;
      same = next.bytes ∙ loop.same;
      at = next_is_line plan (i + 1) m _ _ loop.at passed next.offset next.line (omega arith);
      passed = passed_more (module_row_checks plan m) i loop.passed row;
      read =
          front_part 0 (code_read plan m) (i * m) _ ((i + 1) * m) c.loop-i.codes c.read_row.new.codes (omega arith) within loop.read
          (λ j h.
          subst (λ s. get_or c.read_row.new.codes j 0 ≡ code_at s (line.at.offset + j)) same (done.1.0 j (omega arith))
          ∙ sym (row_codes plan m i (i * m) line.at.offset j refl loop.at.offset (omega arith)));
    }

pub returns : goal.returns
returns c =
    let plan = c.args.second.bytes.now in
    let m = c.args.modules in
    let loop = c.loop-i.invariant in
    let all : c.loop-i.i ≡ m = omega arith in (
      each_passes (module_row_checks plan m) m (λ k h. loop.passed k (omega arith)),
      (
        loop.sheet,
        loop.same,
        subst (λ i. IsLine plan (i + 1) c.loop-i.line.at) all loop.at,
        subst (λ i. Front 0 (code_read plan m) (i * m) c.loop-i.codes) all loop.read,
      ),
    )
