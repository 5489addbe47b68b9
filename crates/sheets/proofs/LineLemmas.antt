-- Lemmas on lines: their width one byte on and at their end, and that a line lies in its sheet.
use Rattle.std.proofs.Common.{subst, min, ◌^◌, ◌-◌, take, drop, not, ◌≡◌, ℕ, position, unwrap_or, refl, sym, ◌+◌, ◌<◌, ◌≤◌, true, eqb, List, length, get_or, ap, ◌∙◌, inl, inr, add-one, arith}
use Rattle.std.proofs.lemmas.List.{take_all, length-drop, get_or_past}
use Rattle.std.specs.List.{position_or_len}
use Rattle.std.proofs.lemmas.List.Recursion.{is_position_or_len}
use Rattle.std.proofs.lemmas.List.Sums.{prefix_len-le-length}
use Rattle.std.proofs.lemmas.Bool.Decides.{nat_tests}
use Rattle.std.proofs.lemmas.Bool.{cases_lt, eqb-true, and_parts}
use Rattle.sheets.specs.declared.place.Place.{Place}
use Rattle.sheets.specs.AtLines.{IsLine}
use Rattle.sheets.specs.Promises.{Passed}
use Rattle.sheets.specs.Lines.{line_width, width_at, next_line, line_start, has_width}

-- the width of the line that a sheet begins with is the place of its byte 10, or all that there is
pub width_found : (sheet : List ℕ) → unwrap_or (position (λ b. eqb b 10) sheet) (length sheet) ≡ line_width sheet
width_found sheet =
    let first : line_width sheet ≡ position_or_len (λ b. eqb b 10) sheet = is_position_or_len line_width (λ b. eqb b 10) refl (λ b bs. refl) sheet in
    let within : position_or_len (λ b. eqb b 10) sheet ≤ length sheet = prefix_len-le-length (λ b. not (eqb b 10)) sheet in
    grind (arith, nat_tests)

-- and so it is where a line begins behind others
pub width_at_found : (sheet : List ℕ) (s : ℕ) → let rest = take (length sheet - s) (drop s sheet) in unwrap_or (position (λ b. eqb b 10) rest) (length rest) ≡ width_at sheet s
width_at_found sheet s = width_found (take (length sheet - s) (drop s sheet)) ∙ ap line_width (take_all (length sheet - s) (drop s sheet) (omega (arith, length-drop s sheet)))

-- the line after line k
pub line_start_more : (sheet : List ℕ) (k : ℕ) → line_start sheet (k + 1) ≡ next_line sheet (line_start sheet k)
line_start_more sheet k = ap (line_start sheet) (add-one k)

-- a byte that is not 0 lies in its sheet
pub within_from_byte : (sheet : List ℕ) (i b : ℕ) → get_or sheet i 0 ≡ b → 0 < b → i < length sheet
within_from_byte sheet i b e p =
    elim (cases_lt i (length sheet)) [ inl h ↦ h | inr h ↦ let z : get_or sheet i 0 ≡ 0 = get_or_past sheet i 0 h in absurd (omega arith) ]

-- a line that has its width lies in its sheet with its byte 10, and the next begins behind that
pub line_within : (sheet : List ℕ) (s w : ℕ) → has_width sheet s w ≡ true → (s + w < length sheet) × (next_line sheet s ≡ s + w + 1)
line_within sheet s w h =
    let p = and_parts (eqb (width_at sheet s) w) (eqb (get_or sheet (s + w) 0) 10) h in
    let e = eqb-true (width_at sheet s) w p.0 in
    (within_from_byte sheet (s + w) 10 (eqb-true (get_or sheet (s + w) 0) 10 p.1) (omega arith), ap (λ (x : ℕ). s + x + 1) e)

-- behind line k of w bytes stands the next
pub next_is_line : (sheet : List ℕ) (k w : ℕ) (at next : Place) → IsLine sheet k at → Passed sheet at.offset w → next.offset ≡ at.offset + w + 1 → next.line ≡ min (at.line + 1) (2 ^ 64 - 1) → k + 2 < 2 ^ 64 → IsLine sheet (k + 1) next
next_is_line sheet k w at next here passed offset line few = record {
  offset = offset ∙ sym passed.next ∙ ap (next_line sheet) here.offset ∙ sym (line_start_more sheet k);
  line = (let e = here.line in omega arith);
}

-- what is said of a line by its place is said of line k
pub at_line : {bytes sheet : List ℕ} {k : ℕ} {at : Place} (P : List ℕ → ℕ → ℕ → Type 0) → bytes ≡ sheet → IsLine sheet k at → P bytes at.line at.offset → P sheet (k + 1) (line_start sheet k)
at_line {bytes = bytes} {sheet = sheet} {k = k} {at = at} P same here h =
    subst (λ s. P s (k + 1) (line_start sheet k)) same (subst (λ n. P bytes n (line_start sheet k)) here.line (subst (λ o. P bytes at.line o) here.offset h))
