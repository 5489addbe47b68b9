-- A fault of the lists' room is the first of all, and leaves the lists; behind it the sheets decide.
use Rattle.std.proofs.Common.{◌≡◌, ℕ, List, length, Some, None, Ok, Err, sym, ◌∙◌, subst, arith}
use Rattle.sheets.specs.declared.fault.Finding.{Finding}
use Rattle.sheets.specs.declared.parsed.Parsed.{Parsed}
use Rattle.sheets.specs.Checks.{first}
use Rattle.sheets.specs.Lists.{Cleared, blank_sides}
use Rattle.sheets.specs.Parsing.{Found, Held, LeavesBy, ReadsAll, ReadsLists, ReadsRoom, checks_for}
use Rattle.sheets.specs.Reading.{list_checks, sheet_checks}
use Rattle.sheets.proofs.CheckLemmas.{first_front, first_rest}
use Rattle.sheets.proofs.ListLemmas.{left_kept, left_cleared}

pub short_told : (sizes plan : List ℕ) (h : Held) (f : Finding) → ReadsRoom (length h.sides) (length h.codes) (length h.places) (Err f) → ReadsLists sizes plan h h (Err f)
short_told sizes plan h f room =
    let all = first_front (list_checks (length h.sides) (length h.codes) (length h.places)) (sheet_checks sizes plan) f room.0 in
    record {
      found = (all, omega (arith, room.1));
      lists =
          subst (λ o. LeavesBy sizes plan o h h) (sym all)
          (left_kept blank_sides f.wrong h.sides room.2, left_kept 0 f.wrong h.codes room.2, left_kept 0 f.wrong h.places room.2);
    }

-- behind lists with room, the sheets decide: what was read of them
pub room_read : (sizes plan : List ℕ) (before after : Held) (p : Parsed)
    → first (list_checks (length before.sides) (length before.codes) (length before.places)) ≡ None → ReadsAll sizes plan after (Ok p)
    → ReadsLists sizes plan before after (Ok p)
room_read sizes plan before after p room done =
    let e : first (checks_for sizes plan before) ≡ None =
    first_rest (list_checks (length before.sides) (length before.codes) (length before.places)) (sheet_checks sizes plan) room ∙ done.0 in
    record { found = (e, done.1); lists = subst (λ o. LeavesBy sizes plan o before after) (sym e) done.2 }

-- or their fault, behind which the lists are cleared
pub room_fault : (sizes plan : List ℕ) (before after : Held) (f : Finding)
    → first (list_checks (length before.sides) (length before.codes) (length before.places)) ≡ None → Found sizes plan (sheet_checks sizes plan) f
    → Cleared blank_sides after.sides → Cleared 0 after.codes → Cleared 0 after.places → ReadsLists sizes plan before after (Err f)
room_fault sizes plan before after f room found sides codes places =
    let e : first (checks_for sizes plan before) ≡ Some f =
    first_rest (list_checks (length before.sides) (length before.codes) (length before.places)) (sheet_checks sizes plan) room ∙ found.0 in
    record {
      found = (e, found.1);
      lists =
          subst (λ o. LeavesBy sizes plan o before after) (sym e)
          (left_cleared blank_sides f.wrong before.sides _ found.2 sides, left_cleared 0 f.wrong before.codes _ found.2 codes, left_cleared 0 f.wrong before.places _ found.2 places);
    }
