-- Tables as they are given, and what their tests before closure answer.
use Rattle.std.specs.Prelude.{◌≡◌, ℕ, ◌*◌, ◌≢◌, List, length, Some, None, Ok, Err, Option, Result}
use Rattle.plans.specs.Tables.{Table, table_of}
use Rattle.table_tests.specs.declared.table.Table as given
use Rattle.plans.specs.Tests.{codes_refusal}
use Rattle.plans.specs.declared.refusals.LoadRefusal.{LoadRefusal}

-- the table that codes were given as
abbrev pub table_given : given.Table → Table
table_given t = table_of t.modules t.codes.now

-- codes make a table of m modules, or are not m × m
abbrev pub MadeOf : ℕ → List ℕ → Option given.Table → Type 0
MadeOf m codes (Some t) = (t.modules ≡ m) × (t.codes.now ≡ codes)
MadeOf m codes None = length codes ≢ m * m

-- the table of codes that are not refused, or their first refusal
abbrev pub TestedTable : (limit greatest m : ℕ) → List ℕ → Result given.Table LoadRefusal → Type 0
TestedTable limit greatest m codes (Ok t) = (codes_refusal limit greatest m codes ≡ None) × (t.modules ≡ m) × (t.codes.now ≡ codes)
TestedTable limit greatest m codes (Err e) = codes_refusal limit greatest m codes ≡ Some e
