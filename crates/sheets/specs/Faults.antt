-- Faults: the number and the layer of each, and the number of each sheet.
use Rattle.std.specs.Prelude.{ℕ, Bool, true, false}
use Rattle.plans.specs.Numbers.{number_of_load}
use Rattle.sheets.specs.declared.fault.Wrong.{Wrong}
use Rattle.sheets.specs.declared.fault.Wrong.TheVariants.{ListTooShort, LineLength, UnknownWord, BadField, OutOfRange, SheetTooLong, Refused}
use Rattle.sheets.specs.declared.fault.Layer.{Layer}
use Rattle.sheets.specs.declared.fault.Layer.TheVariants as layers
use Rattle.sheets.specs.declared.fault.Sheet.{Sheet}
use Rattle.sheets.specs.declared.fault.Sheet.TheVariants.{Sizes, Plan}

-- the number by which a fault is known; a refused load has its own
abbrev pub number_of : Wrong → ℕ
number_of ListTooShort = 60
number_of LineLength = 61
number_of UnknownWord = 62
number_of BadField = 63
number_of OutOfRange = 64
number_of SheetTooLong = 65
number_of (Refused e) = number_of_load e

-- the layer at which a fault is found
abbrev pub layer_of : Wrong → Layer
layer_of ListTooShort = layers.List
layer_of LineLength = layers.Line
layer_of UnknownWord = layers.Field
layer_of BadField = layers.Field
layer_of OutOfRange = layers.Field
layer_of SheetTooLong = layers.Sheet
layer_of (Refused e) = layers.Plan

-- the number by which a sheet is known
abbrev pub sheet_number : Sheet → ℕ
sheet_number Sizes = 1
sheet_number Plan = 2

-- a fault sets every place of the caller's lists to zero, unless one of them is too short, which leaves them as
-- they are, or the load is refused, which leaves in them what was read
abbrev pub clears : Wrong → Bool
clears ListTooShort = false
clears LineLength = true
clears UnknownWord = true
clears BadField = true
clears OutOfRange = true
clears SheetTooLong = true
clears (Refused e) = false
