-- The direction of an edge, by its code.
use Rattle.std.specs.Prelude.{ℕ, Some, None, Option}
use Rattle.plans.specs.declared.direction.Direction.{Direction}
use Rattle.plans.specs.declared.direction.Direction.TheVariants.{Right, Above}

-- the code of an edge to the right, and upwards
abbrev pub code_along : Direction → ℕ
code_along Right = 1
code_along Above = 2

-- the same, and 0 where there is no edge
abbrev pub code_told : Option Direction → ℕ
code_told (Some d) = code_along d
code_told None = 0

-- the other direction
abbrev pub turned : Direction → Direction
turned Right = Above
turned Above = Right
