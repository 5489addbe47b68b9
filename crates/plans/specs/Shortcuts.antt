-- Three shortcuts that break a plan, for the worked plans to tell them from the definitions.
use Rattle.std.specs.Prelude.{ℕ, cond, ◌&&◌, List, length, Option, ◌==◌}
use Rattle.plans.specs.Changes.{other_graph, without_edge}
use Rattle.plans.specs.Search.{or_else}
use Rattle.plans.specs.Tables.{Table, table_of}
use Rattle.plans.specs.Tests.{codes_refusal, sequence_refusal}
use Rattle.plans.specs.declared.refusals.LoadRefusal.{LoadRefusal}

-- only the named edge is reversed
abbrev pub reverse_only : Table → ℕ → ℕ → Table
reverse_only c a b i j = cond (i == b && j == a) (c a b) (without_edge c a b i j)

-- only the named edge is moved
abbrev pub move_only : Table → ℕ → ℕ → Table
move_only c a b i j = cond (i == a && j == b) (other_graph (c a b)) (c i j)

-- a load without the test of closure
abbrev pub unclosed_refusal : List ℕ → List ℕ → Option LoadRefusal
unclosed_refusal codes s =
    or_else (codes_refusal 64 2 (length s) codes) (sequence_refusal (table_of (length s) codes) s)
