-- What codes that pass the first tests tell of their graphs.
use Rattle.std.proofs.Common.{◌≡◌, ℕ, ◌*◌, ◌<◌, ◌≤◌, false, cond, not, eqb, ltb, List, length, Some, None, Option, ap, ◌∙◌, inl, inr, arith}
use mathlib.Core.Path.{fun_ext}
use Rattle.std.proofs.lemmas.Bool.{or_parts, ltb-false, cases_lt}
use Rattle.std.proofs.lemmas.Bool.Decides.{nat_tests}
use Rattle.graphs.specs.Edges.{edge}
use Rattle.graphs.specs.declared.graph.Graph.{Graph}
use Rattle.plans.proofs.Accepted.{or_else_none, refusing_none}
use Rattle.plans.proofs.Searches.{first_pair_tells}
use Rattle.plans.proofs.TableLists.{table_within}
use Rattle.plans.specs.First.{IsFirstPair}
use Rattle.plans.specs.Search.{refusing, first_pair}
use Rattle.plans.specs.Tables.{Table, table_of}
use Rattle.plans.specs.Tests.{misshapen, code_wrong, codes_refusal, telling_pair}
use Rattle.plans.specs.declared.refusals.LoadRefusal.TheVariants.{WrongShape, WrongCode}
use Rattle.table_tests.specs.Tested.{Shows, graph_table}

-- the graphs of a table with codes up to 2 have that table
pub shown_table :
    (c : Table) (g h : Graph) → ((i j : ℕ) → c i j ≤ 2) → Shows c 1 g → Shows c 2 h → graph_table g h ≡ c
shown_table c g h small p q =
    fun_ext (λ i. fun_ext (λ j. ap (λ b. cond b 1 (cond (edge h i j) 2 0)) (p i j) ∙ ap (λ b. cond (eqb (c i j) 1) 1 (cond b 2 0)) (q i j) ∙ code (c i j) (small i j)))
  where
    code : (n : ℕ) → n ≤ 2 → cond (eqb n 1) 1 (cond (eqb n 2) 2 0) ≡ n
    code n h = grind (arith, nat_tests)

module _ (m : ℕ) (codes : List ℕ) (passed : codes_refusal 64 2 m codes ≡ None) where
  shape : misshapen 64 m codes ≡ false
  shape = refusing_none (misshapen 64 m codes) WrongShape (or_else_none (refusing (misshapen 64 m codes) WrongShape) _ passed).0

  pub shape_few : m ≤ 64
  shape_few = ltb-false 64 m (or_parts (ltb 64 m) (not (eqb (length codes) (m * m))) shape).0

  no_wrong : (r : Option (ℕ × ℕ)) → IsFirstPair (code_wrong 2 (table_of m codes)) m r → telling_pair WrongCode r ≡ None
      → (i j : ℕ) → i < m → j < m → code_wrong 2 (table_of m codes) i j ≡ false
  no_wrong (Some q) f e i j h l = let z : ◌≡◌ {A = ℕ} 0 1 = cc in absurd (omega arith)
  no_wrong None f e i j h l = f i j h l

  pub codes_small : (i j : ℕ) → table_of m codes i j ≤ 2
  codes_small i j =
      elim (cases_lt 2 (table_of m codes i j)) [
        | inl more ↦
            let w = table_within m codes i j (omega arith) in
            let t =
            no_wrong (first_pair m (code_wrong 2 (table_of m codes))) (first_pair_tells m (code_wrong 2 (table_of m codes)))
            (or_else_none (telling_pair WrongCode (first_pair m (code_wrong 2 (table_of m codes)))) _
            (or_else_none (refusing (misshapen 64 m codes) WrongShape) _ passed).1).0
            i j w.0 w.1
            in
            absurd (grind (arith, nat_tests))
        | inr less ↦ less
      ]
