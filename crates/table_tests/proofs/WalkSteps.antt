-- One place of a walk: what its tests find, and that it is walked or not.
use Rattle.std.proofs.Common.{◌≡◌, ℕ, ◌+◌, ◌<◌, ◌≤◌, true, ◌&&◌, ◌||◌, eqb, ltb, List, length, get_or, sym, ap, ◌∙◌, subst, inl, inr, arith}
use Rattle.std.proofs.lemmas.Bool.{cases_eq}
use Rattle.std.proofs.lemmas.Bool.Decides.{nat_tests, same_from_decides}
use Rattle.graphs.specs.Edges.{edge}
use Rattle.module_set.proofs.Membership.{member_in_set, in_set_from}
use Rattle.module_set.specs.Members.{member, in_set}
use Rattle.module_set.specs.declared.set.ModuleSet.{ModuleSet}
use Rattle.table_tests.proofs.Standing.{place_standing, standing_more}
use Rattle.table_tests.specs.Walked.{BothClosedAt, GoesOn, Walked, WalkedAt, either_edge, stands_from}
use Rattle.table_tests.specs.declared.build.TwoGraphs.{TwoGraphs}

-- of the successors of i in each graph, of both together, and of those met
module _ (two : TwoGraphs) (i : ℕ) (own other both met : ModuleSet) (own_is : (j : ℕ) → member own j ≡ edge two.right i j)
    (other_is : (j : ℕ) → member other j ≡ edge two.above i j)
    (both_is : (j : ℕ) → member both j ≡ (member own j || member other j)) where
  both_edges : (j : ℕ) → member both j ≡ either_edge two i j
  both_edges j = both_is j ∙ (λ n. own_is j n || other_is j n)

  -- each is in the other exactly where i has edges to just those met
  pub edges_exact : in_set both met ≡ true → in_set met both ≡ true → (j : ℕ) → either_edge two i j ≡ member met j
  edges_exact forth back j =
      same_from_decides (either_edge two i j) (member met j)
      (λ h. member_in_set both met j forth (both_edges j ∙ h), λ h. sym (both_edges j) ∙ member_in_set met both j back h)
      (λ e. e, λ e. e)

  pub exact_forth : ((j : ℕ) → either_edge two i j ≡ member met j) → in_set both met ≡ true
  exact_forth exact = in_set_from both met (λ j h. sym (both_edges j ∙ exact j) ∙ h)

  pub exact_back : ((j : ℕ) → either_edge two i j ≡ member met j) → in_set met both ≡ true
  exact_back exact = in_set_from met both (λ j h. both_edges j ∙ exact j ∙ h)

  -- and then both graphs are closed at its successors, where they are at those met
  pub successors_closed :
      in_set both met ≡ true → ((j : ℕ) → member met j ≡ true → BothClosedAt two j) → (j : ℕ)
      → either_edge two i j ≡ true → BothClosedAt two j
  successors_closed forth closed j h = closed j (member_in_set both met j forth (both_edges j ∙ h))

-- what is met where the places from k on are walked
pub record WalkedFrom (two : TwoGraphs) (s : List ℕ) (k : ℕ) (met : ModuleSet) : Type 0 where
  pub standing : (j : ℕ) → member met j ≡ stands_from s k j
  pub walked : (l : ℕ) → k ≤ l → l < length s → WalkedAt two s l

-- is closed in both graphs
pub met_closed :
    (two : TwoGraphs) (s : List ℕ) (k : ℕ) (met : ModuleSet) → WalkedFrom two s k met → (j : ℕ) → member met j ≡ true
    → BothClosedAt two j
met_closed two s k met from j h =
    let (l, after, inside, is) = place_standing s k j (sym (from.standing j) ∙ h) in
    subst (BothClosedAt two) is (from.walked l after inside).goes_on.closed

-- one place before the walked ones
module _ (two : TwoGraphs) (s : List ℕ) (k n : ℕ) (met : ModuleSet) (next : n ≡ k + 1) (here : k < length s)
    (from : WalkedFrom two s n met) where
  met_is : (j : ℕ) → member met j ≡ stands_from s (k + 1) j
  met_is j = from.standing j ∙ ap (λ l. stands_from s l j) next

  pub walk_more :
      (more : ModuleSet) → length s ≤ 64 → get_or s k 0 < length s → GoesOn two (get_or s k 0) (member met)
      → ((j : ℕ) → member more j ≡ (member met j || (ltb j 64 && eqb j (get_or s k 0)))) → WalkedFrom two s k more
  walk_more more few inside on adds = record {
    standing = λ j. adds j ∙ (λ i. met_is j i || small j i) ∙ standing_more s k j here;
    walked = λ l after within.
        elim (cases_eq l k) [
          | inl same ↦ subst (WalkedAt two s) (sym same) walked_here
          | inr other ↦ from.walked l (omega (arith, other)) within
        ];
  }
    where
      small : (j : ℕ) → (ltb j 64 && eqb j (get_or s k 0)) ≡ eqb j (get_or s k 0)
      small j = grind (arith, nat_tests)

      walked_here : WalkedAt two s k
      walked_here = record {
        names_module = inside;
        goes_on = record { exactly = λ j. on.exactly j ∙ met_is j; closed = on.closed };
      }

  pub walked_on : Walked two s → GoesOn two (get_or s k 0) (member met)
  walked_on walked =
      let on = (walked k here).goes_on in
      record { exactly = λ j. on.exactly j ∙ sym (met_is j); closed = on.closed }
