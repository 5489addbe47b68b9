-- A table of codes up to 2 is feasible with a sequence exactly where its two graphs are walked along it.
use Rattle.std.proofs.Common.{◌≡◌, ℕ, zero, suc, ◌+◌, ◌*◌, ◌<◌, ◌≤◌, ◌≢◌, ◌⊎◌, true, ◌||◌, eqb, ltb, List, length, get_or, sym, refl, ap, ◌∙◌, subst, inl, inr, arith}
use Rattle.std.proofs.lemmas.Bool.{cases_eq, cases_lt, cases_order}
use Rattle.std.proofs.lemmas.Bool.Decides.{nat_tests, same_from_decides}
use Rattle.graphs.specs.declared.graph.Graph.{Graph}
use Rattle.plans.proofs.Pigeonhole.{Different, all_found}
use Rattle.plans.proofs.TableLists.{table_within}
use Rattle.plans.specs.Tables.{Table, Feasible, given, table_of}
use Rattle.table_tests.proofs.GraphRows.{code_shown, edge_shown}
use Rattle.table_tests.proofs.Standing.{standing_at, place_standing}
use Rattle.table_tests.specs.Tested.{Shows}
use Rattle.table_tests.specs.Walked.{ClosedAt, Walked, either_edge, stands_from}
use Rattle.table_tests.specs.declared.build.TwoGraphs.{TwoGraphs}

module _ (codes s : List ℕ) (two : TwoGraphs) (right : Shows (table_of (length s) codes) 1 two.right)
    (above : Shows (table_of (length s) codes) 2 two.above) where
  abbrev m : ℕ
  m = length s

  abbrev c : Table
  c = table_of m codes

  abbrev at : ℕ → ℕ
  at k = get_or s k 0

  module _ (few : m ≤ 64) (full : length codes ≡ m * m) (small : (i j : ℕ) → c i j ≤ 2) where
    -- an edge of either graph is a code that is not 0
    either_is : (i j : ℕ) → either_edge two i j ≡ ltb 0 (c i j)
    either_is i j = rw (right i j, above i j) (one_or_two (c i j) (small i j))
      where
        one_or_two : (n : ℕ) → n ≤ 2 → (eqb n 1 || eqb n 2) ≡ ltb 0 n
        one_or_two n h = grind (arith, nat_tests)

    related : (i j : ℕ) → either_edge two i j ≡ true → 0 < c i j
    related i j e = let t = either_is i j in grind (arith, nat_tests)

    joining : (i j : ℕ) → 0 < c i j → either_edge two i j ≡ true
    joining i j h = let t = either_is i j in grind (arith, nat_tests)

    module _ (walked : Walked two s) where
      -- a module with an edge to itself would stand at a later place, and so at one after that
      none_itself : (n k : ℕ) → m ≤ k + n → k < m → either_edge two (at k) (at k) ≡ true → ⊥
      none_itself zero k end h own = absurd (omega arith)
      none_itself (suc n) k end h own =
          let (l, after, inside, is) = place_standing s (k + 1) (at k) (sym ((walked k h).goes_on.exactly (at k)) ∙ own) in
          none_itself n l (omega arith) inside (rw is own)

      none_twice : (k l : ℕ) → k < l → l < m → at k ≡ at l → ⊥
      none_twice k l h g same =
          none_itself m k (omega arith) (omega arith)
          ((walked k (omega arith)).goes_on.exactly (at k) ∙ standing_at s (k + 1) l (at k) (omega arith) g (sym same))

      once : (k l : ℕ) → k < m → l < m → at k ≡ at l → k ≡ l
      once k l h g same =
          elim (cases_order k l) [
            | inl is ↦ is
            | inr (inl less) ↦ absurd (none_twice k l less g same)
            | inr (inr more) ↦ absurd (none_twice l k more h (sym same))
          ]

      different : Different m at
      different = record { below = λ k h. (walked k h).names_module; once = once }

      stands : (i : ℕ) → i < m → (k : ℕ) × (k < m) × (at k ≡ i)
      stands i h = all_found m at different i h

      -- what a module has an edge to stands after it
      forward : (k l : ℕ) → k < m → l < m → 0 < c (at k) (at l) → k < l
      forward k l h g some =
          let ahead = sym ((walked k h).goes_on.exactly (at l)) ∙ joining (at k) (at l) some in
          let (n, after, inside, is) = place_standing s (k + 1) (at l) ahead in
          let same = once n l inside g is in
          omega arith

      -- and it has an edge to all that do
      ahead_joined : (k l : ℕ) → k < l → l < m → 0 < c (at k) (at l)
      ahead_joined k l h g =
          related (at k) (at l)
          ((walked k (omega arith)).goes_on.exactly (at l) ∙ standing_at s (k + 1) l (at l) (omega arith) g refl)

      no_second : (i j : ℕ) → 0 < c i j → c j i ≡ 0
      no_second i j some =
          let w = table_within m codes i j some in
          let (k, h, here) = stands i w.0 in
          let (l, g, there) = stands j w.1 in
          elim (cases_lt 0 (c j i)) [
            | inl more ↦
                let a = forward k l h g (rw (here, there) some) in
                let b = forward l k g h (rw (here, there) more) in
                absurd (omega arith)
            | inr none ↦ omega (arith, none)
          ]

      joined : (i j : ℕ) → i < m → j < m → i ≢ j → (0 < c i j) ⊎ (0 < c j i)
      joined i j h g ne =
          let (k, u, here) = stands i h in
          let (l, v, there) = stands j g in
          elim (cases_order k l) [
            | inl same ↦ absurd (ne (sym here ∙ ap at same ∙ there))
            | inr (inl less) ↦ inl (rw (← here, ← there) (ahead_joined k l less v))
            | inr (inr more) ↦ inr (rw (← here, ← there) (ahead_joined l k more u))
          ]

      -- a graph that is closed at each module
      closed_as : (code : ℕ) (g : Graph) → Shows c code g → ((k : ℕ) → k < m → ClosedAt g (at k)) → 0 < code
          → (i j k : ℕ) → c i j ≡ code → c j k ≡ code → c i k ≡ code
      closed_as code g shows each some i j k a b =
          let (n, h, here) = stands i (table_within m codes i j (omega arith)).0 in
          let own = subst (ClosedAt g) here (each n h) in
          code_shown c code g shows i k (own j k (edge_shown c code g shows i j a) (edge_shown c code g shows j k b))

      closed : (g i j k : ℕ) → 0 < g → c i j ≡ g → c j k ≡ g → c i k ≡ g
      closed g i j k some a b =
          let most = small i j in
          elim (cases_eq g 1) [
            | inl one ↦
                closed_as 1 two.right right (λ n h. (walked n h).goes_on.closed.0) (omega arith) i j k (a ∙ one) (b ∙ one)
                ∙ sym one
            | inr other ↦
                let is : g ≡ 2 = omega (arith, other) in
                closed_as 2 two.above above (λ n h. (walked n h).goes_on.closed.1) (omega arith) i j k (a ∙ is) (b ∙ is)
                ∙ sym is
          ]

      pub walked_feasible : Feasible (given codes s)
      walked_feasible = record {
        full = full;
        table = record {
          few = few;
          small = small;
          within = table_within m codes;
          apart = λ i.
              elim (cases_lt 0 (c i i)) [ inl more ↦ no_second i i more | inr none ↦ omega (arith, none) ];
          joined = joined;
          oneway = no_second;
          closed = closed;
        };
        fits = record { long = refl; modules = λ k h. (walked k h).names_module; once = once; forward = forward };
      }

  -- the other way round
  module _ (f : Feasible (given codes s)) where
    closed_at : (code : ℕ) (g : Graph) → Shows c code g → 0 < code → (i : ℕ) → ClosedAt g i
    closed_at code g shows some i j k a b =
        edge_shown c code g shows i k (f.table.closed code i j k some (code_shown c code g shows i j a) (code_shown c code g shows j k b))

    ahead : (k j : ℕ) → k < m → either_edge two (at k) j ≡ true → stands_from s (k + 1) j ≡ true
    ahead k j h e =
        let some = related f.table.few f.full f.table.small (at k) j e in
        let (l, g, is) = all_found m at (record { below = f.fits.modules; once = f.fits.once }) j (table_within m codes (at k) j some).1 in
        standing_at s (k + 1) l j (let less = f.fits.forward k l h g (rw is some) in omega arith) g is

    behind : (k j : ℕ) → k < m → stands_from s (k + 1) j ≡ true → either_edge two (at k) j ≡ true
    behind k j h e =
        let (l, after, g, is) = place_standing s (k + 1) j e in
        elim (f.table.joined (at k) (at l) (f.fits.modules k h) (f.fits.modules l g)
        (λ same. let one = f.fits.once k l h g same in absurd (omega arith))) [
          | inl some ↦ joining f.table.few f.full f.table.small (at k) j (rw (← is) some)
          | inr back ↦ let less = f.fits.forward l k g h back in absurd (omega arith)
        ]

    pub feasible_walked : Walked two s
    feasible_walked = λ k h. record {
      names_module = f.fits.modules k h;
      goes_on = record {
        exactly = λ j.
            same_from_decides (either_edge two (at k) j) (stands_from s (k + 1) j) (ahead k j h, behind k j h) (λ e. e, λ e. e);
        closed = (closed_at 1 two.right right (omega arith) (at k), closed_at 2 two.above above (omega arith) (at k));
      };
    }
