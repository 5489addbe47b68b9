-- A loop over the successors of a module that gathers what they lead to.
use Rattle.std.proofs.Common.{◌≡◌, ℕ, ◌<◌, Bool, true, false, not, ◌&&◌, ◌||◌, eqb, Some, None, sym, refl, ap, ◌∙◌, inl, inr}
use Rattle.std.proofs.lemmas.Bool.{cases_eq, ne_eqb, and_parts}
use Rattle.module_set.proofs.Membership.{some_same}
use Rattle.module_set.proofs.Taking.{least_in, none_in}
use Rattle.module_set.specs.Members.{member, least_member, TakesLeast}
use Rattle.module_set.specs.declared.set.ModuleSet.{ModuleSet}
use Rattle.plans.proofs.Searches.{some_tells, some_from, none_from}
use Rattle.plans.specs.Search.{some_below}
use Rattle.graphs.proofs.Rows.{or_nothing}
use Rattle.graphs.specs.Edges.{edge, two_steps}
use Rattle.graphs.specs.declared.graph.Graph.{Graph}

-- of the numbers that are left, one is taken out
one_taken :
    (n j : ℕ) (left rest e : ℕ → Bool) → j < n → left j ≡ true → ((l : ℕ) → rest l ≡ (left l && not (eqb l j)))
    → (e j || some_below n (λ l. rest l && e l)) ≡ some_below n (λ l. left l && e l)
one_taken n j left rest e h has others =
    elim (some_tells n (λ l. left l && e l)) [
      | inl (found, (l, small, both)) ↦
          elim (cases_eq l j) [
            | inl same ↦ rw (sym same, (and_parts (left l) (e l) both).1, found) refl
            | inr other ↦
                let parts = and_parts (left l) (e l) both in
                let kept : (rest l && e l) ≡ true = rw (others l, parts.0, parts.1, ne_eqb l j other) refl in
                rw (some_from n (λ l. rest l && e l) l small kept, found) (or_true (e j))
          ]
      | inr (nothing, none) ↦
          let one : e j ≡ false = rw has at (none j h) in
          let rests : some_below n (λ l. rest l && e l) ≡ false =
          none_from n (λ l. rest l && e l) (λ l small. fewer (left l) (not (eqb l j)) (rest l) (e l) (others l) (none l small))
          in
          rw (one, rests, nothing) refl
    ]
  where
    or_true : (b : Bool) → (b || true) ≡ true
    or_true true = refl
    or_true false = refl

    fewer : (a b r c : Bool) → r ≡ (a && b) → (a && c) ≡ false → (r && c) ≡ false
    fewer true b true c p q = q
    fewer true b false c p q = refl
    fewer false b true c p q = absurd cc
    fewer false b false c p q = refl

-- whether one of a set has an edge to k
unfoldable pub leads : Graph → ModuleSet → ℕ → Bool
leads g s k = some_below 64 (λ j. member s j && edge g j k)

-- what is reached, with what the modules that are left lead to
abbrev pub Reaching : Graph → ℕ → ModuleSet → ModuleSet → Type 0
Reaching g i reached left = (k : ℕ) → (member reached k || leads g left k) ≡ two_steps g i k

pub reaching_none :
    (g : Graph) (i : ℕ) (reached left : ModuleSet) → ((k : ℕ) → member reached k ≡ false)
    → ((j : ℕ) → member left j ≡ edge g i j) → Reaching g i reached left
unfolding two_steps leads
reaching_none g i reached left none from k =
    rw (none k) (some_same 64 (λ j. member left j && edge g j k) (λ j. edge g i j && edge g j k)
    (λ j. ap (λ b. b && edge g j k) (from j)))

pub reaching_more :
    (g : Graph) (i j : ℕ) (reached more left rest : ModuleSet) → Reaching g i reached left → TakesLeast left (Some j) rest
    → ((k : ℕ) → member more k ≡ (member reached k || edge g j k)) → Reaching g i more rest
unfolding leads
reaching_more g i j reached more left rest before takes gains k =
    let (small, has) = least_in left j takes.0 in
    ap (λ b. b || leads g rest k) (gains k) ∙ or_assoc (member reached k) (edge g j k) (leads g rest k)
    ∙ ap (λ b. member reached k || b) (one_taken 64 j (member left) (member rest) (λ l. edge g l k) small has takes.1) ∙ before k
  where
    or_assoc : (a b c : Bool) → ((a || b) || c) ≡ (a || (b || c))
    or_assoc true b c = refl
    or_assoc false b c = refl

pub reaching_all :
    (g : Graph) (i : ℕ) (reached left : ModuleSet) → Reaching g i reached left → None ≡ least_member left
    → (k : ℕ) → member reached k ≡ two_steps g i k
unfolding leads
reaching_all g i reached left before none k =
    let over = none_from 64 (λ j. member left j && edge g j k) (λ j h. rw (none_in left none j) refl) in
    sym (or_nothing (member reached k)) ∙ ap (λ b. member reached k || b) (sym over) ∙ before k
