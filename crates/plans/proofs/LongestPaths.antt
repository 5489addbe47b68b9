-- Near edges along one axis are longest paths: no path exceeds them, and one is as long.
use Rattle.std.proofs.Common.{◌≡◌, ℕ, zero, suc, ◌<◌, true, false, List, [], ◌∷◌, ◌++◌, sym, refl, ap, ◌∙◌, inl, inr}
use Rattle.plans.proofs.AxisPacking.{packed_along}
use Rattle.plans.proofs.Latest.{latest_picks}
use Rattle.plans.specs.Axes.{Axis, Keeps, Inside, Leads, free_edge, near_within, near_edge, path_from, pushed, stuck}
use Rattle.plans.specs.AxisTheorems.{Orderly, Unfixed, LongestAlong}
use Rattle.plans.specs.Kinds.{Kind, AtMost, SumLaws}
use Rattle.plans.specs.LaterOfTwo.{Picks, LaterLaws}
use Rattle.plans.proofs.Searches.{none_from}

module _ {L : Type 0} (K : Kind L) (sum : SumLaws K) (x : Axis L) (law : Orderly K x) (e : ℕ → L) (keeps : Keeps K x e) (inside : Inside K x e) where
  -- a step from a start at or before a module's near edge ends at or before the next one's
  step_covered :
      (start : L) (j k : ℕ) → j < x.size → k < x.size → x.before j k ≡ true → AtMost K start (e j)
      → AtMost K (x.step j start) (e k)
  step_covered start j k h l b s =
      sum.transitive (x.step j start) (x.step j (e j)) (e k)
      (law.monotone j start (e j) h (inside j k h l b) s) (keeps.relations j k h l b)

  path_covered :
      (j : ℕ) (js : List ℕ) (start : L) (i : ℕ) → i < x.size → Leads K x (j ∷ js) i → AtMost K start (e j)
      → AtMost K (path_from K x start (j ∷ js)) (e i)
  path_covered j [] start i h l s = step_covered start j i l.0 h l.1 s
  path_covered j (k ∷ ks) start i h l s =
      path_covered k ks (x.step j start) i h l.2 (step_covered start j k l.0 l.2.0 l.1 s)

  -- no path to a module exceeds its near edge
  pub paths_covered :
      (i : ℕ) → i < x.size → (js : List ℕ) → Leads K x js i → AtMost K (path_from K x K.origin js) (e i)
  paths_covered i h [] l = sum.starts (e i)
  paths_covered i h (j ∷ js) l = path_covered j js K.origin i h l (sum.starts (e j))

module _ {L : Type 0} (K : Kind L) (x : Axis L) where
  -- a path to j, and j before i, make a path to i, longer by a step
  leads_on :
      (js : List ℕ) (j i : ℕ) → j < x.size → x.before j i ≡ true → Leads K x js j → Leads K x (js ++ (j ∷ [])) i
  leads_on [] j i h b l = (h, b, tt)
  leads_on (k ∷ []) j i h b l = (l.0, l.1, (h, b, tt))
  leads_on (k ∷ n ∷ ns) j i h b l = (l.0, l.1, leads_on (n ∷ ns) j i h b l.2)

  path_on : (js : List ℕ) (j : ℕ) (start : L) → path_from K x start (js ++ (j ∷ [])) ≡ x.step j (path_from K x start js)
  path_on [] j start = refl
  path_on (k ∷ ks) j start = path_on ks j (x.step k start)

  -- after any number of rounds the near edge is the length of a path, where the later of two is one of the two
  rounds_path :
      Picks K → Unfixed K x → (n i : ℕ) → i < x.size
      → (js : List ℕ) × Leads K x js i × (near_within K x n i ≡ path_from K x K.origin js)
  rounds_path picks unfixed zero i h = ([], tt, refl)
  rounds_path picks unfixed (suc n) i h =
      let free : near_within K x (suc n) i ≡ free_edge K x (near_within K x n) i = rw (unfixed i h) refl in
      elim (latest_picks K picks (λ j. x.before j i) (λ j. x.step j (near_within K x n j)) x.size) [
        | inl r ↦ ([], tt, free ∙ r)
        | inr r ↦
            let p = rounds_path picks unfixed n r.0 r.1 in (
              p.0 ++ (r.0 ∷ []),
              leads_on p.0 r.0 i r.1 r.2 p.1,
              free ∙ r.3 ∙ ap (λ v. x.step r.0 v) p.2 ∙ sym (path_on p.0 r.0 K.origin),
            )
      ]

  -- nothing is pushed where nothing is fixed
  pub unfixed_free : Unfixed K x → stuck K x ≡ false
  unfixed_free unfixed = none_from x.size (pushed K x) (λ i h. rw (unfixed i h) refl)

  -- with no fixed edge, near edges are longest paths
  pub longest_along :
      SumLaws K → LaterLaws K → Orderly K x → Unfixed K x → Inside K x (near_edge K x) → LongestAlong K x
  longest_along sum later law unfixed inside =
      let keeps = ((packed_along K sum later.join x law).least (unfixed_free unfixed)).keeps in
      let path = λ (i : ℕ) (h : i < x.size). rounds_path later.picks unfixed x.size i h in
      record {
        lengths = λ i h.
            record {
              covers = paths_covered K sum x law (near_edge K x) keeps inside i h;
              tight = λ bound above. let p = path i h in rw p.2 (above p.0 p.1);
            };
        paths = path;
      }
