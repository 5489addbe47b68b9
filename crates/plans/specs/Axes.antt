-- Packing along one axis: each module begins where all that stand before it have ended, or where it is fixed.
use Rattle.std.specs.Prelude.{◌≡◌, ℕ, zero, suc, ◌<◌, ◌≤◌, Bool, true, false, cond, not, List, [], ◌∷◌, Some, None, Option}
use Rattle.std.specs.Option.{unwrap_or}
use Rattle.plans.specs.Kinds.{Kind, AtMost, sum_limit}
use Rattle.plans.specs.Search.{some_below}

-- the modules of one axis: which stand before which, where the next may begin after a near edge, how far a
-- module at a near edge extends, and the near edges that are fixed
pub record Axis (L : Type 0) : Type 0 where
  pub size : ℕ
  pub before : ℕ → ℕ → Bool
  pub step : ℕ → L → L
  pub takes : ℕ → L → ℕ
  pub fixed : ℕ → Option L

module _ {L : Type 0} (K : Kind L) where
  -- the latest of the lengths of the chosen numbers below n, or zero
  abbrev pub latest : (ℕ → Bool) → (ℕ → L) → ℕ → L
  latest chosen f zero = K.origin
  latest chosen f (suc n) =
      let others = latest chosen f n in
      let joined = K.later others (f n) in
      cond (chosen n) joined others

  module _ (x : Axis L) where
    -- where the modules before i have all ended, given near edges
    abbrev pub free_edge : (ℕ → L) → ℕ → L
    free_edge e i = latest (λ j. x.before j i) (λ j. x.step j (e j)) x.size

    -- the near edge of i, followed back through at most n modules
    abbrev pub near_within : ℕ → ℕ → L
    near_within zero i = K.origin
    near_within (suc n) i =
        let free = free_edge (near_within n) i in
        unwrap_or (x.fixed i) free

    -- the near edge of i: where it is fixed, or where all before it have ended
    abbrev pub near_edge : ℕ → L
    near_edge i = near_within x.size i

    -- some module before i runs past where i is fixed
    abbrev pub pushed : ℕ → Bool
    pushed i = runs_past (x.fixed i)
      where
        runs_past : Option L → Bool
        runs_past (Some v) = not (K.at_most (free_edge near_edge i) v)
        runs_past None = false

    -- there is no place along this axis
    abbrev pub stuck : Bool
    stuck = some_below x.size pushed

    -- near edges that keep the relations: each module begins at or after the end of all before it, and is
    -- where it is fixed
    pub record Keeps (e : ℕ → L) : Type 0 where
      pub relations : (j i : ℕ) → j < x.size → i < x.size → x.before j i ≡ true → AtMost K (x.step j (e j)) (e i)
      pub pins : (i : ℕ) (v : L) → i < x.size → x.fixed i ≡ Some v → e i ≡ v

    -- no module that stands before another extends beyond the limit
    abbrev pub Inside : (ℕ → L) → Type 0
    Inside e = (j i : ℕ) → j < x.size → i < x.size → x.before j i ≡ true → x.takes j (e j) ≤ sum_limit

    -- near edges that keep the relations, each at most that of any others within the limit which do
    pub record LeastAlong (e : ℕ → L) : Type 0 where
      pub keeps : Keeps e
      pub least : (other : ℕ → L) → Keeps other → Inside other → (i : ℕ) → i < x.size → AtMost K (e i) (other i)

    -- modules that lead to i, each before the next and the last before i
    abbrev pub Leads : List ℕ → ℕ → Type 0
    Leads [] i = Unit {0}
    Leads (j ∷ js) i = (j < x.size) × (x.before j (next js) ≡ true) × Leads js i
      where
        next : List ℕ → ℕ
        next [] = i
        next (k ∷ ks) = k

    -- the length of a path: its modules one after another from a start
    abbrev pub path_from : L → List ℕ → L
    path_from start [] = start
    path_from start (j ∷ js) = path_from (x.step j start) js

    -- where nothing is fixed: the near edge of i is the least that no path to i exceeds
    pub record LongestPaths (e : ℕ → L) (i : ℕ) : Type 0 where
      pub covers : (js : List ℕ) → Leads js i → AtMost K (path_from K.origin js) (e i)
      pub tight : (bound : L) → ((js : List ℕ) → Leads js i → AtMost K (path_from K.origin js) bound) → AtMost K (e i) bound

    -- where nothing is fixed: some path to i is as long as its near edge
    abbrev pub LongestPath : (ℕ → L) → ℕ → Type 0
    LongestPath e i = (js : List ℕ) × Leads js i × (e i ≡ path_from K.origin js)
