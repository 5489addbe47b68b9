-- What packing along one axis promises, for every kind of length: least near edges, and longest paths.
use Rattle.std.specs.Prelude.{◌≡◌, ℕ, ◌<◌, ◌≤◌, true, false, List, None}
use Rattle.std.specs.Option.{unwrap_or}
use Rattle.plans.specs.Axes.{Axis, Keeps, Inside, LeastAlong, Leads, LongestPaths, LongestPath, free_edge, near_edge, stuck, path_from}
use Rattle.plans.specs.Kinds.{Kind, AtMost, SumLaws, JoinLaws, sum_limit}
use Rattle.plans.specs.LaterOfTwo.{LaterLaws}

module _ {L : Type 0} (K : Kind L) (x : Axis L) where
  -- an axis whose relation is closed and without a cycle, and whose steps keep the order within the limit
  pub record Orderly : Type 0 where
    pub closed :
        (i j k : ℕ) → i < x.size → j < x.size → k < x.size
        → x.before i j ≡ true → x.before j k ≡ true → x.before i k ≡ true
    pub acyclic : (i : ℕ) → i < x.size → x.before i i ≡ false
    pub monotone :
        (i : ℕ) (a b : L) → i < x.size → x.takes i b ≤ sum_limit → AtMost K a b → AtMost K (x.step i a) (x.step i b)

  -- no near edge is fixed
  abbrev pub Unfixed : Type 0
  Unfixed = (i : ℕ) → i < x.size → x.fixed i ≡ None

  -- no near edges keep the relations within the limit
  abbrev pub NoneAlong : Type 0
  NoneAlong = (e : ℕ → L) → Keeps K x e → Inside K x e → ⊥

  -- packing gives the least near edges, and none where there are none
  pub record PackedAlong : Type 0 where
    -- each near edge is where it is fixed, or else where all before it have ended
    pub settled : (i : ℕ) → i < x.size → near_edge K x i ≡ unwrap_or (x.fixed i) (free_edge K x (near_edge K x) i)
    -- it is at most that of any others that keep the relations within the limit
    pub lowest :
        (e : ℕ → L) → Keeps K x e → Inside K x e → (i : ℕ) → i < x.size → AtMost K (near_edge K x i) (e i)
    -- where no module is pushed past its fixed edge, the near edges keep the relations and are the least
    pub least : stuck K x ≡ false → LeastAlong K x (near_edge K x)
    -- where one is, no others keep them
    pub none : stuck K x ≡ true → NoneAlong
    -- and only there, if the near edges stay within the limit
    pub only : Inside K x (near_edge K x) → NoneAlong → stuck K x ≡ true

  -- each near edge is the length of a longest path
  pub record LongestAlong : Type 0 where
    pub lengths : (i : ℕ) → i < x.size → LongestPaths K x (near_edge K x) i
    pub paths : (i : ℕ) → i < x.size → LongestPath K x (near_edge K x) i

-- on every axis packing gives the least near edges
abbrev pub PacksLeast : Type 0 → Type 0
PacksLeast L = (K : Kind L) → SumLaws K → JoinLaws K → (x : Axis L) → Orderly K x → PackedAlong K x

-- no path to a module exceeds its near edge, wherever near edges keep the relations within the limit
abbrev pub PathsCovered : Type 0 → Type 0
PathsCovered L =
    (K : Kind L) → SumLaws K → (x : Axis L) → Orderly K x → (e : ℕ → L) → Keeps K x e → Inside K x e
    → (i : ℕ) → i < x.size → (js : List ℕ) → Leads K x js i → AtMost K (path_from K x K.origin js) (e i)

-- with no fixed edge, near edges within the limit are longest paths
abbrev pub PacksLongest : Type 0 → Type 0
PacksLongest L =
    (K : Kind L) → SumLaws K → LaterLaws K → (x : Axis L) → Orderly K x → Unfixed K x → Inside K x (near_edge K x)
    → LongestAlong K x
