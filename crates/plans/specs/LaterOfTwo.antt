-- The later of two lengths, where any two compare: the least that both are at most, and one of the two.
use Rattle.std.specs.Prelude.{◌≡◌, ℕ, Bool, cond, ◌⊎◌, List, [], ◌∷◌}
use Rattle.plans.specs.Kinds.{Kind, SumLaws, TotalLaws, JoinLaws}

module _ {L : Type 0} (K : Kind L) where
  -- the later of two is one of the two
  abbrev pub Picks : Type 0
  Picks = (a b : L) → (K.later a b ≡ a) ⊎ (K.later a b ≡ b)

  -- all that packing uses of the later of two
  pub record LaterLaws : Type 0 where
    pub join : JoinLaws K
    pub picks : Picks

  -- the latest of a length and those of the chosen entries of a list, taken one after another
  abbrev pub latest_onto : (ℕ → Bool) → (ℕ → L) → L → List ℕ → L
  latest_onto chosen f sofar [] = sofar
  latest_onto chosen f sofar (j ∷ js) =
      let joined = K.later sofar (f j) in
      latest_onto chosen f (cond (chosen j) joined sofar) js

-- for every kind whose lengths compare
abbrev pub LaterIsJoin : Type 0 → Type 0
LaterIsJoin L = (K : Kind L) → SumLaws K → TotalLaws K → LaterLaws K
