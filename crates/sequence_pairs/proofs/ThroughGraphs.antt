-- A call of closure graphs that a pair stands for is a call of the pair.
use Rattle.std.proofs.Common.{◌≡◌, Result, sym, subst}
use Rattle.plans.specs.Changes.{Follows, after_change}
use Rattle.plans.specs.Tables.{Floorplan}
use Rattle.plans.specs.declared.change.Change.{Change}
use Rattle.plans.specs.declared.refusals.ChangeRefusal.{ChangeRefusal}

pub through_graphs :
    (change : Change) (r s : Result (Unit {0}) ChangeRefusal) (old new before after : Floorplan) → before ≡ old → new ≡ after
    → r ≡ s → Follows (after_change before change) r before after → Follows (after_change old change) s old new
through_graphs change r s old new before after same made told follows =
    subst (λ n. Follows (after_change old change) s old n) (sym made)
    (subst (λ a. Follows (after_change old change) a old after) told
    (subst (λ p. Follows (after_change p change) r p after) same follows))
