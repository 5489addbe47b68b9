-- Each way gives the code that the kept places tell.
use Rattle.std.proofs.Common.{true, false, sym, refl, ◌∙◌}
use Rattle.sequence_pairs.specs.ToldLemmas.{told_by}
use Rattle.sequence_pairs.proofs.representing.SequencePairRepresentation.direction.Goals as goal

pub returns-then-not-precedes : goal.returns-then-not-precedes
returns-then-not-precedes c =
    told_by c.args.self.now c.args.i c.args.j c.if-i-count.false c.if-j-count.false false _
    (sym c.if-not-precedes.true ∙ c.precedes.ensures) refl

pub returns-then-precedes : goal.returns-then-precedes
returns-then-precedes c =
    told_by c.args.self.now c.args.i c.args.j c.if-i-count.false c.if-j-count.false true true
    (sym c.if-not-precedes.false ∙ c.precedes.ensures) (sym c.if-precedes.true ∙ c.precedes-else-not-precedes.ensures)

pub returns-else-precedes : goal.returns-else-precedes
returns-else-precedes c =
    told_by c.args.self.now c.args.i c.args.j c.if-i-count.false c.if-j-count.false true false
    (sym c.if-not-precedes.false ∙ c.precedes.ensures) (sym c.if-precedes.false ∙ c.precedes-else-not-precedes.ensures)
