-- A direction above is the other one below.
use Rattle.std.proofs.Common.{sym, ap, ◌∙◌}
use Rattle.plans.proofs.TransposeLaw.{transpose_law}
use Rattle.plans.specs.Transposed.{other_code}
use Rattle.representations.proofs.Layers.{told_turned}
use Rattle.representations.proofs.transposed.TransposedRepresentation.direction.Goals as goal

pub returns : goal.returns
returns g c =
    told_turned c.direction.result c.map.result c.map.ensures.cases ∙ ap other_code c.direction.ensures
    ∙ sym (transpose_law.codes (g.R.Representation.means c.args.self.now.0) c.args.i c.args.j)
