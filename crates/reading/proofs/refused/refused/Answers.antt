-- What is told lies in the plan sheet, so it is lent.
use Rattle.std.proofs.Common.{rules}
use Rattle.reading.proofs.Told.{told_there}
use Rattle.reading.proofs.refused.refused.Goals as goal
use Rattle.reading.proofs.refused.refused.Goals.{in-WrongShape, in-WrongPlace, in-WrongCode2}

pub returns : goal.returns
returns c =
    let plan = c.args.plan in
    let placed = c.requires.placed in
    let inside = c.requires.inside in
    told_there plan c.args.modules c.args.refusal placed inside c.match-refusal.finding c.lend.result
    (elim c.match-refusal.branch [
      | in-WrongShape w ↦ search rules
      | in-WrongPlace w ↦ search rules
      | in-WrongCode2 w ↦ search rules
    ])
    c.lend.ensures.lent
