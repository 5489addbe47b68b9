-- The law of the first follows from the answer.
use Rattle.std.proofs.Common.{rules}
use Rattle.sheets.specs.Parsing.{held}
use Rattle.sheets.proofs.AnswerLemmas.{first_of}
use Rattle.sheets.proofs.reader.parse.Goals as goal

pub returns-clause-law : goal.returns-clause-law
returns-clause-law c = first_of c.args.sizes c.args.plan (held c.args.sides.now c.args.codes.now c.args.places.now) c.map_err.result (search rules)
