-- The law of the first follows from the answer.
use Rattle.std.proofs.Common.{Ok, Some, rules}
use Rattle.sheets.proofs.ScriptLemmas.{first_of_line}
use Rattle.sheets.proofs.script.read_command.Goals as goal

pub returns-in_err-line-clause-law : goal.returns-in_err-line-clause-law
returns-in_err-line-clause-law c = first_of_line c.args.plan c.args.at c.from_residual.result (search rules)

pub returns-clause-law : goal.returns-clause-law
returns-clause-law c = first_of_line c.args.plan c.args.at (Ok (Some c.in_ok-line.line)) (search rules)
