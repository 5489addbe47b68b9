-- The width of a line is the place of its byte 10, or what is left of the sheet.
use Rattle.std.proofs.Common.{◌-◌, take, drop, length, unwrap_or, ap, ◌∙◌}
use Rattle.sheets.proofs.LineLemmas.{width_at_found}
use Rattle.sheets.proofs.line.Line.width.Goals as goal

pub returns-clause-exact : goal.returns-clause-exact
returns-clause-exact c =
    let s = c.args.self.bytes.now in
    let start = c.args.self.at.offset in
    c.unwrap_or.ensures ∙ ap (λ o. unwrap_or o (length (take (length s - start) (drop start s)))) c.line_end.ensures ∙ width_at_found s start
