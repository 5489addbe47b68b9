-- The digits end the room, and blanks stand before them.
use Rattle.listing.proofs.ReadBack.{reads_back}
use Rattle.listing.proofs.Spelled.{decimal_is, padded_is}
use Rattle.listing.proofs.column.Column.write.Goals as goal
use Rattle.sheets.specs.Fields.{field_number}
use Rattle.std.proofs.Common.{ap, ◌∙◌, take_all, length-drop, rules}
use Rattle.std.proofs.lemmas.Fmt.{length-decimal-le}

pub write_digits-start-requires : goal.write_digits-start-requires
write_digits-start-requires c = search (rules, length-decimal-le 20)

pub returns-clause-bytes : goal.returns-clause-bytes
returns-clause-bytes c = search (rules, take_all, length-drop, decimal_is, padded_is)

pub returns-clause-reads_back : goal.returns-clause-reads_back
returns-clause-reads_back c =
    ap field_number (returns-clause-bytes c) ∙ reads_back c.args.self.0 c.args.self.1 (search rules)
