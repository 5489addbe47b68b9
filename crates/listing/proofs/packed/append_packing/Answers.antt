-- What the calls append, one after another, are the lines.
use Rattle.listing.proofs.packed.append_packing.Goals as goal
use Rattle.std.proofs.lemmas.List.{append_assoc}
use Rattle.std.proofs.Common.{rules}

pub returns : goal.returns
returns c = search (rules, append_assoc)
