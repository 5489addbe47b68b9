-- One more module's line.
use Rattle.listing.proofs.Records.{records_more}
use Rattle.listing.proofs.packed.append_records.Goals as goal
use Rattle.std.proofs.lemmas.List.{append_assoc}
use Rattle.std.proofs.Common.{◌<◌, length, arith, rules}

pub loop-i-preserved : goal.loop-i-preserved
loop-i-preserved c =
    let h : c.loop-i.i < length c.args.results.now = omega arith in
    let more = records_more c.args.results.now c.loop-i.i c.index-results-i.result h c.index-results-i.is in
    search (rules, append_assoc, more)
