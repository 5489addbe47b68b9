-- Length and borders stop at the greatest number, which is beyond the limit.
use Rattle.std.proofs.Common.{◌∙◌}
use Rattle.lengths.specs.OfferedLemmas.{counted_same, uncapped}
use Rattle.lengths.proofs.counted.measuring.CountedLength.plus.Goals as goal

pub returns : goal.returns
returns c =
    record {
      sum = λ within. counted_same _ _ (c.added.ensures ∙ uncapped c.args.self c.args.other within);
      capped = c.added.ensures;
    }
