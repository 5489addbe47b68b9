-- The three calls, each by whether it is refused.
use Rattle.plans.proofs.PackingAnswers.{pack_answers, pinned_answers, rotated_answers, pack_paths, rotated_paths}
use Rattle.plans.proofs.packings.packing_answers.Goals as goal

pub returns : goal.returns
returns g c = record {
  pack = pack_answers;
  pinned = pinned_answers;
  rotated = rotated_answers;
  longest = record { pack = pack_paths; rotated = rotated_paths };
}
