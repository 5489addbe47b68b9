-- One sequence fits.
use Rattle.plans.proofs.Orders.{ordered_by_count}
use Rattle.plans.proofs.Sequences.{sequence_determined}
use Rattle.plans.proofs.graphs.one_sequence.Goals as goal

pub returns : goal.returns
returns c = record { counted = ordered_by_count; determined = sequence_determined }
