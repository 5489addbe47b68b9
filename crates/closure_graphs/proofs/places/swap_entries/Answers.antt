-- One entry more is exchanged.
use Rattle.std.proofs.Common.{◌≡◌, ◌≤◌, map, take, length, ap, get_or, slice_set, refl, ◌∙◌, append-nil, arith}
use lib.ListN.{length-map}
use Rattle.std.proofs.lemmas.List.{get_or_default, take-map, take_all, drop_all}
use Rattle.std.proofs.lemmas.List.Edits.{map_over_more}
use Rattle.plans.specs.Changes.{exchange}
use Rattle.closure_graphs.proofs.places.swap_entries.Goals as goal

pub loop-module-preserved : goal.loop-module-preserved
loop-module-preserved c =
    let entries = c.loop-module.sequence in
    let i = c.loop-module.module-index in
    ap (slice_set entries i) c.exchanged.ensures
    ∙ map_over_more (exchange c.args.a c.args.b) c.args.sequence.now entries i (get_or entries i 0) (omega arith)
    c.loop-module.invariant (get_or_default entries i 0 _ (omega arith))

pub returns : goal.returns
returns c =
    let old = c.args.sequence.now in
    let i = c.loop-module.module-index in
    let all : length old ≤ i = omega arith in
    let whole : c.loop-module.sequence ≡ map (exchange c.args.a c.args.b) old =
    c.loop-module.invariant ∙ rw (take_all i old all, drop_all i old all, append-nil) refl in
    record {
      exact = whole;
      entries = λ n. ap (take n) whole ∙ take-map (exchange c.args.a c.args.b) n old;
      long = ap length whole ∙ length-map old (exchange c.args.a c.args.b);
    }
