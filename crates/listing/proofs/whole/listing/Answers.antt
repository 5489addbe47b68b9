-- With a fault its line is written, and else the lines of the script.
use Rattle.std.proofs.Common.{◌≤◌, length, arith, rules}
use Rattle.std.proofs.lemmas.List.{length-take-le}
use Rattle.closure_graphs.specs.Meaning.{graphs_mean}
use Rattle.listing.proofs.Outcomes.{done_listed, fault_listed, few_parsed, possible_parsed}
use Rattle.listing.proofs.whole.listing.Goals as goal
use Rattle.listing.proofs.whole.listing.Goals.{in-Ok+in_ok-append_loaded-in-Ok, in-Err+in_ok-append_fault-in-Err}

pub slice_bounds-sides-end : goal.slice_bounds-sides-end
slice_bounds-sides-end c =
    let did = c.in-Ok.ensures in
    let few : c.in-Ok.parsed.modules ≤ 64 = few_parsed c.args.sizes c.args.plan c.in-Ok.parsed did.answer _ _ did.lists in
    omega arith

pub slice_bounds-append_loaded-end : goal.slice_bounds-append_loaded-end
slice_bounds-append_loaded-end c =
    let did = c.in-Ok.ensures in
    let few : c.in-Ok.parsed.modules ≤ 64 = few_parsed c.args.sizes c.args.plan c.in-Ok.parsed did.answer _ _ did.lists in
    let room : c.in-Ok.parsed.modules ≤ length c.read.new.sides = omega arith in
    omega (arith, length-take-le c.in-Ok.parsed.modules c.read.new.sides room)

pub append_loaded-requires : goal.append_loaded-requires
append_loaded-requires c =
    let did = c.in-Ok.ensures in
    let few : c.in-Ok.parsed.modules ≤ 64 = few_parsed c.args.sizes c.args.plan c.in-Ok.parsed did.answer _ _ did.lists in
    let room : c.in-Ok.parsed.modules ≤ length c.read.new.sides = omega arith in
    record {
      few = omega (arith, length-take-le c.in-Ok.parsed.modules c.read.new.sides room);
      possible = possible_parsed c.args.sizes c.args.plan c.in-Ok.parsed did.answer _ _ did.lists room;
    }

pub returns : goal.returns
returns c =
    elim c.match-read.branch [
      | in-Ok+in_ok-append_loaded-in-Ok w ↦
          let sizes = c.args.sizes in
          let plan = c.args.plan in
          let did = w.in-Ok.ensures in
          let few : w.in-Ok.parsed.modules ≤ 64 = few_parsed sizes plan w.in-Ok.parsed did.answer _ _ did.lists in
          let room : w.in-Ok.parsed.modules ≤ length c.read.new.sides = omega arith in
          let l = done_listed sizes plan w.in-Ok.parsed did.answer _ _ did.lists (graphs_mean c.new-graphs.result) (graphs_mean c.read.new.representation) did.meaning room in
          search (rules, l)
      | in-Err+in_ok-append_fault-in-Err w ↦
          let l = fault_listed c.args.sizes c.args.plan w.in-Err.fault w.in-Err.ensures.answer in search (rules, l)
    ]
