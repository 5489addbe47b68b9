-- The record that is written is that of the packing.
use Rattle.std.proofs.Common.{◌<◌, length, rules, ◌∙◌, arith}
use Rattle.packing.proofs.OneModule.{module_stands, module_inside, across_ends, up_ends, record_packed, corner_fits, module_placed}
use Rattle.packing.specs.Tasks.{task_of, pins_of}
use Rattle.packing.proofs.job.Job.place_module.Goals as goal

pub offset_bounds-results-i : goal.offset_bounds-results-i
offset_bounds-results-i g c =
    let p = g.R.Representation.means c.args.self.now.representation.now in
    let inside =
    module_inside p c.requires.ready.packable.feasible c.args.place c.unwrap-i.result c.module_at.result
    c.requires.within c.module_at.ensures c.unwrap-i.ensures in
    let room : c.unwrap-i.result < length c.args.results.now = omega (arith, inside, c.requires.ready.room) in
    search rules

pub record_at-requires-clause-across : goal.record_at-requires-clause-across
record_at-requires-clause-across g c =
    let t = task_of g.R.Representation.means c.args.self.now in
    let stands =
    module_stands t.plan c.args.place c.unwrap-i.result c.module_at.result c.module_at.ensures c.unwrap-i.ensures in
    across_ends g.L.Length.kind g.met.L.Length.lawful t (pins_of c.args.pin) (length c.args.results.now) c.requires.ready
    c.args.results.now c.args.place c.unwrap-i.result c.requires.within stands c.requires.filled
    c.free_corner-free.result c.near_corner-near.result c.free_corner-free.ensures c.near_corner-near.ensures
    c.sides_of.result c.sides_of.ensures

pub record_at-requires-clause-up : goal.record_at-requires-clause-up
record_at-requires-clause-up g c =
    let t = task_of g.R.Representation.means c.args.self.now in
    let stands =
    module_stands t.plan c.args.place c.unwrap-i.result c.module_at.result c.module_at.ensures c.unwrap-i.ensures in
    up_ends g.L.Length.kind g.met.L.Length.lawful t (pins_of c.args.pin) (length c.args.results.now) c.requires.ready
    c.args.results.now c.args.place c.unwrap-i.result c.requires.within stands c.requires.filled
    c.free_corner-free.result c.near_corner-near.result c.free_corner-free.ensures c.near_corner-near.ensures
    c.sides_of.result c.sides_of.ensures

pub returns : goal.returns
returns g c =
    let K = g.L.Length.kind in
    let law = g.met.L.Length.lawful in
    let t = task_of g.R.Representation.means c.args.self.now in
    let pins = pins_of c.args.pin in
    let results = c.args.results.now in
    let k = c.args.place in
    let i = c.unwrap-i.result in
    let free = c.free_corner-free.result in
    let near = c.near_corner-near.result in
    let stands = module_stands t.plan k i c.module_at.result c.module_at.ensures c.unwrap-i.ensures in
    let ready = c.requires.ready in
    let filled = c.requires.filled in
    let within = c.requires.within in
    let freed = c.free_corner-free.ensures in
    let begins = c.near_corner-near.ensures in
    module_placed K law t pins (length results) ready results k i within stands filled c.record_at.result c.at_most.result
    (record_packed K law t pins (length results) ready results k i within stands filled free near freed begins
    c.sides_of.result c.sides_of.ensures c.record_at.result c.record_at.ensures)
    (c.at_most.ensures
    ∙ corner_fits K law t pins (length results) ready results k i within stands filled free near freed begins)
