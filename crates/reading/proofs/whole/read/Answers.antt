-- A fault of parsing, a refused load, or what the plan sheet says.
use Rattle.std.proofs.Common.{◌≡◌, Ok, MatchResult, inl, arith, rules}
use Rattle.std.proofs.lemmas.List.{length-take-le}
use Rattle.std.proofs.lemmas.Result.{err_from_is_err_and}
use Rattle.sheets.specs.Checks.{first}
use Rattle.sheets.specs.Parsing.{checks_for, held, Tells}
use Rattle.reading.specs.PlanFaults.{plan_finding}
use Rattle.reading.specs.Outcome.{load_fault}
use Rattle.reading.proofs.AfterParsing.{Done, square_small, codes_end, places_end, placed, done_answered, done_means, done_law, refused_answered, refused_means, refused_law, told_if_refused, refusal_told}
use Rattle.reading.proofs.Outcomes.{parse_fault, parse_fault_keeps}
use Rattle.reading.proofs.whole.read.Given as given
use Rattle.reading.proofs.whole.read.Goals as goal
use Rattle.reading.proofs.whole.read.Goals.{In_ok-parsed}

pub returns-in_err-parsed : goal.returns-in_err-parsed
returns-in_err-parsed g c =
    let p = err_from_is_err_and c.from_residual.result c.from_residual.ensures.1 in
    let o = first (checks_for c.args.sizes.now c.args.plan.now (held c.args.sides.now c.args.codes.now c.args.places.now)) in
    let fault = c.in_err-parsed.field-0.0 in
    let answer = c.in_err-parsed.ensures.answer in
    record {
      answer = rw (p.1, p.2) (parse_fault c.args.sizes c.args.plan o (load_fault c.args.plan.now) fault answer);
      lists = c.in_err-parsed.ensures.lists;
      meaning = parse_fault_keeps c.args.sizes c.args.plan o (load_fault c.args.plan.now) fault _ answer;
      law = rw (p.1, p.2) (inl c.in_err-parsed.ensures.law);
    }

-- what the parsing left, on every way behind it
after_parsing :
    (g : given.Over) (c : In_ok-parsed g)
    → Done c.args.sizes c.args.plan (held c.args.sides.now c.args.codes.now c.args.places.now)
    (record { sides = c.parse.new.sides; codes = c.parse.new.codes; places = c.parse.new.places })
    c.in_ok-parsed.parsed
after_parsing g c = record {
  answered = c.in_ok-parsed.ensures.answer;
  left = c.in_ok-parsed.ensures.lists;
  codes_kept = c.parse.auto.codes;
  places_kept = c.parse.auto.places;
}

pub overflow_mul-modules : goal.overflow_mul-modules
overflow_mul-modules g c =
    let d = after_parsing g (goal.at.overflow_mul-modules g c).In_ok-parsed in
    omega (arith, square_small d)

pub slice_bounds-load-end : goal.slice_bounds-load-end
slice_bounds-load-end g c =
    let d = after_parsing g (goal.at.slice_bounds-load-end g c).In_ok-parsed in
    omega (arith, codes_end d)

pub slice_bounds-load-end-2 : goal.slice_bounds-load-end-2
slice_bounds-load-end-2 g c =
    let d = after_parsing g (goal.at.slice_bounds-load-end-2 g c).In_ok-parsed in
    omega (arith, length-take-le _ c.parse.new.codes (codes_end d))

pub slice_bounds-load-end-3 : goal.slice_bounds-load-end-3
slice_bounds-load-end-3 g c =
    let d = after_parsing g (goal.at.slice_bounds-load-end-3 g c).In_ok-parsed in
    omega (arith, places_end d)

pub slice_bounds-load-end-4 : goal.slice_bounds-load-end-4
slice_bounds-load-end-4 g c =
    let d = after_parsing g (goal.at.slice_bounds-load-end-4 g c).In_ok-parsed in
    omega (arith, length-take-le _ c.parse.new.places (places_end d))

pub map_err-requires : goal.map_err-requires
map_err-requires g c =
    let d = after_parsing g (goal.at.map_err-requires g c).In_ok-parsed in
    λ e was κs names args ranges u fits l. (placed d, told_if_refused d _ _ c.load-loaded.result c.load-loaded.ensures e was)

pub returns-in_err-map_err : goal.returns-in_err-map_err
returns-in_err-map_err g c =
    let d = after_parsing g (goal.at.returns-in_err-map_err g c).In_ok-parsed in
    let p = err_from_is_err_and c.from_residual-in_err-map_err.result c.from_residual-in_err-map_err.ensures.1 in
    let fault = c.in_err-map_err.field-0.0 in
    let told : MatchResult c.load-loaded.result (λ x. ⊥) (λ e. Tells c.args.plan (plan_finding c.args.plan.now c.in_ok-parsed.parsed.modules e) fault) = search rules in
    let w = refusal_told d _ _ fault c.load-loaded.result c.load-loaded.ensures told in
    record {
      answer = rw (p.1, p.2) (refused_answered d _ _ w.0 w.1 fault w.2);
      lists = d.left;
      meaning = refused_means d _ _ w.0 w.1;
      law = rw (p.1, p.2) (refused_law d _ _ w.0 w.1 fault w.2);
    }

pub returns : goal.returns
returns g c =
    let d = after_parsing g (goal.at.returns g c).In_ok-parsed in
    let ok : c.load-loaded.result ≡ Ok tt = search rules in
    let loaded = rw ok at c.load-loaded.ensures in
    record { answer = done_answered d _ _ loaded; lists = d.left; meaning = done_means d _ _ loaded; law = done_law d _ _ loaded }
