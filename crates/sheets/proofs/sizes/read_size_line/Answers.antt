-- The faults of the two sides, behind the length of their line.
use Rattle.std.proofs.lemmas.Result.{err_from_is_err_and}
use Rattle.sheets.proofs.CheckLemmas.{fails_front, fails_behind}
use Rattle.sheets.proofs.sizes.read_size_line.Goals as goal

pub returns-in_err-read_side : goal.returns-in_err-read_side
returns-in_err-read_side c =
    let p = err_from_is_err_and c.from_residual-in_err-read_side.result c.from_residual-in_err-read_side.ensures.1 in
    rw (p.1, p.2) (fails_behind (rw c.requires.sizes at c.in_ok-check_width.ensures.0) (fails_front _ c.in_err-read_side.ensures))

pub returns-in_err-read_side-2 : goal.returns-in_err-read_side-2
returns-in_err-read_side-2 c =
    let p = err_from_is_err_and c.from_residual-in_err-read_side-2.result c.from_residual-in_err-read_side-2.ensures.1 in
    rw (p.1, p.2) (fails_behind (rw c.requires.sizes at c.in_ok-check_width.ensures.0) (fails_behind c.in_ok-read_side.ensures.0 c.in_err-read_side-2.ensures))
