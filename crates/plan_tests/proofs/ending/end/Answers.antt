-- Either end is one call.
use Rattle.std.proofs.Common.{rules, refl}
use Rattle.plan_tests.proofs.ending.end.Goals as goal

pub returns-in-Keep : goal.returns-in-Keep
returns-in-Keep g c = rw c.in-Keep.is (c.keep.new.self, (c.keep.result, search rules, c.keep.ensures), refl)

pub returns-in-Undo : goal.returns-in-Undo
returns-in-Undo g c = rw c.in-Undo.is (c.undo.new.self, (c.undo.result, search rules, c.undo.ensures), refl)
