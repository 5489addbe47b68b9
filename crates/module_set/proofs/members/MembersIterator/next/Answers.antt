-- An item that is given was one of those to come.
use Rattle.std.proofs.Common.{ℕ, Some, None, Option}
use Rattle.std.specs.Iterator.{at_most, MakesProgress}
use Rattle.module_set.proofs.Taking.{fewer_left}
use Rattle.module_set.specs.Members.{TakesLeast, member_count}
use Rattle.module_set.specs.declared.set.ModuleSet.{ModuleSet}
use Rattle.module_set.proofs.members.MembersIterator.next.Goals as goal

settle :
    (s t : ModuleSet) (r : Option ℕ) → TakesLeast s r t
    → MakesProgress {A = ℕ} (λ _. Unit {0}) (λ x. at_most (member_count x)) s r t
settle s t (Some i) takes =
    record { on = λ _. (tt, tt, fewer_left s t i takes.0 takes.1); keeps = tt; rests = λ _. tt }
settle s t None takes = record { on = λ _. tt; keeps = tt; rests = λ _. tt }

pub returns-clause-goes : goal.returns-clause-goes
returns-clause-goes c =
    let p = settle c.args.self.now.rest c.pop_first.new.self c.pop_first.result (c.pop_first.ensures.least, c.pop_first.ensures.rest) in
    record { on = p.on; keeps = p.keeps; rests = p.rests }
