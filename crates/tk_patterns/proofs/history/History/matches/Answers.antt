use Rattle.tk_patterns.proofs.MatchLemmas.{choice_is_walk, walk_is_relation}
use Rattle.tk_patterns.proofs.history.History.matches.Goals as goal

pub returns-clause-relation : goal.returns-clause-relation
returns-clause-relation c = rw c.walk_back.ensures (walk_is_relation c.args.sequence.now c.args.event.now c.args.self.now)

pub returns-clause-test : goal.returns-clause-test
returns-clause-test c = rw c.walk_back.ensures (choice_is_walk c.args.sequence.now c.args.event.now c.args.self.now)
