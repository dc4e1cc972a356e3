use Rattle.std.proofs.Common.{◌∙◌}
use Rattle.tk_virtual.specs.Virtual.{is_same}
use Rattle.tk_virtual.proofs.EntryLemmas.{absent_key, found_key}
use Rattle.tk_virtual.proofs.list.take_pair.Goals as goal

pub returns-in-Some-clause-taken : goal.returns-in-Some-clause-taken
returns-in-Some-clause-taken c = c.in-Some.ensures.key ∙ found_key (is_same c.args.wanted.now) c.args.pairs.now.entries

pub returns-in-Some-clause-none : goal.returns-in-Some-clause-none
returns-in-Some-clause-none c = absent_key (is_same c.args.wanted.now) c.shift_remove_entry.new.self.entries c.in-Some.ensures.updates.1

pub returns-in-None-clause-taken : goal.returns-in-None-clause-taken
returns-in-None-clause-taken c = c.in-None.ensures.key ∙ found_key (is_same c.args.wanted.now) c.args.pairs.now.entries

pub returns-in-None-clause-none : goal.returns-in-None-clause-none
returns-in-None-clause-none c = absent_key (is_same c.args.wanted.now) c.shift_remove_entry.new.self.entries c.in-None.ensures.updates.1
