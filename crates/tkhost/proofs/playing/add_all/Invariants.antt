use Rattle.std.proofs.Common.{◌≡◌, length}
use Rattle.std.specs.Vec.Iter.{into_iter_items, into_iter_len}
use Rattle.tkhost.proofs.Adds.{Added}
use Rattle.tkhost.proofs.playing.add_all.Given as goal

-- those up to the index have been added, each with its aliases
abbrev pub invariant-loop-app : goal.invariant-loop-app
invariant-loop-app g l = record {
  added : Added g.M.AliasMeaning.answer l.apps l.fn.aliases.items l.app-index (into_iter_items l.lists) l.host.held;
  len : into_iter_len l.lists ≡ length (into_iter_items l.lists);
}
