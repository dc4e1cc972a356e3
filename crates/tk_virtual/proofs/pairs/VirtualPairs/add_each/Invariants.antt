use Rattle.std.proofs.Common.{◌≡◌, take, drop, length}
use Rattle.tk_virtual.specs.Virtual.{all_added}
use Rattle.tk_virtual.proofs.pairs.VirtualPairs.add_each.Given as goal

abbrev pub invariant-loop-sequence : goal.invariant-loop-sequence
invariant-loop-sequence l = record {
  told : all_added l.name (drop l.sequence-index l.sequences) l.self ≡ all_added l.name l.sequences l.initial.self;
  kept : take (length l.initial.self) l.self ≡ l.initial.self;
}
