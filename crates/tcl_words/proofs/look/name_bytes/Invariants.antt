use Rattle.std.proofs.Common.{◌≡◌, ◌<◌, ◌+◌, ◌-◌, drop, slice_index}
use Rattle.tcl_words.specs.Kinds.{name_bytes}
use Rattle.tcl_words.proofs.look.name_bytes.Given as goal

abbrev pub invariant-loop-count : goal.invariant-loop-count
invariant-loop-count l = record {
  count : name_bytes l.text ≡ l.count + name_bytes (drop l.count l.text);
  last : 0 < l.count → slice_index l.text (l.count - 1) < 128;
}
