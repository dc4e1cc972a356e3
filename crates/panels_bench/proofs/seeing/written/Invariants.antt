use Rattle.std.proofs.Common.{◌≡◌, ◌++◌, drop, length, string_bytes}
use Rattle.std.specs.Prelude.{flat_map}
use Rattle.std.specs.Str.{chars}
use Rattle.panels_bench.specs.Sights.{mark, written}
use Rattle.panels_bench.proofs.seeing.written.Given as goal

-- what was written, and what is left, is all
abbrev pub invariant-loop-character : goal.invariant-loop-character
invariant-loop-character l = string_bytes l.own ++ flat_map mark (drop (length l.yielded) (chars l.text)) ≡ written l.text
