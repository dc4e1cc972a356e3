use Rattle.std.proofs.Common.{◌≡◌, ◌++◌, drop, length, string_bytes}
use Rattle.std.specs.Prelude.{flat_map}
use Rattle.std.specs.Str.{chars}
use Rattle.panels_text.specs.Reports.{xml_of}
use Rattle.panels_text.proofs.formats.push_escaped.Given as goal

-- what was added, and what is left, is all
abbrev pub invariant-loop-character : goal.invariant-loop-character
invariant-loop-character l = string_bytes l.text ++ flat_map xml_of (drop (length l.yielded) (chars l.words)) ≡ string_bytes l.initial.text ++ flat_map xml_of (chars l.words)
