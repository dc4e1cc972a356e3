use Rattle.std.proofs.Common.{◌≡◌, ◌++◌, drop, length, string_bytes}
use Rattle.std.specs.Prelude.{flat_map}
use Rattle.std.specs.Str.{chars}
use Rattle.panels_text.specs.Reports.{described}
use Rattle.panels_text.proofs.formats.push_description.Given as goal

-- what was added, and what is left, is all
abbrev pub invariant-loop-character : goal.invariant-loop-character
invariant-loop-character l = string_bytes l.text ++ flat_map described (drop (length l.yielded) (chars l.title)) ≡ string_bytes l.initial.text ++ flat_map described (chars l.title)
