use Rattle.std.proofs.Common.{◌≡◌, ◌++◌, drop, length, string_bytes}
use Rattle.std.specs.Prelude.{flat_map}
use Rattle.panels_text.specs.Texts.{lines_of}
use Rattle.panels_text.specs.Reports.{comment}
use Rattle.panels_text.proofs.formats.push_comments.Given as goal

-- what was added, and what is left, is all
abbrev pub invariant-loop-line : goal.invariant-loop-line
invariant-loop-line l = string_bytes l.text ++ flat_map comment (drop (length l.yielded) (lines_of l.problem)) ≡ string_bytes l.initial.text ++ flat_map comment (lines_of l.problem)
