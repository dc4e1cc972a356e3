use Rattle.std.proofs.Common.{◌≡◌, ◌++◌, drop, map}
use Rattle.panels_text.specs.Roles.{texts_of}
use Rattle.panels_text.specs.Scripts.{literal}
use Rattle.panels_text.proofs.calls.texts_of.Given as goal

-- those that were read, and those that are left, are all
abbrev pub invariant-loop-word : goal.invariant-loop-word
invariant-loop-word l = texts_of l.texts.items ++ map literal (drop l.word-index l.words) ≡ map literal l.words
