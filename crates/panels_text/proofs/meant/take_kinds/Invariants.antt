use Rattle.std.proofs.Common.{◌≡◌, ◌++◌, drop}
use Rattle.std.specs.Prelude.{flat_map}
use Rattle.panels_text.specs.Meant.{likely_in, plain, words_of_kind}
use Rattle.panels_text.proofs.meant.take_kinds.Given as goal

-- what was found, and what is found in what is left, is all
abbrev pub invariant-loop-kind : goal.invariant-loop-kind
invariant-loop-kind l =
    plain l.found.items ++ likely_in l.word (flat_map words_of_kind (drop l.kind-index l.kinds)) ≡ plain l.initial.found.items ++ likely_in l.word (flat_map words_of_kind l.kinds)
