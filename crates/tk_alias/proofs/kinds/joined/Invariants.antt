use Rattle.std.proofs.Common.{◌≡◌, ◌++◌, drop}
use Rattle.std.specs.List.{join_with_byte}
use Rattle.std.specs.String.{string_bytes}
use Rattle.tk_alias.proofs.JoinLemmas.{behind_blanks}
use Rattle.tk_alias.proofs.kinds.joined.Given as goal

abbrev pub invariant-loop-word : goal.invariant-loop-word
invariant-loop-word l = string_bytes l.string ++ behind_blanks (drop l.word-index l.others) ≡ join_with_byte 32 l.words
