use Rattle.std.proofs.Common.{◌≡◌, ◌+◌, drop}
use Rattle.std.specs.Prelude.{not}
use Rattle.std.specs.List.{position_or_len}
use Rattle.tk_pack_commands.specs.Targets.{begins_path}
use Rattle.tk_pack_commands.proofs.targets.others_count.Given as goal

-- the words passed, and those before the first that is none in the rest
abbrev pub invariant-loop-word : goal.invariant-loop-word
invariant-loop-word l = (l.count ≡ l.word-index) × (l.count + position_or_len (λ word. not (begins_path word)) (drop l.word-index l.words) ≡ position_or_len (λ word. not (begins_path word)) l.words)
