use Rattle.std.proofs.Common.{◌≡◌, ◌++◌, drop, map, string_bytes}
use Rattle.std.specs.Option.{option_to_list}
use Rattle.std.specs.Prelude.{flat_map}
use Rattle.panels_text.specs.Asking.{made_name, procedures_in}
use Rattle.panels_text.specs.Scripts.{said}
use Rattle.panels_text.specs.Words.{words_of}
use Rattle.panels_text.proofs.questions.procedures_in.Given as goal

-- what was added, and what is left, is all
abbrev pub invariant-loop-call : goal.invariant-loop-call
invariant-loop-call l = map string_bytes l.names.items ++ flat_map (λ call. option_to_list (made_name call)) (map said (drop l.call-index l.calls)) ≡ procedures_in (words_of l.served) (map said l.calls)
