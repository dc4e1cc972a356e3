use Rattle.std.proofs.Common.{◌≡◌, ◌++◌, drop, map}
use Rattle.panels_text.specs.Asking.{window, windows_in}
use Rattle.panels_text.specs.Scripts.{said}
use Rattle.panels_text.proofs.questions.windows_in.Given as goal

-- what was added, and what is left, is all
abbrev pub invariant-loop-call : goal.invariant-loop-call
invariant-loop-call l = map window l.windows.items ++ windows_in (map said (drop l.call-index l.calls)) ≡ windows_in (map said l.calls)
