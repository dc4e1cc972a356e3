-- Meaning. Lines of a transcript.
use Rattle.std.specs.Prelude.{ℕ, List, [], ◌∷◌, ◌++◌}
use Rattle.tk_panel.specs.declared.transcript.Stream.{Stream}
use Rattle.tk_panel.specs.Panel.{Panel}

-- a line more, written at the moment
abbrev pub with_line : Stream → List ℕ → Panel → Panel
with_line stream text panel = record panel { transcript = panel.transcript ++ record { stream = stream; moment = panel.moment; text = text } ∷ [] }
