use Rattle.std.proofs.Common.{◌≡◌, map, take}
use Rattle.std.specs.String.{string_bytes}
use Rattle.panels.proofs.ending.errors_of.Given as goal

abbrev pub invariant-loop-note : goal.invariant-loop-note
invariant-loop-note l = map (λ raised. string_bytes raised.text) l.errors.items ≡ map (λ note. note.text) (take l.note-index l.notes)
