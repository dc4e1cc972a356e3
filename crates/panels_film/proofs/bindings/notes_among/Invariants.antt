use Rattle.std.proofs.Common.{◌≡◌, ◌++◌, length, map, drop}
use Rattle.std.specs.List.{filter_map}
use Rattle.panels_film.specs.Bindings.{note_in, noted, notes_among}
use Rattle.panels_text.specs.Texts.{lines_of}
use Rattle.panels_film.proofs.bindings.notes_among.Given as goal

-- those that were found, and those that are left, are all
abbrev pub invariant-loop-line : goal.invariant-loop-line
invariant-loop-line l =
    map (λ note. noted note.0 note.1.now) l.notes.items ++ filter_map note_in (drop (length l.yielded) (lines_of l.section)) ≡ notes_among l.section
