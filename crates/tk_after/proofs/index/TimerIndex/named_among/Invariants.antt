use Rattle.std.proofs.Common.{◌≡◌}
use Rattle.std.specs.Prelude.{find}
use Rattle.std.specs.Str.{bytes_eq}
use Rattle.tk_after.specs.After.{name_of}
use Rattle.tk_after.specs.Keys.{Mark, marks_in, marks_of}
use Rattle.tk_after.proofs.index.TimerIndex.named_among.Given as goal

-- the first of the rest is the first of all
abbrev pub invariant-loop-name : goal.invariant-loop-name
invariant-loop-name l =
    find (λ (mark : Mark). bytes_eq (name_of mark.id) l.text) (marks_in l.name-iterator) ≡ find (λ (mark : Mark). bytes_eq (name_of mark.id) l.text) (marks_of l.owner l.self)
