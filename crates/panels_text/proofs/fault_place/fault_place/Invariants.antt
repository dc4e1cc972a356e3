use Rattle.std.proofs.Common.{◌≡◌, drop, map}
use Rattle.panels_text.specs.Unread.{at_end, misread_in}
use Rattle.panels_text.proofs.UnreadLemmas.{misread_from}
use Rattle.panels_text.proofs.fault_place.fault_place.Given as goal

-- what is left decides
abbrev pub invariant-loop-row : goal.invariant-loop-row
invariant-loop-row l =
    misread_from (at_end l.line l.script) l.front.number l.front.begun_at l.front.text.items l.front.last (map (λ row. row.now) (drop l.row-index l.row-items))
    ≡ misread_in l.line l.script
