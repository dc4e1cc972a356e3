use Rattle.std.proofs.Common.{◌≡◌, ◌++◌, drop, map}
use Rattle.panels.specs.Asked.{answer_to}
use Rattle.panels.specs.Looks.{told, unseen_from}
use Rattle.panels.proofs.look.push_unseen.Given as goal

-- those that were found, and those that are to be found, are all
abbrev pub invariant-loop-number : goal.invariant-loop-number
invariant-loop-number g l =
    let answered = answer_to l.slot l.host.held in
    map told l.findings.items ++ unseen_from answered l.entry l.number (drop l.number l.looks) l.section
    ≡ map told l.fn.findings.items ++ unseen_from answered l.entry 0 l.looks l.section
