use Rattle.tk_after.specs.Keys.{entries_in, marks_in}
use Rattle.tk_after.proofs.Told.{Rest}
use Rattle.tk_after.proofs.timers.entry_with_script.Given as goal

-- none of the entries so far has the script
abbrev pub invariant-loop-name : goal.invariant-loop-name
invariant-loop-name l = Rest (entries_in l.owner l.scripts) l.script (marks_in l.name-iterator)
