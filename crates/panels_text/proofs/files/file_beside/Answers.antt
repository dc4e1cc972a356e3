use Rattle.std.proofs.Common.{append_assoc, rules}
use Rattle.panels_text.proofs.Turns.{folder-split, folder-whole}
use Rattle.panels_text.proofs.files.file_beside.Goals as goal

pub returns-in-Some : goal.returns-in-Some
returns-in-Some c = simp (folder-split _ _ _ c.in-Some.ensures.cases, append_assoc) (search rules)

pub returns-in-None : goal.returns-in-None
returns-in-None c = simp (folder-whole _ c.in-None.ensures.cases) (search rules)
