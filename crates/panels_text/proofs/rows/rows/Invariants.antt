use Rattle.std.proofs.Common.{◌≡◌, ◌++◌, drop, map}
use Rattle.panels_text.proofs.rows.rows.Given as goal

-- those that were copied, and those that are left, are all
abbrev pub invariant-loop-text : goal.invariant-loop-text
invariant-loop-text l = map (λ row. row.items) l.rows.items ++ drop l.text-index l.texts ≡ l.texts
