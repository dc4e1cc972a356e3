use Rattle.std.proofs.Common.{◌≢◌, take}
use Rattle.tk_host.specs.declared.phase.Phase.TheVariants.{Adding}
use Rattle.panels.specs.Course.{IsAt, Way, handed_all}
use Rattle.panels.specs.Refusals.{TakesLines}
use Rattle.panels.proofs.playing.hand_all.Given as goal

-- the host has begun, and took the lines up to the index
abbrev pub invariant-loop-line : goal.invariant-loop-line
invariant-loop-line g l = record {
  begun : l.host.held.phase ≢ Adding;
  handed : (way : Way g.row.M.Denot) → IsAt g.M.AliasMeaning.answer way l.fn.host.held l.fn.course → IsAt g.M.AliasMeaning.answer (handed_all l.moment (take l.line-index l.lines) way) l.host.held l.course;
  taken : (way : Way g.row.M.Denot) → IsAt g.M.AliasMeaning.answer way l.fn.host.held l.fn.course → TakesLines g.M.AliasMeaning.answer l.moment (take l.line-index l.lines) way;
}
