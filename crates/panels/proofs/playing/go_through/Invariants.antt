use Rattle.std.proofs.Common.{◌≢◌, take}
use Rattle.tk_host.specs.declared.phase.Phase.TheVariants.{Adding}
use Rattle.panels.specs.Course.{IsAt, Way, went}
use Rattle.panels.specs.Refusals.{TakesAll}
use Rattle.panels.proofs.playing.go_through.Given as goal

-- the host has begun, and has gone through the entries up to the number, which it took
abbrev pub invariant-loop-number : goal.invariant-loop-number
invariant-loop-number g l = record {
  begun : l.host.held.phase ≢ Adding;
  gone : (way : Way g.row.M.Denot) → IsAt g.M.AliasMeaning.answer way l.fn.host.held l.fn.course → IsAt g.M.AliasMeaning.answer (went g.M.AliasMeaning.answer 0 (take l.number l.entries) way) l.host.held l.course;
  taken : (way : Way g.row.M.Denot) → IsAt g.M.AliasMeaning.answer way l.fn.host.held l.fn.course → TakesAll g.M.AliasMeaning.answer 0 (take l.number l.entries) way;
}
