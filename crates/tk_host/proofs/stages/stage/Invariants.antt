use Rattle.std.proofs.Common.{◌≡◌, ◌++◌, map, suc, cond, false}
use Rattle.std.specs.Prelude.{sum_by}
use Rattle.tk_app.specs.Rounds.{turns_of}
use Rattle.tk_app.specs.Part.{needs, stage_done}
use Rattle.tk_host.specs.Slots.{CountsAll}
use Rattle.tk_host.proofs.stages.stage.Given as goal

-- what is left to be done, and who is to take turns, comes to what all does
abbrev pub invariant-rounds : goal.invariant-rounds
invariant-rounds g l = record {
  moment : l.shared.moment ≡ l.fn.shared.moment;
  done : map (stage_done g.M.AliasMeaning.answer l.fn.shared.moment) l.shared.parts ≡ map (stage_done g.M.AliasMeaning.answer l.fn.shared.moment) l.fn.shared.parts;
  turns : l.shared.turns ++ turns_of l.slice (map (needs g.M.AliasMeaning.answer l.fn.shared.moment) l.shared.parts)
      ≡ l.fn.shared.turns ++ turns_of l.slice (map (needs g.M.AliasMeaning.answer l.fn.shared.moment) l.fn.shared.parts);
  counts : CountsAll l.fn.shared l.shared;
  last : l.more ≡ false → l.shared.parts ≡ map (stage_done g.M.AliasMeaning.answer l.fn.shared.moment) l.fn.shared.parts;
}

-- each round that isn't the last takes a step
abbrev pub decreases-rounds : goal.decreases-rounds
decreases-rounds g l = cond l.more (suc (sum_by (needs g.M.AliasMeaning.answer l.fn.shared.moment) l.shared.parts)) 0
