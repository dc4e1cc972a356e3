use Rattle.tk_host.proofs.BySettle.{alone_by_settle, passed_by_settle}
use Rattle.tk_host.proofs.PassesBySettle.{passes_by_settle}
use Rattle.tk_host.proofs.laws.alone_by_settle.Goals as goal

pub returns : goal.returns
returns g c = record {
  alone = alone_by_settle g.M.AliasMeaning.answer;
  passed = passed_by_settle g.M.AliasMeaning.answer;
  passes = passes_by_settle g.M.AliasMeaning.answer;
}
