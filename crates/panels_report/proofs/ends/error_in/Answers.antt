use Rattle.std.proofs.Common.{codes, lit<, nat_eq, rules, tests}
use Rattle.std.proofs.lemmas.Iterator.Search.{find_from_yields_List}
use Rattle.std.proofs.lemmas.Iterator.Splits.{YieldsList-from_str_split}
use Rattle.std.specs.List.{starts_with}
use Rattle.panels_report.proofs.ends.error_in.Goals as goal

pub returns : goal.returns
returns c =
    find_from_yields_List (λ line. starts_with nat_eq line (codes "err ")) _ _ _ c.find.ensures.ran
    (YieldsList-from_str_split 10 c.args.section.now (lit< tt) c.split.ensures.text c.split.ensures.has_more c.split.ensures.pattern) (λ x b q k. search (rules, tests))
