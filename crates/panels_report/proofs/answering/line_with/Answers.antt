use Rattle.std.proofs.Common.{◌==◌, nat_eq, rules, tests}
use Rattle.std.proofs.lemmas.Iterator.Search.{find_from_yields_List}
use Rattle.std.proofs.lemmas.Iterator.Splits.{YieldsList-from_slice_split}
use Rattle.std.specs.List.{starts_with}
use Rattle.panels_report.proofs.answering.line_with.Goals as goal

pub returns : goal.returns
returns c =
    find_from_yields_List (λ line. starts_with nat_eq line c.args.front.now) _ _ _ c.find.ensures.ran
    (YieldsList-from_slice_split _ (λ byte. byte == 10) c.args.section.now c.split.ensures.rest c.split.ensures.done c.split.ensures.closure (λ x b q k. search (rules, tests)))
    (λ x b q k. search (rules, tests))
