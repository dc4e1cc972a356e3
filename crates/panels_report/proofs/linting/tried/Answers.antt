use Rattle.std.proofs.Common.{ap, drop}
use Rattle.std.proofs.lemmas.List.{drop_all}
use Rattle.panels_report.proofs.Questioned.{tried_all}
use Rattle.panels_text.specs.Refusals.{words_asked}
use Rattle.panels_text.specs.Words.{words_of}
use Rattle.panels_report.proofs.linting.tried.Goals as goal

pub returns : goal.returns
returns c =
    let at = c.loop-other in
    tried_all c.args.number (words_asked c.args.question.now) (c.args.part.now, c.args.index) (words_of c.args.words.now) (words_of (drop at.other-index c.args.words.now)) at.found.items
    (ap words_of (drop_all at.other-index c.args.words.now c.loop-other-test.false)) at.invariant
