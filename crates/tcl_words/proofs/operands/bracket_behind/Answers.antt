use Rattle.std.proofs.lemmas.Str.{IsCharBoundary-after_ascii}
use Rattle.tcl_words.proofs.Steps.{cut_bracket}
use Rattle.tcl_words.proofs.operands.bracket_behind.Goals as goal

pub read_opened-requires-clause-cut : goal.read_opened-requires-clause-cut
read_opened-requires-clause-cut c = cut_bracket c.args.source.now c.args.at (IsCharBoundary-after_ascii c.args.source.now c.args.at c.utf8.source c.requires.within c.requires.ascii)
