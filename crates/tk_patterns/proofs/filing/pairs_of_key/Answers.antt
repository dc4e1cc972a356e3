use Rattle.std.proofs.Common.{sym, ap, ◌∙◌}
use Rattle.tk_patterns.specs.Filing.{pairs_of_key}
use Rattle.tk_patterns.proofs.FilingLemmas.{no_pairs}
use Rattle.tk_patterns.proofs.filing.pairs_of_key.Goals as goal

pub returns-in-None : goal.returns-in-None
returns-in-None c = sym (ap (λ key. pairs_of_key c.args.kind key c.args.virtuals.now) c.in-None.is ∙ no_pairs c.args.virtuals.now)
