use Rattle.std.proofs.Common.{sym, ap, ◌∙◌}
use Rattle.tk_patterns.specs.Filed.{stamps_of}
use Rattle.tk_patterns.specs.Filing.{is_for_button}
use Rattle.tk_patterns.proofs.FilingLemmas.{none_stamps}
use Rattle.tk_patterns.proofs.filing.stamps_of_button.Goals as goal

pub returns-in-None : goal.returns-in-None
returns-in-None c = sym (ap (λ button. stamps_of (is_for_button c.args.tag.now c.args.kind button) c.args.filed.now) c.in-None.is ∙ none_stamps c.args.filed.now)
