use Rattle.tk_patterns.proofs.MatchLemmas.{choice_is_match}
use Rattle.tk_patterns.proofs.laws.matches_is_match.Goals as goal

pub returns : goal.returns
returns c = choice_is_match
