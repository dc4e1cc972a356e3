use Rattle.std.proofs.Common.{[], refl, subst, sym, arith}
use Rattle.std.specs.Str.{chars}
use Rattle.tcl_text.specs.GlobSteps.{IsBehindDead}
use Rattle.tcl_text.proofs.GlobLemmas.{chars-no_bytes}
use Rattle.tcl_text.proofs.GlobPlaces.{behind_none, behind_short}
use Rattle.tcl_text.proofs.GlobLetters.{behind_letters, dead_first}
use Rattle.tcl_text.proofs.glob_letters.behind_dead_letters.Goals as goal

pub returns-then-size-parts : goal.returns-then-size-parts
returns-then-size-parts c =
    subst (IsBehindDead (chars c.args.pattern.now) (chars c.args.text.now)) (sym (chars-no_bytes [] refl)) (behind_short _ _ c.args.parts (let size = c.count-size.ensures.count in omega arith) c.requires.long)

pub returns-then-places-lt-FEW_PLACES : goal.returns-then-places-lt-FEW_PLACES
returns-then-places-lt-FEW_PLACES c = behind_none _ _

pub keep_matching-requires-clause-dead : goal.keep_matching-requires-clause-dead
keep_matching-requires-clause-dead c = dead_first (chars c.args.pattern.now) (chars c.args.text.now) 1024 _ (omega arith)

pub returns : goal.returns
returns c = behind_letters _ _ _ _ c.dead_front-dead.result c.keep_matching.ensures c.dead_front-dead.ensures.within c.dead_front-dead.ensures.dead c.split_characters.ensures.back
