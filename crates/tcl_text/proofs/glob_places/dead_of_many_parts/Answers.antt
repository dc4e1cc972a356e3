use Rattle.std.proofs.Common.{arith}
use Rattle.std.specs.Str.{chars}
use Rattle.tcl_text.proofs.GlobPlaces.{dead_at_first}
use Rattle.tcl_text.proofs.glob_places.dead_of_many_parts.Goals as goal

pub returns-clause-none : goal.returns-clause-none
returns-clause-none c = λ place below behind m. c.keep_matching.ensures.none place (omega arith) (c.dead_front.ensures.dead place below) behind m

pub keep_matching-requires-clause-dead : goal.keep_matching-requires-clause-dead
keep_matching-requires-clause-dead c = dead_at_first (chars c.args.pattern.now) c.args.window.now 8192 c.args.places c.requires.few
