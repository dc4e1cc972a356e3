use Rattle.std.proofs.Common.{rules}
use Rattle.std.specs.Str.{chars}
use Rattle.tcl_text.proofs.GlobLemmas.{AllowsByClass-unclosed, class_split}
use Rattle.tcl_text.proofs.GlobPieces.{class_rest}
use Rattle.tcl_text.proofs.glob.behind_class.Goals as goal

pub returns-in_err-_class-clause-none : goal.returns-in_err-_class-clause-none
returns-in_err-_class-clause-none c =
    rw c.from_residual.ensures (AllowsByClass-unclosed c.args.text.now c.utf8.text c.in_err-_class.ensures.cases)

pub returns-clause-behind : goal.returns-clause-behind
returns-clause-behind c =
    let split = class_split c.args.text.now c.in_ok-_class._class c.in_ok-_class.rest (search rules) c.in_ok-_class.ensures.cases in
    λ character other allows. class_rest (chars c.args.text.now) (chars c.in_ok-_class._class.now) (chars c.in_ok-_class.rest.now) character other split.0 split.1 allows
