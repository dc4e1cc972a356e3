use Rattle.std.proofs.Common.{rules, ◌∙◌, sym}
use Rattle.std.specs.Str.{chars}
use Rattle.std.proofs.lemmas.Bool.{false≢true}
use Rattle.tcl_text.proofs.GlobLemmas.{AllowsByClass-unclosed, AllowsByClass-first, class_split, IfSome-then_some, IfNone-then_some}
use Rattle.tcl_text.proofs.glob.after_class.Goals as goal

pub returns-in_err-class-clause-none : goal.returns-in_err-class-clause-none
returns-in_err-class-clause-none c =
    rw c.from_residual.ensures (AllowsByClass-unclosed c.args.text.now c.utf8.text c.in_err-class.ensures.cases c.args.character)

pub returns-clause-allowed : goal.returns-clause-allowed
returns-clause-allowed c =
    let split = class_split c.args.text.now c.in_ok-class.class c.in_ok-class.rest (search rules) c.in_ok-class.ensures.cases in
    rw c.then_some.ensures (IfSome-then_some c.class_has.result _ _ (λ has. (chars c.in_ok-class.class.now, split.1, split.0, sym c.class_has.ensures ∙ has)))

pub returns-clause-none : goal.returns-clause-none
returns-clause-none c =
    let split = class_split c.args.text.now c.in_ok-class.class c.in_ok-class.rest (search rules) c.in_ok-class.ensures.cases in
    rw c.then_some.ensures (IfNone-then_some c.class_has.result _ _ (λ lacks rest h.
    let same = AllowsByClass-first _ _ _ _ _ split.0 split.1 h in
    false≢true (sym lacks ∙ c.class_has.ensures ∙ same)))
