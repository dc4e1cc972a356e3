use Rattle.std.proofs.Common.{refl, sym, ap, ◌∙◌, subst}
use Rattle.tk_base.specs.Numbered.{AllBelow, without}
use Rattle.tk_after.specs.Keys.{mark_number, marks_of}
use Rattle.tk_after.proofs.Told.{undo_mark}
use Rattle.tk_after.proofs.timers.list_number.Goals as goal

pub returns-in-Err-clause-back : goal.returns-in-Err-clause-back
returns-in-Err-clause-back c =
    let next = c.counter_of-next.result.next in
    let marks = marks_of c.args.owner c.args.index.now in
    let below = subst (λ n. AllBelow mark_number n marks) (sym c.counter_of-next.ensures.next) c.requires.below in
    c.remove.ensures.own ∙ ap (without mark_number next) c.in_ok-insert.ensures.own ∙ undo_mark next (record { id = next; due = c.args.due }) marks refl below
