use Rattle.std.proofs.Common.{◌≡◌, None, sym, ap, ◌∙◌, subst}
use Rattle.tk_patterns.specs.Marks.{has_mark}
use Rattle.tk_patterns.specs.Winner.{winner}
use Rattle.tk_patterns.proofs.MarkLemmas.{no_physical_winner, no_virtual_winner}
use Rattle.tk_patterns.proofs.own.OwnBindings.may_hold.Goals as goal

pub returns-in-Physical : goal.returns-in-Physical
returns-in-Physical c = λ none history pairs.
    let marks = c.self.inside.marks in
    let away = ap (has_mark marks c.args.tag.now) (sym (c.from.ensures ∙ c.number.ensures)) ∙ sym c.has-in-Physical.ensures ∙ none in
    subst (λ own. winner pairs c.args.tag.now c.args.event.now history own ≡ None) c.self.view_is
    (no_physical_winner marks c.args.tag.now (sym c.has.ensures ∙ c.if-has.false) c.args.event.now history pairs c.in-Physical.kind c.in-Physical.is away c.self.inside.bindings.items c.self.invariant.1)

pub returns-in-Virtual : goal.returns-in-Virtual
returns-in-Virtual c = λ none history pairs.
    subst (λ own. winner pairs c.args.tag.now c.args.event.now history own ≡ None) c.self.view_is
    (no_virtual_winner c.self.inside.marks c.args.tag.now (sym c.has.ensures ∙ c.if-has.false) c.in-Virtual.field-0 c.args.event.now history pairs c.self.inside.bindings.items c.in-Virtual.is c.self.invariant.1)
