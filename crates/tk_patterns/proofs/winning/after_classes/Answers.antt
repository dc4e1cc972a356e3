use Rattle.std.proofs.Common.{Some, filter, option_map, sym, ap, ◌∙◌}
use Rattle.tk_virtual.specs.Classes.{class_number, is_of_class}
use Rattle.tk_virtual.specs.Virtual.{has_name}
use Rattle.tk_patterns.specs.Named.{of_pairs}
use Rattle.tk_patterns.specs.Shown.{shown}
use Rattle.tk_patterns.specs.Winner.{held_at_last}
use Rattle.tk_patterns.proofs.PairLemmas.{by_any, by_classes}
use Rattle.tk_patterns.proofs.winning.after_classes.Goals as goal

pub returns-in-Some : goal.returns-in-Some
returns-in-Some c =
    let event = c.args.event.now in
    let history = c.args.history.now in
    let script = c.args.script.now in
    let name = c.args.name.now in
    let virtuals = c.args.virtuals.now in
    let detail = c.in-Some.detail in
    let held = option_map shown c.args.holder in
    c.after_named.ensures
    ∙ ap (λ l. held_at_last (option_map shown c.after_named-holder.result) (of_pairs event history script l)) c.pairs_of-own.ensures
    ∙ ap (λ h. held_at_last h (of_pairs event history script (filter (has_name name) (filter (is_of_class (class_number c.args.kind (Some detail))) virtuals))))
    (c.after_named-holder.ensures ∙ ap (λ l. held_at_last held (of_pairs event history script l)) c.pairs_of-any.ensures)
    ∙ by_classes event history script c.args.kind c.requires.kind name virtuals held detail c.requires.one (sym c.in-Some.ensures)

pub returns-in-None : goal.returns-in-None
returns-in-None c =
    let event = c.args.event.now in
    let history = c.args.history.now in
    let script = c.args.script.now in
    let held = option_map shown c.args.holder in
    c.after_named-holder.ensures
    ∙ ap (λ l. held_at_last held (of_pairs event history script l)) c.pairs_of-any.ensures
    ∙ by_any event history script c.args.kind c.requires.kind c.args.name.now c.args.virtuals.now held (sym c.in-None.ensures)
