use Rattle.std.proofs.Common.{ℕ, List, length, sym, ap, ◌∙◌, arith}
use Rattle.tcl_text.specs.Readings.{list_form}
use Rattle.tk_widgets.specs.Items.{texts}
use Rattle.tk_widgets.proofs.Lists.{texts-more}
use Rattle.tk_widgets.proofs.listbox.push_items.Goals as goal

pub returns-in-Ok-clause-list : goal.returns-in-Ok-clause-list
returns-in-Ok-clause-list c =
    (c.in-Ok.ensures.ok (texts c.args.items.now.items) c.requires).0 ∙ ap list_form (sym (texts-more c.args.items.now.items c.args.new.now))

pub returns-in-Ok-clause-short : goal.returns-in-Ok-clause-short
returns-in-Ok-clause-short c =
    let short = (c.in-Ok.ensures.ok (texts c.args.items.now.items) c.requires).1 in
    let same = ap (λ (all : List (List ℕ)). length (list_form all)) (texts-more c.args.items.now.items c.args.new.now) in
    omega (arith, short, same)

pub returns-clause-too_long : goal.returns-clause-too_long
returns-clause-too_long c =
    let same = ap (λ (all : List (List ℕ)). length (list_form all)) (texts-more c.args.items.now.items c.args.new.now) in
    λ refused. let full = c.in-Err.ensures.too_long refused (texts c.args.items.now.items) c.requires in omega (arith, full, same)
