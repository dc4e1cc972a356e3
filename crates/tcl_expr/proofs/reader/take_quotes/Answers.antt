use Rattle.std.proofs.Common.{◌+◌, drop, false, refl, sym, ap, ◌∙◌}
use Rattle.tcl_expr.specs.Substitution.{text_tree}
use Rattle.tcl_expr.proofs.OperandLemmas.{quotes_taken}
use Rattle.tcl_expr.proofs.reader.take_quotes.Goals as goal

pub returns : goal.returns
returns c =
    let w = c.in_ok-push_text.ensures in
    quotes_taken c.args.parser.now
    (record { steps = c.push_text.new.steps; opened = c.args.parser.now.opened; parens = c.args.parser.now.parens; is_due = false })
    c.room_in-room.result (drop (c.args.at + 1) c.args.source.now) c.room_in-room.ensures.room c.in_ok-pieces.pieces c.in_ok-pieces.taken c.in_ok-pieces.ensures
    (record { steps = (w.0, ap (text_tree c.room_in-room.result) (sym c.as_slice.ensures) ∙ w.1, w.2); opened = refl; parens_are = refl; due = refl })
