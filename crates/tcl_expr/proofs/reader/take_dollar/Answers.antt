use Rattle.std.proofs.Common.{◌+◌, drop, false, refl, ap, ◌∙◌, Ok}
use Rattle.tcl_expr.proofs.OperandLemmas.{dollar_taken}
use Rattle.tcl_expr.proofs.reader.take_dollar.Goals as goal

pub returns : goal.returns
returns c =
    dollar_taken c.args.parser.now
    (record { steps = c.push_piece.new.steps; opened = c.args.parser.now.opened; parens = c.args.parser.now.parens; is_due = false })
    c.room_in-room.result (drop (c.args.at + 1) c.args.source.now) c.room_in-room.ensures.room c.in-Some.piece c.in-Some.taken (c.in_ok-piece.ensures ∙ ap Ok c.in-Some.is)
    (record { steps = c.in_ok-push_piece.ensures; opened = refl; parens_are = refl; due = refl })
