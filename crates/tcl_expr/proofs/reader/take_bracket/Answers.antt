use Rattle.std.proofs.Common.{◌+◌, drop, false, refl}
use Rattle.tcl_expr.proofs.OperandLemmas.{bracket_taken}
use Rattle.tcl_expr.proofs.reader.take_bracket.Goals as goal

pub returns : goal.returns
returns c =
    bracket_taken c.args.parser.now
    (record { steps = c.push_piece.new.steps; opened = c.args.parser.now.opened; parens = c.args.parser.now.parens; is_due = false })
    c.room_in-room.result (drop (c.args.at + 1) c.args.source.now) c.room_in-room.ensures.room c.in_ok-piece.piece c.in_ok-piece.taken c.in_ok-piece.ensures
    (record { steps = c.in_ok-push_piece.ensures; opened = refl; parens_are = refl; due = refl })
