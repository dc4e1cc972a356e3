use Rattle.std.proofs.Common.{rules, ◌<◌, length, refl}
use Rattle.tcl_words.specs.Parts.{so_far}
use Rattle.tcl_words.proofs.Joins.{literal_alone, kept_bytes, coming_bytes}
use Rattle.tcl_words.proofs.open.Open.end_literal.Goals as goal
use Rattle.tcl_words.proofs.open.Open.end_literal.Goals.{else-is_empty-via-then-is_empty+else-self-end, else-is_empty-via-else-is_empty}

pub returns : goal.returns
returns c =
    let some : 0 < length (so_far c.args.self.now c.args.source.now c.args.end) = elim c.else-is_empty.branch [ else-is_empty-via-then-is_empty+else-self-end w ↦ coming_bytes c.args.self.now c.args.source.now c.args.end (search rules) c.requires.within | else-is_empty-via-else-is_empty w ↦ kept_bytes c.args.self.now c.args.source.now c.args.end (search rules) ] in
    record { ok = rw c.in_ok-push_piece.ensures.ok (rw c.in_ok-text.ensures.ok (rw c.in_ok-text.ensures.text (rw (literal_alone (so_far c.args.self.now c.args.source.now c.args.end) some) refl))) }
