use Rattle.std.proofs.Common.{◌+◌, ◌-◌, ◌∙◌, ap, drop, subst, true}
use Rattle.tcl_words.specs.Moves.{at_word, in_expanded, word_over, ends}
use Rattle.tcl_words.specs.Parts.{DoesMove, with_braced}
use Rattle.tcl_words.specs.declared.kind.BytePlace.TheVariants.{Expanded, PastBraces}
use Rattle.tcl_words.proofs.KindLemmas.{expanded_kinds}
use Rattle.tcl_words.proofs.Steps.{lone_ends, past_expansion, same_move}
use Rattle.tcl_words.proofs.read.read_expanded.Goals as goal

pub returns-in_ok-end_braced-in-Blank : goal.returns-in_ok-end_braced-in-Blank
returns-in_ok-end_braced-in-Blank c =
    lone_ends c.args.parts.now c.end_word.new.parts c.args.source.now c.args.at c.args.byte c.args.kind (drop (c.args.at + 1) c.args.source.now) c.end_word.result c.requires.expansion c.in-Blank.is
    (subst (λ p. DoesMove p c.end_word.new.parts c.args.source.now c.args.at PastBraces (word_over c.args.kind c.args.at (drop (c.args.at + 1) c.args.source.now) ends) c.end_word.result)
    (c.in_ok-end_braced-in-Blank.ensures.ok ∙ ap (λ p. with_braced p c.args.source.now (c.args.at - 1)) c.begin_word.ensures) (c.end_word.ensures ends))

pub returns-in_default : goal.returns-in_default
returns-in_default c =
    same_move c.args.parts.now c.read_word.new.parts c.args.source.now c.args.at Expanded (in_expanded c.args.kind c.args.byte c.args.at (drop (c.args.at + 1) c.args.source.now))
    (at_word true (c.args.at - 3) c.args.kind c.args.byte c.args.at (drop (c.args.at + 1) c.args.source.now)) c.read_word.result
    (expanded_kinds c.args.kind c.in_default.not-Blank c.in_default.not-Newline c.in_default.not-Semicolon c.in_default.not-Continuation c.in_default.not-CloseBracket c.args.byte c.args.at (drop (c.args.at + 1) c.args.source.now))
    (past_expansion c.args.parts.now c.read_word.new.parts c.args.source.now c.args.at (at_word true (c.args.at - 3) c.args.kind c.args.byte c.args.at (drop (c.args.at + 1) c.args.source.now)) c.read_word.result c.read_word.ensures)
