use Rattle.std.proofs.Common.{◌+◌, drop, subst}
use Rattle.tcl_words.specs.Moves.{in_text, in_bare, word_over}
use Rattle.tcl_words.specs.Parts.{DoesMove}
use Rattle.tcl_words.specs.declared.kind.Mode.TheVariants.{Bare}
use Rattle.tcl_words.specs.declared.kind.BytePlace.TheVariants.{Text, PastBraces}
use Rattle.tcl_words.proofs.KindLemmas.{word_kinds}
use Rattle.tcl_words.proofs.Steps.{bare_ends, same_move}
use Rattle.tcl_words.proofs.read.read_bare.Goals as goal

pub returns-in_ok-end_literal-in-Blank : goal.returns-in_ok-end_literal-in-Blank
returns-in_ok-end_literal-in-Blank c =
    bare_ends c.args.parts.now c.end_word.new.parts c.args.source.now c.args.at c.args.kind (drop (c.args.at + 1) c.args.source.now) (in_text Bare c.args.kind c.args.byte (drop (c.args.at + 1) c.args.source.now)) c.end_word.result
    c.in-Blank.is
    (subst (λ p. DoesMove p c.end_word.new.parts c.args.source.now c.args.at PastBraces (word_over c.args.kind c.args.at (drop (c.args.at + 1) c.args.source.now) (in_text Bare c.args.kind c.args.byte (drop (c.args.at + 1) c.args.source.now))) c.end_word.result) c.in_ok-end_literal-in-Blank.ensures.ok
    (c.end_word.ensures (in_text Bare c.args.kind c.args.byte (drop (c.args.at + 1) c.args.source.now))))

pub returns-in_default : goal.returns-in_default
returns-in_default c =
    same_move c.args.parts.now c.read_text.new.parts c.args.source.now c.args.at (Text Bare) (in_bare c.args.kind c.args.byte c.args.at (drop (c.args.at + 1) c.args.source.now)) (in_text Bare c.args.kind c.args.byte (drop (c.args.at + 1) c.args.source.now)) c.read_text.result
    (word_kinds c.args.kind c.in_default.not-Blank c.in_default.not-Newline c.in_default.not-Semicolon c.in_default.not-Continuation c.in_default.not-CloseBracket (in_text Bare c.args.kind c.args.byte (drop (c.args.at + 1) c.args.source.now)) c.args.byte c.args.at (drop (c.args.at + 1) c.args.source.now))
    c.read_text.ensures
