use Rattle.std.proofs.Common.{◌+◌, drop, refl, sym, ◌≡◌, ◌∙◌}
use Rattle.tcl_words.specs.Moves.{in_text}
use Rattle.tcl_words.specs.declared.kind.Kind.TheVariants.{Dollar, OpenBracket, Other}
use Rattle.tcl_words.specs.declared.kind.BytePlace.TheVariants.{Text}
use Rattle.tcl_words.specs.declared.kind.Opener.TheVariants.{Bracket}
use Rattle.tcl_words.proofs.KindLemmas.{text_kinds}
use Rattle.tcl_words.proofs.Steps.{text_goes_on, text_opens, escape_goes_on, text_escapes, same_move, text_bracket, cut_bracket}
use Rattle.tcl_words.proofs.read.read_text.Goals as goal

pub returns-in-Dollar : goal.returns-in-Dollar
returns-in-Dollar c =
    same_move c.args.parts.now c.read_dollar.new.parts c.args.source.now c.args.at (Text c.args.mode) (in_text c.args.mode c.args.kind c.args.byte (drop (c.args.at + 1) c.args.source.now))
    (in_text c.args.mode Dollar c.args.byte (drop (c.args.at + 1) c.args.source.now)) c.read_dollar.result (rw c.in-Dollar.is refl) c.read_dollar.ensures

pub returns-in_ok-end_literal-in-OpenBracket : goal.returns-in_ok-end_literal-in-OpenBracket
returns-in_ok-end_literal-in-OpenBracket c =
    rw c.in_ok-end_literal-in-OpenBracket.ensures.ok
    (text_opens c.args.parts.now c.args.source.now c.args.mode c.args.at Bracket (in_text c.args.mode c.args.kind c.args.byte (drop (c.args.at + 1) c.args.source.now))
    (text_bracket c.args.mode c.args.byte c.args.kind (drop (c.args.at + 1) c.args.source.now) c.in-OpenBracket.is)
    (cut_bracket c.args.source.now c.args.at (c.requires.stands.cut_after (λ e. let h : OpenBracket ≡ Other = sym c.in-OpenBracket.is ∙ e in cc))))

pub returns-in_ok-taken-in-Backslash : goal.returns-in_ok-taken-in-Backslash
returns-in_ok-taken-in-Backslash c =
    escape_goes_on c.args.parts.now c.push_escape.new.parts c.args.source.now c.args.mode c.args.at c.in_ok-taken-in-Backslash.taken (in_text c.args.mode c.args.kind c.args.byte (drop (c.args.at + 1) c.args.source.now))
    c.in_ok-taken-in-Backslash.ensures (text_escapes c.args.mode c.args.byte c.args.kind (drop (c.args.at + 1) c.args.source.now) c.in-Backslash.is)

pub returns-in_default : goal.returns-in_default
returns-in_default c =
    text_goes_on c.args.parts.now c.args.source.now c.args.mode c.args.at c.args.byte c.args.kind (in_text c.args.mode c.args.kind c.args.byte (drop (c.args.at + 1) c.args.source.now)) c.requires.stands c.requires.fine
    (text_kinds c.args.kind c.in_default.not-Dollar c.in_default.not-OpenBracket c.in_default.not-Backslash c.in_default.not-Continuation c.args.mode c.args.byte c.args.at (drop (c.args.at + 1) c.args.source.now))
