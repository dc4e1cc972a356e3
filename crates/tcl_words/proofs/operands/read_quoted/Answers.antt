use Rattle.std.proofs.Common.{◌+◌, drop, subst, Ok}
use Rattle.std.proofs.lemmas.Result.{err_from_is_err_and}
use Rattle.tcl_words.specs.Moves.{in_text}
use Rattle.tcl_words.specs.Parts.{DoesMove}
use Rattle.tcl_words.specs.declared.kind.BytePlace.TheVariants.{Text}
use Rattle.tcl_words.specs.declared.kind.Mode.TheVariants.{Parens}
use Rattle.tcl_words.proofs.OperandLemmas.{quoted_on, quoted_within, quoted_opening}
use Rattle.tcl_words.proofs.operands.read_quoted.Goals as goal

pub returns-in-On-clause-ok : goal.returns-in-On-clause-ok
returns-in-On-clause-ok c =
    quoted_on c.args.room c.args.source.now c.args.at c.args.byte c.args.kind c.in-On.skip c.in-On.field-1 c.args.parts.now c.read_text.new.parts
    (record { within = c.requires.stands.within; is = c.requires.stands.byte_is; kind_is = c.requires.kind }) c.requires.text
    (subst (λ x. DoesMove c.args.parts.now c.read_text.new.parts c.args.source.now c.args.at (Text Parens) (in_text Parens c.args.kind c.args.byte (drop (c.args.at + 1) c.args.source.now)) (Ok x)) c.in-On.is c.in_ok-skip.ensures)

pub returns-in_ok-push_piece-in-Within-clause-ok : goal.returns-in_ok-push_piece-in-Within-clause-ok
returns-in_ok-push_piece-in-Within-clause-ok c =
    rw c.in_ok-push_piece-in-Within.ensures.ok
    (quoted_within c.args.room c.args.source.now c.args.at c.args.byte c.args.kind c.in-Within.opener c.in-Within.field-1 c.args.parts.now c.read_text.new.parts c.in_ok-piece-in-Within.piece c.in_ok-piece-in-Within.taken
    (record { within = c.requires.stands.within; is = c.requires.stands.byte_is; kind_is = c.requires.kind }) c.requires.text
    (subst (λ x. DoesMove c.args.parts.now c.read_text.new.parts c.args.source.now c.args.at (Text Parens) (in_text Parens c.args.kind c.args.byte (drop (c.args.at + 1) c.args.source.now)) (Ok x)) c.in-Within.is c.in_ok-skip.ensures)
    c.in_ok-piece-in-Within.ensures.found c.in_ok-piece-in-Within.ensures.past)

pub returns-in_err-piece-in-Within-clause-fault : goal.returns-in_err-piece-in-Within-clause-fault
returns-in_err-piece-in-Within-clause-fault c =
    let p = err_from_is_err_and c.from_residual-in_err-piece-in-Within.result c.from_residual-in_err-piece-in-Within.ensures.1 in
    rw (p.1, p.2)
    (quoted_opening c.args.room c.args.source.now c.args.at c.args.byte c.args.kind c.in-Within.opener c.in-Within.field-1 c.in_err-piece-in-Within.field-0.0
    (record { within = c.requires.stands.within; is = c.requires.stands.byte_is; kind_is = c.requires.kind }) c.requires.text
    (subst (λ x. DoesMove c.args.parts.now c.read_text.new.parts c.args.source.now c.args.at (Text Parens) (in_text Parens c.args.kind c.args.byte (drop (c.args.at + 1) c.args.source.now)) (Ok x)) c.in-Within.is c.in_ok-skip.ensures).0
    c.in_err-piece-in-Within.ensures.found)
