use Rattle.std.proofs.Common.{arith, ◌+◌, ap, sym, subst, ◌∙◌, Ok}
use Rattle.tcl_words.specs.Operands.{EndsAt}
use Rattle.tcl_words.proofs.OperandLemmas.{opened_begins, found_there}
use Rattle.tcl_words.proofs.operands.read_opened.Goals as goal

pub read_inside-requires-clause-begins : goal.read_inside-requires-clause-begins
read_inside-requires-clause-begins c =
    rw c.opened_at.ensures (opened_begins c.args.source.now c.args.at c.args.room c.args.opener (omega (arith, c.if-room-eq0.false)) c.requires.room c.requires.cut)

pub piece_of-requires-clause-ends : goal.piece_of-requires-clause-ends
piece_of-requires-clause-ends c =
    (found_there c.args.source.now c.args.at c.args.room c.args.opener c.in_ok-parts.parts c.in_ok-parts.close c.utf8.source c.requires.short (omega (arith, c.if-room-eq0.false)) c.requires.room c.requires.cut
    (subst (λ x. EndsAt x c.args.source.now c.in_ok-parts.parts c.in_ok-parts.close) c.opened_at.ensures c.in_ok-parts.ensures.ends)).ends

pub piece_of-requires-clause-parse : goal.piece_of-requires-clause-parse
piece_of-requires-clause-parse c =
    (found_there c.args.source.now c.args.at c.args.room c.args.opener c.in_ok-parts.parts c.in_ok-parts.close c.utf8.source c.requires.short (omega (arith, c.if-room-eq0.false)) c.requires.room c.requires.cut
    (subst (λ x. EndsAt x c.args.source.now c.in_ok-parts.parts c.in_ok-parts.close) c.opened_at.ensures c.in_ok-parts.ensures.ends)).parse

pub returns-clause-found : goal.returns-clause-found
returns-clause-found c =
    (found_there c.args.source.now c.args.at c.args.room c.args.opener c.in_ok-parts.parts c.in_ok-parts.close c.utf8.source c.requires.short (omega (arith, c.if-room-eq0.false)) c.requires.room c.requires.cut
    (subst (λ x. EndsAt x c.args.source.now c.in_ok-parts.parts c.in_ok-parts.close) c.opened_at.ensures c.in_ok-parts.ensures.ends)).found
    ∙ ap (λ p. Ok (p, c.in_ok-parts.close + 1)) (sym c.in_ok-piece.ensures.ok)

pub returns-clause-past : goal.returns-clause-past
returns-clause-past c =
    (found_there c.args.source.now c.args.at c.args.room c.args.opener c.in_ok-parts.parts c.in_ok-parts.close c.utf8.source c.requires.short (omega (arith, c.if-room-eq0.false)) c.requires.room c.requires.cut
    (subst (λ x. EndsAt x c.args.source.now c.in_ok-parts.parts c.in_ok-parts.close) c.opened_at.ensures c.in_ok-parts.ensures.ends)).past
