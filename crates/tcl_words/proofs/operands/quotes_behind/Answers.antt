use Rattle.std.proofs.Common.{◌+◌, arith, ap, sym, ◌∙◌, Ok}
use Rattle.std.proofs.lemmas.Str.{IsCharBoundary-after_ascii, IsCharBoundary-start}
use Rattle.tcl_words.specs.Operands.{quoted_of, quoted_whole}
use Rattle.tcl_words.proofs.OperandLemmas.{quoted_found}
use Rattle.tcl_words.proofs.operands.quotes_behind.Goals as goal

pub range_from-text-requires : goal.range_from-text-requires
range_from-text-requires c = λ _. IsCharBoundary-after_ascii c.args.source.now c.args.at c.utf8.source c.requires.within c.requires.ascii

pub loop-next-init : goal.loop-next-init
loop-next-init c = record {
  within = omega arith;
  fine = rw c.new-parts.ensures (record { before = omega arith; boundary = IsCharBoundary-start c.range_from-text.result.now c.range_from-text.utf8; short = omega arith });
  same = ap (λ p. quoted_whole c.args.room c.range_from-text.result.now p 0) c.new-parts.ensures;
}

pub returns-in-Quote : goal.returns-in-Quote
returns-in-Quote c =
    ap (quoted_of c.args.room) (sym c.range_from-text.ensures.value)
    ∙ quoted_found c.args.room c.range_from-text.result.now c.loop-next.next c.look-byte.result.0 c.look-byte.result.1 c.loop-next.parts
    (record { within = c.loop-next-test.true; is = sym c.look-byte.ensures.byte; kind_is = c.look-byte.ensures.kind }) c.in-Quote.is c.loop-next.invariant.same
    ∙ ap (λ p. Ok (p, c.loop-next.next + 1)) (sym (c.into_pieces.ensures ∙ ap (λ p. p.pieces) c.in_ok-end_literal-in-Quote.ensures.ok))
