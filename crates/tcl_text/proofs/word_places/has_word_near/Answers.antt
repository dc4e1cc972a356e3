use Rattle.std.proofs.Common.{sym, ◌∙◌, arith, w64}
use Rattle.std.proofs.lemmas.Bool.{false≢true}
use Rattle.std.proofs.lemmas.Nat.Bits.{bit_at-trailing_zeros}
use Rattle.tcl_text.proofs.WordPlaces.{likely_without, without_less}
use Rattle.tcl_text.proofs.word_places.has_word_near.Goals as goal

pub loop-left-smaller : goal.loop-left-smaller
loop-left-smaller c =
    let first = bit_at-trailing_zeros w64 c.loop-left.left (omega arith) (omega arith) in
    without_less c.loop-left.left _ (omega arith) first.0 first.1

pub loop-left-preserved : goal.loop-left-preserved
loop-left-preserved c =
    let first = bit_at-trailing_zeros w64 c.loop-left.left (omega arith) (omega arith) in
    likely_without c.args.words.now c.args.item.now c.args.from c.loop-left.left _ first.0 c.loop-left.invariant (λ word. false≢true (sym c.if-is_word.false ∙ c.is_word.ensures.1 word))
