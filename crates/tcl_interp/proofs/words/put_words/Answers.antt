use Rattle.std.proofs.Common.{◌≡◌, ◌<◌, ◌+◌, [], length, drop, Ok, Err, ap, sym, ◌∙◌}
use Rattle.std.proofs.lemmas.Result.{IfOk-weaker}
use Rattle.tcl_interp.specs.Evaluation.{words_of}
use Rattle.tcl_interp.specs.Moves.{moved, Whole, AtPart, word_end, with_more_words}
use Rattle.tcl_interp.specs.Rests.{IsSingle, commands_in, left_in, words_in_front, expand_in_front, moved_of, waits_of, part_of}
use Rattle.tcl_interp.proofs.WordLemmas.{word_single, word_whole, word_faulty, word_waits, ok_along}
use Rattle.tcl_interp.proofs.words.put_words.Goals as goal

pub returns-in-AtPart-clause-now : goal.returns-in-AtPart-clause-now
returns-in-AtPart-clause-now g c =
    let place = c.args.place in
    let words = words_in_front (left_in place) in
    let after = drop (place.next + 1) (commands_in place.script) in
    let waits = waits_of c.loop-word.frames.items in
    let pieces = c.pieces_at-pieces.result.now in
    let less : c.loop-word.word < length words = rw c.next_words.ensures at c.loop-word-test.true in
    let end : AtPart (part_of c.in-AtPart.part) (drop c.in-AtPart.next pieces) c.in-AtPart.so_far ≡ word_end c.args.level c.args.scopes.now (drop 0 pieces) [] = rw (c.in-AtPart.is, c.empty.ensures) at c.in_ok-text-2.ensures in
    ok_along c.word_part.result (λ now. moved_of now c.word_part.new.frames.items) _ _ c.word_part.ensures
    (word_waits c.args.level c.args.scopes.now place.room waits after words c.loop-word.word c.loop-word.whole (part_of c.in-AtPart.part) c.in-AtPart.so_far c.in-AtPart.next pieces less (rw c.next_words-words.ensures at c.pieces_at-pieces.ensures) end
    ∙ c.loop-word.invariant.same)

pub loop-word-preserved : goal.loop-word-preserved
loop-word-preserved g c =
    let place = c.args.place in
    let words = words_in_front (left_in place) in
    let after = drop (place.next + 1) (commands_in place.script) in
    let waits = waits_of c.loop-word.frames.items in
    let pieces = c.pieces_at-pieces.result.now in
    let i = c.loop-word.word in
    let less : i < length words = rw c.next_words.ensures at c.loop-word-test.true in
    let end : Whole c.in-Whole.text ≡ word_end c.args.level c.args.scopes.now (drop 0 pieces) [] = rw (c.in-Whole.is, c.empty.ensures) at c.in_ok-text-2.ensures in
    let more : Ok c.in-Ok.all ≡ with_more_words c.loop-word.whole (words_of (expand_in_front (drop i words)) c.in-Whole.text) =
    sym c.in-Ok.is ∙ c.in_ok-more-in-Whole.ensures ∙ ap (λ ws. with_more_words c.loop-word.whole (words_of (expand_in_front (drop i ws)) c.in-Whole.text)) c.next_words-words.ensures in
    record {
      table = c.loop-word.invariant.table;
      same = word_whole c.args.level c.args.scopes.now place.room waits after words i c.loop-word.whole c.in-Ok.all c.in-Whole.text pieces less (rw c.next_words-words.ensures at c.pieces_at-pieces.ensures) end more
          ∙ c.loop-word.invariant.same;
    }

pub returns-in-Err-clause-now : goal.returns-in-Err-clause-now
returns-in-Err-clause-now g c =
    let place = c.args.place in
    let words = words_in_front (left_in place) in
    let after = drop (place.next + 1) (commands_in place.script) in
    let waits = waits_of c.loop-word.frames.items in
    let pieces = c.pieces_at-pieces.result.now in
    let i = c.loop-word.word in
    let less : i < length words = rw c.next_words.ensures at c.loop-word-test.true in
    let end : Whole c.in-Whole.text ≡ word_end c.args.level c.args.scopes.now (drop 0 pieces) [] = rw (c.in-Whole.is, c.empty.ensures) at c.in_ok-text-2.ensures in
    let more : Err c.in-Err.text ≡ with_more_words c.loop-word.whole (words_of (expand_in_front (drop i words)) c.in-Whole.text) =
    sym c.in-Err.is ∙ c.in_ok-more-in-Whole.ensures ∙ ap (λ ws. with_more_words c.loop-word.whole (words_of (expand_in_front (drop i ws)) c.in-Whole.text)) c.next_words-words.ensures in
    IfOk-weaker c.words_fail.result _ _ (λ now ends. ap (λ doing. moved doing waits) ends
    ∙ word_faulty c.args.level c.args.scopes.now place.room waits after words i c.loop-word.whole c.in-Err.text c.in-Whole.text pieces less (rw c.next_words-words.ensures at c.pieces_at-pieces.ensures) end more
    ∙ c.loop-word.invariant.same) c.words_fail.ensures.now

pub loop-word-preserved-in-Some : goal.loop-word-preserved-in-Some
loop-word-preserved-in-Some g c =
    let place = c.args.place in
    let words = words_in_front (left_in place) in
    let after = drop (place.next + 1) (commands_in place.script) in
    let waits = waits_of c.loop-word.frames.items in
    let i = c.loop-word.word in
    let less : i < length words = rw c.next_words.ensures at c.loop-word-test.true in
    let single : IsSingle c.args.level c.args.scopes.now (drop i words) c.in-Some.text = rw (c.in-Some.is, c.next_words-words.ensures) at c.in_ok-text.ensures in
    record {
      table = c.loop-word.invariant.table;
      same = word_single c.args.level c.args.scopes.now place.room waits after words i c.loop-word.whole c.push.new.self c.in-Some.text less single c.in_ok-push.ensures.ok ∙ c.loop-word.invariant.same;
    }
