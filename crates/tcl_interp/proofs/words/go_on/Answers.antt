use Rattle.std.proofs.Common.{◌<◌, ◌+◌, length, drop, ap, sym, ◌∙◌}
use Rattle.tcl_interp.specs.Rests.{commands_in, left_in, words_in_front, moved_of, waits_of}
use Rattle.tcl_interp.specs.Moves.{words_move}
use Rattle.tcl_interp.proofs.WordLemmas.{command_at, ok_along}
use Rattle.tcl_interp.proofs.words.go_on.Goals as goal

pub returns-in_ok-words-clause-now : goal.returns-in_ok-words-clause-now
returns-in_ok-words-clause-now g c =
    let place = c.args.place in
    let less : place.next < length (commands_in place.script) = rw c.commands.ensures at c.if-place-commands.true in
    ok_along c.put_words.result (λ now. moved_of now c.put_words.new.frames.items) _ _ c.put_words.ensures.now
    (ap (λ none. words_move c.args.level c.args.scopes.now place.room (drop (place.next + 1) (commands_in place.script)) (words_in_front (left_in place)) none (waits_of c.args.frames.now.items)) c.in_ok-words.ensures
    ∙ sym (command_at c.args.level c.args.scopes.now place.room (waits_of c.args.frames.now.items) (commands_in place.script) place.next c.args.previous less))
