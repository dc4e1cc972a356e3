use Rattle.std.proofs.Common.{◌≡◌, ◌++◌, [], map, ap, string_bytes, ◌∙◌}
use Rattle.panels_text.specs.Keys.{here_for}
use Rattle.panels_text.specs.Meant.{candidates, key_meant, likely_in, option_words, plain}
use Rattle.panels_text.specs.Words.{words_of}
use Rattle.panels_text.specs.declared.meant.TheConstants.{EVENTS, WORDS}
use Rattle.panels_text.proofs.PushLemmas.{pushed-five}
use Rattle.panels_text.proofs.meant.found_for.Goals as goal

pub returns : goal.returns
returns c =
    let start : plain c.new-found.result.items ≡ [] = ap plain c.new-found.ensures.items in
    let words : words_of c.as_slice.result.now ≡ map (λ other. other.now) WORDS = ap words_of c.as_slice.ensures in
    let events : words_of c.as_slice-2.result.now ≡ map (λ other. other.now) EVENTS = ap words_of c.as_slice-2.ensures in
    let one : plain c.take_own.new.found.items ≡ plain c.new-found.result.items ++ likely_in c.args.word.now (map string_bytes c.args.own.now) = c.in_ok-take_own.ensures in
    let two : plain c.take_key.new.found.items ≡ plain c.take_own.new.found.items ++ key_meant (here_for c.args.word.now) = c.in_ok-take_key.ensures in
    let five : plain c.take_kinds.new.found.items ≡ plain c.take_all-2.new.found.items ++ likely_in c.args.word.now option_words = c.in_ok-take_kinds.ensures in
    pushed-five _ _ _ _ _ _ _ _ _ _ _ one two
    (c.in_ok-take_all.ensures ∙ ap (λ others. plain c.take_key.new.found.items ++ likely_in c.args.word.now others) words)
    (c.in_ok-take_all-2.ensures ∙ ap (λ others. plain c.take_all.new.found.items ++ likely_in c.args.word.now others) events)
    five
    ∙ ap (λ first. first ++ candidates c.args.word.now (map string_bytes c.args.own.now)) start
