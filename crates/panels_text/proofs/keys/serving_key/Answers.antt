use Rattle.std.proofs.Common.{◌≡◌, None, Some, map, ap, string_bytes, sym, ◌∙◌}
use Rattle.std.proofs.lemmas.Result.{IfOk-weaker}
use Rattle.std.specs.Str.{chars}
use Rattle.tk_base.specs.Names.{key_of_character}
use Rattle.panels_text.specs.Keys.{by_character, by_name, here_for, key_words, only_one, serving_key}
use Rattle.panels_text.specs.Words.{serving, words_of}
use Rattle.panels_text.specs.declared.keys.TheConstants.{NAMES}
use Rattle.panels_text.proofs.keys.serving_key.Goals as goal

pub returns-in-Some-only_character-clause-words : goal.returns-in-Some-only_character-clause-words
returns-in-Some-only_character-clause-words c =
    let gone : here_for c.args.name.now ≡ None = sym (rw c.in_default.is at c.here_for.ensures) in
    let one : only_one (chars c.args.name.now) ≡ Some c.in-Some-only_character.character = sym c.only_character.ensures ∙ c.in-Some-only_character.is in
    let same : serving_key c.args.name.now ≡ key_words (key_of_character c.in-Some-only_character.character) = ap (by_name c.args.name.now) gone ∙ ap (by_character c.args.name.now) one in
    IfOk-weaker c.key_words.result (λ text. string_bytes text ≡ key_words (key_of_character c.in-Some-only_character.character)) (λ text. string_bytes text ≡ serving_key c.args.name.now) (λ text is. is ∙ sym same) c.key_words.ensures

pub returns-in-None-clause-words : goal.returns-in-None-clause-words
returns-in-None-clause-words c =
    let gone : here_for c.args.name.now ≡ None = sym (rw c.in_default.is at c.here_for.ensures) in
    let none : only_one (chars c.args.name.now) ≡ None = sym c.only_character.ensures ∙ c.in-None.is in
    let names : words_of c.as_slice.result.now ≡ map (λ other. other.now) NAMES = ap words_of c.as_slice.ensures in
    let same : serving_key c.args.name.now ≡ serving c.args.name.now (words_of c.as_slice.result.now) = ap (by_name c.args.name.now) gone ∙ (ap (by_character c.args.name.now) none ∙ ap (serving c.args.name.now) (sym names)) in
    IfOk-weaker c.serving.result (λ text. string_bytes text ≡ serving c.args.name.now (words_of c.as_slice.result.now)) (λ text. string_bytes text ≡ serving_key c.args.name.now) (λ text is. is ∙ sym same) c.serving.ensures.words
