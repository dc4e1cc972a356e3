use Rattle.std.proofs.Common.{ℕ, ◌≡◌, ◌∙◌, sym, ap, take, drop, rules, length}
use Rattle.std.specs.Str.{chars, encode_utf8_all}
use Rattle.std.proofs.lemmas.Str.{encodes-chars}
use Rattle.tcl_text.specs.Indices.{before, through, part}
use Rattle.tcl_text.proofs.commands.strings.walked_characters.Goals as goal

pub returns : goal.returns
returns c =
    let cs = chars c.args.text.now in
    let cut : chars c.split_characters-2.result.1.now ≡ part c.args.first c.args.last cs =
    c.split_characters-2.ensures.back ∙ ap (λ (n : ℕ). drop n (chars c.split_characters.result.0.now)) (c.before-2.ensures ∙ ap (before c.args.first) c.count-count.ensures.count) ∙ ap (drop (before c.args.first (length cs))) (c.split_characters.ensures.front ∙ ap (λ (n : ℕ). take n cs) (c.through.ensures ∙ ap (through c.args.last) c.count-count.ensures.count))
    in
    sym (encodes-chars c.split_characters-2.result.1.now (search rules)) ∙ ap encode_utf8_all cut
