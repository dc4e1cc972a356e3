use Rattle.std.proofs.Common.{rules, ap, sym, ◌∙◌}
use Rattle.std.specs.Str.{encode_utf8_all}
use Rattle.std.proofs.lemmas.Str.{encodes-chars}
use Rattle.tcl_text.proofs.characters.behind.Goals as goal

pub returns : goal.returns
returns c = sym (encodes-chars c.split_characters.result.1.now (search rules)) ∙ ap encode_utf8_all c.split_characters.ensures.back
