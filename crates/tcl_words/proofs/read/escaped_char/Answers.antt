use Rattle.std.proofs.Common.{◌≡◌, ◌+◌, ◌∙◌, [], ◌∷◌, ap, sym, drop}
use Rattle.std.proofs.lemmas.Str.{encode_ascii}
use Rattle.tcl_text.specs.Backslash.{escape}
use Rattle.tcl_text.specs.Escaped.{bytes_meant}
use Rattle.tcl_words.proofs.Escapes.{escape_low}
use Rattle.tcl_words.proofs.read.escaped_char.Goals as goal

pub returns-in-Byte-clause-meaning : goal.returns-in-Byte-clause-meaning
returns-in-Byte-clause-meaning c =
    let meant : c.in-Byte.byte ∷ [] ≡ (escape (drop (c.args.at + 1) c.args.source.now)).meaning = ap bytes_meant (sym c.in-Byte.is) ∙ c.escape_at-escape.ensures.meaning in
    rw c.from.ensures (encode_ascii c.in-Byte.byte (escape_low (drop (c.args.at + 1) c.args.source.now) c.in-Byte.byte c.requires.ascii (sym meant)) ∙ meant)
