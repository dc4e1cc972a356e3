use Rattle.std.proofs.Common.{◌≡◌, ◌++◌, ◌∷◌, cond, drop, length, string_bytes}
use Rattle.std.specs.Prelude.{encode_utf8_all}
use Rattle.std.specs.Str.{chars}
use Rattle.panels_text.specs.Rows.{unescaped}
use Rattle.panels_text.proofs.rows.unescaped.Given as goal

-- what stands there, and what is left behind a backslash that was read, is all
abbrev pub invariant-loop-character : goal.invariant-loop-character
invariant-loop-character l =
    string_bytes l.plain ++ encode_utf8_all (unescaped (cond l.is_escaped (92 ∷ drop (length l.yielded) (chars l.text)) (drop (length l.yielded) (chars l.text))))
    ≡ encode_utf8_all (unescaped (chars l.text))
