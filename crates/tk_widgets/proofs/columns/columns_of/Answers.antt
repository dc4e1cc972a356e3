use Rattle.std.proofs.Common.{Bool, true, false, ◌&&◌, [], ◌∷◌, append-nil, sym, ap, ◌∙◌}
use Rattle.std.specs.Str.{chars}
use Rattle.std.specs.Char.{encode_utf8}
use Rattle.std.proofs.lemmas.Str.{chars-encodes}
use Rattle.unicode_width.specs.Width.{str_width}
use Rattle.tk_widgets.specs.Columns.{columns}
use Rattle.tk_widgets.proofs.columns.columns_of.Goals as goal

pub returns : goal.returns
unfolding columns
returns c =
    let scalar = ap (λ (b : Bool). b && true) c.ranges.character.0 in
    c.width.ensures.value ∙ ap (str_width false)
    (ap chars (c.encode_utf8.ensures.value ∙ sym (append-nil (encode_utf8 c.args.character))) ∙ chars-encodes (c.args.character ∷ []) scalar)
