use Rattle.std.proofs.Common.{ℕ, List, ◌≡◌, ◌∙◌, sym, ap, length}
use Rattle.std.specs.Str.{encode_utf8_all}
use Rattle.std.proofs.lemmas.Str.{chars-IsAscii, encodes-IsAscii, IsAscii-take, IsAscii-drop}
use Rattle.std.specs.List.{slice_range}
use Rattle.tcl_text.specs.Indices.{before, through, part}
use Rattle.tcl_text.proofs.ListLemmas.{part_cut}
use Rattle.tcl_text.proofs.commands.strings.bytes_in.Goals as goal

pub returns : goal.returns
returns c =
    let text = c.args.text.now in
    let first = c.args.first in
    let last = c.args.last in
    let ascii = c.requires in
    let cut : slice_range text c.min-start.result c.through-end.result ≡ part first last text =
    rw (c.min-start.ensures, c.before-2.ensures, c.through-end.ensures) (part_cut (before first (length text)) (through last (length text)) text)
    in
    let part_ascii = IsAscii-drop _ (before first (length text)) (IsAscii-take text (through last (length text)) ascii) in
    c.range.ensures.value ∙ cut ∙ sym (encodes-IsAscii (part first last text) part_ascii) ∙ ap (λ (t : List ℕ). encode_utf8_all (part first last t)) (sym (chars-IsAscii text ascii))
