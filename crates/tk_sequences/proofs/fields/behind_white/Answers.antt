use Rattle.std.proofs.Common.{◌≡◌, ℕ, sym, ap, ◌∙◌, subst}
use Rattle.std.specs.List.{prefix_len}
use Rattle.std.specs.Str.{IsCharBoundary}
use Rattle.tcl_text.specs.Backslash.{is_white}
use Rattle.tk_sequences.proofs.PieceLemmas.{white_boundary}
use Rattle.tk_sequences.proofs.fields.behind_white.Goals as goal

pub range_from-requires : goal.range_from-requires
range_from-requires c = λ _.
    let at : c.white_len.result ≡ prefix_len is_white c.args.text.now = c.white_len.ensures ∙ ap (prefix_len is_white) c.as_bytes.ensures.value in
    subst (IsCharBoundary c.args.text.now) (sym at) (white_boundary c.args.text.now c.utf8.text)
