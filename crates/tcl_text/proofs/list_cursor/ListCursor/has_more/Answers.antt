use Rattle.std.proofs.Common.{ℕ, List, nat_lt, length, ap, ◌∙◌}
use Rattle.tcl_text.proofs.CursorLemmas.{more_left}
use Rattle.tcl_text.proofs.list_cursor.ListCursor.has_more.Goals as goal

pub returns : goal.returns
returns c =
    ap (λ (bs : List ℕ). nat_lt c.self.inside.place (length bs)) c.as_str.ensures.bytes ∙ more_left c.self.inside.text c.self.inside.place c.self.invariant
    ∙ ap (λ (xs : List (List ℕ)). nat_lt 0 (length xs)) c.self.view_is
