use Rattle.std.proofs.Common.{List, ℕ, sym, ◌∙◌}
use Rattle.std.specs.Borrow.{Bor}
use Rattle.std.specs.Str.{bytes_eq}
use Rattle.panels.specs.Words.{after}
use Rattle.panels.proofs.Maps.{list_any-map}
use Rattle.panels.proofs.look.is_told.Goals as goal

pub returns : goal.returns
returns c =
    c.has_text.ensures
    ∙ sym (list_any-map (λ (line : Bor (List ℕ)). line.now) (λ (line : List ℕ). bytes_eq (after 2 line) c.args.text.now) c.args.lines.now)
