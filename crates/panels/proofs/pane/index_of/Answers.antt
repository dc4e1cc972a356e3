use Rattle.std.proofs.Common.{List, ℕ, sym, ◌∙◌}
use Rattle.std.specs.Borrow.{Bor}
use Rattle.std.specs.Str.{bytes_eq}
use Rattle.panels.specs.Words.{word}
use Rattle.panels.proofs.Maps.{position-map}
use Rattle.panels.proofs.pane.index_of.Goals as goal

pub returns : goal.returns
returns c =
    c.first_line.ensures
    ∙ sym (position-map (λ (line : Bor (List ℕ)). line.now) (λ (line : List ℕ). bytes_eq (word 1 line) c.args.path.now) c.args.lines.now)
