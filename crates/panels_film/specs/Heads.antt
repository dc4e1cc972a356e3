-- Meaning. The first line of a section: `app NAME STATE STEPS_LEFT`.
use Rattle.std.specs.Prelude.{ℕ, ◌==◌, Bool, List, codes, nat_eq}
use Rattle.std.specs.List.{before_first, ends_with}

abbrev pub line_of : List ℕ → List ℕ
line_of section = before_first (λ byte. byte == 10) section

-- the panel ran out, and has no steps left
abbrev pub is_spent : List ℕ → Bool
is_spent section = ends_with nat_eq (line_of section) (codes " exhausted 0")
