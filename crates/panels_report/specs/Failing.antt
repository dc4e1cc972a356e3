-- Meaning. Which note of a host a line of a transcript is of.
use Rattle.std.specs.Prelude.{ℕ, List, Option, find}
use Rattle.std.specs.Str.{bytes_eq}
use Rattle.std.specs.String.{string_bytes}
use Rattle.panels.specs.declared.ending.Raised.{Raised}

-- the first of errors with a text
abbrev pub raised : List ℕ → List Raised → Option Raised
raised text errors = find (λ (error : Raised). bytes_eq (string_bytes error.text) text) errors
