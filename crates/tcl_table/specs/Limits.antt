-- Meaning. How much is kept of what was read.
use Rattle.std.specs.Prelude.{ℕ}

-- how many scripts are kept at most, and how many expressions
abbrev pub most_kept : ℕ
most_kept = 256
