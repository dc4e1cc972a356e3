-- Meaning. Where parts of a script stand.
use Rattle.std.specs.Prelude.{ℕ, Bool, true, false}
use Rattle.tcl_text.specs.Limits.{most_bytes}

-- from the place of the first byte up to the place past the last
pub record Stretch : Type 0 where
  pub start : ℕ
  pub end : ℕ

abbrev pub stretch : ℕ → ℕ → Stretch
stretch start end = record { start = start; end = end }

-- the place of which these bits are kept, or the last that a text may have
abbrev pub place_at : Bool → ℕ → ℕ
place_at true bits = most_bytes
place_at false bits = bits
