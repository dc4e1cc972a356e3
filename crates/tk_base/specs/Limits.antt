-- Meaning. Limits of a host.
use Rattle.std.specs.Prelude.{ℕ}

-- the last moment, in milliseconds, and the longest delay
abbrev pub last_moment : ℕ
last_moment = 1000000000000
