-- Meaning. Limits of the applications of a host.
use Rattle.std.specs.Prelude.{ℕ}

-- how many applications there are at most
abbrev pub most_applications : ℕ
most_applications = 16

-- how many bytes the name of an application has at most
abbrev pub most_name : ℕ
most_name = 32

-- how many steps an application is given at most, be it at first or with an event
abbrev pub most_steps : ℕ
most_steps = 10000000
