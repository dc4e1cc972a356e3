-- Meaning. The limits of Tcl's values and scripts, by their names.
use Rattle.std.specs.Prelude.{ℕ, ◌+◌}

-- how many bytes a text has at most
abbrev pub most_bytes : ℕ
most_bytes = 65536

-- how many bytes of a text are kept in place at most: enough for each integer of 64 bits
abbrev pub most_in_place : ℕ
most_in_place = 22

-- and how many digits of an integer beside it, a sign among them
abbrev pub most_digits : ℕ
most_digits = 15

-- how many bytes the string of a kept list has at most: one more than a text, for the blank in front of the first item
abbrev pub most_string : ℕ
most_string = most_bytes + 1

-- how many brackets and indices of a script, and parentheses of an expression, stand in one another at most
abbrev pub most_nested : ℕ
most_nested = 200

-- how many scripts run in one another at most
abbrev pub most_running : ℕ
most_running = 200

-- how many variables an application has at most; a name of a frame counts one, and each element of an array one more
abbrev pub most_variables : ℕ
most_variables = 4096

-- how many procedures it has at most
abbrev pub most_procedures : ℕ
most_procedures = 1024

-- how many timers and idle scripts of it wait at most
abbrev pub most_waiting : ℕ
most_waiting = 256
