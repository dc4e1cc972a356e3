-- Meaning. The numbers that a program in C is answered, and what they say.
use Rattle.std.specs.Prelude.{ℕ, ◌==◌, if◌then◌else◌, List, codes, Result, Ok, Err}
use Rattle.tk_route.specs.Fault.{number_of as number_of_fault}
use Rattle.tkhost_c.specs.declared.refusal.Refusal.{Refusal}
use Rattle.tkhost_c.specs.declared.refusal.Refusal.TheVariants.{Fault, NoMemory, NoHost, HasHost, TooSmall, NotStarted}

-- a fault has its own number; the others are this library's
abbrev pub number_of : Refusal → ℕ
number_of (Fault fault) = number_of_fault fault
number_of NoMemory = 64
number_of NoHost = 65
number_of HasHost = 66
number_of TooSmall = 67
number_of NotStarted = 68

-- 0 where nothing is refused
abbrev pub number_for : Result (Unit {0}) Refusal → ℕ
number_for (Ok done) = 0
number_for (Err refusal) = number_of refusal

-- what a number says, in words
abbrev pub words_of : ℕ → List ℕ
words_of number =
    if number == 0 then codes "done" else
    if number == 34 then codes "rectangle overlaps another" else
    if number == 35 then codes "moment before the last" else
    if number == 36 then codes "bad line, or value outside its range" else
    if number == 37 then codes "no such application" else
    if number == 38 then codes "too many applications" else
    if number == 39 then codes "name is taken" else
    if number == 40 then codes "already started" else
    if number == 41 then codes "already ended" else
    if number == 42 then codes "broken by want of memory" else
    if number == 43 then codes "rectangle overlaps that of another application" else
    if number == 64 then codes "out of memory" else
    if number == 65 then codes "no host" else
    if number == 66 then codes "there is a host already" else
    if number == 67 then codes "buffer too small" else
    if number == 68 then codes "not started" else
    codes "no such number"
