use Rattle.std.proofs.Common.{◌≡◌, ◌++◌, length, IsUtf8, string_bytes}
use Rattle.tcl_text.specs.Readings.{with_backslashes}
use Rattle.tcl_text.proofs.list_form.push_backslashed.Given as goal

-- what was written and what is left are the whole
abbrev pub invariant-loop-form : goal.invariant-loop-form
invariant-loop-form l =
    record { written : string_bytes l.form ++ with_backslashes l.rest ≡ string_bytes l.fn.form ++ with_backslashes l.item; utf8 : IsUtf8 l.rest }

abbrev pub decreases-loop-form : goal.decreases-loop-form
decreases-loop-form l = length l.rest
