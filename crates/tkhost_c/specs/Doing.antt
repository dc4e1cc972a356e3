-- Meaning. What a call has a host do, each as the relation of its name.
use Rattle.std.specs.Prelude.{Result}
use Rattle.tk_route.specs.declared.line.HostLine.TheVariants as lines
use Rattle.tkhost_c.specs.declared.doing.Deed.{Deed}
use Rattle.tkhost_c.specs.declared.doing.Deed.TheVariants.{Start, Advance, End, Line, Keydown, Keyup, Text}
use Rattle.tkhost_c.specs.declared.refusal.Refusal.{Refusal}
use Rattle.tkhost_c.specs.Calls.{Advances, Ends, Starts, TakesKey, TakesLine, TakesText, key_named_by}
use Rattle.tkhost_c.specs.Keeps.{Keeps}

abbrev pub Does : Deed → Keeps → Keeps → Result (Unit {0}) Refusal → Type 0
Does Start = Starts
Does (Advance moment) = Advances moment
Does (End moment) = Ends moment
Does (Line moment line) = TakesLine moment line
Does (Keydown moment name) = TakesKey lines.Keydown moment (key_named_by name.now)
Does (Keyup moment name) = TakesKey lines.Keyup moment (key_named_by name.now)
Does (Text line) = TakesText line.now
