-- Steps. What the code says of a test.
use Rattle.tcl_vars.specs.Store.{Store}
use Rattle.tcl_control.specs.Loops.{Tested, More, NoMore, Fails}
use Rattle.tcl_control.specs.declared.loops.Verdict.{Verdict}
use Rattle.tcl_control.specs.declared.loops.Verdict.TheVariants as verdict

-- what a verdict says, with the variables that are left
abbrev pub tested_as : Verdict → Store → Tested
tested_as (verdict.More groups) store = More store groups
tested_as verdict.NoMore store = NoMore store
tested_as (verdict.Fails text) store = Fails store text
