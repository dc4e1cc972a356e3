use Rattle.std.proofs.Common.{rules, ◌≡◌, Ok}
use Rattle.tcl_words.specs.Reading.{commands_of}
use Rattle.tcl_words.proofs.Parses.{walk_is_script}
use Rattle.tcl_words.proofs.script.Script.commands.Goals as goal

pub returns-clause-script : goal.returns-clause-script
returns-clause-script c =
    let walk : commands_of c.args.self.now ≡ Ok c.as_slice.result.now = search rules in
    walk_is_script c.args.self.now c.as_slice.result.now walk
