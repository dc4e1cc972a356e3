-- Meaning. How a script that no event runs has ended.
use Rattle.std.specs.Prelude.{ℕ, List}
use Rattle.tcl_control.specs.declared.code.Code.{Code}
use Rattle.tcl_control.specs.declared.code.Code.TheVariants.{Normal, Error, Return, Break, Continue}
use Rattle.tcl_table.specs.Texts.{break_outside, continue_outside}
use Rattle.tk_panel.specs.declared.transcript.Stream.TheVariants.{Err as Errors}
use Rattle.tk_panel.specs.Panel.{Panel}
use Rattle.tk_panel.specs.Reports.{with_line}

-- A timer, an idle script or the application's own: an error is told, and that a break or a continue has left it, which is one.
abbrev pub with_end : Code → List ℕ → Panel → Panel
with_end Normal text panel = panel
with_end Error text panel = with_line Errors text panel
with_end (Return code) text panel = panel
with_end Break text panel = with_line Errors break_outside panel
with_end Continue text panel = with_line Errors continue_outside panel
