-- Meaning. The commands on windows, from the words behind their names.
use Rattle.std.specs.Prelude.{ℕ, Bool, false, List, [], ◌∷◌, Option, Some, option_map, codes, if◌then◌else◌}
use Rattle.std.specs.Str.{bytes_eq}
use Rattle.tcl_text.specs.Answers.{Answer}
use Rattle.tcl_vars.specs.Store.{Store}
use Rattle.tk_pack_commands.specs.Pack.{pack_words}
use Rattle.tk_panel.specs.Panel.{Panel}
use Rattle.tk_commands.specs.declared.screen.ScreenCommand.{ScreenCommand}
use Rattle.tk_commands.specs.declared.screen.ScreenCommand.TheVariants.{Window, Pack}
use Rattle.tk_commands.specs.Outcomes.{Done, done, outcome_of}
use Rattle.tk_screen.specs.Own.{Windowing}
use Rattle.tk_window_commands.specs.Answers as windows
use Rattle.tk_window_commands.specs.Commands.{window_command_done, window_command_named}

abbrev pub pack_told : List (List ℕ) → Windowing → Windowing × Answer
pack_told words own = (let there = pack_words words own.tree own.packs in (record own { packs = there.0 }, there.1))

-- whether the words behind `pack` are those of `pack propagate`
abbrev pub asks_propagation : List (List ℕ) → Bool
asks_propagation [] = false
asks_propagation (word ∷ words) = bytes_eq word (codes "propagate")

-- what is on the screen then, and the answer
abbrev pub with_windowing : Panel → Store → Windowing × Answer → Done
with_windowing panel store there = done (record panel { windowing = there.0 }) store (outcome_of there.1)

abbrev pub with_windows : Panel → windows.Done → Done
with_windows panel there = done (record panel { windowing = there.own }) there.store (outcome_of there.answer)

unfoldable pub screen_command_named : List ℕ → Option ScreenCommand
screen_command_named name = if bytes_eq name (codes "pack") then Some Pack else option_map Window (window_command_named name)

unfoldable pub screen_command_done : ScreenCommand → List (List ℕ) → Panel → Store → Done
screen_command_done (Window command) words panel store = with_windows panel (window_command_done command words panel.windowing store)
screen_command_done Pack words panel store = with_windowing panel store (pack_told words panel.windowing)
