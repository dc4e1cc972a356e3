-- Meaning. The commands `puts`, `after`, `clock`, `update` and `destroy`, from the words behind their names.
use Rattle.std.specs.Prelude.{ℕ, List, [], ◌∷◌, Option, codes, if◌then◌else◌}
use Rattle.std.specs.Map.{lookup}
use Rattle.std.specs.Str.{bytes_eq}
use Rattle.tcl_text.specs.Answers.{bad_option, wrong_args}
use Rattle.tk_panel.specs.Commands.{after_told, clock_words, puts_words}
use Rattle.tk_panel.specs.Panel.{Panel}
use Rattle.tk_commands.specs.declared.moment.MomentCommand.{MomentCommand}
use Rattle.tk_commands.specs.declared.moment.MomentCommand.TheVariants as command
use Rattle.tk_commands.specs.declared.outcome.Begun.TheVariants.{Updates, UpdatesIdleTasks, Destroys}
use Rattle.tk_commands.specs.declared.outcome.CommandOutcome.{CommandOutcome}
use Rattle.tk_commands.specs.declared.outcome.CommandOutcome.TheVariants.{Begins}
use Rattle.tk_commands.specs.Outcomes.{Told, answered, outcome_of, told}

-- update idletasks
abbrev pub idle_words : List (List ℕ) → CommandOutcome
idle_words [] = Begins UpdatesIdleTasks
idle_words (word ∷ words) = outcome_of (wrong_args (codes "update ?idletasks?"))

-- update ?idletasks?
unfoldable pub update_words : List (List ℕ) → CommandOutcome
update_words [] = Begins Updates
update_words (option ∷ words) = if bytes_eq option (codes "idletasks") then idle_words words else outcome_of (bad_option option)

-- ---- by their names

abbrev pub moment_commands : List (List ℕ × MomentCommand)
moment_commands =
    (codes "puts", command.Puts)
    ∷ (codes "after", command.After)
    ∷ (codes "clock", command.Clock)
    ∷ (codes "update", command.Update)
    ∷ (codes "destroy", command.Destroy)
    ∷ []

unfoldable pub moment_command_named : List ℕ → Option MomentCommand
moment_command_named name = lookup (bytes_eq name) moment_commands

unfoldable pub moment_command_done : MomentCommand → List (List ℕ) → Panel → Told
moment_command_done command.Puts words panel = answered (puts_words words panel)
moment_command_done command.After words panel = answered (after_told words panel)
moment_command_done command.Clock words panel = answered (panel, clock_words words panel.moment)
moment_command_done command.Update words panel = told panel (update_words words)
moment_command_done command.Destroy words panel = told panel (Begins (Destroys words))
