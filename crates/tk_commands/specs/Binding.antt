-- Meaning. The commands `bind`, `bindtags`, `event` and `focus`, from the words behind their names.
use Rattle.std.specs.Prelude.{ℕ, List, [], ◌∷◌, Option, codes, if◌then◌else◌}
use Rattle.std.specs.Map.{lookup}
use Rattle.std.specs.Str.{bytes_eq}
use Rattle.tcl_text.specs.Answers.{Answer}
use Rattle.tk_bind_commands.specs.Bind.{bind_words}
use Rattle.tk_bind_commands.specs.Bindtags.{bindtags_words}
use Rattle.tk_bind_commands.specs.Event.{event_words}
use Rattle.tk_inputs.specs.Focus as focus
use Rattle.tk_panel.specs.Deliver.{arrivals_in}
use Rattle.tk_panel.specs.Panel.{Panel}
use Rattle.tk_commands.specs.declared.binding.BindingCommand.{BindingCommand}
use Rattle.tk_commands.specs.declared.binding.BindingCommand.TheVariants as command
use Rattle.tk_commands.specs.Dispatch.{generate_told}
use Rattle.tk_commands.specs.Outcomes.{Told, answered}
use Rattle.tk_screen.specs.Own.{Windowing}

abbrev pub bind_told : List (List ℕ) → Panel → Panel × Answer
bind_told words panel =
    (let there = bind_words panel.windowing.tree words panel.bindings in (record panel { bindings = there.0 }, there.1))

abbrev pub tags_told : List (List ℕ) → Windowing → Windowing × Answer
tags_told words own = (let there = bindtags_words words own.tree in (record own { tree = there.0 }, there.1))

abbrev pub bindtags_told : List (List ℕ) → Panel → Panel × Answer
bindtags_told words panel = (let there = tags_told words panel.windowing in (record panel { windowing = there.0 }, there.1))

-- add, delete, info
abbrev pub virtual_told : List (List ℕ) → Panel → Panel × Answer
virtual_told words panel = (let there = event_words words panel.virtuals in (record panel { virtuals = there.0 }, there.1))

-- event generate .., or another form
unfoldable pub event_told : List (List ℕ) → Panel → Told
event_told [] panel = answered (virtual_told [] panel)
event_told (name ∷ words) panel =
    if bytes_eq name (codes "generate") then generate_told words panel else answered (virtual_told (name ∷ words) panel)

abbrev pub with_focus : Panel → focus.Told → Panel × Answer
with_focus panel there = (record panel { input = there.arrivals.input; queue = there.arrivals.queue }, there.answer)

abbrev pub focus_told : List (List ℕ) → Panel → Panel × Answer
focus_told words panel = with_focus panel (focus.focus_words words panel.moment panel.windowing.tree (arrivals_in panel))

-- ---- by their names

abbrev pub binding_commands : List (List ℕ × BindingCommand)
binding_commands =
    (codes "bind", command.Bind) ∷ (codes "bindtags", command.Bindtags) ∷ (codes "event", command.Event) ∷ (codes "focus", command.Focus) ∷ []

unfoldable pub binding_command_named : List ℕ → Option BindingCommand
binding_command_named name = lookup (bytes_eq name) binding_commands

unfoldable pub binding_command_done : BindingCommand → List (List ℕ) → Panel → Told
binding_command_done command.Bind words panel = answered (bind_told words panel)
binding_command_done command.Bindtags words panel = answered (bindtags_told words panel)
binding_command_done command.Event words panel = event_told words panel
binding_command_done command.Focus words panel = answered (focus_told words panel)
