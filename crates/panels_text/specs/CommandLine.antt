-- Meaning. What the words of the command line ask for.
use Rattle.std.specs.Prelude.{ℕ, Bool, true, false, not, ◌&&◌, ◌||◌, ◌==◌, nat_le, if◌then◌else◌, List, ◌∷◌, length, codes, Option, None, Some, is_some, String}
use Rattle.std.specs.Str.{bytes_eq}
use Rattle.std.specs.String.{string_bytes}
use Rattle.std.specs.declared.alloc.Global.{Global}
use Rattle.panels_text.specs.declared.options.Command.{Command}
use Rattle.panels_text.specs.declared.options.Command.TheVariants.{Check, Run, Session, Accept, New, Explain, Lint, Live, Draw, Show}
use Rattle.panels_text.specs.declared.options.Format.{Format}
use Rattle.panels_text.specs.declared.options.Format.TheVariants.{Text}
use Rattle.panels_text.specs.declared.options.Options.{Options}

abbrev pub command_named : List ℕ → Option Command
command_named word =
    if bytes_eq word (codes "check") then Some Check
    else if bytes_eq word (codes "run") then Some Run
    else if bytes_eq word (codes "session") then Some Session
    else if bytes_eq word (codes "accept") then Some Accept
    else if bytes_eq word (codes "new") then Some New
    else if bytes_eq word (codes "explain") then Some Explain
    else if bytes_eq word (codes "lint") then Some Lint
    else if bytes_eq word (codes "live") then Some Live
    else if bytes_eq word (codes "draw") then Some Draw
    else if bytes_eq word (codes "show") then Some Show
    else None

-- the command stands behind the program's name
abbrev pub command_at : List (String Global) → Option Command
command_at (program ∷ word ∷ others) = command_named (string_bytes word)
command_at _ = None

abbrev pub is_text : Format → Bool
is_text Text = true
is_text _ = false

-- something is said that only a check does
abbrev pub checks : Options → Bool
checks options = not (is_text options.format) || (is_some options.shard || options.isolates)

abbrev pub is_plain : Options → Bool
is_plain options = not (checks options) && not options.traces

-- no picture or page is asked for
abbrev pub draws_none : Options → Bool
draws_none options = not (is_some options.at) && not (is_some options.to)

-- as many files as a command wants, and nothing that isn't its own
abbrev pub fits : Command → ℕ → Options → Bool
fits Check count options = nat_le 1 count && (not options.traces && draws_none options)
fits Accept count options = nat_le 1 count && (is_plain options && draws_none options)
fits Lint count options = nat_le 1 count && (is_plain options && draws_none options)
fits Live count options = count == 0 && (is_plain options && draws_none options)
fits Draw count options = count == 1 && (is_plain options && (is_some options.at && is_some options.to))
fits Show count options = count == 1 && (is_plain options && (not (is_some options.at) && is_some options.to))
fits Run count options = count == 1 && (not (checks options) && draws_none options)
fits Session count options = count == 1 && (is_plain options && draws_none options)
fits New count options = count == 1 && (is_plain options && draws_none options)
fits Explain count options = count == 1 && (is_plain options && draws_none options)

abbrev pub is_fit : Options → Bool
is_fit options = fits options.command (length options.files.items) options
