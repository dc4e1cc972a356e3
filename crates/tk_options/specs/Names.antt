-- Meaning. What the options are called.
use Rattle.std.specs.Prelude.{ℕ, List, codes, if◌then◌else◌}
use Rattle.std.specs.Str.{bytes_eq}
use Rattle.tk_options.specs.declared.option.OptionName.{OptionName}
use Rattle.tk_options.specs.declared.option.OptionName.TheVariants.{Anchor, Background, BorderWidth, Command, Foreground, Height, PadX, PadY, Relief, SelectMode, State, Text, TextVariable, Width}

abbrev pub name_of : OptionName → List ℕ
name_of Anchor = codes "-anchor"
name_of Background = codes "-background"
name_of BorderWidth = codes "-borderwidth"
name_of Command = codes "-command"
name_of Foreground = codes "-foreground"
name_of Height = codes "-height"
name_of PadX = codes "-padx"
name_of PadY = codes "-pady"
name_of Relief = codes "-relief"
name_of SelectMode = codes "-selectmode"
name_of State = codes "-state"
name_of Text = codes "-text"
name_of TextVariable = codes "-textvariable"
name_of Width = codes "-width"

-- the name that a short name stands for, or the word itself
abbrev pub long_name : List ℕ → List ℕ
long_name word =
    if bytes_eq word (codes "-bd") then codes "-borderwidth"
    else (if bytes_eq word (codes "-bg") then codes "-background"
    else (if bytes_eq word (codes "-fg") then codes "-foreground"
    else word))
