-- Meaning. What the options of `event generate` say.
use Rattle.std.specs.Prelude.{ℕ, List, [], ◌∷◌, Option, Some, None, Result, Ok, codes}
use Rattle.tcl_text.specs.Answers.{◌>>=◌}
use Rattle.tk_options.specs.declared.fault.OptionFault.TheVariants.{UnknownOption, NoValue}
use Rattle.tk_sequences.specs.Lookup.{looked_up}
use Rattle.tk_generate.specs.declared.given.GenerateOption.{GenerateOption}
use Rattle.tk_generate.specs.declared.given.GenerateOption.TheVariants.{When, X, Y, Button, State, Keysym, Data}
use Rattle.tk_generate.specs.declared.given.Given.{Given}
use Rattle.tk_generate.specs.declared.given.When.TheVariants.{Now}
use Rattle.tk_generate.specs.Refusals.{option_refused}
use Rattle.tk_generate.specs.Values.{button_in, coordinate_in, keysym_in, state_in, when_in}

-- the names of options, which are taken whole
abbrev pub option_names : List (List ℕ × GenerateOption)
option_names =
    (codes "-when", When)
    ∷ (codes "-x", X)
    ∷ (codes "-y", Y)
    ∷ (codes "-button", Button)
    ∷ (codes "-state", State)
    ∷ (codes "-keysym", Keysym)
    ∷ (codes "-data", Data)
    ∷ []

abbrev pub option_named : List ℕ → Option GenerateOption
option_named name = looked_up name option_names

abbrev pub option_or_fault : List ℕ → Option GenerateOption → Result GenerateOption (List ℕ)
option_or_fault name (Some option) = Ok option
option_or_fault name None = option_refused (UnknownOption name)

abbrev pub option_in : List ℕ → Result GenerateOption (List ℕ)
option_in name = option_or_fault name (option_named name)

-- no options
abbrev pub nothing_given : Given
nothing_given = record { when = Now; x = None; y = None; button = None; state = None; keysym = None; detail = None }

-- with one option more, if it takes the value
abbrev pub with_value : GenerateOption → List ℕ → List ℕ → Given → Result Given (List ℕ)
with_value When name value given = do
  when ← when_in name value
  Ok (record given { when = when })
with_value X name value given = do
  x ← coordinate_in name value
  Ok (record given { x = Some x })
with_value Y name value given = do
  y ← coordinate_in name value
  Ok (record given { y = Some y })
with_value Button name value given = do
  button ← button_in name value
  Ok (record given { button = Some button })
with_value State name value given = do
  state ← state_in name value
  Ok (record given { state = Some state })
with_value Keysym name value given = do
  keysym ← keysym_in value
  Ok (record given { keysym = Some keysym })
with_value Data name value given = Ok (record given { detail = Some value })

-- options with their values, from left to right, after those before them
abbrev pub given_from : List (List ℕ) → Given → Result Given (List ℕ)
given_from [] given = Ok given
given_from (name ∷ []) given = do
  _ ← option_in name
  option_refused (NoValue name)
given_from (name ∷ value ∷ words) given = do
  option ← option_in name
  more ← with_value option name value given
  given_from words more
