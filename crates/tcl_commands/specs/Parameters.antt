-- Meaning. The parameters of procedures.
use Rattle.std.specs.Prelude.{ℕ, ◌==◌, nat_eq, Bool, false, ◌||◌, not, List, [], ◌∷◌, length, if◌then◌else◌, Option, Some, None, is_some, Result, Ok, Err, codes}
use Rattle.std.specs.List.{starts_with}
use Rattle.tcl_text.specs.Readings.{list_of}
use Rattle.tcl_text.specs.FaultTexts.{list_text}
use Rattle.tcl_text.specs.declared.fault.ListFault.{ListFault}
use Rattle.tcl_vars.specs.Name.{element_of}
use Rattle.tcl_commands.specs.declared.parameters.Parameter.{Parameter}
use Rattle.tcl_text.specs.Answers.{message}

-- `::` stands in a name
abbrev pub has_colons : List ℕ → Bool
has_colons [] = false
has_colons (byte ∷ bytes) = starts_with nat_eq (byte ∷ bytes) (codes "::") || has_colons bytes

-- a name of the form array(index) is an element's
abbrev pub is_element : List ℕ → Bool
is_element name = is_some (element_of name)

-- a parameter's name is a variable's of its frame
abbrev pub is_parameter_name : List ℕ → Bool
is_parameter_name name = not ((length name == 0) || is_element name || has_colons name)

abbrev pub bad_list : List ℕ
bad_list = codes "bad parameter list"

abbrev pub parameter_named : List ℕ → Option (List ℕ) → Result Parameter (List ℕ)
parameter_named name fallback = if is_parameter_name name then Ok (record { name = name; fallback = fallback }) else Err bad_list

-- a name, or a name and a default
abbrev pub parameter_parts : List (List ℕ) → Result Parameter (List ℕ)
parameter_parts (name ∷ []) = parameter_named name None
parameter_parts (name ∷ fallback ∷ []) = parameter_named name (Some fallback)
parameter_parts _ = Err bad_list

abbrev pub parameter_of : Result (List (List ℕ)) ListFault → Result Parameter (List ℕ)
parameter_of (Ok parts) = parameter_parts parts
parameter_of (Err fault) = Err (message (list_text fault))

abbrev pub behind_parameter : Result Parameter (List ℕ) → Result (List Parameter) (List ℕ) → Result (List Parameter) (List ℕ)
behind_parameter (Ok parameter) (Ok parameters) = Ok (parameter ∷ parameters)
behind_parameter (Ok parameter) (Err text) = Err text
behind_parameter (Err text) parameters = Err text

-- the parameters, or the first fault's text
abbrev pub parameters_of : List (List ℕ) → Result (List Parameter) (List ℕ)
parameters_of [] = Ok []
parameters_of (item ∷ items) = behind_parameter (parameter_of (list_of item)) (parameters_of items)

-- the parameters that a list gives
unfoldable pub parameters_in : Result (List (List ℕ)) ListFault → Result (List Parameter) (List ℕ)
parameters_in (Ok items) = parameters_of items
parameters_in (Err fault) = Err (message (list_text fault))
