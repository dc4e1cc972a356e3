-- Meaning. What a script is told of faults of texts, scripts and variables. Want of memory has no such text: it is empty. A reason is what a
-- fault shows by itself.
use Rattle.std.specs.Prelude.{ℕ, List, [], ◌∷◌, ◌++◌, codes}
use Rattle.tcl_text.specs.Messages.{bad_name_text, limit_text, quoted}
use Rattle.tcl_text.specs.declared.fault.ListFault.{ListFault}
use Rattle.tcl_text.specs.declared.fault.ListFault.TheVariants as lists
use Rattle.tcl_text.specs.declared.fault.TextFault.{TextFault}
use Rattle.tcl_text.specs.declared.fault.TextFault.TheVariants as values
use Rattle.tcl_text.specs.declared.fault.SplitFault.{SplitFault}
use Rattle.tcl_text.specs.declared.fault.SplitFault.TheVariants as splits
use Rattle.tcl_text.specs.declared.fault.EditFault.{EditFault}
use Rattle.tcl_text.specs.declared.fault.EditFault.TheVariants as edits
use Rattle.tcl_text.specs.declared.fault.ParseFault.{ParseFault}
use Rattle.tcl_text.specs.declared.fault.ParseFault.TheVariants as parse
use Rattle.tcl_text.specs.declared.fault.ReadFault.{ReadFault}
use Rattle.tcl_text.specs.declared.fault.ReadFault.TheVariants as reads
use Rattle.tcl_text.specs.declared.fault.SetFault.{SetFault}
use Rattle.tcl_text.specs.declared.fault.SetFault.TheVariants as sets
use Rattle.tcl_text.specs.declared.fault.ChangeFault.{ChangeFault}
use Rattle.tcl_text.specs.declared.fault.ChangeFault.TheVariants as changes
use Rattle.tcl_text.specs.declared.fault.UnsetFault.{UnsetFault}
use Rattle.tcl_text.specs.declared.fault.UnsetFault.TheVariants as unsets
use Rattle.tcl_text.specs.declared.fault.LinkFault.{LinkFault}
use Rattle.tcl_text.specs.declared.fault.LinkFault.TheVariants as links

-- a text is no integer, and no boolean
abbrev pub integer_text : List ℕ → List ℕ
integer_text word = codes "expected integer but got " ++ quoted word

abbrev pub boolean_text : List ℕ → List ℕ
boolean_text word = codes "expected boolean value but got " ++ quoted word

-- why a text is no list
abbrev pub list_text : ListFault → List ℕ
list_text lists.OpenBrace = codes "unmatched open brace in list"
list_text lists.OpenQuote = codes "unmatched open quote in list"
list_text lists.ExtraCharacters = codes "extra characters after list element"

-- why a text isn't made, split or changed
abbrev pub value_text : TextFault → List ℕ
value_text values.TooLong = limit_text
value_text values.NoMemory = []

abbrev pub split_fault_text : SplitFault → List ℕ
split_fault_text (splits.BadList fault) = list_text fault
split_fault_text splits.NoMemory = []

abbrev pub edit_text : EditFault → List ℕ
edit_text edits.TooLong = limit_text
edit_text (edits.BadList fault) = list_text fault
edit_text edits.NoMemory = []

-- why a text is no script
abbrev pub parse_text : ParseFault → List ℕ
parse_text parse.TooLong = limit_text
parse_text parse.MissingBrace = codes "missing close-brace"
parse_text parse.MissingBracket = codes "missing close-bracket"
parse_text parse.MissingQuote = codes "missing \""
parse_text parse.ExtraAfterBrace = codes "extra characters after close-brace"
parse_text parse.ExtraAfterQuote = codes "extra characters after close-quote"
parse_text parse.MissingParen = codes "missing )"
parse_text parse.NoMemory = []

-- why something can't be done with a variable
abbrev pub cannot : List ℕ → List ℕ → List ℕ → List ℕ
cannot verb name reason = codes "can't " ++ verb ++ codes " \"" ++ name ++ codes "\": " ++ reason

abbrev pub no_variable : List ℕ
no_variable = codes "no such variable"

abbrev pub no_element : List ℕ
no_element = codes "no such element in array"

abbrev pub is_array : List ℕ
is_array = codes "variable is array"

abbrev pub not_array : List ℕ
not_array = codes "variable isn't array"

abbrev pub no_room : List ℕ
no_room = codes "limit reached: variables"

-- of which no script is told
abbrev pub no_memory_text : List ℕ
no_memory_text = codes "out of memory"

-- what a fault of this text shows by itself: one without a text is want of memory
abbrev pub fault_shown : List ℕ → List ℕ
fault_shown [] = no_memory_text
fault_shown (byte ∷ bytes) = byte ∷ bytes

abbrev pub read_reason : ReadFault → List ℕ
read_reason reads.NoVariable = no_variable
read_reason reads.NoElement = no_element
read_reason reads.IsArray = is_array
read_reason reads.NotArray = not_array

abbrev pub read_text : List ℕ → ReadFault → List ℕ
read_text name fault = cannot (codes "read") name (read_reason fault)

abbrev pub set_reason : SetFault → List ℕ
set_reason sets.IsArray = is_array
set_reason sets.NotArray = not_array
set_reason sets.Full = no_room
set_reason sets.NoMemory = no_memory_text

abbrev pub set_text : List ℕ → SetFault → List ℕ
set_text name sets.IsArray = cannot (codes "set") name is_array
set_text name sets.NotArray = cannot (codes "set") name not_array
set_text name sets.Full = no_room
set_text name sets.NoMemory = []

abbrev pub change_reason : ChangeFault → List ℕ
change_reason (changes.Unread fault) = read_reason fault
change_reason changes.TooLong = limit_text
change_reason (changes.BadList fault) = list_text fault
change_reason changes.NoMemory = no_memory_text

abbrev pub change_text : List ℕ → ChangeFault → List ℕ
change_text name (changes.Unread fault) = read_text name fault
change_text name changes.TooLong = limit_text
change_text name (changes.BadList fault) = list_text fault
change_text name changes.NoMemory = []

abbrev pub unset_reason : UnsetFault → List ℕ
unset_reason unsets.NoVariable = no_variable
unset_reason unsets.NoElement = no_element
unset_reason unsets.NotArray = not_array
unset_reason unsets.NoMemory = no_memory_text

abbrev pub unset_text : List ℕ → UnsetFault → List ℕ
unset_text name unsets.NoVariable = cannot (codes "unset") name no_variable
unset_text name unsets.NoElement = cannot (codes "unset") name no_element
unset_text name unsets.NotArray = cannot (codes "unset") name not_array
unset_text name unsets.NoMemory = []

abbrev pub link_reason : LinkFault → List ℕ
link_reason links.BadName = codes "bad name"
link_reason links.Exists = codes "variable exists"
link_reason links.Full = no_room
link_reason links.NoMemory = no_memory_text

abbrev pub link_text : List ℕ → LinkFault → List ℕ
link_text name links.BadName = bad_name_text name
link_text name links.Exists = codes "variable " ++ (quoted name ++ codes " already exists")
link_text name links.Full = no_room
link_text name links.NoMemory = []
