-- Meaning. The numbers of faults of texts, scripts and variables; want of memory has none.
use Rattle.std.specs.Prelude.{ℕ, Option, Some, None}
use Rattle.tcl_text.specs.declared.fault.TextFault.{TextFault}
use Rattle.tcl_text.specs.declared.fault.TextFault.TheVariants as text
use Rattle.tcl_text.specs.declared.fault.SplitFault.{SplitFault}
use Rattle.tcl_text.specs.declared.fault.SplitFault.TheVariants as split
use Rattle.tcl_text.specs.declared.fault.EditFault.{EditFault}
use Rattle.tcl_text.specs.declared.fault.EditFault.TheVariants as edit
use Rattle.tcl_text.specs.declared.fault.ParseFault.{ParseFault}
use Rattle.tcl_text.specs.declared.fault.ParseFault.TheVariants as parse
use Rattle.tcl_text.specs.declared.fault.ReadFault.{ReadFault}
use Rattle.tcl_text.specs.declared.fault.ReadFault.TheVariants as read
use Rattle.tcl_text.specs.declared.fault.SetFault.{SetFault}
use Rattle.tcl_text.specs.declared.fault.SetFault.TheVariants as set
use Rattle.tcl_text.specs.declared.fault.ChangeFault.{ChangeFault}
use Rattle.tcl_text.specs.declared.fault.ChangeFault.TheVariants as change
use Rattle.tcl_text.specs.declared.fault.UnsetFault.{UnsetFault}
use Rattle.tcl_text.specs.declared.fault.UnsetFault.TheVariants as unset
use Rattle.tcl_text.specs.declared.fault.LinkFault.{LinkFault}
use Rattle.tcl_text.specs.declared.fault.LinkFault.TheVariants as link

-- a text is no integer, no boolean, no list
abbrev pub not_integer_number : ℕ
not_integer_number = 1

abbrev pub not_boolean_number : ℕ
not_boolean_number = 2

abbrev pub bad_list_number : ℕ
bad_list_number = 3

-- why a text isn't made
abbrev pub text_number : TextFault → Option ℕ
text_number text.TooLong = Some 4
text_number text.NoMemory = None

-- why it isn't split
abbrev pub split_number : SplitFault → Option ℕ
split_number (split.BadList fault) = Some bad_list_number
split_number split.NoMemory = None

-- why it isn't changed
abbrev pub edit_number : EditFault → Option ℕ
edit_number edit.TooLong = Some 4
edit_number (edit.BadList fault) = Some bad_list_number
edit_number edit.NoMemory = None

-- why a text is no script
abbrev pub parse_number : ParseFault → Option ℕ
parse_number parse.TooLong = Some 4
parse_number parse.MissingBrace = Some 5
parse_number parse.MissingBracket = Some 6
parse_number parse.MissingQuote = Some 7
parse_number parse.ExtraAfterBrace = Some 8
parse_number parse.ExtraAfterQuote = Some 9
parse_number parse.MissingParen = Some 10
parse_number parse.NoMemory = None

-- why a variable can't be read
abbrev pub read_number : ReadFault → ℕ
read_number read.NoVariable = 15
read_number read.NoElement = 16
read_number read.IsArray = 17
read_number read.NotArray = 18

-- why it can't be set
abbrev pub set_number : SetFault → Option ℕ
set_number set.IsArray = Some 17
set_number set.NotArray = Some 18
set_number set.Full = Some 19
set_number set.NoMemory = None

-- why its text can't be changed
abbrev pub change_number : ChangeFault → Option ℕ
change_number (change.Unread fault) = Some (read_number fault)
change_number change.TooLong = Some 4
change_number (change.BadList fault) = Some 3
change_number change.NoMemory = None

-- why it can't be unset
abbrev pub unset_number : UnsetFault → Option ℕ
unset_number unset.NoVariable = Some 15
unset_number unset.NoElement = Some 16
unset_number unset.NotArray = Some 18
unset_number unset.NoMemory = None

-- why a link can't be made
abbrev pub link_number : LinkFault → Option ℕ
link_number link.BadName = None
link_number link.Exists = None
link_number link.Full = Some 19
link_number link.NoMemory = None
