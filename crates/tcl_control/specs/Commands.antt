-- Meaning. The commands that run scripts or change how they run: for each, what it does with its words.
use Rattle.std.specs.Prelude.{ℕ, ◌+◌, ◌-◌, ◌||◌, ◌&&◌, nat_lt, nat_eq, Bool, true, false, ℤ, pos, negsuc, List, [], ◌∷◌, ◌++◌, length, drop, slice_index_or, if◌then◌else◌, Option, Some, None, Result, Ok, Err, codes, bytes_eq}
use Rattle.std.specs.List.{starts_with}
use Rattle.std.specs.Fmt.{decimal}
use Rattle.tcl_text.specs.Answers.{Answer}
use Rattle.tcl_text.specs.Bytes.{hash}
use Rattle.tcl_text.specs.Readings.{integer_of}
use Rattle.tcl_text.specs.StringCommands.{concat_words}
use Rattle.tcl_words.specs.Classes.{is_digit}
use Rattle.tcl_vars.specs.Store.{Store, with_variable}
use Rattle.tcl_commands.specs.Values.{exists_words}
use Rattle.tcl_text.specs.declared.fault.SetFault.{SetFault}
use Rattle.tcl_control.specs.declared.code.Code.{Code}
use Rattle.tcl_control.specs.declared.code.Code.TheVariants.{Normal, Error, Return, Break, Continue}
use Rattle.tcl_control.specs.declared.code.ReturnCode.{ReturnCode}
use Rattle.tcl_control.specs.declared.code.ReturnCode.TheVariants.{Normal as AsNormal, Error as AsError, Return as AsReturn, Break as AsBreak, Continue as AsContinue}
use Rattle.tcl_control.specs.declared.plan.Plan.{Plan}
use Rattle.tcl_control.specs.declared.plan.Plan.TheVariants.{Ends, Runs, Catches, RunsAt, Evaluates, Loops, Starts}
use Rattle.tcl_control.specs.declared.loops.Test.TheVariants.{Holds, Items}
use Rattle.tcl_control.specs.declared.loops.Loop.{Loop}
use Rattle.tcl_commands.specs.Groups.{groups_of, has_body}
use Rattle.tcl_commands.specs.declared.groups.Group.{Group}
use Rattle.tcl_control.specs.declared.usages.Usage.{Usage}
use Rattle.tcl_control.specs.declared.usages.Usage.TheVariants as usage
use Rattle.tcl_control.specs.Usages.{misused_text}
use Rattle.tcl_table.specs.Texts.{cannot_set_text}
use Rattle.tcl_text.specs.Messages.{bad_option_text, message, quoted}

abbrev pub failed_plan : List ℕ → Plan
failed_plan text = Ends Error text

-- a wrong number of words
unfoldable pub misused : Usage → Plan
misused how = failed_plan (misused_text how)

-- a word that is no option
abbrev pub bad_option_plan : List ℕ → Plan
bad_option_plan word = failed_plan (message (bad_option_text word))

-- ── codes ──

abbrev pub break_plan : List (List ℕ) → Plan
break_plan [] = Ends Break []
break_plan _ = misused usage.Break

abbrev pub continue_plan : List (List ℕ) → Plan
continue_plan [] = Ends Continue []
continue_plan _ = misused usage.Continue

-- error message
abbrev pub error_plan : List (List ℕ) → Plan
error_plan (text ∷ []) = failed_plan text
error_plan _ = misused usage.Error

-- the code of a number
abbrev pub code_numbered : ℕ → Option ReturnCode
code_numbered number =
    if nat_eq number 0 then Some AsNormal
    else (if nat_eq number 1 then Some AsError
    else (if nat_eq number 2 then Some AsReturn
    else (if nat_eq number 3 then Some AsBreak
    else (if nat_eq number 4 then Some AsContinue
    else None))))

abbrev pub code_of_integer : Option ℤ → Option ReturnCode
code_of_integer (Some (pos number)) = code_numbered number
code_of_integer (Some (negsuc number)) = None
code_of_integer None = None

-- a completion code, by its name or as a number
abbrev pub code_of : List ℕ → Option ReturnCode
code_of word =
    if bytes_eq word (codes "ok") then Some AsNormal
    else (if bytes_eq word (codes "error") then Some AsError
    else (if bytes_eq word (codes "return") then Some AsReturn
    else (if bytes_eq word (codes "break") then Some AsBreak
    else (if bytes_eq word (codes "continue") then Some AsContinue
    else code_of_integer (integer_of word)))))

abbrev pub returns_code : List ℕ → List ℕ → Option ReturnCode → Plan
returns_code word text (Some code) = Ends (Return code) text
returns_code word text None = failed_plan (message (codes "bad completion code " ++ quoted word))

unfoldable pub returns_as : List ℕ → List ℕ → List ℕ → Plan
returns_as option word text =
    if bytes_eq option (codes "-code") then returns_code word text (code_of word)
    else bad_option_plan option

-- return ?-code code? ?value?
abbrev pub return_plan : List (List ℕ) → Plan
return_plan [] = Ends (Return AsNormal) []
return_plan (text ∷ []) = if bytes_eq text (codes "-code") then failed_plan (codes "value for \"-code\" missing") else Ends (Return AsNormal) text
return_plan (option ∷ word ∷ []) = returns_as option word []
return_plan (option ∷ word ∷ text ∷ []) = returns_as option word text
return_plan _ = misused usage.Return

-- ── scripts ──

-- catch script ?name?
abbrev pub catch_plan : List (List ℕ) → Plan
catch_plan (script ∷ []) = Catches script None
catch_plan (script ∷ name ∷ []) = Catches script (Some name)
catch_plan _ = misused usage.Catch

-- words joined to one script
abbrev pub on_joined : (List ℕ → Plan) → Answer → Plan
on_joined run (Ok script) = run script
on_joined run (Err text) = failed_plan text

-- eval arg ?arg ..?
abbrev pub eval_plan : List (List ℕ) → Plan
eval_plan [] = misused usage.Eval
eval_plan (word ∷ words) = on_joined Runs (concat_words (word ∷ words))

-- expr arg ?arg ..?
abbrev pub expr_plan : List (List ℕ) → Plan
expr_plan [] = misused usage.Expr
expr_plan (word ∷ words) = on_joined Evaluates (concat_words (word ∷ words))

-- while cond body
abbrev pub while_plan : List (List ℕ) → Plan
while_plan (condition ∷ body ∷ []) = Loops (record { test = Holds condition; body = body; next = None })
while_plan _ = misused usage.While

-- for start cond next body
abbrev pub for_plan : List (List ℕ) → Plan
for_plan (start ∷ condition ∷ next ∷ body ∷ []) = Starts start (record { test = Holds condition; body = body; next = Some next })
for_plan _ = misused usage.For

-- the names and items of `foreach`, or an error
abbrev pub each_plan : List ℕ → Result (List Group) (List ℕ) → Plan
each_plan body (Ok groups) = Loops (record { test = Items groups; body = body; next = None })
each_plan body (Err text) = failed_plan text

abbrev pub last_of : List (List ℕ) → List ℕ
last_of words = slice_index_or words (length words - 1) []

-- foreach names list ?names list ..? body
abbrev pub foreach_plan : List (List ℕ) → Plan
foreach_plan words =
    if has_body words && nat_lt 2 (length words) then each_plan (last_of words) (groups_of words)
    else misused usage.Foreach

-- ── levels ──

-- the first word of uplevel is a level where it begins with a digit or `#`
abbrev pub is_level : List ℕ → Bool
is_level [] = false
is_level (byte ∷ bytes) = is_digit byte || nat_eq byte hash

-- a number from 0 on
abbrev pub unsigned_of : Option ℤ → Option ℕ
unsigned_of (Some (pos number)) = Some number
unsigned_of (Some (negsuc number)) = None
unsigned_of None = None

abbrev pub absolute : ℕ → Option ℕ → Option ℕ
absolute count (Some number) = if nat_lt number count then Some (number + 1) else None
absolute count None = None

abbrev pub relative : ℕ → Option ℕ → Option ℕ
relative count (Some number) = if nat_lt number count then Some (count - number) else None
relative count None = None

-- How many of so many levels a word leaves: `#N` counts from the global level along the callers, and N up from the own one.
abbrev pub levels_left : ℕ → List ℕ → Option ℕ
levels_left count word =
    if starts_with nat_eq word (codes "#") then absolute count (unsigned_of (integer_of (drop 1 word))) else relative count (unsigned_of (integer_of word))

-- there is no such level
abbrev pub bad_level : List ℕ → List ℕ
bad_level word = message (codes "bad level " ++ quoted word)

abbrev pub runs_at : List ℕ → List (List ℕ) → Option ℕ → Plan
runs_at word words (Some count) = on_joined (RunsAt count) (concat_words words)
runs_at word words None = failed_plan (bad_level word)

-- one level up
abbrev pub runs_up : ℕ → List (List ℕ) → Plan
runs_up count words = runs_at (codes "1") words (relative count (Some 1))

abbrev pub runs_up_at : ℕ → List ℕ → List (List ℕ) → Plan
runs_up_at count word [] = misused usage.Uplevel
runs_up_at count word (other ∷ words) = runs_at word (other ∷ words) (levels_left count word)

-- uplevel ?level? arg ?arg ..?
abbrev pub uplevel_plan : ℕ → List (List ℕ) → Plan
uplevel_plan count [] = misused usage.Uplevel
uplevel_plan count (word ∷ words) = if is_level word then runs_up_at count word words else runs_up count (word ∷ words)

-- info level
abbrev pub level_plan : ℕ → List (List ℕ) → Plan
level_plan count [] = Ends Normal (message (decimal (count - 1)))
level_plan count _ = misused usage.InfoLevel

-- a command that answers this
abbrev pub texts_plan : Answer → Plan
texts_plan (Ok text) = Ends Normal text
texts_plan (Err text) = failed_plan text

-- info option ?arg ..?
abbrev pub info_plan : ℕ → ℕ → Store → List (List ℕ) → Plan
info_plan count frame store [] = misused usage.Info
info_plan count frame store (option ∷ words) =
    if bytes_eq option (codes "level") then level_plan count words
    else (if bytes_eq option (codes "exists") then texts_plan (exists_words frame words store)
    else bad_option_plan option)

-- ── variables ──

-- what a command that changes variables leaves of them, and how it ends
pub record Ending : Type 0 where
  pub store : Store
  pub code : Code
  pub text : List ℕ

-- ── catch ──

abbrev pub code_number : Code → List ℕ
code_number Normal = codes "0"
code_number Error = codes "1"
code_number (Return code) = codes "2"
code_number Break = codes "3"
code_number Continue = codes "4"

abbrev pub stored_ending : List ℕ → List ℕ → Store → Result Store SetFault → Ending
stored_ending number name store (Ok changed) = record { store = changed; code = Normal; text = number }
stored_ending number name store (Err fault) = record { store = store; code = Error; text = cannot_set_text name fault }

-- a script has ended so: its code is answered, and its result is put into the variable
abbrev pub caught_ending : ℕ → Option (List ℕ) → Code → List ℕ → Store → Ending
caught_ending frame None code text store = record { store = store; code = Normal; text = code_number code }
caught_ending frame (Some name) code text store = stored_ending (code_number code) name store (with_variable store frame name text)
