-- Meaning. The commands that choose one of several bodies: `if` and `switch`.
use Rattle.std.specs.Prelude.{◌||◌, ◌&&◌, ◌==◌, ◌-◌, length, slice_get, ℕ, Bool, true, false, List, [], ◌∷◌, if◌then◌else◌, Option, Some, None, Result, Ok, Err, codes, bytes_eq}
use Rattle.std.specs.Str.{chars}
use Rattle.tcl_text.specs.Glob.{glob_matches}
use Rattle.tcl_text.specs.Readings.{list_of}
use Rattle.tcl_text.specs.FaultTexts.{list_text}
use Rattle.tcl_text.specs.declared.fault.ListFault.{ListFault}
use Rattle.tcl_text.specs.One.{One}
use Rattle.tcl_commands.proofs.OneIf.{one_if}
use Rattle.tcl_commands.specs.Branches.{arms_of}
use Rattle.tcl_commands.specs.Shapes.{IsIfOrNone}
use Rattle.tcl_commands.specs.declared.branches.Branch.{Branch}
use Rattle.tcl_commands.specs.declared.branches.Choices.{Choices}
use Rattle.tcl_control.specs.declared.choices.Matching.{Matching}
use Rattle.tcl_control.specs.declared.choices.Matching.TheVariants.{Exact, Glob}
use Rattle.tcl_control.specs.declared.code.Code.TheVariants.{Normal}
use Rattle.tcl_control.specs.declared.plan.Plan.{Plan}
use Rattle.tcl_control.specs.declared.plan.Plan.TheVariants.{Ends, Runs, Chooses}
use Rattle.tcl_control.specs.declared.usages.Usage.TheVariants as usage
use Rattle.tcl_control.specs.Commands.{bad_option_plan, failed_plan, misused}
use Rattle.tcl_text.specs.Answers.{message}

-- ── if ──

abbrev pub if_by : Option Choices → Plan
if_by (Some choices) = Chooses choices
if_by None = misused usage.If

-- To the words of `if` one thing is related, choices or none, and no other. This type says what it is; the proof behind it says that it is there.
abbrev pub only_if : (words : List (List ℕ)) → One (IsIfOrNone words)
only_if words = one_if words

-- if cond ?then? body ?elseif cond ?then? body ..? ?else? ?body?
abbrev pub if_plan : List (List ℕ) → Plan
if_plan words = if_by (only_if words).it

-- ── switch ──

abbrev pub is_dash : List ℕ → Bool
is_dash body = bytes_eq body (codes "-")

-- the last body stands for the one behind it
abbrev pub is_open : Option Branch → Bool
is_open (Some arm) = is_dash arm.body
is_open None = false

abbrev pub ends_open : List Branch → Bool
ends_open arms = is_open (slice_get arms (length arms - 1))

abbrev pub matches : Matching → List ℕ → List ℕ → Bool
matches Exact pattern value = bytes_eq pattern value
matches Glob pattern value = glob_matches (chars pattern) (chars value)

-- a last pattern `default` matches all
abbrev pub takes : Matching → List ℕ → Branch → List Branch → Bool
takes matching value arm arms = matches matching arm.test value || ((length arms == 0) && bytes_eq arm.test (codes "default"))

-- the first body that stands for itself
abbrev pub body_of : List Branch → Plan
body_of [] = Ends Normal []
body_of (arm ∷ arms) = if is_dash arm.body then body_of arms else Runs arm.body

-- the body of the first arm that takes a value
abbrev pub arm_for : Matching → List ℕ → List Branch → Plan
arm_for matching value [] = Ends Normal []
arm_for matching value (arm ∷ arms) = if takes matching value arm arms then body_of (arm ∷ arms) else arm_for matching value arms

abbrev pub no_body : Plan
no_body = failed_plan (codes "extra switch pattern with no body")

abbrev pub by_arms : Matching → List ℕ → Option (List Branch) → Plan
by_arms matching value (Some arms) = if ends_open arms then no_body else arm_for matching value arms
by_arms matching value None = no_body

abbrev pub by_pairs : Matching → List ℕ → Result (List (List ℕ)) ListFault → Plan
by_pairs matching value (Ok items) = by_arms matching value (arms_of items)
by_pairs matching value (Err fault) = failed_plan (message (list_text fault))

abbrev pub switched : Matching → List ℕ → List ℕ → Plan
switched matching value pairs = by_pairs matching value (list_of pairs)

-- behind -exact or -glob
abbrev pub switched_past : Matching → List ℕ → List ℕ → List ℕ → Plan
switched_past matching option value pairs = if bytes_eq option (codes "--") then switched matching value pairs else bad_option_plan option

-- switch ?-exact|-glob? ?--? value pairs
abbrev pub switch_plan : List (List ℕ) → Plan
switch_plan (value ∷ pairs ∷ []) = switched Exact value pairs
switch_plan (option ∷ value ∷ pairs ∷ []) =
    if bytes_eq option (codes "-exact") then switched Exact value pairs
    else (if bytes_eq option (codes "-glob") then switched Glob value pairs
    else (if bytes_eq option (codes "--") then switched Exact value pairs
    else bad_option_plan option))
switch_plan (option ∷ other ∷ value ∷ pairs ∷ []) =
    if bytes_eq option (codes "-exact") then switched_past Exact other value pairs
    else (if bytes_eq option (codes "-glob") then switched_past Glob other value pairs
    else (if bytes_eq option (codes "--") then misused usage.Switch
    else bad_option_plan option))
switch_plan _ = misused usage.Switch
