-- A command that a script calls leaves the frames and the levels as they are, or it enters a procedure, whose frame and level come last; and links lead to
-- earlier frames.
use Rattle.std.proofs.Common.{◌≡◌, ℕ, zero, suc, ◌+◌, ◌-◌, ◌<◌, ◌⊎◌, inl, inr, Bool, true, false, cond, nat_lt, ltb-false, List, [], ◌∷◌, ◌++◌, length, length-append, length-take-le, take, drop, Option, Some, None, Result, Ok, Err, bytes_eq, codes, refl, ◌∙◌, arith}
use Rattle.std.specs.Prelude.{◌&&◌, nat_le}
use Rattle.tcl_text.specs.Answers.{Answer}
use Rattle.tcl_text.specs.Readings.{list_form, list_of}
use Rattle.tcl_text.specs.StringCommands.{concat_words}
use Rattle.tcl_text.specs.Commands.{command_answer}
use Rattle.tcl_text.specs.declared.fault.ListFault.{ListFault}
use Rattle.tcl_text.specs.declared.fault.SetFault.{SetFault}
use Rattle.tcl_vars.specs.Links.{AllBelow, FramesDescend}
use Rattle.tcl_vars.specs.Store.{Store, frame_at, with_variable}
use Rattle.tcl_vars.proofs.BelowLemmas.{FramesDescend-take}
use Rattle.tcl_table.specs.declared.builtin.Builtin.{Builtin as BuiltinName}
use Rattle.tcl_table.specs.declared.builtin.Builtin.TheVariants as builtin
use Rattle.tcl_table.specs.declared.command.Command.{Command}
use Rattle.tcl_table.specs.declared.command.Command.TheVariants as command
use Rattle.tcl_table.specs.declared.procedure.Procedure.{Procedure}
use Rattle.tcl_table.specs.Levels.{here, popped}
use Rattle.tcl_table.specs.Names.{plain_name}
use Rattle.tcl_table.specs.Table.{command_of}
use Rattle.tcl_commands.specs.Branches.{arms_of}
use Rattle.tcl_commands.specs.declared.branches.Branch.{Branch}
use Rattle.tcl_commands.specs.declared.branches.Choices.{Choices}
use Rattle.tcl_commands.specs.declared.groups.Group.{Group}
use Rattle.tcl_commands.specs.declared.parameters.Parameter.{Parameter}
use Rattle.tcl_commands.specs.Groups.{groups_of, has_body}
use Rattle.tcl_commands.specs.Values.{exists_words}
use Rattle.tcl_control.specs.Assign.{Assigned, on_set}
use Rattle.tcl_control.specs.Choices.{arm_for, body_of, by_arms, by_pairs, ends_open, if_by, if_plan, is_dash, no_body, only_if, switch_plan, switched, switched_past, takes}
use Rattle.tcl_control.specs.Commands.{bad_option_plan, break_plan, catch_plan, code_of, continue_plan, each_plan, error_plan, eval_plan, expr_plan, failed_plan, for_plan, foreach_plan, info_plan, is_level, last_of, level_plan, levels_left, misused, on_joined, relative, return_plan, returns_as, returns_code, runs_at, runs_up, runs_up_at, texts_plan, uplevel_plan, while_plan}
use Rattle.tcl_control.specs.Control.{Called, builtin_call, by_command, call_of, in_procedure, proc_call, recorded, recorded_plan, rename_call}
use Rattle.tcl_control.specs.declared.choices.Matching.{Matching}
use Rattle.tcl_control.specs.declared.choices.Matching.TheVariants.{Exact, Glob}
use Rattle.tcl_control.specs.declared.code.ReturnCode.{ReturnCode}
use Rattle.tcl_control.specs.declared.code.ReturnCode.TheVariants as return
use Rattle.tcl_control.specs.declared.code.Code.TheVariants.{Normal, Return}
use Rattle.tcl_control.specs.declared.context.Context.{Context}
use Rattle.tcl_control.specs.declared.control.Call.{Call}
use Rattle.tcl_control.specs.declared.control.Call.TheVariants as call
use Rattle.tcl_control.specs.declared.plan.Plan.{Plan}
use Rattle.tcl_control.specs.declared.plan.Plan.TheVariants as plan
use Rattle.tcl_control.specs.declared.usages.Usage.{Usage}
use Rattle.tcl_control.specs.declared.usages.Usage.TheVariants as usage
use Rattle.tcl_control.specs.Procedures.{Changed, by_entered, entered, entered_call, fits, is_rest, procedure_call, rest_set, table_changed, usage as usage_of, value_for, with_new_name, with_procedure}
use Rattle.tk_app.proofs.KeptByCommands.{command_kept, on_set_kept, upvar_ending_kept}
use Rattle.tk_app.proofs.KeptFrames.{Keeps, same, variable_set}

-- ── plans that enter no procedure ──

abbrev pub IsStill : Plan → Type 0
IsStill (plan.Ends code text) = Unit {0}
IsStill (plan.Runs script) = Unit {0}
IsStill (plan.Catches script name) = Unit {0}
IsStill (plan.RunsAt count script) = Unit {0}
IsStill (plan.Enters body) = ⊥
IsStill (plan.Evaluates expression) = Unit {0}
IsStill (plan.Chooses choices) = Unit {0}
IsStill (plan.Loops looping) = Unit {0}
IsStill (plan.Starts script looping) = Unit {0}

either_still : (b : Bool) (p q : Plan) → IsStill p → IsStill q → IsStill (cond b p q)
either_still true p q one other = one
either_still false p q one other = other

misused_still : (how : Usage) → IsStill (misused how)
unfolding misused
misused_still how = tt

break_still : (words : List (List ℕ)) → IsStill (break_plan words)
break_still [] = tt
break_still (word ∷ words) = misused_still usage.Break

continue_still : (words : List (List ℕ)) → IsStill (continue_plan words)
continue_still [] = tt
continue_still (word ∷ words) = misused_still usage.Continue

error_still : (words : List (List ℕ)) → IsStill (error_plan words)
error_still [] = misused_still usage.Error
error_still (text ∷ []) = tt
error_still (text ∷ word ∷ words) = misused_still usage.Error

code_still : (word text : List ℕ) (code : Option ReturnCode) → IsStill (returns_code word text code)
code_still word text (Some code) = tt
code_still word text None = tt

returns_still : (option word text : List ℕ) → IsStill (returns_as option word text)
unfolding returns_as
returns_still option word text = either_still (bytes_eq option (codes "-code")) (returns_code word text (code_of word)) (bad_option_plan option) (code_still word text (code_of word)) tt

return_still : (words : List (List ℕ)) → IsStill (return_plan words)
return_still [] = tt
return_still (text ∷ []) = either_still (bytes_eq text (codes "-code")) _ (plan.Ends (Return return.Normal) text) tt tt
return_still (option ∷ word ∷ []) = returns_still option word []
return_still (option ∷ word ∷ text ∷ []) = returns_still option word text
return_still (option ∷ word ∷ text ∷ other ∷ words) = misused_still usage.Return

catch_still : (words : List (List ℕ)) → IsStill (catch_plan words)
catch_still [] = misused_still usage.Catch
catch_still (script ∷ []) = tt
catch_still (script ∷ name ∷ []) = tt
catch_still (script ∷ name ∷ word ∷ words) = misused_still usage.Catch

joined_still : (run : List ℕ → Plan) → ((script : List ℕ) → IsStill (run script)) → (answer : Answer) → IsStill (on_joined run answer)
joined_still run still (Ok script) = still script
joined_still run still (Err text) = tt

eval_still : (words : List (List ℕ)) → IsStill (eval_plan words)
eval_still [] = misused_still usage.Eval
eval_still (word ∷ words) = joined_still plan.Runs (λ script. tt) (concat_words (word ∷ words))

expr_still : (words : List (List ℕ)) → IsStill (expr_plan words)
expr_still [] = misused_still usage.Expr
expr_still (word ∷ words) = joined_still plan.Evaluates (λ script. tt) (concat_words (word ∷ words))

while_still : (words : List (List ℕ)) → IsStill (while_plan words)
while_still [] = misused_still usage.While
while_still (condition ∷ []) = misused_still usage.While
while_still (condition ∷ body ∷ []) = tt
while_still (condition ∷ body ∷ word ∷ words) = misused_still usage.While

for_still : (words : List (List ℕ)) → IsStill (for_plan words)
for_still [] = misused_still usage.For
for_still (start ∷ []) = misused_still usage.For
for_still (start ∷ condition ∷ []) = misused_still usage.For
for_still (start ∷ condition ∷ next ∷ []) = misused_still usage.For
for_still (start ∷ condition ∷ next ∷ body ∷ []) = tt
for_still (start ∷ condition ∷ next ∷ body ∷ word ∷ words) = misused_still usage.For

each_still : (body : List ℕ) (groups : Result (List Group) (List ℕ)) → IsStill (each_plan body groups)
each_still body (Ok groups) = tt
each_still body (Err text) = tt

foreach_still : (words : List (List ℕ)) → IsStill (foreach_plan words)
foreach_still words =
    either_still (has_body words && nat_lt 2 (length words)) (each_plan (last_of words) (groups_of words)) (misused usage.Foreach) (each_still (last_of words) (groups_of words))
    (misused_still usage.Foreach)

if_still : (words : List (List ℕ)) → IsStill (if_plan words)
if_still words = by (only_if words).it
  where
    by : (choices : Option Choices) → IsStill (if_by choices)
    by (Some choices) = tt
    by None = misused_still usage.If

-- ── `switch` ──

body_still : (arms : List Branch) → IsStill (body_of arms)
body_still [] = tt
body_still (arm ∷ arms) = either_still (is_dash arm.body) (body_of arms) (plan.Runs arm.body) (body_still arms) tt

arm_still : (matching : Matching) (value : List ℕ) (arms : List Branch) → IsStill (arm_for matching value arms)
arm_still matching value [] = tt
arm_still matching value (arm ∷ arms) =
    either_still (takes matching value arm arms) (body_of (arm ∷ arms)) (arm_for matching value arms) (body_still (arm ∷ arms)) (arm_still matching value arms)

arms_still : (matching : Matching) (value : List ℕ) (arms : Option (List Branch)) → IsStill (by_arms matching value arms)
arms_still matching value (Some arms) = either_still (ends_open arms) no_body (arm_for matching value arms) tt (arm_still matching value arms)
arms_still matching value None = tt

pairs_still : (matching : Matching) (value : List ℕ) (items : Result (List (List ℕ)) ListFault) → IsStill (by_pairs matching value items)
pairs_still matching value (Ok items) = arms_still matching value (arms_of items)
pairs_still matching value (Err fault) = tt

switched_still : (matching : Matching) (value pairs : List ℕ) → IsStill (switched matching value pairs)
switched_still matching value pairs = pairs_still matching value (list_of pairs)

past_still : (matching : Matching) (option value pairs : List ℕ) → IsStill (switched_past matching option value pairs)
past_still matching option value pairs =
    either_still (bytes_eq option (codes "--")) (switched matching value pairs) (bad_option_plan option) (switched_still matching value pairs) tt

switch_still : (words : List (List ℕ)) → IsStill (switch_plan words)
switch_still [] = misused_still usage.Switch
switch_still (value ∷ []) = misused_still usage.Switch
switch_still (value ∷ pairs ∷ []) = switched_still Exact value pairs
switch_still (option ∷ value ∷ pairs ∷ []) =
    either_still (bytes_eq option (codes "-exact")) (switched Exact value pairs) _ (switched_still Exact value pairs)
    (either_still (bytes_eq option (codes "-glob")) (switched Glob value pairs) _ (switched_still Glob value pairs)
    (either_still (bytes_eq option (codes "--")) (switched Exact value pairs) (bad_option_plan option) (switched_still Exact value pairs) tt))
switch_still (option ∷ other ∷ value ∷ pairs ∷ []) =
    either_still (bytes_eq option (codes "-exact")) (switched_past Exact other value pairs) _ (past_still Exact other value pairs)
    (either_still (bytes_eq option (codes "-glob")) (switched_past Glob other value pairs) _ (past_still Glob other value pairs)
    (either_still (bytes_eq option (codes "--")) (misused usage.Switch) (bad_option_plan option) (misused_still usage.Switch) tt))
switch_still (option ∷ other ∷ value ∷ pairs ∷ word ∷ words) = misused_still usage.Switch

-- ── `uplevel`, `info` ──

runs_still : (word : List ℕ) (words : List (List ℕ)) (count : Option ℕ) → IsStill (runs_at word words count)
runs_still word words (Some count) = joined_still (plan.RunsAt count) (λ script. tt) (concat_words words)
runs_still word words None = tt

at_still : (count : ℕ) (word : List ℕ) (words : List (List ℕ)) → IsStill (runs_up_at count word words)
at_still count word [] = misused_still usage.Uplevel
at_still count word (other ∷ words) = runs_still word (other ∷ words) (levels_left count word)

uplevel_still : (count : ℕ) (words : List (List ℕ)) → IsStill (uplevel_plan count words)
uplevel_still count [] = misused_still usage.Uplevel
uplevel_still count (word ∷ words) =
    either_still (is_level word) (runs_up_at count word words) (runs_up count (word ∷ words)) (at_still count word words)
    (runs_still (codes "1") (word ∷ words) (relative count (Some 1)))

level_still : (count : ℕ) (words : List (List ℕ)) → IsStill (level_plan count words)
level_still count [] = tt
level_still count (word ∷ words) = misused_still usage.InfoLevel

texts_still : (answer : Answer) → IsStill (texts_plan answer)
texts_still (Ok text) = tt
texts_still (Err text) = tt

info_still : (count frame : ℕ) (store : Store) (words : List (List ℕ)) → IsStill (info_plan count frame store words)
info_still count frame store [] = misused_still usage.Info
info_still count frame store (option ∷ words) =
    either_still (bytes_eq option (codes "level")) (level_plan count words) _ (level_still count words)
    (either_still (bytes_eq option (codes "exists")) (texts_plan (exists_words frame words store)) (bad_option_plan option) (texts_still (exists_words frame words store)) tt)

-- ── calls ──

abbrev pub IsStillCall : Call → Type 0
IsStillCall (call.Plans plan) = IsStill plan
IsStillCall (call.Outside name) = Unit {0}
IsStillCall call.Unknown = Unit {0}

-- the levels and the frames are as before
pub record Stays (levels : List ℕ) (store : Store) (called : Called) : Type 0 where
  pub seen : called.context.levels ≡ levels
  pub kept : Keeps store called.store
  pub still : IsStillCall called.call

-- a procedure is entered: its frame and its level come last
pub record GoesIn (levels : List ℕ) (store : Store) (called : Called) : Type 0 where
  pub body : List ℕ
  pub enters : called.call ≡ call.Plans (plan.Enters body)
  pub seen : called.context.levels ≡ levels ++ length store ∷ []
  pub kept : Keeps (store ++ [] ∷ []) called.store

abbrev pub Does : List ℕ → Store → Called → Type 0
Does levels store called = Stays levels store called ⊎ GoesIn levels store called

module _ (store : Store) (context : Context) where
  abbrev Leaves : Called → Type 0
  Leaves called = Does context.levels store called

  stays_all : (p : Plan) → IsStill p → Leaves (record { store = store; context = context; call = call.Plans p })
  stays_all p still = inl (record { seen = refl; kept = same store; still = still })

  recorded_kept : (changed : Changed) → Leaves (recorded store context changed)
  recorded_kept changed = by changed.refused
    where
      by : (refused : Option (List ℕ)) → Leaves (record { store = store; context = record context { commands = changed.table }; call = call.Plans (recorded_plan refused) })
      by None = inl (record { seen = refl; kept = same store; still = tt })
      by (Some text) = inl (record { seen = refl; kept = same store; still = tt })

  proc_kept : (words : List (List ℕ)) → Leaves (proc_call words store context)
  proc_kept [] = stays_all (misused usage.Proc) (misused_still usage.Proc)
  proc_kept (name ∷ []) = stays_all (misused usage.Proc) (misused_still usage.Proc)
  proc_kept (name ∷ parameters ∷ []) = stays_all (misused usage.Proc) (misused_still usage.Proc)
  proc_kept (name ∷ parameters ∷ body ∷ []) = recorded_kept (table_changed context.commands (with_procedure context.commands name parameters body))
  proc_kept (name ∷ parameters ∷ body ∷ word ∷ words) = stays_all (misused usage.Proc) (misused_still usage.Proc)

  rename_kept : (words : List (List ℕ)) → Leaves (rename_call words store context)
  rename_kept [] = stays_all (misused usage.Rename) (misused_still usage.Rename)
  rename_kept (old ∷ []) = stays_all (misused usage.Rename) (misused_still usage.Rename)
  rename_kept (old ∷ new ∷ []) = recorded_kept (table_changed context.commands (with_new_name context.commands old new))
  rename_kept (old ∷ new ∷ word ∷ words) = stays_all (misused usage.Rename) (misused_still usage.Rename)

  builtin_kept : (named : BuiltinName) (words : List (List ℕ)) → Leaves (builtin_call named words store context)
  builtin_kept builtin.Break words = stays_all (break_plan words) (break_still words)
  builtin_kept builtin.Catch words = stays_all (catch_plan words) (catch_still words)
  builtin_kept builtin.Continue words = stays_all (continue_plan words) (continue_still words)
  builtin_kept builtin.Error words = stays_all (error_plan words) (error_still words)
  builtin_kept builtin.Eval words = stays_all (eval_plan words) (eval_still words)
  builtin_kept builtin.Expr words = stays_all (expr_plan words) (expr_still words)
  builtin_kept builtin.For words = stays_all (for_plan words) (for_still words)
  builtin_kept builtin.Foreach words = stays_all (foreach_plan words) (foreach_still words)
  builtin_kept builtin.If words = stays_all (if_plan words) (if_still words)
  builtin_kept builtin.Info words =
      stays_all (info_plan (length context.levels) (here context.levels store) store words) (info_still (length context.levels) (here context.levels store) store words)
  builtin_kept builtin.Proc words = proc_kept words
  builtin_kept builtin.Rename words = rename_kept words
  builtin_kept builtin.Return words = stays_all (return_plan words) (return_still words)
  builtin_kept builtin.Switch words = stays_all (switch_plan words) (switch_still words)
  builtin_kept builtin.Uplevel words = stays_all (uplevel_plan (length context.levels) words) (uplevel_still (length context.levels) words)
  builtin_kept builtin.Upvar words = inl (record { seen = refl; kept = upvar_ending_kept context.levels words store; still = tt })
  builtin_kept (builtin.Variable named) words = inl (record { seen = refl; kept = command_kept named (here context.levels store) words store; still = tt })
  builtin_kept builtin.While words = stays_all (while_plan words) (while_still words)

-- ── procedures ──

pushed_below : (base : ℕ) (store : Store) (level : ℕ) → AllBelow base (frame_at store level) → AllBelow base (frame_at (store ++ [] ∷ []) level)
pushed_below base [] zero held = tt
pushed_below base [] (suc level) held = tt
pushed_below base (f ∷ fs) zero held = held
pushed_below base (f ∷ fs) (suc level) held = pushed_below base fs level held

-- with a frame more, without variables
pub descend_pushed : (store : Store) → FramesDescend store → FramesDescend (store ++ [] ∷ [])
descend_pushed store down level = pushed_below level store level (down level)

pub descend_popped : (store : Store) → FramesDescend store → FramesDescend (popped store)
descend_popped store down = by (nat_lt 1 (length store))
  where
    by : (b : Bool) → FramesDescend (cond b (take (length store - 1) store) store)
    by true = FramesDescend-take (length store - 1) store down
    by false = down

-- where there are two frames at least, one is gone
pub length_popped : (store : Store) → 1 < length store → length (popped store) + 1 ≡ length store
length_popped store more = by (nat_lt 1 (length store)) refl
  where
    by : (b : Bool) → nat_lt 1 (length store) ≡ b → length (popped store) + 1 ≡ length store
    by true is = rw is (omega (arith, more, length-take-le (length store - 1) store (omega arith)))
    by false is = absurd (omega (arith, more, ltb-false 1 (length store) is))

pub popped_kept : (old new : Store) → 0 < length old → Keeps (old ++ [] ∷ []) new → Keeps old (popped new)
popped_kept old new rooted kept =
    let long : length new ≡ length old + 1 = kept.frames ∙ length-append old ([] ∷ []) in
    record {
      frames = omega (arith, rooted, long, length_popped new (omega (arith, rooted, long)));
      earlier = λ down. descend_popped new (kept.earlier (descend_pushed old down));
    }

rest_kept : (frame : ℕ) (name form : List ℕ) (store : Store) → Keeps store (rest_set frame name store form).store
rest_kept frame name form store = by (nat_le (length form) 65536) refl
  where
    by : (b : Bool) → nat_le (length form) 65536 ≡ b → Keeps store (rest_set frame name store form).store
    by true is = rw is (on_set_kept name store _ (with_variable store frame name form) (variable_set store frame name form) same)
    by false is = rw is (same store)

entered_kept : (frame : ℕ) (parameters : List Parameter) (words : List (List ℕ)) (store : Store) → Keeps store (entered frame parameters words store).store
entered_kept frame [] words store = same store
entered_kept frame (parameter ∷ parameters) words store = by (is_rest parameter parameters) (λ new. entered_kept frame parameters (drop 1 words) new)
  where
    value : List ℕ
    value = value_for parameter.fallback words

    others : Store → Assigned
    others = entered frame parameters (drop 1 words)

    set : Result Store SetFault
    set = with_variable store frame parameter.name value

    by : (b : Bool) → ((new : Store) → Keeps new (others new).store)
        → Keeps store (cond b (rest_set frame parameter.name store (list_form words)) (on_set parameter.name store others set)).store
    by true rest = rest_kept frame parameter.name (list_form words) store
    by false rest = on_set_kept parameter.name store others set (variable_set store frame parameter.name value) rest

module _ (store : Store) (rooted : 0 < length store) (context : Context) where
  procedure_kept : (name : List ℕ) (procedure : Procedure) (words : List (List ℕ)) → Does context.levels store (in_procedure context (procedure_call name procedure words store context.levels))
  procedure_kept name procedure words = by (fits procedure.parameters words)
    where
      done : Assigned
      done = entered (length store) procedure.parameters words (store ++ [] ∷ [])

      kept : Keeps (store ++ [] ∷ []) done.store
      kept = entered_kept (length store) procedure.parameters words (store ++ [] ∷ [])

      told : (refused : Option (List ℕ)) → Does context.levels store (in_procedure context (by_entered procedure.body (length store) context.levels done refused))
      told None = inr (record { body = procedure.body; enters = refl; seen = refl; kept = kept })
      told (Some text) = inl (record { seen = refl; kept = popped_kept store done.store rooted kept; still = tt })

      by : (b : Bool) → Does context.levels store (in_procedure context (cond b (entered_call procedure (length store) context.levels done)
          (record { store = store; levels = context.levels; plan = failed_plan (usage_of name procedure.parameters) })))
      by true = told done.refused
      by false = inl (record { seen = refl; kept = same store; still = tt })

  command_called : (name : List ℕ) (words : List (List ℕ)) (found : Option Command) → Does context.levels store (by_command name words store context found)
  command_called name words (Some (command.Builtin named)) = builtin_kept store context named words
  command_called name words (Some (command.Texts text)) = stays_all store context (texts_plan (command_answer text words)) (texts_still (command_answer text words))
  command_called name words (Some (command.Outside first)) = inl (record { seen = refl; kept = same store; still = tt })
  command_called name words (Some (command.Procedure procedure)) = procedure_kept name procedure words
  command_called name words None = inl (record { seen = refl; kept = same store; still = tt })

  pub call_kept : (name : List ℕ) (words : List (List ℕ)) → Does context.levels store (call_of name words store context)
  call_kept name words = command_called name words (command_of context.commands (plain_name name))
