-- Meaning. Procedures: how they are called, made and renamed.
use Rattle.std.specs.Prelude.{ℕ, ◌==◌, nat_le, nat_lt, Bool, true, false, ◌||◌, ◌&&◌, List, [], ◌∷◌, ◌++◌, length, drop, if◌then◌else◌, Option, Some, None, is_some, unwrap_or, Result, Ok, Err, codes, bytes_eq}
use Rattle.tcl_text.specs.Readings.{list_of, list_form}
use Rattle.tcl_vars.specs.Store.{Store, with_variable}
use Rattle.tcl_commands.specs.Parameters.{parameters_in}
use Rattle.tcl_commands.specs.declared.parameters.Parameter.{Parameter}
use Rattle.tcl_table.specs.declared.command.Command.{Command}
use Rattle.tcl_table.specs.declared.command.Command.TheVariants as command
use Rattle.tcl_control.specs.declared.context.Context.{Context}
use Rattle.tcl_table.specs.declared.procedure.Procedure.{Procedure}
use Rattle.tcl_control.specs.declared.plan.Plan.{Plan}
use Rattle.tcl_control.specs.declared.plan.Plan.TheVariants.{Enters}
use Rattle.tcl_control.specs.Assign.{Assigned, on_set, done}
use Rattle.tcl_control.specs.Commands.{failed_plan}
use Rattle.tcl_table.specs.Levels.{popped}
use Rattle.tcl_table.specs.Names.{is_dotted, plain_name}
use Rattle.tcl_table.specs.Table.{NamedCommands, is_procedure, procedure_count, value_at, with_value, without}
use Rattle.tcl_text.specs.Messages.{bad_name_text, limit_text, message, quoted, wrong_args_text}
use Rattle.tcl_text.specs.Limits.{most_bytes, most_procedures}

-- ── calls ──

-- a last `args` takes the rest
abbrev pub is_rest : Parameter → List Parameter → Bool
is_rest parameter parameters = (length parameters == 0) && bytes_eq parameter.name (codes "args")

abbrev pub fits_next : Option (List ℕ) → (List (List ℕ) → Bool) → List (List ℕ) → Bool
fits_next fallback fit [] = is_some fallback && fit []
fits_next fallback fit (word ∷ words) = fit words

-- there are as many words as the parameters take
abbrev pub fits : List Parameter → List (List ℕ) → Bool
fits [] words = (length words == 0)
fits (parameter ∷ parameters) words = is_rest parameter parameters || fits_next parameter.fallback (fits parameters) words

-- the word of a parameter, or its default
abbrev pub value_for : Option (List ℕ) → List (List ℕ) → List ℕ
value_for fallback [] = unwrap_or fallback []
value_for fallback (word ∷ words) = word

abbrev pub rest_set : ℕ → List ℕ → Store → List ℕ → Assigned
rest_set frame name store form =
    if nat_le (length form) most_bytes then on_set name store done (with_variable store frame name form)
    else record { store = store; refused = Some limit_text }

-- the parameters are given their words, up to the first that is refused
abbrev pub entered : ℕ → List Parameter → List (List ℕ) → Store → Assigned
entered frame [] words store = done store
entered frame (parameter ∷ parameters) words store =
    if is_rest parameter parameters then rest_set frame parameter.name store (list_form words)
    else on_set parameter.name store (entered frame parameters (drop 1 words)) (with_variable store frame parameter.name (value_for parameter.fallback words))

abbrev pub usage_word : Parameter → List Parameter → Option (List ℕ) → List ℕ
usage_word parameter parameters None = if is_rest parameter parameters then codes "?arg ..?" else parameter.name
usage_word parameter parameters (Some fallback) = if is_rest parameter parameters then codes "?arg ..?" else codes "?" ++ parameter.name ++ codes "?"

abbrev pub usage_words : List Parameter → List ℕ
usage_words [] = []
usage_words (parameter ∷ parameters) = codes " " ++ usage_word parameter parameters parameter.fallback ++ usage_words parameters

-- how a procedure is called, by the name that it was called by
abbrev pub usage : List ℕ → List Parameter → List ℕ
usage name parameters = message (wrong_args_text (plain_name name ++ usage_words parameters))

-- what the call of a procedure leaves, and what is to be done: its frame is the last one
pub record ProcedureCalled : Type 0 where
  pub store : Store
  pub levels : List ℕ
  pub plan : Plan

abbrev pub by_entered : List ℕ → ℕ → List ℕ → Assigned → Option (List ℕ) → ProcedureCalled
by_entered body frame levels assigned None = record { store = assigned.store; levels = levels ++ frame ∷ []; plan = Enters body }
by_entered body frame levels assigned (Some text) = record { store = popped assigned.store; levels = levels; plan = failed_plan text }

abbrev pub entered_call : Procedure → ℕ → List ℕ → Assigned → ProcedureCalled
entered_call procedure frame levels assigned = by_entered procedure.body frame levels assigned assigned.refused

-- a procedure is called with these words behind a name
abbrev pub procedure_call : List ℕ → Procedure → List (List ℕ) → Store → List ℕ → ProcedureCalled
procedure_call name procedure words store levels =
    if fits procedure.parameters words then entered_call procedure (length store) levels (entered (length store) procedure.parameters words (store ++ [] ∷ []))
    else record { store = store; levels = levels; plan = failed_plan (usage name procedure.parameters) }

-- ── the table ──

abbrev pub holds_procedure : Option Command → Bool
holds_procedure None = false
holds_procedure (Some command) = is_procedure command

-- at most 1,024 procedures
abbrev pub has_room : NamedCommands → List ℕ → Bool
has_room table name = holds_procedure (value_at table name) || nat_lt (procedure_count table) most_procedures

abbrev pub cannot_use : List ℕ → List ℕ
cannot_use name = message (bad_name_text name)

-- the table in which a procedure has a name, or the error's text
abbrev pub defined : NamedCommands → List ℕ → List ℕ → Result (List Parameter) (List ℕ) → Result NamedCommands (List ℕ)
defined table name body (Ok parameters) =
    if has_room table name then Ok (with_value table name (command.Procedure (record { parameters = parameters; body = body })))
    else Err (codes "limit reached: procedures")
defined table name body (Err text) = Err text

-- proc name params body
abbrev pub with_procedure : NamedCommands → List ℕ → List ℕ → List ℕ → Result NamedCommands (List ℕ)
with_procedure table name parameters body =
    if is_dotted (plain_name name) then Err (cannot_use name)
    else defined table (plain_name name) body (parameters_in (list_of parameters))

abbrev pub not_there : List ℕ → List ℕ
not_there name = message (codes "can't rename " ++ (quoted name ++ codes ": command doesn't exist"))

abbrev pub there_already : List ℕ → List ℕ
there_already name = message (codes "can't rename to " ++ (quoted name ++ codes ": command already exists"))

-- why a command can't get a name
abbrev pub name_refused : NamedCommands → List ℕ → Option (List ℕ)
name_refused table name =
    if is_dotted (plain_name name) then Some (cannot_use name)
    else (if is_some (value_at table (plain_name name)) then Some (there_already name)
    else None)

abbrev pub placed : NamedCommands → List ℕ → List ℕ → Command → Option (List ℕ) → Result NamedCommands (List ℕ)
placed table old new command None = Ok (with_value (without table old) (plain_name new) command)
placed table old new command (Some text) = Err text

-- the command of a plain name gets another one, or none
abbrev pub named_anew : NamedCommands → List ℕ → List ℕ → Command → Result NamedCommands (List ℕ)
named_anew table old new command = if (length new == 0) then Ok (without table old) else placed table old new command (name_refused table new)

abbrev pub renamed : NamedCommands → List ℕ → List ℕ → Option Command → Result NamedCommands (List ℕ)
renamed table old new (Some command) = named_anew table (plain_name old) new command
renamed table old new None = Err (not_there old)

-- rename old new
abbrev pub with_new_name : NamedCommands → List ℕ → List ℕ → Result NamedCommands (List ℕ)
with_new_name table old new =
    if is_dotted (plain_name old) then Err (cannot_use old)
    else renamed table old new (value_at table (plain_name old))

-- the table after a change that can be refused, and the text of the refusal, which changes nothing
pub record Changed : Type 0 where
  pub table : NamedCommands
  pub refused : Option (List ℕ)

abbrev pub table_changed : NamedCommands → Result NamedCommands (List ℕ) → Changed
table_changed old (Ok new) = record { table = new; refused = None }
table_changed old (Err text) = record { table = old; refused = Some text }
