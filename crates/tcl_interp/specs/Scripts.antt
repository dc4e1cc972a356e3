-- Meaning. The evaluation of a script, given what the commands of a program come to.
use Rattle.std.specs.Prelude.{ℕ, zero, suc, List, [], ◌∷◌, Result, Ok, Err}
use Rattle.tcl_words.specs.declared.script.Command.{Command}
use Rattle.tcl_text.specs.declared.fault.ParseFault.{ParseFault}
use Rattle.tcl_text.specs.FaultTexts.{parse_text as text_of}
use Rattle.tcl_control.specs.declared.code.Code.{Code}
use Rattle.tcl_control.specs.declared.code.Code.TheVariants.{Normal, Error, Return, Break, Continue}
use Rattle.tcl_control.specs.declared.code.ReturnCode.{ReturnCode}
use Rattle.tcl_control.specs.declared.code.ReturnCode.TheVariants.{Normal as AsNormal, Error as AsError, Return as AsReturn, Break as AsBreak, Continue as AsContinue}
use Rattle.tcl_control.specs.declared.control.Call.{Call}
use Rattle.tcl_control.specs.declared.control.Call.TheVariants as call
use Rattle.tcl_control.specs.Control.{Called, call_of}
use Rattle.tcl_table.specs.Source.{script_of}
use Rattle.tcl_table.specs.Texts.{break_outside, continue_outside, message, nesting_text, unknown_command}
use Rattle.tcl_interp.specs.Evaluation.{State, Outcome, Ended, commands_meaning}
use Rattle.tcl_interp.specs.Plans.{plan_meaning}

-- ── at global level ──

-- what a return becomes where it leaves a script at global level, where return by itself counts as normal
abbrev pub onward : ReturnCode → Code
onward AsNormal = Normal
onward AsError = Error
onward AsReturn = Normal
onward AsBreak = Break
onward AsContinue = Continue

abbrev pub out_of_global : Code → Code
out_of_global Normal = Normal
out_of_global Error = Error
out_of_global (Return code) = onward code
out_of_global Break = Break
out_of_global Continue = Continue

-- how a script at global level ends: there is no loop around it, and a return has become its -code
abbrev pub at_global : {S : Type 0} → State S → Code → List ℕ → Outcome S
at_global state Break text = Ended state Error break_outside
at_global state Continue text = Ended state Error continue_outside
at_global state code text = Ended state code text

-- ── calls ──

-- What outside commands come to, given how a script is run: by the name that one is called by, the name that it had at first, and its arguments.
abbrev pub CommandMeaning : Type 0 → Type 0
CommandMeaning S = (List ℕ → State S → Outcome S) → List ℕ → List ℕ → List (List ℕ) → State S → Outcome S

module _ {S : Type 0} (command : CommandMeaning S) (run : List ℕ → State S → Outcome S) where
  abbrev pub by_call : List ℕ → List (List ℕ) → State S → Call → Outcome S
  by_call name arguments state (call.Plans plan) = plan_meaning run plan state
  by_call name arguments state (call.Outside first) = command run name first arguments state
  by_call name arguments state call.Unknown = Ended state Error (unknown_command name)

  abbrev pub called_meaning : List ℕ → List (List ℕ) → State S → Called → Outcome S
  called_meaning name arguments state called = by_call name arguments (record state { store = called.store; context = called.context }) called.call

  -- a command is called
  abbrev pub call_meaning : List (List ℕ) → State S → Outcome S
  call_meaning [] state = Ended state Normal []
  call_meaning (name ∷ arguments) state = called_meaning name arguments state (call_of name arguments state.store state.context)

-- ── scripts ──

-- a script is read whole before its first command runs
abbrev pub on_parsed : {S : Type 0} → (List Command → Outcome S) → State S → Result (List Command) ParseFault → Outcome S
on_parsed commands state (Ok script) = commands script
on_parsed commands state (Err fault) = Ended state Error (message (text_of fault))

module _ {S : Type 0} (command : CommandMeaning S) where
  -- A script, with room for so many scripts that are begun and not ended, itself among them.
  abbrev pub scripts_by : ℕ → List ℕ → State S → Outcome S
  scripts_by zero text state = Ended state Error nesting_text
  scripts_by (suc room) text state =
      on_parsed (λ commands. commands_meaning (scripts_by room) (call_meaning command (scripts_by room)) commands [] state) state (script_of text)
