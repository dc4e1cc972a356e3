-- Meaning. What of the outside commands the meaning of a script rests on.
use Rattle.std.specs.Prelude.{◌≡◌, ℕ, Bool, true, List}
use Rattle.tcl_control.specs.declared.code.Code.{Code}
use Rattle.tcl_interp.specs.Evaluation.{State, Outcome, Ended, OutOfSteps}
use Rattle.tcl_interp.specs.Scripts.{CommandMeaning, scripts_by}

-- Two meanings of outside commands that agree, where scripts are run by the first, give every script the same meaning.
abbrev pub ScriptsAgree : Type 0 → Type 0
ScriptsAgree S = (one other : CommandMeaning S)
    → ((room : ℕ) (name first : List ℕ) (arguments : List (List ℕ)) (state : State S)
    → one (scripts_by one room) name first arguments state ≡ other (scripts_by one room) name first arguments state)
    → (room : ℕ) → scripts_by one room ≡ scripts_by other room

-- ── one meaning, where something holds of what is shown ──

module _ {S : Type 0} (P : S → Type 0) where
  -- where something has ended, it holds
  abbrev pub Kept : Outcome S → Type 0
  Kept (Ended state code text) = P state.shows
  Kept (OutOfSteps state) = Unit {0}

  -- how a script is run, or a command called, keeps it
  abbrev pub KeepsRun : {A : Type 0} → (A → State S → Outcome S) → Type 0
  KeepsRun {A} run = (x : A) (state : State S) → P state.shows → Kept (run x state)

  -- two ways to run a script, or to call a command, are the same where it holds
  abbrev pub AgreesRun : {A : Type 0} → (A → State S → Outcome S) → (A → State S → Outcome S) → Type 0
  AgreesRun {A} one other = (x : A) (state : State S) → P state.shows → one x state ≡ other x state

  -- the outside commands keep it, where scripts are run so
  abbrev pub KeepsCommand : (List ℕ → List ℕ → List (List ℕ) → State S → Outcome S) → Type 0
  KeepsCommand command = (name first : List ℕ) (arguments : List (List ℕ)) (state : State S) → P state.shows → Kept (command name first arguments state)

  -- they keep it where the scripts do that they run
  abbrev pub CommandsKeep : CommandMeaning S → Type 0
  CommandsKeep command = (room : ℕ) → KeepsRun (scripts_by command room) → KeepsCommand (command (scripts_by command room))

  -- two meanings of them are the same where the scripts are that they run
  abbrev pub CommandsAgree : CommandMeaning S → CommandMeaning S → Type 0
  CommandsAgree one other =
      (room : ℕ) → AgreesRun (scripts_by one room) (scripts_by other room) → (name first : List ℕ) (arguments : List (List ℕ)) (state : State S) → P state.shows
      → one (scripts_by one room) name first arguments state ≡ other (scripts_by other room) name first arguments state

  -- Where the first keep it, and both agree where it holds, they give every script the same meaning there.
  abbrev pub AgreesWhere : Type 0
  AgreesWhere = (one other : CommandMeaning S) → CommandsKeep one → CommandsAgree one other → (room : ℕ) → AgreesRun (scripts_by one room) (scripts_by other room)

-- so it is of whatever is tested of what is shown
abbrev pub ScriptsAgreeWhere : Type 0 → Type 0
ScriptsAgreeWhere S = (holds : S → Bool) → AgreesWhere (λ (shows : S). holds shows ≡ true)
