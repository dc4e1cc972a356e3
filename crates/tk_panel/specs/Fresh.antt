-- Meaning. Nothing, and from it what an application has before its script.
use Rattle.std.specs.Prelude.{ℕ, List, []}
use Rattle.tk_after.specs.Timers as timers
use Rattle.tk_panel.specs.ClassBindings.{with_class_bindings}
use Rattle.tk_inputs.specs.Inputs as inputs
use Rattle.tk_screen.specs.Own as screens
use Rattle.tk_panel.specs.Panel.{Panel}

-- nothing, at a moment
abbrev pub nothing : ℕ → Panel
nothing moment = record {
  moment = moment;
  windowing = screens.nothing;
  bindings = [];
  virtuals = [];
  history = [];
  queue = [];
  input = inputs.fresh;
  timers = timers.fresh;
  transcript = [];
}

-- a new application of a name, with a rectangle of a size: its main window `.`, and what the classes of widgets bind
unfoldable pub fresh : List ℕ → ℕ × ℕ → ℕ → Panel
fresh name size moment = record (nothing moment) { windowing = screens.added name size; bindings = with_class_bindings [] }
