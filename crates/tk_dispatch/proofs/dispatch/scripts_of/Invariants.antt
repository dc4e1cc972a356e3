use Rattle.std.proofs.Common.{◌≡◌, drop}
use Rattle.std.specs.List.{filter_map}
use Rattle.tk_dispatch.specs.Dispatch.{all_of, before, script_of, scripts_of}
use Rattle.tk_dispatch.specs.Made.{AreChosen, AreMade}
use Rattle.tk_patterns.specs.Shared as bindings_of
use Rattle.tk_tree.specs.Shared as windows_of
use Rattle.tk_virtual.specs.Virtual.{meanings_of}
use Rattle.tk_dispatch.proofs.dispatch.scripts_of.Given as goal

abbrev pub invariant-loop-tag : goal.invariant-loop-tag
invariant-loop-tag l = record {
  scripts : before l.scripts (all_of (filter_map
      (script_of (windows_of.own_of l.choice.owner l.choice.windows.now) (meanings_of l.choice.virtuals.now) (bindings_of.own_of l.choice.owner l.choice.bindings.now) l.choice.history.now l.choice.event.now)
      (drop l.tag-index l.tags)))
      ≡ scripts_of (windows_of.own_of l.choice.owner l.choice.windows.now) (meanings_of l.choice.virtuals.now) (bindings_of.own_of l.choice.owner l.choice.bindings.now) l.choice.history.now l.choice.event.now l.tags;
  made : AreMade (script_of (windows_of.own_of l.choice.owner l.choice.windows.now) (meanings_of l.choice.virtuals.now) (bindings_of.own_of l.choice.owner l.choice.bindings.now) l.choice.history.now l.choice.event.now) l.made;
  chosen : AreChosen (script_of (windows_of.own_of l.choice.owner l.choice.windows.now) (meanings_of l.choice.virtuals.now) (bindings_of.own_of l.choice.owner l.choice.bindings.now) l.choice.history.now l.choice.event.now) l.chosen;
}
