-- Meaning. Which scripts an event runs: for each binding tag of its window the winner's, with the event's fields put in (bind(n), bindtags(n)).
use Rattle.std.specs.Prelude.{ℕ, Bool, false, ◌==◌, ◌||◌, not, List, [], ◌∷◌, ◌++◌, Option, None, is_some, option_map, Result, Ok, Err, if◌then◌else◌}
use Rattle.std.specs.List.{filter_map}
use Rattle.std.specs.Option.{option_map_or}
use Rattle.tcl_text.specs.Answers.{Answer, answers}
use Rattle.tk_sequences.specs.declared.event.Event.{Event}
use Rattle.tk_patterns.specs.declared.binding.Binding.{Binding}
use Rattle.tk_patterns.specs.Winner.{Pairs, winner}
use Rattle.tk_dispatch.specs.Percent.{substituted}
use Rattle.tk_tree.specs.Own.{Tree, at_path, window_at}
use Rattle.tk_virtual.specs.declared.pair.Pair.{Pair}
use Rattle.tk_virtual.specs.Virtual.{meanings_of}

-- ---- tags

-- a tag that begins with a dot is a window's path
abbrev pub is_path : List ℕ → Bool
is_path [] = false
is_path (first ∷ rest) = first == 46

-- such a tag counts while its window is there, and any other always
abbrev pub is_live : Tree → List ℕ → Bool
is_live windows tag = not (is_path tag) || is_some (at_path tag windows)

-- the tags of the window with a number; none where it is gone
abbrev pub tags_of : ℕ → Tree → List (List ℕ)
tags_of number windows = option_map_or (λ window. window.tags) (window_at number windows) []

-- ---- scripts

-- all of them, or the first refusal
abbrev pub Chosen : Type 0
Chosen = Result (List (List ℕ)) (List ℕ)

-- scripts before others
abbrev pub before : List (List ℕ) → Chosen → Chosen
before scripts (Ok others) = Ok (scripts ++ others)
before scripts (Err text) = Err text

abbrev pub all_of : List Answer → Chosen
all_of [] = Ok []
all_of (Ok script ∷ others) = before (script ∷ []) (all_of others)
all_of (Err text ∷ others) = Err text

-- the script of a binding with the event's fields; past 65,536 bytes it is refused
abbrev pub with_fields : Event → List ℕ → Answer
with_fields event script = answers (substituted event script)

-- what a tag's winner runs, if the tag counts and has one
abbrev pub script_of : Tree → Pairs → List Binding → List Event → Event → List ℕ → Option Answer
script_of windows pairs bindings history event tag =
    if is_live windows tag then option_map (with_fields event) (winner pairs tag event history bindings) else None

abbrev pub scripts_of : Tree → Pairs → List Binding → List Event → Event → List (List ℕ) → Chosen
scripts_of windows pairs bindings history event tags = all_of (filter_map (script_of windows pairs bindings history event) tags)

-- the scripts that an event runs at the window with a number, in the order of the window's tags
unfoldable pub scripts_for : Tree → List Binding → List Pair → ℕ → Event → List Event → Chosen
scripts_for windows bindings virtuals number event history = scripts_of windows (meanings_of virtuals) bindings history event (tags_of number windows)
