-- Meaning. The command `bindtags` (bindtags(n)): what it answers, and what windows the application has then.
use Rattle.std.specs.Prelude.{ℕ, List, [], ◌∷◌, Option, None, Some, Result, Ok, Err, codes}
use Rattle.tcl_text.specs.Answers.{Answer, answers, items_in, wrong_args}
use Rattle.tcl_text.specs.Readings.{list_form}
use Rattle.tk_tree.specs.declared.window.Window.{Window}
use Rattle.tk_tree.specs.Change.{with_tags}
use Rattle.tk_tree.specs.Own.{Tree, at_path, with_change}
use Rattle.tk_tree.specs.Path.{bad_path}

abbrev pub Told : Type 0
Told = Tree × Answer

-- bindtags path: the tags of the window, in their order
abbrev pub tags_told : List ℕ → Option Window → Answer
tags_told path (Some window) = answers (list_form window.tags)
tags_told path None = bad_path path

-- bindtags path list: the window has these tags; an empty list restores the default
abbrev pub with_items : ℕ → Result (List (List ℕ)) (List ℕ) → Tree → Told
with_items number (Ok tags) own = (with_change number (with_tags tags) own, Ok [])
with_items number (Err text) own = (own, Err text)

abbrev pub with_list : List ℕ → List ℕ → Option Window → Tree → Told
with_list path list (Some window) own = with_items window.number (items_in list) own
with_list path list None own = (own, bad_path path)

-- the words behind the command's name
unfoldable pub bindtags_words : List (List ℕ) → Tree → Told
bindtags_words (path ∷ []) own = (own, tags_told path (at_path path own))
bindtags_words (path ∷ list ∷ []) own = with_list path list (at_path path own) own
bindtags_words _ own = (own, wrong_args (codes "bindtags path ?list?"))
