-- Meaning. wm(n): the title.
use Rattle.std.specs.Prelude.{ℕ, Bool, ◌&&◌, is_some, if◌then◌else◌, List, [], ◌∷◌, Ok, codes}
use Rattle.std.specs.Option.{option_map_or}
use Rattle.std.specs.Str.{bytes_eq}
use Rattle.tcl_text.specs.Answers.{Answer, bad_option, wrong_args}
use Rattle.tk_screen.specs.Own.{Windowing, with_title}
use Rattle.tk_tree.specs.Own.{at_path}
use Rattle.tk_window_commands.specs.Answers.{Told, stays}
use Rattle.tk_tree.specs.Path.{bad_path}

-- a path names the main window, and it is there
abbrev pub is_main : List ℕ → Windowing → Bool
is_main path own = bytes_eq path (codes ".") && is_some (at_path (codes ".") own.tree)

abbrev pub title_of : Windowing → List ℕ
title_of own = option_map_or (λ toplevel. toplevel.title) own.toplevel []

-- wm title . ?text?: the title, or the title that it is set to
abbrev pub title_asked : List ℕ → Windowing → Answer
title_asked path own = if is_main path own then Ok (title_of own) else bad_path path

abbrev pub title_set : List ℕ → List ℕ → Windowing → Told
title_set path title own = if is_main path own then record { own = with_title title own; answer = Ok [] } else stays own (bad_path path)

abbrev pub title_words : List (List ℕ) → Windowing → Told
title_words (path ∷ []) own = stays own (title_asked path own)
title_words (path ∷ title ∷ []) own = title_set path title own
title_words _ own = stays own (wrong_args (codes "wm title . ?text?"))

unfoldable pub wm_words : List (List ℕ) → Windowing → Told
wm_words [] own = stays own (wrong_args (codes "wm option ?arg ..?"))
wm_words (name ∷ words) own = if bytes_eq name (codes "title") then title_words words own else stays own (bad_option name)
