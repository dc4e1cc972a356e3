-- Meaning. What `pack info`, `pack propagate` and `pack slaves` tell.
use Rattle.std.specs.Prelude.{ℕ, Bool, ◌==◌, if◌then◌else◌, List, [], ◌∷◌, ◌++◌, Option, None, Some, option_map, codes}
use Rattle.std.specs.Fmt.{decimal}
use Rattle.std.specs.List.{flat_map}
use Rattle.std.specs.Option.{option_to_list}
use Rattle.tcl_text.specs.Answers.{Answer, answers}
use Rattle.tcl_text.specs.Readings.{list_form}
use Rattle.tk_packer.specs.declared.packed.Packed.{Packed}
use Rattle.tk_packer.specs.declared.request.Pads.{Pads}
use Rattle.tk_packer.specs.declared.request.Request.{Request}
use Rattle.tk_tree.specs.Own.{Tree, window_at}
use Rattle.tk_pack_commands.specs.Faults.{not_packed}
use Rattle.tk_pack_commands.specs.Values.{anchor_word, fill_word, side_word}

abbrev pub truth_word : Bool → List ℕ
truth_word truth = if truth then codes "1" else codes "0"

-- one amount where both are equal
unfoldable pub pads_word : Pads → List ℕ
pads_word pads =
    if pads.before == pads.after then decimal pads.before
    else decimal pads.before ++ (codes " " ++ decimal pads.after)

unfoldable pub request_words : Request → List (List ℕ)
request_words request =
    codes "-anchor" ∷ anchor_word request.anchor
    ∷ codes "-expand" ∷ truth_word request.expand
    ∷ codes "-fill" ∷ fill_word request.fill
    ∷ codes "-ipadx" ∷ decimal request.ipadx
    ∷ codes "-ipady" ∷ decimal request.ipady
    ∷ codes "-padx" ∷ pads_word request.padx
    ∷ codes "-pady" ∷ pads_word request.pady
    ∷ codes "-side" ∷ side_word request.side ∷ []

-- the options and values of a packed window
abbrev pub info_of : List ℕ → Option Request → Answer
info_of path None = not_packed path
info_of path (Some request) = answers (list_form (request_words request))

-- the paths of packed windows that are there, in order
abbrev pub path_at : Tree → ℕ → List (List ℕ)
path_at tree number = option_to_list (option_map (λ window. window.path) (window_at number tree))

abbrev pub paths_of : Tree → List Packed → List (List ℕ)
paths_of tree packs = flat_map (λ packed. path_at tree packed.number) packs
