-- Meaning. The command `pack` (pack(n)): what it answers, and what its application has packed then.
use Rattle.std.specs.Prelude.{ℕ, Bool, if◌then◌else◌, List, [], ◌∷◌, take, drop, Option, None, Some, option_map, Result, Ok, Err, codes}
use Rattle.std.specs.Str.{bytes_eq}
use Rattle.tcl_text.specs.Answers.{Answer, ◌>>=◌, answers, truth, wrong_args, bad_option}
use Rattle.tcl_text.specs.Readings.{boolean_of, list_form}
use Rattle.tk_packer.specs.Packs.{Packing, slaves_of, request_in, propagates_in, with_propagation, without_packed}
use Rattle.tk_tree.specs.Own.{Tree, at_path}
use Rattle.tk_pack_commands.specs.declared.pack.PackQuestion.{PackQuestion}
use Rattle.tk_pack_commands.specs.declared.pack.PackQuestion.TheVariants.{Info, Slaves}
use Rattle.tk_pack_commands.specs.declared.settings.PackSetting.{PackSetting}
use Rattle.tk_pack_commands.specs.declared.targets.Found.{Found}
use Rattle.tk_pack_commands.specs.declared.targets.Target.{Target}
use Rattle.tk_pack_commands.specs.Faults.{not_boolean}
use Rattle.tk_pack_commands.specs.Info.{info_of, paths_of}
use Rattle.tk_pack_commands.specs.Options.{last_sibling, settings_in}
use Rattle.tk_pack_commands.specs.Places.{packed_all}
use Rattle.tk_pack_commands.specs.Targets.{begins_path, found_of, path_count, window_in, targets_in}

-- what the application has packed after the command, and the command's answer
abbrev pub Told : Type 0
Told = Packing × Answer

-- ---- pack ?configure? path ?path ..? ?option value ..?

-- the windows that are to be packed, and what the options set
pub record Planned : Type 0 where
  pub targets : List Target
  pub settings : List PackSetting

-- all words tested, before anything is packed
unfoldable pub plan_in : List (List ℕ) → Tree → Packing → Result Planned (List ℕ)
plan_in words tree packs = do
  targets ← targets_in (take (path_count words) words) tree
  settings ← settings_in (drop (path_count words) words) targets tree packs
  Ok (record { targets = targets; settings = settings })

abbrev pub packed_by : Result Planned (List ℕ) → Packing → Told
packed_by (Err text) packs = (packs, Err text)
packed_by (Ok plan) packs = (packed_all plan.settings (last_sibling None plan.settings) plan.targets packs, Ok [])

abbrev pub configure_words : List (List ℕ) → Tree → Packing → Told
configure_words [] tree packs = (packs, wrong_args (codes "pack ?configure? path ?path ..? ?option value ..?"))
configure_words (word ∷ words) tree packs = packed_by (plan_in (word ∷ words) tree packs) packs

-- ---- pack forget ?path ..?: a path of no window is passed over

abbrev pub forgotten : Option Found → Packing → Packing
forgotten None packs = packs
forgotten (Some found) packs = without_packed found.number packs

abbrev pub forgotten_at : List ℕ → Tree → Packing → Packing
forgotten_at path tree packs = forgotten (option_map found_of (at_path path tree)) packs

abbrev pub all_forgotten : List (List ℕ) → Tree → Packing → Packing
all_forgotten [] tree packs = packs
all_forgotten (path ∷ paths) tree packs = all_forgotten paths tree (forgotten_at path tree packs)

abbrev pub forget_words : List (List ℕ) → Tree → Packing → Told
forget_words paths tree packs = (all_forgotten paths tree packs, Ok [])

-- ---- pack info path, pack slaves path

abbrev pub usage_of : PackQuestion → List ℕ
usage_of Info = codes "pack info path"
usage_of Slaves = codes "pack slaves path"

-- what is told of the window with this path and number
abbrev pub told_of : PackQuestion → List ℕ → ℕ → Tree → Packing → Answer
told_of Info path number tree packs = info_of path (request_in number packs.packs)
told_of Slaves path number tree packs = answers (list_form (paths_of tree (slaves_of number packs.packs)))

abbrev pub question_words : PackQuestion → List (List ℕ) → Tree → Packing → Answer
question_words question (path ∷ []) tree packs = do
  found ← window_in path tree
  told_of question path found.number tree packs
question_words question _ tree packs = wrong_args (usage_of question)

-- ---- pack propagate path ?boolean?

abbrev pub propagation_told : List ℕ → Tree → Packing → Answer
propagation_told path tree packs = do
  found ← window_in path tree
  truth (propagates_in found.number packs)

abbrev pub boolean_or_error : List ℕ → Option Bool → Result Bool (List ℕ)
boolean_or_error word (Some truth) = Ok truth
boolean_or_error word None = not_boolean word

-- the number of the window, and whether it is to propagate
unfoldable pub propagation_in : List ℕ → List ℕ → Tree → Result (ℕ × Bool) (List ℕ)
propagation_in path word tree = do
  found ← window_in path tree
  propagates ← boolean_or_error word (boolean_of word)
  Ok (found.number, propagates)

abbrev pub propagation_set : Result (ℕ × Bool) (List ℕ) → Packing → Told
propagation_set (Err text) packs = (packs, Err text)
propagation_set (Ok wanted) packs = (with_propagation wanted.0 wanted.1 packs, Ok [])

abbrev pub propagate_words : List (List ℕ) → Tree → Packing → Told
propagate_words (path ∷ []) tree packs = (packs, propagation_told path tree packs)
propagate_words (path ∷ word ∷ []) tree packs = propagation_set (propagation_in path word tree) packs
propagate_words _ tree packs = (packs, wrong_args (codes "pack propagate path ?boolean?"))

-- ---- the command

-- the forms whose first word names them
unfoldable pub named_words : List ℕ → List (List ℕ) → Tree → Packing → Told
named_words name words tree packs =
    if bytes_eq name (codes "configure") then configure_words words tree packs
    else if bytes_eq name (codes "forget") then forget_words words tree packs
    else if bytes_eq name (codes "info") then (packs, question_words Info words tree packs)
    else if bytes_eq name (codes "propagate") then propagate_words words tree packs
    else if bytes_eq name (codes "slaves") then (packs, question_words Slaves words tree packs)
    else (packs, bad_option name)

-- the words behind the command's name: a path comes first, or the name of a form
unfoldable pub pack_words : List (List ℕ) → Tree → Packing → Told
pack_words [] tree packs = (packs, wrong_args (codes "pack ?configure? path ?path ..? ?option value ..?"))
pack_words (first ∷ words) tree packs =
    if begins_path first then configure_words (first ∷ words) tree packs
    else named_words first words tree packs
