-- Meaning. The options of `pack configure`: which one a word is, what it sets with its value, and what a request is with the settings made.
use Rattle.std.specs.Prelude.{ℕ, Bool, true, false, ◌==◌, if◌then◌else◌, List, [], ◌∷◌, find, fold, Option, None, Some, option_map, is_some, Result, Ok, codes}
use Rattle.std.specs.List.{list_all}
use Rattle.std.specs.Option.{option_or}
use Rattle.std.specs.Str.{bytes_eq}
use Rattle.tcl_text.specs.Answers.{◌>>=◌}
use Rattle.tcl_text.specs.Readings.{boolean_of}
use Rattle.tk_options.specs.Forms.{amount_in}
use Rattle.tk_packer.specs.Packs.{Packing, request_in}
use Rattle.tk_packer.specs.declared.request.Request.{Request}
use Rattle.tk_tree.specs.Own.{Tree}
use Rattle.tk_pack_commands.specs.declared.settings.Beside.{Beside}
use Rattle.tk_pack_commands.specs.declared.settings.PackOption.{PackOption}
use Rattle.tk_pack_commands.specs.declared.settings.PackOption.TheVariants.{Side, Anchor, Fill, Expand, Padx, Pady, Ipadx, Ipady, After, Before}
use Rattle.tk_pack_commands.specs.declared.settings.PackSetting.{PackSetting}
use Rattle.tk_pack_commands.specs.declared.settings.PackSetting.TheVariants as set
use Rattle.tk_pack_commands.specs.declared.targets.Found.{Found}
use Rattle.tk_pack_commands.specs.declared.targets.Target.{Target}
use Rattle.tk_pack_commands.specs.Faults.{not_packed, not_sibling, unknown_option, bad_value, no_value}
use Rattle.tk_pack_commands.specs.Targets.{window_in}
use Rattle.tk_pack_commands.specs.Values.{side_in, anchor_in, fill_in, pads_in}

-- ---- the options

abbrev pub option_name : PackOption → List ℕ
option_name Side = codes "-side"
option_name Anchor = codes "-anchor"
option_name Fill = codes "-fill"
option_name Expand = codes "-expand"
option_name Padx = codes "-padx"
option_name Pady = codes "-pady"
option_name Ipadx = codes "-ipadx"
option_name Ipady = codes "-ipady"
option_name After = codes "-after"
option_name Before = codes "-before"

abbrev pub options : List PackOption
options = Side ∷ Anchor ∷ Fill ∷ Expand ∷ Padx ∷ Pady ∷ Ipadx ∷ Ipady ∷ After ∷ Before ∷ []

-- names are not abbreviated
unfoldable pub option_named : List ℕ → Option PackOption
option_named name = find (λ option. bytes_eq name (option_name option)) options

-- ---- how a window is packed

-- what an option sets with a value, if it takes the value; those that name a window are read by themselves
abbrev pub setting_of : PackOption → List ℕ → Option PackSetting
setting_of Side value = option_map set.Side (side_in value)
setting_of Anchor value = option_map set.Anchor (anchor_in value)
setting_of Fill value = option_map set.Fill (fill_in value)
setting_of Expand value = option_map set.Expand (boolean_of value)
setting_of Padx value = option_map set.Padx (pads_in value)
setting_of Pady value = option_map set.Pady (pads_in value)
setting_of Ipadx value = option_map set.Ipadx (amount_in value)
setting_of Ipady value = option_map set.Ipady (amount_in value)
setting_of After value = None
setting_of Before value = None

abbrev pub or_bad : List ℕ → List ℕ → Option PackSetting → Result PackSetting (List ℕ)
or_bad name value (Some setting) = Ok setting
or_bad name value None = bad_value value name

-- ---- beside which window it is packed

-- whether a window has the parent of all these
abbrev pub is_sibling : List Target → Option ℕ → Bool
is_sibling targets None = false
is_sibling targets (Some parent) = list_all (λ target. target.master == parent) targets

-- the window beside which these are to be packed: one that is there (24), is packed, and has their parent
abbrev pub if_sibling : List ℕ → List Target → Packing → Found → Result ℕ (List ℕ)
if_sibling path targets packs found =
    if is_some (request_in found.number packs.packs)
    then (if is_sibling targets found.parent then Ok found.number else not_sibling path)
    else not_packed path

unfoldable pub sibling_in : List ℕ → List Target → Tree → Packing → Result ℕ (List ℕ)
sibling_in path targets tree packs = do
  found ← window_in path tree
  if_sibling path targets packs found

abbrev pub beside_in : Bool → List ℕ → List Target → Tree → Packing → Result PackSetting (List ℕ)
beside_in after path targets tree packs = do
  number ← sibling_in path targets tree packs
  Ok (set.Beside (record { number = number; after = after }))

-- ---- options and their values, from left to right

abbrev pub setting_for : PackOption → List ℕ → List ℕ → List Target → Tree → Packing → Result PackSetting (List ℕ)
setting_for After name value targets tree packs = beside_in true value targets tree packs
setting_for Before name value targets tree packs = beside_in false value targets tree packs
setting_for option name value targets tree packs = or_bad name value (setting_of option value)

abbrev pub known : List ℕ → Option PackOption → Result PackOption (List ℕ)
known name (Some option) = Ok option
known name None = unknown_option name

unfoldable pub setting_in : List ℕ → List ℕ → List Target → Tree → Packing → Result PackSetting (List ℕ)
setting_in name value targets tree packs = do
  option ← known name (option_named name)
  setting_for option name value targets tree packs

-- the last may lack its value
unfoldable pub without_value : {T : Type 0} → List ℕ → Result T (List ℕ)
without_value name = do
  _ ← known name (option_named name)
  no_value name

-- one setting for each option and its value, tested in their order
abbrev pub settings_in : List (List ℕ) → List Target → Tree → Packing → Result (List PackSetting) (List ℕ)
settings_in [] targets tree packs = Ok []
settings_in (name ∷ []) targets tree packs = without_value name
settings_in (name ∷ value ∷ words) targets tree packs = do
  first ← setting_in name value targets tree packs
  others ← settings_in words targets tree packs
  Ok (first ∷ others)

-- ---- the settings made

-- a request with a setting made
abbrev pub with_setting : Request → PackSetting → Request
with_setting request (set.Side side) = record request { side = side }
with_setting request (set.Anchor anchor) = record request { anchor = anchor }
with_setting request (set.Fill fill) = record request { fill = fill }
with_setting request (set.Expand expand) = record request { expand = expand }
with_setting request (set.Padx pads) = record request { padx = pads }
with_setting request (set.Pady pads) = record request { pady = pads }
with_setting request (set.Ipadx amount) = record request { ipadx = amount }
with_setting request (set.Ipady amount) = record request { ipady = amount }
with_setting request (set.Beside beside) = request

-- one after another, so that of an option that is named twice the last counts, and one that isn't named stays as it was
abbrev pub with_settings : List PackSetting → Request → Request
with_settings settings request = fold with_setting request settings

-- the window that a setting names to stand beside
abbrev pub sibling_of : PackSetting → Option Beside
sibling_of (set.Beside beside) = Some beside
sibling_of _ = None

-- the last that one of the settings names, or else the one that was named before
abbrev pub last_sibling : Option Beside → List PackSetting → Option Beside
last_sibling named settings = fold (λ named setting. option_or (sibling_of setting) named) named settings
