-- Meaning. Where windows come to stand among the slaves of their master.
use Rattle.std.specs.Prelude.{ℕ, ◌+◌, true, ◌==◌, if◌then◌else◌, List, [], ◌∷◌, Option, None, Some, option_map, unwrap_or}
use Rattle.std.specs.List.{position_or_len}
use Rattle.tk_packer.specs.Packs.{Packing, slaves_of, without, request_in, with_packed}
use Rattle.tk_packer.specs.declared.packed.Packed.{Packed}
use Rattle.tk_packer.specs.Ask.{default_request}
use Rattle.tk_packer.specs.declared.request.Request.{Request}
use Rattle.tk_pack_commands.specs.declared.settings.Beside.{Beside}
use Rattle.tk_pack_commands.specs.declared.settings.PackSetting.{PackSetting}
use Rattle.tk_pack_commands.specs.declared.targets.Target.{Target}
use Rattle.tk_pack_commands.specs.Options.{with_settings}

-- the place of a window among slaves; the end where it is none of them
abbrev pub place_of : ℕ → List Packed → ℕ
place_of number slaves = position_or_len (λ packed. packed.number == number) slaves

-- where a window comes to stand: where it is, if it is packed and no sibling is named, or is the window itself; else before or after the sibling, and
-- with none at the end
abbrev pub place_beside : Option Beside → ℕ → List Packed → ℕ
place_beside None number slaves = place_of number slaves
place_beside (Some beside) number slaves =
    if beside.number == number then place_of number slaves
    else place_of beside.number (without number slaves) + (if beside.after then 1 else 0)

-- what a window is packed with, or what it has where no option is named
abbrev pub request_or_default : ℕ → List Packed → Request
request_or_default number packs = unwrap_or (request_in number packs) (default_request 1 1)

-- one window packed
unfoldable pub packed_one : List PackSetting → Option Beside → Target → Packing → Packing
packed_one settings beside target own =
    with_packed (place_beside beside target.number (slaves_of target.master own.packs))
    (record { master = target.master; number = target.number; request = with_settings settings (request_or_default target.number own.packs) }) own

-- those after the first stand each behind the one before it
abbrev pub next_beside : Target → Option Beside → Option Beside
next_beside target beside = option_map (λ _. record { number = target.number; after = true }) beside

abbrev pub packed_all : List PackSetting → Option Beside → List Target → Packing → Packing
packed_all settings beside [] own = own
packed_all settings beside (target ∷ targets) own = packed_all settings (next_beside target beside) targets (packed_one settings beside target own)
