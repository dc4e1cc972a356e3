use Rattle.std.proofs.Common.{◌≡◌, length}
use Rattle.tk_packer.specs.Shared.{own_of as packs_of}
use Rattle.tk_tree.specs.Shared.{own_of}
use Rattle.tk_pack_commands.specs.Options.{settings_in}
use Rattle.tk_pack_commands.proofs.StepLemmas.{items_behind}
use Rattle.tk_pack_commands.proofs.options.settings_in.Given as goal

-- what is set so far, with what the options that are left set
abbrev pub invariant-loop-name : goal.invariant-loop-name
invariant-loop-name l =
    items_behind l.settings.items (settings_in l.rest l.targets (own_of l.scene.owner l.scene.windows.now) (packs_of l.scene.owner l.scene.packs.now))
    ≡ settings_in l.words l.targets (own_of l.scene.owner l.scene.windows.now) (packs_of l.scene.owner l.scene.packs.now)

abbrev pub decreases-loop-name : goal.decreases-loop-name
decreases-loop-name l = length l.rest
