use Rattle.std.proofs.Common.{sym, ap, ◌∙◌}
use Rattle.std.specs.Prelude.{nat_eq}
use Rattle.std.specs.Map.{lookup}
use Rattle.tk_packer.specs.Packs.{Packing, slaves_of}
use Rattle.tk_packer.proofs.Ties.{slaves_are}
use Rattle.tk_packer.proofs.own.OwnPacks.slaves.Goals as goal

pub returns : goal.returns
returns c =
    c.slaves_at.ensures
    ∙ sym (slaves_are (λ number. lookup (nat_eq number) c.self.inside.windows.entries) c.self.inside.masters.entries c.self.invariant c.args.master)
    ∙ ap (λ (own : Packing). slaves_of c.args.master own.packs) c.self.view_is
