use Rattle.std.proofs.Common.{not, sym, ap, ◌∙◌}
use Rattle.tk_packer.specs.Packs.{propagates_in}
use Rattle.tk_packer.proofs.Orders.{any_rising}
use Rattle.tk_packer.proofs.own.OwnPacks.propagates.Goals as goal

pub returns : goal.returns
returns c =
    ap not (c.contains.ensures ∙ sym (any_rising c.args.number c.self.inside.rigid.keys))
    ∙ ap (propagates_in c.args.number) c.self.view_is
