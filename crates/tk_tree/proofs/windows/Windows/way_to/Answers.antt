use Rattle.std.proofs.Common.{◌++◌, append-nil, ap, sym, ◌∙◌}
use Rattle.std.specs.Prelude.{reverse}
use Rattle.tk_tree.specs.Shared.{own_of}
use Rattle.tk_tree.specs.Ways.{way_up}
use Rattle.tk_tree.proofs.Ways.{no_way_up}
use Rattle.tk_tree.proofs.windows.Windows.way_to.Goals as goal

pub loop-up-preserved : goal.loop-up-preserved
loop-up-preserved c =
    let newest = reverse (own_of c.args.win.owner c.args.self.now).windows in
    ap (λ up. c.loop-up.way.items ++ up) (no_way_up newest ∙ sym c.in-None.ensures.way) ∙ ap (λ up. c.loop-up.way.items ++ way_up up newest) (sym c.in-Some.is) ∙ c.loop-up.invariant

pub returns : goal.returns
returns c =
    let newest = reverse (own_of c.args.win.owner c.args.self.now).windows in
    let all = sym (append-nil c.loop-up.way.items) ∙ ap (λ up. c.loop-up.way.items ++ up) (sym (no_way_up newest) ∙ ap (λ up. way_up up newest) (sym c.in_default.is)) ∙ c.loop-up.invariant in
    c.reverse.ensures.items ∙ ap reverse all
