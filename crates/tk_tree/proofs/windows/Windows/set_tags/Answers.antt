use Rattle.std.proofs.Common.{ap, ◌∙◌, subst}
use Rattle.tk_base.specs.Numbered.{IsRising}
use Rattle.tk_tree.specs.Change.{with_tags}
use Rattle.tk_tree.specs.Changing.{changed}
use Rattle.tk_tree.specs.declared.change.WindowChange.TheVariants.{Tags}
use Rattle.tk_tree.specs.Shared.{own_of}
use Rattle.tk_tree.specs.Window.{number_of}
use Rattle.tk_tree.proofs.Lists.{changed_alike}
use Rattle.tk_tree.proofs.Changed.{own_windows}
use Rattle.tk_tree.proofs.windows.Windows.set_tags.Goals as goal

pub returns-clause-ok : goal.returns-clause-ok
returns-clause-ok c =
    let rising : IsRising number_of (own_of c.args.win.owner c.args.self.now).windows = subst (λ held. IsRising number_of (own_of c.args.win.owner held).windows) c.self.view_is (c.self.invariant.sound c.args.win.owner).rising in
    c.change.ensures.own
    ∙ own_windows (own_of c.args.win.owner c.args.self.now) _ _
    (changed_alike number_of c.args.win.number (changed (Tags c.in_ok-tags.tags)) (with_tags c.args.tags.now) c.there.result.now (own_of c.args.win.owner c.args.self.now).windows rising c.there.ensures (ap (λ tags. changed (Tags tags) c.there.result.now) c.in_ok-tags.ensures))
