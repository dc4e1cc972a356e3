use Rattle.std.proofs.Common.{◌≡◌, [], sym, subst}
use Rattle.tk_screen.specs.declared.screen.Screen.{Screen}
use Rattle.tk_screen.specs.Layout.{changes_due}
use Rattle.tk_screen.specs.Shared.{own_of}
use Rattle.tk_screen.proofs.KeptPlaces.{nothing_due}
use Rattle.tk_screen.proofs.marked.MarkedScreen.is_laid_out.Goals as goal

pub returns-in-Some : goal.returns-in-Some
returns-in-Some c = λ yes store.
    subst (λ (screen : Screen). changes_due (own_of c.args.slot screen) store ≡ []) c.self.view_is
    (nothing_due (own_of c.args.slot c.self.inside.screen) store c.in-Some.mark.now (c.self.invariant c.args.slot c.in-Some.mark.now (sym c.in-Some.ensures)) (c.rests.ensures yes))
