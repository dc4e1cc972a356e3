-- What is no link is read where it stands.
use Rattle.std.proofs.Common.{◌≡◌, ◌∙◌, sym, ap, option_copied}
use Rattle.tcl_vars.specs.Shown.{shown}
use Rattle.tcl_vars.specs.Store.{link_of, end_of, text_of, text_at}
use Rattle.tcl_vars.proofs.LinkLemmas.{led-here}
use Rattle.tcl_vars.proofs.scopes.Scopes.read.Goals as goal

pub returns-in-None : goal.returns-in-None
returns-in-None c =
    let here : text_at c.args.self.now (end_of c.args.self.now (shown c.args.place)) ≡ text_of (option_copied c.content-held.result) (shown c.args.place).element
    = ap (text_at c.args.self.now) (led-here c.args.self.now (shown c.args.place) (sym (c.in-None.ensures.link ∙ ap link_of c.content-held.ensures)))
    ∙ ap (λ x. text_of x (shown c.args.place).element) (sym c.content-held.ensures) in
    rw here c.text_of.ensures
