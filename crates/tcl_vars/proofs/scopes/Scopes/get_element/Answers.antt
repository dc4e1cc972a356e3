-- The text is read where the element leads.
use Rattle.std.proofs.Common.{◌≡◌, sym, ap, option_and_then}
use Rattle.tcl_vars.specs.Shown.{shown}
use Rattle.tcl_vars.specs.Store.{end_of, text_at, element_in}
use Rattle.tcl_vars.proofs.scopes.Scopes.get_element.Goals as goal

pub returns-in-Some : goal.returns-in-Some
unfolding element_in
returns-in-Some c =
    let read : element_in c.args.self.now c.args.frame c.args.name.now c.args.index.now ≡ text_at c.args.self.now (end_of c.args.self.now (shown c.in-Some.place))
    = ap (λ o. text_at c.args.self.now (option_and_then (end_of c.args.self.now) o)) (sym c.in-Some.ensures.place) in
    rw read c.read.ensures

pub returns-in-None : goal.returns-in-None
unfolding element_in
returns-in-None c = ap (λ o. text_at c.args.self.now (option_and_then (end_of c.args.self.now) o)) (sym c.in-None.ensures.place)
