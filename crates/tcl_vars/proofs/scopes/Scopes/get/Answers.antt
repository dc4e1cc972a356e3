-- The text is read where the name leads.
use Rattle.std.proofs.Common.{◌≡◌, sym, ap}
use Rattle.tcl_vars.specs.Shown.{shown}
use Rattle.tcl_vars.specs.Store.{end_of, text_at, variable_in}
use Rattle.tcl_vars.proofs.scopes.Scopes.get.Goals as goal

pub returns : goal.returns
unfolding variable_in
returns c =
    let read : variable_in c.args.self.now c.args.frame c.args.name.now ≡ text_at c.args.self.now (end_of c.args.self.now (shown c.place_of_text.result))
    = ap (λ p. text_at c.args.self.now (end_of c.args.self.now p)) (sym c.place_of_text.ensures.place) in
    rw read c.read.ensures
