-- The integer is that of the text which is read.
use Rattle.std.proofs.Common.{◌≡◌, ◌∙◌, sym, ap}
use Rattle.tcl_vars.specs.Store.{end_of, text_at, variable_in, number_read}
use Rattle.tcl_vars.proofs.scopes.Scopes.number_at.Goals as goal

pub returns-in-Ok : goal.returns-in-Ok
unfolding variable_in
returns-in-Ok c =
    let read = ap (λ p. text_at c.args.self.now (end_of c.args.self.now p)) (sym c.place_of_text.ensures.place) ∙ c.in-Ok.ensures in
    c.integer_in.ensures ∙ ap number_read (sym read)

pub returns-in-Err : goal.returns-in-Err
unfolding variable_in
returns-in-Err c =
    let read = ap (λ p. text_at c.args.self.now (end_of c.args.self.now p)) (sym c.place_of_text.ensures.place) ∙ c.in-Err.ensures in
    ap number_read (sym read)
