use Rattle.std.proofs.Common.{Some, Ok, sym, ap, ◌∙◌}
use Rattle.tk_dispatch.proofs.MadeLemmas.{kept_made}
use Rattle.tk_dispatch.proofs.made.keep_long.Goals as goal

pub returns-in_ok-insert : goal.returns-in_ok-insert
returns-in_ok-insert c script_of its were =
    kept_made script_of c.args.made.now c.insert.new.self c.args.tag c.in_ok-copy.field-0 c.in_ok-insert.ensures.updates
    (its ∙ ap (λ script. Some (Ok script)) (sym c.in_ok-copy.ensures.ok)) were
