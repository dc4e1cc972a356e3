use Rattle.std.proofs.Common.{◌≡◌, suc, ◌+◌, take, drop, Some, None, sym, refl, add-one}
use Rattle.std.proofs.lemmas.List.{take_rest}
use Rattle.tk_session.proofs.Lines.{cut_at-first}
use Rattle.tk_session.specs.Reading.{cut_at}
use Rattle.tk_session.proofs.line.cut.Goals as goal

pub returns-in_err-at : goal.returns-in_err-at
returns-in_err-at c = rw c.from_residual.ensures (sym (cut_at-first c.args.byte c.args.text.now None c.in_err-at.ensures))

pub returns : goal.returns
returns c =
    let text = c.args.text.now in
    let at = c.in_ok-at.at in
    let cut : cut_at c.args.byte text ≡ Some (take at text, drop (suc at) text) = cut_at-first c.args.byte text (Some at) c.in_ok-at.ensures in
    rw (take_rest text (at + 1), add-one, cut) refl
