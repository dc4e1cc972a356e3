use Rattle.std.proofs.Common.{◌∙◌, length, refl, sym, arith}
use Rattle.std.proofs.lemmas.Bool.{false≢true}
use Rattle.std.proofs.lemmas.List.{take_rest}
use Rattle.std.proofs.lemmas.Slice.Eq.{bytes_eq-Decides}
use Rattle.tcl_text.proofs.SoughtLemmas.{goes_on_other, goes_on_same, too_short}
use Rattle.tcl_text.proofs.sought.rest_behind.Goals as goal

pub returns-then-rest-front : goal.returns-then-rest-front
returns-then-rest-front c = λ item bytes is.
    let left = c.args.rest.now in
    let front = c.args.front.now in
    goes_on_other left front (length front) item bytes is refl (too_short left front (omega arith))

pub returns-then-is_same : goal.returns-then-is_same
returns-then-is_same c = λ item bytes is.
    let left = c.args.rest.now in
    let front = c.args.front.now in
    goes_on_same left front _ (length front) item bytes is ((bytes_eq-Decides _ front).0 (sym c.is_same.ensures ∙ c.if-is_same.true)) (take_rest left (length front))

pub returns : goal.returns
returns c = λ item bytes is.
    let left = c.args.rest.now in
    let front = c.args.front.now in
    goes_on_other left front (length front) item bytes is refl (λ same. false≢true (sym c.if-is_same.false ∙ c.is_same.ensures ∙ (bytes_eq-Decides _ front).1 same))
