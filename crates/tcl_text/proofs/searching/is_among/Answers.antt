use Rattle.std.proofs.Common.{ℕ, List, subst}
use Rattle.tcl_text.specs.Readings.{list_of}
use Rattle.tcl_text.specs.Searching.{Tells, has_item}
use Rattle.tcl_text.proofs.searching.is_among.Goals as goal

pub returns : goal.returns
returns c =
    let told = c.has_bytes.result in
    subst (λ (item : List ℕ). Tells told (has_item item (list_of c.args.text.now))) c.as_bytes-2.ensures.value
    (subst (λ (text : List ℕ). Tells told (has_item c.as_bytes-2.result.now (list_of text))) c.as_bytes.ensures.value c.has_bytes.ensures)
