use Rattle.std.proofs.Common.{◌≡◌, ◌∙◌, sym, get_or}
use Rattle.std.proofs.lemmas.List.{take_rest}
use Rattle.tcl_text.specs.Backslash.{kind_of}
use Rattle.tcl_text.proofs.ElementLemmas.{begins_bare_from}
use Rattle.tcl_text.proofs.SoughtLemmas.{tells_braced, tells_quoted}
use Rattle.tcl_text.proofs.sought.front_is.Goals as goal

pub bare_is-requires : goal.bare_is-requires
bare_is-requires c =
    let text = c.args.text.now in
    let is : kind_of (get_or text 0 0) ≡ c.kind.result = sym c.kind.ensures in
    record {
      some = c.requires.some;
      begins = begins_bare_from (get_or text 0 0) c.requires.black (λ e. c.in_default.not-OpenBrace (sym is ∙ e)) (λ e. c.in_default.not-Quote (sym is ∙ e));
    }

pub returns-in-OpenBrace : goal.returns-in-OpenBrace
returns-in-OpenBrace c = tells_braced c.args.item.now c.args.text.now _ c.braced_is.result (take_rest c.args.text.now 1) c.requires.some (sym c.kind.ensures ∙ c.in-OpenBrace.is) c.braced_is.ensures

pub returns-in-Quote : goal.returns-in-Quote
returns-in-Quote c = tells_quoted c.args.item.now c.args.text.now _ c.quoted_is.result (take_rest c.args.text.now 1) c.requires.some (sym c.kind.ensures ∙ c.in-Quote.is) c.quoted_is.ensures
