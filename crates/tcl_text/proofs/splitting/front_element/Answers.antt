use Rattle.std.proofs.Common.{◌≡◌, ◌∙◌, ap, sym, get_or, arith}
use Rattle.std.proofs.lemmas.Str.{IsCharBoundary-after_ascii}
use Rattle.std.proofs.lemmas.Bool.{eqb-true}
use Rattle.tcl_text.specs.Backslash.{kind_of}
use Rattle.tcl_text.proofs.SplittingLemmas.{told}
use Rattle.tcl_text.proofs.ElementLemmas.{gives_braced, gives_quoted, begins_bare_from}
use Rattle.tcl_text.specs.declared.splitting.ByteKind.TheVariants.{OpenBrace, Quote}
use Rattle.tcl_text.proofs.splitting.front_element.Goals as goal

pub range_from-requires : goal.range_from-requires
range_from-requires c = λ _.
    let text = c.args.text.now in
    let is : kind_of (get_or text 0 0) ≡ OpenBrace = ap (λ bytes. kind_of (get_or bytes 0 0)) (sym c.as_bytes.ensures.value) ∙ sym c.kind.ensures ∙ c.in-OpenBrace.is in
    let brace : get_or text 0 0 ≡ 123 = eqb-true (get_or text 0 0) 123 (told (get_or text 0 0) OpenBrace is) in
    IsCharBoundary-after_ascii text 0 c.utf8.text c.requires.some (omega arith)

pub range_from-requires-in-Quote : goal.range_from-requires-in-Quote
range_from-requires-in-Quote c = λ _.
    let text = c.args.text.now in
    let is : kind_of (get_or text 0 0) ≡ Quote = ap (λ bytes. kind_of (get_or bytes 0 0)) (sym c.as_bytes.ensures.value) ∙ sym c.kind.ensures ∙ c.in-Quote.is in
    let quote : get_or text 0 0 ≡ 34 = eqb-true (get_or text 0 0) 34 (told (get_or text 0 0) Quote is) in
    IsCharBoundary-after_ascii text 0 c.utf8.text c.requires.some (omega arith)

pub bare-requires : goal.bare-requires
bare-requires c =
    let text = c.args.text.now in
    let is : kind_of (get_or text 0 0) ≡ c.kind.result = ap (λ bytes. kind_of (get_or bytes 0 0)) (sym c.as_bytes.ensures.value) ∙ sym c.kind.ensures in
    record {
      some = c.requires.some;
      short = c.requires.short;
      begins = begins_bare_from (get_or text 0 0) c.requires.black (λ e. c.in_default.not-OpenBrace (sym is ∙ e)) (λ e. c.in_default.not-Quote (sym is ∙ e));
    }

pub returns-in-OpenBrace : goal.returns-in-OpenBrace
returns-in-OpenBrace c =
    let text = c.args.text.now in
    let is : kind_of (get_or text 0 0) ≡ OpenBrace = ap (λ bytes. kind_of (get_or bytes 0 0)) (sym c.as_bytes.ensures.value) ∙ sym c.kind.ensures ∙ c.in-OpenBrace.is in
    gives_braced text c.range_from.result.now c.braced.result c.range_from.ensures.value c.requires.some is c.braced.ensures

pub returns-in-Quote : goal.returns-in-Quote
returns-in-Quote c =
    let text = c.args.text.now in
    let is : kind_of (get_or text 0 0) ≡ Quote = ap (λ bytes. kind_of (get_or bytes 0 0)) (sym c.as_bytes.ensures.value) ∙ sym c.kind.ensures ∙ c.in-Quote.is in
    gives_quoted text c.range_from-in-Quote.result.now c.quoted.result c.range_from-in-Quote.ensures.value c.requires.some is c.quoted.ensures
