use Rattle.std.proofs.Common.{◌≡◌, ap, subst, sym, ◌∙◌}
use Rattle.toml.proofs.Views.{view-Integer}
use Rattle.toml.specs.View.{view}
use Rattle.panels_bench.specs.Sights.{plain_in}
use Rattle.panels_bench.specs.Values.{Says, short}
use Rattle.panels_bench.proofs.asking.plain.Goals as goal

pub returns-in_ok-digits-in-Integer : goal.returns-in_ok-digits-in-Integer
returns-in_ok-digits-in-Integer c =
    let same : short c.as_str-in-Integer.result.now ≡ plain_in (view c.args.value.now) =
    ap short (c.as_str-in-Integer.ensures.value ∙ c.in_ok-digits-in-Integer.ensures.ok) ∙ sym (ap plain_in (ap view c.in-Integer.is ∙ view-Integer c.in-Integer.number)) in
    subst (λ said. Says (λ text. text) c.text_of-in-Integer.result said) same c.text_of-in-Integer.ensures.said
