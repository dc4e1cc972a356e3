use Rattle.std.proofs.Common.{◌++◌, ap, ◌∙◌}
use Rattle.std.specs.Prelude.{codes, flat_map}
use Rattle.panels_text.specs.Reports.{case_element}
use Rattle.panels_text.proofs.PushLemmas.{parts_end}
use Rattle.panels_text.proofs.formats.junit.Goals as goal

pub returns : goal.returns
returns c =
    parts_end case_element c.args.cases.now _ _ _ _ _ c.loop-case-test.false c.loop-case.invariant c.in_ok-push_str.ensures.bytes
    ∙ ap (λ head. head ++ (flat_map case_element c.args.cases.now ++ codes "  </testsuite>\n</testsuites>\n")) c.in_ok-text.ensures
