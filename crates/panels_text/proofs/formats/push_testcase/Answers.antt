use Rattle.panels_text.specs.Reports.{case_element}
use Rattle.panels_text.proofs.PushLemmas.{pushed-six}
use Rattle.panels_text.proofs.formats.push_testcase.Goals as goal

pub returns : goal.returns
unfolding case_element
returns c =
    pushed-six _ _ _ _ _ _ _ _ _ _ _ _ _ c.in_ok-push_str.ensures.bytes (rw c.as_str.ensures.value at c.in_ok-push_attribute.ensures) (rw c.name_of.ensures at c.in_ok-push_attribute-2.ensures) c.in_ok-push_str-2.ensures.bytes
    (rw c.as_slice.ensures.value at c.in_ok-push_failures.ensures) c.in_ok-push_str-3.ensures.bytes
