use Rattle.panels_text.specs.Reports.{failure_element}
use Rattle.panels_text.proofs.PushLemmas.{pushed-five}
use Rattle.panels_text.proofs.formats.push_failure.Goals as goal

pub returns : goal.returns
unfolding failure_element
returns c =
    pushed-five _ _ _ _ _ _ _ _ _ _ _ c.in_ok-push_str.ensures.bytes (rw c.first_line.ensures at c.in_ok-push_attribute.ensures) c.in_ok-push_str-2.ensures.bytes c.in_ok-push_escaped.ensures c.in_ok-push_str-3.ensures.bytes
