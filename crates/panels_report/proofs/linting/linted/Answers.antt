use Rattle.panels_report.proofs.linting.linted.Goals as goal

pub returns : goal.returns
returns c = record {
  found = c.in_ok-found.found;
  asks_are = c.in_ok-found.ensures.questions;
  procedures_are = c.in_ok-found.ensures.procedures;
  unread_are = c.in_ok-found.ensures.unread;
  is_wrong = c.in_ok-wrong.ensures;
}
