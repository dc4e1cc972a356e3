use Rattle.panels_text.proofs.formats.counts_of.Goals as goal

pub returns : goal.returns
returns c = rw c.count_failed-failed.ensures at c.in_ok-counts.ensures.ok
