use Rattle.std.proofs.Common.{subst}
use Rattle.tcl_text.specs.Readings.{list_of}
use Rattle.tcl_text.specs.Splitting.{Splits}
use Rattle.tcl_text.proofs.ListReading.{splits_read, splits_only, splits_refused}
use Rattle.tcl_text.proofs.text.Text.split_list.Goals as goal

pub returns-clause-read : goal.returns-clause-read
returns-clause-read c =
    splits_read c.items_of.result c.args.self.now (subst (λ text. Splits c.items_of.result (list_of text)) c.as_str.ensures.bytes c.items_of.ensures)

pub returns-clause-only : goal.returns-clause-only
returns-clause-only c =
    splits_only c.items_of.result c.args.self.now (subst (λ text. Splits c.items_of.result (list_of text)) c.as_str.ensures.bytes c.items_of.ensures)

pub returns-clause-refused : goal.returns-clause-refused
returns-clause-refused c =
    splits_refused c.items_of.result c.args.self.now (subst (λ text. Splits c.items_of.result (list_of text)) c.as_str.ensures.bytes c.items_of.ensures)
