use Rattle.std.proofs.Common.{◌++◌, sym, ◌∙◌}
use Rattle.tcl_text.specs.Edit.{edited}
use Rattle.tcl_text.specs.Readings.{list_form}
use Rattle.tk_widgets.proofs.Lists.{read_again, within_is, beyond_is}
use Rattle.tk_widgets.proofs.listbox.push_elements.Goals as goal

pub returns-in-Ok-clause-ok : goal.returns-in-Ok-clause-ok
unfolding edited
returns-in-Ok-clause-ok c =
    λ all is. within_is (list_form (all ++ c.args.new.now)) c.edit.new.self (sym (read_again c.args.list.now all c.args.new.now is) ∙ c.in-Ok.ensures.ok)

pub returns-in-Err-TooLong : goal.returns-in-Err-TooLong
unfolding edited
returns-in-Err-TooLong c = record {
  ok = tt;
  too_long = λ _ all is. beyond_is (list_form (all ++ c.args.new.now)) c.in-Err-TooLong.field-0
      (sym (read_again c.args.list.now all c.args.new.now is) ∙ c.in-Err-TooLong.ensures.refused (λ e. let clash = sym c.in-Err-TooLong.field-0-is ∙ e in cc));
  err = c.in-Err-TooLong.ensures.err;
}

pub returns-in-Err-BadList : goal.returns-in-Err-BadList
unfolding edited
returns-in-Err-BadList c = record {
  ok = tt;
  too_long = λ _ all is. beyond_is (list_form (all ++ c.args.new.now)) c.in-Err-BadList.field-0
      (sym (read_again c.args.list.now all c.args.new.now is) ∙ c.in-Err-BadList.ensures.refused (λ e. let clash = sym c.in-Err-BadList.field-0-is ∙ e in cc));
  err = c.in-Err-BadList.ensures.err;
}
