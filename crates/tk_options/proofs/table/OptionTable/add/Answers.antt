use Rattle.std.proofs.Common.{sym, ap, ◌∙◌}
use Rattle.tk_options.specs.Amounts.{amount_read, amounts_of, with_amount}
use Rattle.tk_options.specs.Entries.{options_in, with_option}
use Rattle.tk_options.proofs.AmountLemmas.{amounts_added}
use Rattle.tk_options.proofs.Entries.{Named, named-inserted, still-named}
use Rattle.tk_options.proofs.table.OptionTable.add.Goals as goal

pub invariant_of-self : goal.invariant_of-self
invariant_of-self c =
    let es : Named = c.self.inside.entries.entries in
    let shown = ap options_in c.in-Ok.ensures.entries ∙ (named-inserted c.name.result c.args.entry es c.name.ensures c.self.invariant.named).1 in
    record {
      named = still-named c.name.result c.args.entry es c.insert.new.self.entries c.insert.result c.name.ensures c.self.invariant.named c.insert.ensures.entries c.insert.ensures.err;
      read =
          c.with-amounts.ensures ∙ ap (with_amount c.args.entry.option (amount_read c.args.entry.value)) c.self.invariant.read
          ∙ sym (amounts_added c.args.entry (options_in es)) ∙ ap amounts_of (sym shown);
    }

pub returns-in-Ok : goal.returns-in-Ok
returns-in-Ok c =
    ap options_in c.in-Ok.ensures.entries ∙ (named-inserted c.name.result c.args.entry c.self.inside.entries.entries c.name.ensures c.self.invariant.named).1
    ∙ ap (with_option c.args.entry) c.self.view_is
