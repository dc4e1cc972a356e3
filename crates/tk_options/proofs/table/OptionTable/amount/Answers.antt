use Rattle.std.proofs.Common.{◌≤◌, sym, ◌∙◌, subst}
use Rattle.tk_options.specs.Entries.{options_in}
use Rattle.tk_options.specs.Forms.{most_amount}
use Rattle.tk_options.proofs.AmountLemmas.{amount_of_bound, kept_bound}
use Rattle.tk_options.proofs.table.OptionTable.amount.Goals as goal

pub returns-in-Some-clause-bound : goal.returns-in-Some-clause-bound
returns-in-Some-clause-bound c =
    kept_bound c.args.option c.self.inside.amounts (options_in c.self.inside.entries.entries) c.in-Some.amount c.self.invariant.read (sym c.of.ensures ∙ c.in-Some.is)

pub returns-in-None-clause-bound : goal.returns-in-None-clause-bound
returns-in-None-clause-bound c = subst (λ n. n ≤ most_amount) (sym c.amount_read.ensures) (amount_of_bound c.args.option c.args.self.now)
