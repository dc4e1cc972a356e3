-- What a map keeps its named entries keep.
use Rattle.std.proofs.Common.{ℕ, Bool, List, ◌∙◌, sym, ap, subst, not, chars}
use Rattle.tcl_text.specs.Glob.{glob_matches}
use Rattle.tcl_vars.specs.Named.{named_entries}
use Rattle.tcl_vars.specs.Short.{ShortNames}
use Rattle.tcl_vars.specs.Table.{values_but}
use Rattle.tcl_vars.proofs.NamedLemmas.{named_entries-filter}
use Rattle.tcl_vars.proofs.ShortLemmas.{ShortNames-filter}
use Rattle.tcl_vars.proofs.table.Table.leave_out.Goals as goal

pub returns : goal.returns
returns g c =
    ap named_entries c.leave_out.ensures ∙ named_entries-filter (λ name. not (glob_matches (chars c.args.pattern.now) (chars name))) c.self.inside.entries.entries
    ∙ ap (values_but c.args.pattern.now) c.self.view_is

pub invariant_of-self : goal.invariant_of-self
invariant_of-self g c =
    let keeps : List ℕ → Bool = λ name. not (glob_matches (chars c.args.pattern.now) (chars name)) in
    subst ShortNames (sym (ap named_entries c.leave_out.ensures ∙ named_entries-filter keeps c.self.inside.entries.entries))
    (ShortNames-filter keeps (named_entries c.self.inside.entries.entries) c.self.invariant)
