use Rattle.std.proofs.Common.{ap, ◌∙◌, find}
use Rattle.tk_options.specs.Options.{is_named}
use Rattle.tk_options.proofs.Entries.{lookup-named}
use Rattle.tk_options.proofs.table.OptionTable.named.Goals as goal

pub returns : goal.returns
returns c = c.get.ensures.value ∙ lookup-named c.args.name.now c.self.inside.entries.entries c.self.invariant.named ∙ ap (find (is_named c.args.name.now)) c.self.view_is
