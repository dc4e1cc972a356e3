use Rattle.toml.proofs.Views.{table_get}
use Rattle.panels_text.proofs.table.Part.value.Goals as goal

pub returns : goal.returns
returns c = table_get _ c.args.key.now c.args.self.now.table.now.entries c.get.ensures.value
