use Rattle.tk_packer.proofs.Alike.{layout_alike}
use Rattle.tk_packer.proofs.layout_laws.old_places_are_no_input.Goals as goal

pub returns : goal.returns
returns c = layout_alike
