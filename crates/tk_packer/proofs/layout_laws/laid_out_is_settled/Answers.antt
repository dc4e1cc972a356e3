use Rattle.tk_packer.proofs.Alike.{laid_out_twice}
use Rattle.tk_packer.proofs.layout_laws.laid_out_is_settled.Goals as goal

pub returns : goal.returns
returns c = laid_out_twice
