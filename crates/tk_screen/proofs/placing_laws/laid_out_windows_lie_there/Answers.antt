use Rattle.tk_screen.proofs.Laid.{all_laid}
use Rattle.tk_screen.proofs.placing_laws.laid_out_windows_lie_there.Goals as goal

pub returns : goal.returns
returns c = all_laid
