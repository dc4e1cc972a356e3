use Rattle.tkhost.proofs.FirstFormat.{of_the_first_format}
use Rattle.tkhost.proofs.laws.first_format_sections.Goals as goal

pub returns : goal.returns
returns g c = of_the_first_format g.M.AliasMeaning.answer
