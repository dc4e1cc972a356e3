use Rattle.panels_film.proofs.Parsing.{number_parsed, number_refused}
use Rattle.panels_film.proofs.numbers.number_in.Goals as goal

pub returns-in-Ok : goal.returns-in-Ok
returns-in-Ok c = number_parsed c.args.text.now c.in-Ok.number c.in-Ok.ensures.value.0

pub returns-in-Err : goal.returns-in-Err
returns-in-Err c = number_refused c.args.text.now c.in-Err.ensures.value.0
