use Rattle.std.proofs.Common.{eqb}
use Rattle.tcl_text.proofs.WordPlaces.{bit_told}
use Rattle.tcl_text.proofs.word_places.equal_places.Goals as goal

pub returns : goal.returns
returns c = λ place below. bit_told eqb c.args.bytes.now c.args.wanted place c.requires below
