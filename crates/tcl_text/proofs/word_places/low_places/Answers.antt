use Rattle.std.proofs.Common.{leb}
use Rattle.tcl_text.proofs.WordPlaces.{bit_told}
use Rattle.tcl_text.proofs.word_places.low_places.Goals as goal

pub returns : goal.returns
returns c = λ place below. bit_told leb c.args.bytes.now c.args.highest place c.requires below
