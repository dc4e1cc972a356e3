use Rattle.std.proofs.Common.{arith}
use Rattle.tcl_text.proofs.WordPlaces.{white_told}
use Rattle.tcl_text.proofs.word_places.white_places.Goals as goal

pub returns : goal.returns
returns c = λ place below.
    white_told c.args.bytes.now c.equal_places.result c.low_places.result c.low_places-2.result place (omega arith) below (c.equal_places.ensures place below) (c.low_places.ensures place below) (c.low_places-2.ensures place below)
