use Rattle.tcl_text.proofs.ElementLemmas.{gives_bare}
use Rattle.tcl_text.proofs.splitting.bare.Goals as goal

pub returns : goal.returns
returns c =
    gives_bare c.args.text.now c.in_ok-item.item c.in_ok-item.length c.range_from.result c.requires.some c.requires.begins c.in_ok-item.ensures.read c.in_ok-item.ensures.end c.range_from.ensures.value
