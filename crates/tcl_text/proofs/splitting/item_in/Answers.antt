use Rattle.tcl_text.proofs.ElementLemmas.{unescaped_utf8}
use Rattle.tcl_text.proofs.splitting.item_in.Goals as goal

pub of_bytes-requires-clause-utf8 : goal.of_bytes-requires-clause-utf8
of_bytes-requires-clause-utf8 c =
    unescaped_utf8 c.args.quoted c.as_bytes-bytes.result.now c.in_ok-item.item.items c.in_ok-item.length c.in_ok-item.ensures.read c.in_ok-item.ensures.end c.as_bytes-bytes.ensures.utf8
