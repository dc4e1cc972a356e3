use Rattle.tk_dispatch.proofs.MadeLemmas.{kept_chosen}
use Rattle.tk_dispatch.proofs.made.keep_chosen.Goals as goal

pub returns : goal.returns
returns c script_of its were =
    kept_chosen script_of c.make_room.new.chosen c.insert.new.self c.args.tag c.args.script c.in_ok-insert.ensures.updates its (c.make_room.ensures script_of were)
