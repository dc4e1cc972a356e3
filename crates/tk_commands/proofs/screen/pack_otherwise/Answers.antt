use Rattle.tk_commands.proofs.PackTouch.{still_marked}
use Rattle.tk_commands.proofs.screen.pack_otherwise.Goals as goal

pub invariant_of-marked : goal.invariant_of-marked
invariant_of-marked c =
    still_marked c.args.slot c.args.words.now c.marked.inside.marks c.repack.new.self c.marked.inside.screen c.pack_windows.new.screen c.in-Ok.answer c.marked.invariant c.repack.ensures.own
    c.repack.ensures.others c.in-Ok.ensures.others c.requires c.in-Ok.ensures.own
