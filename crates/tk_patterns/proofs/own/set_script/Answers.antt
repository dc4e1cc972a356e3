use Rattle.tk_patterns.proofs.BindLemmas.{script_at}
use Rattle.tk_patterns.proofs.own.set_script.Goals as goal

pub returns : goal.returns
returns c = script_at c.args.bindings.now.items c.args.place c.args.script c.index_mut-binding.result.now c.requires c.index_mut-binding.ensures.value
