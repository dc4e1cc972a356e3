use Rattle.tk_pack_commands.proofs.errors.no_value.Goals as goal

pub returns : goal.returns
returns g c = rw c.as_str.ensures.bytes at c.missing_value.ensures
