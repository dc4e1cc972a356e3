use Rattle.tcl_text.proofs.AnswerLemmas.{given_error}
use Rattle.tk_pack_commands.proofs.errors.bad_value.Goals as goal

pub returns-in-Ok : goal.returns-in-Ok
returns-in-Ok g c = given_error _ _ _ (rw (c.as_str-in-Ok.ensures.bytes, c.as_str.ensures.value, c.in-Ok.ensures) at c.quoting_error.ensures)
