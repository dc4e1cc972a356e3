use Rattle.tcl_text.proofs.AnswerLemmas.{given_error}
use Rattle.tk_pack_commands.proofs.errors.not_packed.Goals as goal

pub returns : goal.returns
returns g c = given_error _ _ _ (rw c.as_str.ensures.bytes at c.error_about.ensures)
