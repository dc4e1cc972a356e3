use Rattle.std.proofs.Common.{◌∙◌, ap, refl}
use Rattle.std.specs.Str.{is_utf8}
use Rattle.std.proofs.lemmas.Bool.{false_from_ne_true}
use Rattle.std.proofs.lemmas.Str.{is_utf8-from_IsUtf8, IsUtf8-from_is_utf8}
use Rattle.tk_base.specs.Names.{key_named}
use Rattle.tkhost_c.proofs.keys.keysym.Goals as goal

pub returns-in-Ok : goal.returns-in-Ok
returns-in-Ok c = rw (is_utf8-from_IsUtf8 c.args.name.now c.in-Ok.ensures.cases.1) (c.named.ensures ∙ ap key_named c.in-Ok.ensures.cases.0)

pub returns-in-Err : goal.returns-in-Err
returns-in-Err c = rw (false_from_ne_true (is_utf8 c.args.name.now) (λ is. c.in-Err.ensures.cases.0 (IsUtf8-from_is_utf8 c.args.name.now is))) refl
