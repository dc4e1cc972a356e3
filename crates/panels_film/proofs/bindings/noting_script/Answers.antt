use Rattle.std.proofs.Common.{ℕ, List, ◌++◌, ap, ◌∙◌}
use Rattle.panels_film.specs.declared.bindings.TheConstants.{NOTING}
use Rattle.panels_film.proofs.Tracing.{behind_front, no_error}
use Rattle.panels_film.proofs.bindings.noting_script.Goals as goal

pub returns-in-Ok : goal.returns-in-Ok
returns-in-Ok c =
    behind_front NOTING.now c.args.script.now c.as_str-2.result.now c.in-Ok.noting
    (c.as_str-2.ensures.value ∙ (c.in_ok-noting.ensures.ok ∙ ap (λ (s : List ℕ). NOTING.now ++ s) c.as_str.ensures.bytes)) c.in-Ok.ensures.ok
    (λ long. no_error c.in-Ok.noting _ (c.in-Ok.ensures.too_long.1 long))
