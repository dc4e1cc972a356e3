use Rattle.std.proofs.Common.{◌≡◌, ◌++◌, ◌∙◌, List, ap, string_bytes, ℕ}
use Rattle.std.proofs.lemmas.Result.{IfOk-weaker}
use Rattle.std.specs.Prelude.{codes}
use Rattle.panels_bench.specs.Messages.{path_above}
use Rattle.panels_bench.proofs.messages.covered.Goals as goal

pub returns : goal.returns
returns c =
    let told : List ℕ → List ℕ = λ above. codes "window " ++ (c.args.path.now ++ (codes " isn't hit: there " ++ (above ++ codes " lies above it"))) in
    IfOk-weaker _ (λ text. string_bytes text ≡ told (string_bytes c.in_ok-above.above)) (λ text. string_bytes text ≡ told (path_above c.args.section.now c.args.path.now c.args.place))
    (λ text is. is ∙ ap told c.in_ok-above.ensures) c.format.ensures.ok
