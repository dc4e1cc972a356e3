use Rattle.std.proofs.Common.{◌≡◌, ◌++◌, ◌∙◌, ap, string_bytes}
use Rattle.std.proofs.lemmas.Result.{IfOk-weaker}
use Rattle.std.specs.Prelude.{codes}
use Rattle.panels_bench.specs.Messages.{with_windows}
use Rattle.panels_bench.proofs.messages.with_windows.Goals as goal

pub returns : goal.returns
returns c =
    let words = c.args.words.now in
    IfOk-weaker _ (λ text. string_bytes text ≡ words ++ (codes ". The windows:" ++ string_bytes c.in_ok-rows.rows)) (λ text. string_bytes text ≡ with_windows words c.args.section.now)
    (λ text is. is ∙ ap (λ rows. words ++ (codes ". The windows:" ++ rows)) c.in_ok-rows.ensures) c.format.ensures.ok
