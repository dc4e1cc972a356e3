use Rattle.std.proofs.Common.{◌≡◌, ◌++◌, inl, string_bytes}
use Rattle.std.proofs.lemmas.Result.{IfOk-weaker}
use Rattle.std.specs.Prelude.{codes}
use Rattle.panels_text.specs.Words.{IsKnown, Serves}
use Rattle.panels_text.proofs.nearest.serving.Goals as goal

pub returns-in-Some-clause-serves : goal.returns-in-Some-clause-serves
returns-in-Some-clause-serves c =
    let is_known : IsKnown c.in-Some.near.now c.args.known.now = rw c.in-Some.is at c.in_ok-found.ensures.known in
    IfOk-weaker _ (λ text. string_bytes text ≡ codes "did you mean " ++ (c.in-Some.near.now ++ codes "?")) (λ text. Serves c.args.known.now (string_bytes text)) (λ text is. inl (c.in-Some.near.now, is_known, is)) c.format.ensures.ok
