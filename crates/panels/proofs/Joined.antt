-- A text that grows part by part.
use Rattle.std.proofs.Common.{◌≡◌, ℕ, List, ◌++◌, ap, ◌∙◌, append_assoc}

pub joined : (first one rest : List ℕ) {next last : List ℕ} → next ≡ first ++ one → last ≡ next ++ rest → last ≡ first ++ (one ++ rest)
joined first one rest {next} {last} e f = f ∙ ap (λ text. text ++ rest) e ∙ append_assoc first one rest
