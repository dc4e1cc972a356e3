use Rattle.std.proofs.Common.{◌≡◌, ◌<◌, List, ℕ, ◌∷◌, get_or, length, ap, sym, ◌∙◌, arith}
use Rattle.std.specs.Str.{chars}
use Rattle.std.proofs.lemmas.Bool.Decides.{nat_tests}
use Rattle.std.proofs.lemmas.Str.{IsCharBoundary-after_ascii}
use Rattle.tcl_text.proofs.GlobLemmas.{behind_dash, no_dash, no_front, end_found, end_missing}
use Rattle.tcl_text.proofs.glob.range_end.Goals as goal
use Rattle.tcl_text.proofs.glob.range_end.Goals.{then-is_empty-via-then-is_empty, then-is_empty-via-else-is_empty+then-as_bytes-ne45}

pub returns-then-is_empty-clause-none : goal.returns-then-is_empty-clause-none
returns-then-is_empty-clause-none c =
    let after = c.args.after.now in
    elim c.then-is_empty.branch [
      | then-is_empty-via-then-is_empty w ↦ no_dash after c.utf8.after (no_front after (grind (arith, nat_tests)))
      | then-is_empty-via-else-is_empty+then-as_bytes-ne45 w ↦
          let same : get_or w.as_bytes.result.now 0 0 ≡ get_or after 0 0 = ap (λ (bytes : List ℕ). get_or bytes 0 0) w.as_bytes.ensures.value in
          no_dash after c.utf8.after (λ is. omega arith)
    ]

pub range_from-requires : goal.range_from-requires
range_from-requires c = λ _.
    let after = c.args.after.now in
    let same : get_or c.as_bytes.result.now 0 0 ≡ get_or after 0 0 = ap (λ (bytes : List ℕ). get_or bytes 0 0) c.as_bytes.ensures.value in
    IsCharBoundary-after_ascii after 0 c.utf8.after (grind (arith, nat_tests)) (omega arith)

pub returns-clause-found : goal.returns-clause-found
returns-clause-found c =
    let after = c.args.after.now in
    let same : get_or c.as_bytes.result.now 0 0 ≡ get_or after 0 0 = ap (λ (bytes : List ℕ). get_or bytes 0 0) c.as_bytes.ensures.value in
    end_found after c.range_from.result.now c.split_first_char.result (behind_dash after (grind (arith, nat_tests)) (omega arith) ∙ ap (λ (t : List ℕ). 45 ∷ chars t) (sym c.range_from.ensures.value)) c.split_first_char.ensures.cut

pub returns-clause-none : goal.returns-clause-none
returns-clause-none c =
    let after = c.args.after.now in
    let same : get_or c.as_bytes.result.now 0 0 ≡ get_or after 0 0 = ap (λ (bytes : List ℕ). get_or bytes 0 0) c.as_bytes.ensures.value in
    end_missing after c.range_from.result.now c.split_first_char.result (behind_dash after (grind (arith, nat_tests)) (omega arith) ∙ ap (λ (t : List ℕ). 45 ∷ chars t) (sym c.range_from.ensures.value)) c.split_first_char.ensures.cut
