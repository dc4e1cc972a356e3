use Rattle.std.proofs.Common.{◌<◌, ◌≤◌, ◌++◌, ℕ, List, get_or, length, ap, subst, arith}
use Rattle.std.specs.Str.{IsCharBoundary}
use Rattle.std.proofs.lemmas.Bool.Decides.{nat_tests}
use Rattle.std.proofs.lemmas.Str.{IsCharBoundary-after_ascii, IsCharBoundary-start}
use Rattle.tk_dispatch.proofs.Runs.{itself}
use Rattle.tk_dispatch.proofs.substitution.push_behind_percent.Goals as goal

pub returns-in_ok-push_replacement-in-len1-up-clause-cut : goal.returns-in_ok-push_replacement-in-len1-up-clause-cut
returns-in_ok-push_replacement-in-len1-up-clause-cut c =
    let low_byte : get_or c.as_bytes.result.now 0 0 < 128 = grind (arith, nat_tests) in
    let low : get_or c.args.behind.now 0 0 < 128 = subst (λ (bytes : List ℕ). get_or bytes 0 0 < 128) c.as_bytes.ensures.value low_byte in
    let some : 0 < length c.args.behind.now = subst (λ (bytes : List ℕ). 0 < length bytes) c.as_bytes.ensures.value (omega arith) in
    subst (IsCharBoundary c.args.behind.now) (omega arith) (IsCharBoundary-after_ascii c.args.behind.now 0 c.utf8.behind some low)

pub returns-in-len1-up-2-clause-ok : goal.returns-in-len1-up-2-clause-ok
returns-in-len1-up-2-clause-ok c =
    let high_byte : 128 ≤ get_or c.as_bytes.result.now 0 0 = grind (arith, nat_tests) in
    let high : 128 ≤ get_or c.args.behind.now 0 0 = subst (λ (bytes : List ℕ). 128 ≤ get_or bytes 0 0) c.as_bytes.ensures.value high_byte in
    let some : 0 < length c.args.behind.now = subst (λ (bytes : List ℕ). 0 < length bytes) c.as_bytes.ensures.value (omega arith) in
    ap (λ (text : List ℕ). c.args.text.now ++ text) (itself c.args.event.now c.args.behind.now some high)

pub returns-in-len1-up-2-clause-cut : goal.returns-in-len1-up-2-clause-cut
returns-in-len1-up-2-clause-cut c = IsCharBoundary-start c.args.behind.now c.utf8.behind
