use Rattle.std.proofs.Common.{◌≡◌, ◌∙◌, ◌+◌, ◌++◌, [], ℕ, List, IsUtf8, ap, arith, length, subst, sym, take}
use Rattle.std.proofs.lemmas.Str.{IsUtf8-append}
use Rattle.tcl_text.proofs.short.ShortText.joined.Goals as goal

-- what was written in front stays there
both : (front bytes shown more c m : List ℕ) → shown ≡ c → more ≡ m → take (0 + length shown) front ≡ [] ++ shown → take (length c + length more) bytes ≡ take (length c) front ++ more
    → take (length c + length m) bytes ≡ c ++ m
both front bytes shown more c m is_c is_m first second =
    let n : 0 + length shown ≡ length c = omega (arith, ap length is_c) in
    let begun : take (length c) front ≡ c = ap (λ (k : ℕ). take k front) (sym n) ∙ first ∙ is_c in
    ap (λ (t : List ℕ). take (length c + length t) bytes) (sym is_m) ∙ second ∙ ap (λ (t : List ℕ). t ++ more) begun ∙ ap (λ (t : List ℕ). c ++ t) is_m

pub invariant_of-result : goal.invariant_of-result
invariant_of-result c =
    let is = both c.written-front.result c.written-bytes.result c.as_bytes.result.now c.as_bytes-2.result.now c.args.characters.now c.args.more.now c.as_bytes.ensures.value c.as_bytes-2.ensures.value c.written-front.ensures c.written-bytes.ensures in
    record { fits = omega (arith, c.requires); utf8 = ∣ subst IsUtf8 (sym is) (IsUtf8-append _ _ c.utf8.characters c.utf8.more) ∣₁ }

pub returns : goal.returns
returns c =
    both c.written-front.result c.written-bytes.result c.as_bytes.result.now c.as_bytes-2.result.now c.args.characters.now c.args.more.now c.as_bytes.ensures.value c.as_bytes-2.ensures.value c.written-front.ensures c.written-bytes.ensures
