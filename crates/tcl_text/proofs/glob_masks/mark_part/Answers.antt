use Rattle.std.proofs.Common.{◌≡◌, ◌∷◌, ◌∙◌, ℕ, ap, arith}
use Rattle.std.specs.Str.{chars}
use Rattle.tcl_text.proofs.GlobMasks.{IfSome-any, allowed_escaped, allowed_plain, first_part, plain_behind}
use Rattle.tcl_text.proofs.glob_masks.mark_part.Goals as goal

pub returns-in_ok-escaped-in-92-clause-below : goal.returns-in_ok-escaped-in-92-clause-below
returns-in_ok-escaped-in-92-clause-below g c =
    allowed_escaped _ _ _ _ _ _ _ _ _ (c.in_ok-first.ensures.cut ∙ ap (λ (x : ℕ). x ∷ chars c.in_ok-first.after.now) c.in-92.is) c.in_ok-escaped-in-92.ensures.cut c.mark_range.ensures.below

pub returns-in_ok-escaped-in-92-clause-above : goal.returns-in_ok-escaped-in-92-clause-above
returns-in_ok-escaped-in-92-clause-above g c =
    allowed_escaped _ _ _ _ _ _ _ _ _ (c.in_ok-first.ensures.cut ∙ ap (λ (x : ℕ). x ∷ chars c.in_ok-first.after.now) c.in-92.is) c.in_ok-escaped-in-92.ensures.cut c.mark_range.ensures.above

pub returns-in-91-clause-part : goal.returns-in-91-clause-part
returns-in-91-clause-part g c =
    IfSome-any c.mark_class.result _ (first_part _ _ _ c.in_ok-first.ensures.cut (λ star. let class = c.in-91.is in omega arith))

pub returns-in-91-clause-behind : goal.returns-in-91-clause-behind
returns-in-91-clause-behind g c =
    rw (c.in_ok-first.ensures.cut ∙ ap (λ (x : ℕ). x ∷ chars c.in_ok-first.after.now) c.in-91.is) c.mark_class.ensures.behind

pub returns-in-91-clause-below : goal.returns-in-91-clause-below
returns-in-91-clause-below g c =
    rw (c.in_ok-first.ensures.cut ∙ ap (λ (x : ℕ). x ∷ chars c.in_ok-first.after.now) c.in-91.is) c.mark_class.ensures.below

pub returns-in-91-clause-above : goal.returns-in-91-clause-above
returns-in-91-clause-above g c =
    rw (c.in_ok-first.ensures.cut ∙ ap (λ (x : ℕ). x ∷ chars c.in_ok-first.after.now) c.in-91.is) c.mark_class.ensures.above

pub returns-in_default-clause-behind : goal.returns-in_default-clause-behind
returns-in_default-clause-behind g c =
    let bracket : c.in_ok-first.first ≡ 91 → ⊥ = λ e. omega arith in
    let backslash : c.in_ok-first.first ≡ 92 → ⊥ = λ e. omega arith in
    plain_behind _ _ _ c.in_ok-first.ensures.cut c.requires.some bracket backslash

pub returns-in_default-clause-below : goal.returns-in_default-clause-below
returns-in_default-clause-below g c =
    let bracket : c.in_ok-first.first ≡ 91 → ⊥ = λ e. omega arith in
    let backslash : c.in_ok-first.first ≡ 92 → ⊥ = λ e. omega arith in
    allowed_plain _ _ _ _ _ _ _ _ c.in_ok-first.ensures.cut c.requires.some bracket backslash c.mark_range-in_default.ensures.below

pub returns-in_default-clause-above : goal.returns-in_default-clause-above
returns-in_default-clause-above g c =
    let bracket : c.in_ok-first.first ≡ 91 → ⊥ = λ e. omega arith in
    let backslash : c.in_ok-first.first ≡ 92 → ⊥ = λ e. omega arith in
    allowed_plain _ _ _ _ _ _ _ _ c.in_ok-first.ensures.cut c.requires.some bracket backslash c.mark_range-in_default.ensures.above
