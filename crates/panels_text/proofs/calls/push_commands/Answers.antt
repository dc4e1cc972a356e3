use Rattle.std.proofs.Common.{◌≡◌, ◌++◌, ◌∷◌, [], ℕ, Bool, false, List, map, is_some, ap, subst, sym, ◌∙◌}
use Rattle.std.proofs.lemmas.List.{map-append}
use Rattle.std.specs.Prelude.{if◌then◌else◌}
use Rattle.panels_text.specs.Unread.{Misread, is_readable, misread, misread_in}
use Rattle.panels_text.specs.declared.calls.Unread.{Unread}
use Rattle.panels_text.proofs.calls.push_commands.Goals as goal

-- one script more that can't be read
one_more : (line : ℕ) (text own : List ℕ) (unread next : List Unread) (one : Unread) → next ≡ unread ++ one ∷ [] → own ≡ text → misread one ≡ misread_in line own → is_readable own ≡ false
    → map misread next ≡ map misread unread ++ (if is_readable text then [] else misread_in line text ∷ [])
one_more line text own unread next one grown is told away =
    let P : Bool → Type 0 = λ b. map misread next ≡ map misread unread ++ (if b then [] else misread_in line text ∷ []) in
    let none : is_readable text ≡ false = ap is_readable (sym is) ∙ away in
    let last : misread one ≡ misread_in line text = told ∙ ap (misread_in line) is in
    subst P (sym none) (ap (map misread) grown ∙ map-append misread unread (one ∷ []) ∙ ap (λ (m : Misread). map misread unread ++ m ∷ []) last)

pub returns-in_ok-push-in-None-clause-unread : goal.returns-in_ok-push-in-None-clause-unread
returns-in_ok-push-in-None-clause-unread c =
    one_more c.args.body.now.line c.args.body.now.text.items c.as_slice-text.result.now c.args.found.now.unread.items c.push.new.self.items c.in_ok-fault_place-in-None.field-0
    c.in_ok-push-in-None.ensures.items c.as_slice-text.ensures.value c.in_ok-fault_place-in-None.ensures (sym c.in_ok-script.ensures.readable ∙ ap is_some c.in-None.is)
