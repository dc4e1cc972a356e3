use Rattle.std.proofs.Common.{◌≡◌, ◌++◌, ℕ, Bool, false, not, ◌||◌, List, [], Option, map, option_map, string_bytes, refl, ap, subst, sym, ◌∙◌}
use Rattle.std.specs.Prelude.{OnOk, if◌then◌else◌}
use Rattle.panels_text.specs.Asking.{Asks, asked_or_none, asks, has_name, is_simple, is_unasked, name_asked, plain_name, questions_of_call, window}
use Rattle.panels_text.specs.Roles.{texts_of, word_at}
use Rattle.panels_text.specs.Scripts.{Said, said}
use Rattle.panels_text.proofs.questions.push_questions.Goals as goal

-- a command that isn't passed over is asked by its name
not_passed : (procedures : List (List ℕ)) (windows : List (List ℕ × List ℕ)) (call : Said) (name : List ℕ) (own : Option (List ℕ)) → name ≡ plain_name (word_at call.words 0)
    → (has_name procedures name || (not (is_simple name) || is_unasked name)) ≡ false → own ≡ name_asked windows name → asked_or_none call own ≡ questions_of_call procedures windows call
not_passed procedures windows call name own is away known =
    let first = plain_name (word_at call.words 0) in
    let T : List ℕ → Type 0 = λ n. (has_name procedures n || (not (is_simple n) || is_unasked n)) ≡ false in
    let Q : Bool → Type 0 = λ b. asked_or_none call (name_asked windows first) ≡ if b then [] else asked_or_none call (name_asked windows first) in
    let asked = subst Q (sym (subst T is away)) refl in
    ap (asked_or_none call) (known ∙ ap (name_asked windows) is) ∙ asked

pub returns : goal.returns
returns c =
    let name : c.plain-name.result.now ≡ plain_name (word_at (texts_of c.args.call.now.words.items) 0) =
    c.plain-name.ensures ∙ ap plain_name (c.word_at.ensures ∙ ap (λ words. word_at (texts_of words) 0) c.as_slice.ensures.value) in
    let same = not_passed (map string_bytes c.args.procedures.now) (map window c.args.windows.now) (said c.args.call.now) c.plain-name.result.now _ name (sym c.is_passed.ensures ∙ c.if-is_passed.false) c.in_ok-own.ensures in
    let P : List Asks → Type 0 = λ more. OnOk c.push_named.result (map asks c.push_named.new.questions.items ≡ map asks c.args.questions.now.items ++ more) in
    subst P same c.push_named.ensures
