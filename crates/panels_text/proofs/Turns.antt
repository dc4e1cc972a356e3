-- Lemmas on texts, their lines and lists that are gone through.
use Rattle.std.proofs.Common.{◌≡◌, ◌≢◌, ℕ, zero, suc, lit<, ◌+◌, ◌<◌, true, false, eqb, List, [], ◌∷◌, ◌++◌, length, get_or, take, drop, ◌-◌, map, Option, Some, None, option_map, Bor, refl, sym, ap, ◌∙◌, subst, ⊎_elim, arith}
use Rattle.std.specs.Iterator.{Yields}
use Rattle.std.proofs.Math.Bool.{or-true}
use Rattle.std.proofs.lemmas.Bool.{cases_Bool, eq-eqb, ne_eqb}
use Rattle.std.proofs.lemmas.Iterator.{YieldsList}
use Rattle.std.proofs.lemmas.Iterator.Consumers.{YieldsList-end, YieldsList-turn}
use Rattle.std.proofs.lemmas.List.{at_drop_all, drop_more, length_push}
use Rattle.std.proofs.lemmas.Str.{IsCharBoundary-before_ascii, IsUtf8-from_is_utf8, is_utf8-from_IsUtf8}
use Rattle.std.proofs.lemmas.Str.Pattern.{NoCharPasses-char, ends_text, rfind_char, starts_text}
use Rattle.std.specs.List.{ends_with, starts_with}
use Rattle.std.specs.Option.{MatchOption}
use Rattle.std.specs.Str.{IsCharBoundary, IsUtf8, is_utf8}
use Rattle.std.specs.Str.Pattern.{FindsTextPrefix, FindsTextSuffix, RFindsChar, SplitsAroundMatch, StripsPrefix, StripsSuffix}
use Rattle.panels_text.specs.Texts.{before, behind, folder, has_byte, text_of}

-- what is left of a list at one of its elements
pub drop_at : {A : Type 0} (all : List A) (n : ℕ) (x : A) → (n < length all) × (x ≡ get_or all n x) → drop n all ≡ x ∷ drop (n + 1) all
drop_at all n x turn = drop_more all n x turn.0 ∙ ap (λ y. y ∷ drop (n + 1) all) (sym turn.1)

pub text_of-text : (bytes : List ℕ) → IsUtf8 bytes → text_of bytes ≡ bytes
text_of-text bytes is = rw (is_utf8-from_IsUtf8 bytes is) refl

pub text_of-none : (bytes : List ℕ) → ¬ (IsUtf8 bytes) → text_of bytes ≡ []
text_of-none bytes none = ⊎_elim (λ yes. absurd (none (IsUtf8-from_is_utf8 bytes yes))) (λ other. rw other refl) (cases_Bool (is_utf8 bytes))

-- what `strip_prefix` and `strip_suffix` leave
pub behind-strip : (front text : List ℕ) (r : Option (Bor (List ℕ))) → MatchOption r (FindsTextPrefix front text None) (λ x. StripsPrefix (FindsTextPrefix front) text x.now) → option_map (λ rest. rest.now) r ≡ behind front text
behind-strip front text None none = rw (sym (starts_text false front text none)) refl
behind-strip front text (Some rest) some =
    let P : ℕ → Type 0 = λ n. IsCharBoundary text n in
    let starts : true ≡ starts_with eqb text front = starts_text true front text (some.0, some.1, subst P (sym some.1.0) some.1.2) in
    rw (sym starts) (ap Some (some.2 ∙ ap (λ n. drop n text) some.1.0))

pub before-strip : (end text : List ℕ) (r : Option (Bor (List ℕ))) → MatchOption r (FindsTextSuffix end text None) (λ x. StripsSuffix (FindsTextSuffix end) text x.now) → option_map (λ rest. rest.now) r ≡ before end text
before-strip end text None none = rw (sym (ends_text false end text none)) refl
before-strip end text (Some rest) some =
    let P : ℕ → Type 0 = λ n. IsCharBoundary text (length text - n) in
    let ends : true ≡ ends_with eqb text end = ends_text true end text (some.0, some.1, omega (arith, some.3), subst P (sym some.1.0) some.1.2) in
    rw (sym ends) (ap Some (some.2 ∙ ap (λ n. take (length text - n) text) some.1.0))

-- what is left of a list that an iterator gives, at its next item and at its end
pub turn_more : {A B : Type 0} (v : A → B) (all : List B) (xs : List A) (x : A) → (length xs < length all) × (v x ≡ get_or all (length xs) (v x)) → drop (length xs) all ≡ v x ∷ drop (length (xs ++ x ∷ [])) all
turn_more v all xs x turn = rw (length_push xs x) (drop_at all (length xs) (v x) turn)

pub turn_none : {A B : Type 0} (v : A → B) (all : List B) (xs : List A) → (map v xs ≡ all) × (length xs ≡ length all) → drop (length xs) all ≡ []
turn_none v all xs end = at_drop_all (λ left. left) all (length xs) (omega (arith, end.1))

-- the same of a `for` on an iterator whose road is known
module _ {S A B : Type 0} {steps : S → Option A → S → Type 0} {v : A → B} {s : S} (all : List B) (road : YieldsList steps v s all) (xs : List A) {t : S} (yields : Yields steps s xs t) where
  pub road_more : {r : Option A} {u : S} (x : A) → r ≡ Some x → steps t r u → drop (length xs) all ≡ v x ∷ drop (length (xs ++ x ∷ [])) all
  road_more {r} {u} x is step = turn_more v all xs x (YieldsList-turn road xs t yields r u x is step)

  pub road_end : {r : Option A} {u : S} → r ≡ None → steps t r u → drop (length xs) all ≡ []
  road_end {r} {u} is step = turn_none v all xs (YieldsList-end road xs t yields r u is step)

no_byte : (byte : ℕ) (text : List ℕ) → ((k : ℕ) → k < length text → get_or text k 0 ≢ byte) → has_byte byte text ≡ false
no_byte byte [] away = refl
no_byte byte (b ∷ bs) away = rw (ne_eqb b byte (away 0 (omega arith)), no_byte byte bs (λ k h. away (suc k) (omega arith))) refl

byte_at : (byte : ℕ) (text : List ℕ) (i : ℕ) → i < length text → get_or text i 0 ≡ byte → has_byte byte text ≡ true
byte_at byte [] i h here = absurd (omega arith)
byte_at byte (b ∷ bs) zero h here = rw (eq-eqb b byte here) refl
byte_at byte (b ∷ bs) (suc i) h here = rw (byte_at byte bs i (omega arith) here) (or-true (eqb b byte))

folder-none : (file : List ℕ) → ((k : ℕ) → k < length file → get_or file k 0 ≢ 47) → folder file ≡ []
folder-none [] away = refl
folder-none (b ∷ bs) away = rw (no_byte 47 (b ∷ bs) away) refl

folder-some : (file : List ℕ) (i : ℕ) → i < length file → get_or file i 0 ≡ 47 → ((k : ℕ) → i < k → k < length file → get_or file k 0 ≢ 47) → folder file ≡ take i file ++ 47 ∷ []
folder-some [] i h here later = absurd (omega arith)
folder-some (b ∷ bs) zero h here later =
    rw (byte_at 47 (b ∷ bs) 0 h here, folder-none bs (λ k l. later (suc k) (omega arith) (omega arith))) (ap (λ x. x ∷ []) here)
folder-some (b ∷ bs) (suc i) h here later =
    rw (byte_at 47 (b ∷ bs) (suc i) h here, folder-some bs i (omega arith) here (λ k l m. later (suc k) (omega arith) (omega arith))) refl

-- what `rsplit_once` finds before the last slash
pub folder-split : (file front back : List ℕ) → SplitsAroundMatch (RFindsChar 47) file front back → folder file ≡ front ++ 47 ∷ []
folder-split file front back parts =
    let i : ℕ = parts.0 in
    let ends : parts.1 ≡ i + 1 = parts.2.1.ends in
    let low : i < length file = omega (arith, parts.7) in
    let here : get_or file i 0 ≡ 47 = parts.2.1.byte (lit< tt) in
    let P : ℕ → Type 0 = λ j. IsCharBoundary file j in
    let found = rfind_char 47 file (Some i) (parts.1, parts.2, parts.5, IsCharBoundary-before_ascii file i low (omega arith), subst P (sym ends) parts.2.1.after) (lit< tt) in
    folder-some file i found.0 found.1 found.2 ∙ ap (λ taken. taken ++ 47 ∷ []) (sym parts.3)

pub folder-whole : (file : List ℕ) → RFindsChar 47 file None → folder file ≡ []
folder-whole file none = folder-none file (λ k h. NoCharPasses-char 47 file k none (lit< tt) h)
