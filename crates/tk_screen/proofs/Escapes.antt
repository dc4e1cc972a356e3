-- Texts in a line: a run of bytes that stand for themselves, up to one that is escaped.
use Rattle.std.proofs.Common.{◌≡◌, ℕ, zero, suc, ◌<◌, Bool, true, false, ◌||◌, List, [], ◌∷◌, ◌++◌, length, get_or, take, drop, refl, sym, ap, ◌∙◌, append_assoc, add-one, take_all, length-drop, ◌+◌, ◌-◌, arith}
use Rattle.std.specs.Prelude.{◌==◌, codes, if◌then◌else◌}
use Rattle.memchr.specs.Find.{is_byte3}
use Rattle.tk_screen.specs.Fields.{escaped_byte, escaped}

-- whether a byte is escaped
abbrev pub is_escaped : ℕ → Bool
is_escaped byte = is_byte3 92 10 13 byte

otherwise : {A : Type 0} (x y z : Bool) (a b c d : A) → (x || y || z) ≡ false → (if x then a else if y then b else if z then c else d) ≡ d
otherwise true true true a b c d e = cc
otherwise true true false a b c d e = cc
otherwise true false true a b c d e = cc
otherwise true false false a b c d e = cc
otherwise false true true a b c d e = cc
otherwise false true false a b c d e = cc
otherwise false false true a b c d e = cc
otherwise false false false a b c d e = refl

not_true : (b : Bool) → (b ≡ true → ⊥) → b ≡ false
not_true true isnt = absurd (isnt refl)
not_true false isnt = refl

plain_byte : (byte : ℕ) → (is_escaped byte ≡ true → ⊥) → escaped_byte byte ≡ byte ∷ []
plain_byte byte isnt = otherwise (byte == 92) (byte == 10) (byte == 13) (codes "\\\\") (codes "\\n") (codes "\\r") (byte ∷ []) (not_true (is_escaped byte) isnt)

-- a text without such bytes is itself
pub escaped-plain : (text : List ℕ) → ((k : ℕ) → k < length text → is_escaped (get_or text k 0) ≡ true → ⊥) → escaped text ≡ text
escaped-plain [] none = refl
escaped-plain (byte ∷ text) none =
    ap (λ front. front ++ escaped text) (plain_byte byte (none 0 (omega arith)))
    ∙ ap (λ rest. byte ∷ rest) (escaped-plain text (λ k within. none (suc k) (omega (arith, within))))

-- a text with the first such byte at a place
pub escaped-first : (text : List ℕ) (place : ℕ) → place < length text → ((k : ℕ) → k < place → is_escaped (get_or text k 0) ≡ true → ⊥)
    → escaped text ≡ take place text ++ (escaped_byte (get_or text place 0) ++ escaped (drop (suc place) text))
escaped-first [] place within none = absurd (omega (arith, within))
escaped-first (byte ∷ text) zero within none = refl
escaped-first (byte ∷ text) (suc place) within none =
    ap (λ front. front ++ escaped text) (plain_byte byte (none 0 (omega arith)))
    ∙ ap (λ rest. byte ∷ rest) (escaped-first text place (omega (arith, within)) (λ k below. none (suc k) (omega (arith, below))))

-- a run and the byte behind it are written
pub escaped-step : (out old text rest : List ℕ) (place : ℕ) → place < length rest → ((k : ℕ) → k < place → is_escaped (get_or rest k 0) ≡ true → ⊥)
    → out ++ escaped rest ≡ old ++ escaped text
    → ((out ++ take place rest) ++ escaped_byte (get_or rest place 0)) ++ escaped (drop (suc place) rest) ≡ old ++ escaped text
escaped-step out old text rest place within none so_far =
    simp append_assoc (ap (λ tail. out ++ tail) (sym (escaped-first rest place within none)) ∙ so_far)

-- what is behind a place
pub behind : (rest : List ℕ) (place : ℕ) → take (length rest - (place + 1)) (drop (place + 1) rest) ≡ drop (suc place) rest
behind rest place = take_all (length rest - (place + 1)) (drop (place + 1) rest) (omega (arith, length-drop (place + 1) rest)) ∙ ap (λ k. drop k rest) (add-one place)
