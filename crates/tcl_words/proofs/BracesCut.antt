-- Each text is cut at the brace that closes it, or has none.
use Rattle.std.proofs.Common.{◌≡◌, ◌≢◌, ℕ, zero, suc, ◌≤◌, ◌⊎◌, inl, inr, Bool, true, false, ◌==◌, List, [], ◌∷◌, ◌++◌, length, refl, sym, ap, subst, ◌∙◌, eqb-true, append_assoc, append-nil, length-append, arith}
use Rattle.tcl_words.specs.Grammar.{begins_space, AreSpaces, IsBraced, IsUnclosed}
use Rattle.tcl_words.specs.Grammar.IsBraced.{none, byte, pair, continuation, braces}
use Rattle.tcl_words.specs.Grammar.IsUnclosed.{ends, backslash, opens}
use Rattle.tcl_words.proofs.WordsRead.{other_byte}

pub decided : (t : Bool) → (t ≡ true) ⊎ (t ≡ false)
decided true = inl refl
decided false = inr refl

-- this byte, or another one
pub same_or_other : (b c : ℕ) → (b ≡ c) ⊎ (b ≢ c)
same_or_other b c = elim (decided (b == c)) [ inl e ↦ inl (eqb-true b c e) | inr e ↦ inr (other_byte b c e) ]

abbrev pub BraceCut : List ℕ → Type 0
BraceCut text = ((own : List ℕ) × (value : List ℕ) × (rest : List ℕ) × (text ≡ own ++ 125 ∷ rest) × IsBraced own value) ⊎ IsUnclosed text

-- what can stand before braced text
abbrev Fronts : List ℕ → List ℕ → Type 0
Fronts front text = (own value rest : List ℕ) → text ≡ own ++ rest → IsBraced own value → (more : List ℕ) × IsBraced (front ++ own) more

unclosed_onto : (front text : List ℕ) → Fronts front text → IsUnclosed text → IsUnclosed (front ++ text)
unclosed_onto front text make (ends {text = same} {value} h) = ends (make text value [] (sym (append-nil text)) h).1
unclosed_onto front text make (backslash before {value} h) = subst IsUnclosed (append_assoc front before (92 ∷ [])) (backslash (front ++ before) (make before value (92 ∷ []) refl h).1)
unclosed_onto front text make (opens before behind {value} h more) =
    subst IsUnclosed (append_assoc front before (123 ∷ behind)) (opens (front ++ before) behind (make before value (123 ∷ behind) refl h).1 more)

cut_onto : (front text : List ℕ) → Fronts front text → BraceCut text → BraceCut (front ++ text)
cut_onto front text make (inl (own, value, rest, e, h)) =
    let more = make own value (125 ∷ rest) e h in
    inl (front ++ own, more.0, rest, ap (λ t. front ++ t) e ∙ sym (append_assoc front own (125 ∷ rest)), more.1)
cut_onto front text make (inr h) = inr (unclosed_onto front text make h)

-- the blanks and tabs in front
pub spaces_cut : (text : List ℕ) → (spaces : List ℕ) × (rest : List ℕ) × (text ≡ spaces ++ rest) × AreSpaces spaces × (begins_space rest ≡ false)
spaces_cut [] = ([], [], refl, tt, refl)
spaces_cut (b ∷ text) = elim (decided (begins_space (b ∷ text))) [
  | inl e ↦ (let more = spaces_cut text in (b ∷ more.0, more.1, ap (λ t. b ∷ t) more.2, (e, more.3), more.4))
  | inr e ↦ ([], b ∷ text, refl, tt, e)
]

own_space : (text own rest : List ℕ) → text ≡ own ++ rest → begins_space text ≡ false → begins_space own ≡ false
own_space text [] rest e h = refl
own_space text (b ∷ own) rest e h = ap begins_space (sym e) ∙ h

abbrev Cuts : ℕ → Type 0
Cuts n = (text : List ℕ) → length text ≤ n → BraceCut text

brace_cut : (n : ℕ) (text : List ℕ) → Cuts n → BraceCut text → length text ≤ n → BraceCut (123 ∷ text)
brace_cut n text ih (inr h) fits = inr (opens [] text none h)
brace_cut n text ih (inl (own, value, rest, e, h)) fits =
    let front : List ℕ = 123 ∷ (own ++ 125 ∷ []) in
    let short : length rest ≤ n = omega (arith, ap length e, length-append own (125 ∷ rest)) in
    let whole : 123 ∷ text ≡ front ++ rest = ap (λ t. 123 ∷ t) (e ∙ sym (append_assoc own (125 ∷ []) rest)) in
    subst BraceCut (sym whole)
    (cut_onto front rest
    (λ more inner behind f k. (123 ∷ (value ++ 125 ∷ inner), subst (λ t. IsBraced t (123 ∷ (value ++ 125 ∷ inner))) (ap (λ t. 123 ∷ t) (sym (append_assoc own (125 ∷ []) more))) (braces own more h k)))
    (ih rest short))

backslash_cut : (n : ℕ) (text : List ℕ) → Cuts n → length text ≤ n → BraceCut (92 ∷ text)
backslash_cut n [] ih fits = inr (backslash [] none)
backslash_cut n (b ∷ text) ih fits = elim (same_or_other b 10) [
  | inl e ↦ (
      let some = spaces_cut text in
      let front : List ℕ = 92 ∷ 10 ∷ some.0 in
      let short : length some.1 ≤ n = omega (arith, ap length some.2, length-append some.0 some.1) in
      let whole : 92 ∷ b ∷ text ≡ front ++ some.1 = ap (λ c. 92 ∷ c ∷ text) e ∙ ap (λ t. 92 ∷ 10 ∷ t) some.2 in
      subst BraceCut (sym whole)
      (cut_onto front some.1 (λ own value rest f k. (32 ∷ value, continuation some.0 some.3 (own_space some.1 own rest f some.4) k)) (ih some.1 short)))
  | inr other ↦ cut_onto (92 ∷ b ∷ []) text (λ own value rest f k. (92 ∷ b ∷ value, pair other k)) (ih text (omega arith))
]

byte_cut : (n b : ℕ) (text : List ℕ) → Cuts n → length text ≤ n → BraceCut (b ∷ text)
byte_cut n b text ih fits = elim (same_or_other b 125) [
  | inl e ↦ inl ([], [], text, ap (λ c. c ∷ text) e, none)
  | inr h1 ↦ elim (same_or_other b 123) [
    | inl e ↦ subst (λ c. BraceCut (c ∷ text)) (sym e) (brace_cut n text ih (ih text fits) fits)
    | inr h2 ↦ elim (same_or_other b 92) [
      | inl e ↦ subst (λ c. BraceCut (c ∷ text)) (sym e) (backslash_cut n text ih fits)
      | inr h3 ↦ cut_onto (b ∷ []) text (λ own value rest f k. (b ∷ value, byte h2 h1 h3 k)) (ih text fits)
    ]
  ]
]

cuts : (n : ℕ) → Cuts n
cuts n [] fits = inr (ends none)
cuts zero (b ∷ text) fits = absurd (omega arith)
cuts (suc n) (b ∷ text) fits = byte_cut n b text (cuts n) (omega arith)

pub braces_cut : (text : List ℕ) → BraceCut text
braces_cut text = cuts (length text) text (omega arith)
