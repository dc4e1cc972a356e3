-- What a byte means rests on no more of the text behind it than it takes: past a bracket or a parenthesis that ends
-- what is read, the text may be any other, or may end before that.
use Rattle.std.proofs.Common.{◌≡◌, ℕ, zero, suc, ◌+◌, ◌-◌, ◌*◌, ◌<◌, ◌≤◌, ◌⊎◌, Bool, true, false, cond, List, [], ◌∷◌, ◌++◌, length, drop, take, nat_lt, nat_eq, refl, sym, ap, ◌∙◌, arith, inl, inr, Ok, Err, Result, Option, Some, None}
use Rattle.std.specs.Prelude.{nat_le, ◌&&◌, ◌||◌}
use Rattle.std.specs.Char.{digit_value}
use Rattle.std.specs.List.{starts_with}
use Rattle.std.proofs.lemmas.Bool.{le-ltb, and_right, cases_Bool}
use Rattle.std.proofs.lemmas.List.{take-append-le, drop-append-le}
use Rattle.tcl_text.specs.Backslash.{Digits, Escape, digits_from, numbered, blanks, escape}
use Rattle.tcl_words.specs.Kinds.{class_means, name_bytes, past_colons, name_length, to_brace, one_further, dollar_braced, dollar_named, dollar_of}
use Rattle.tcl_words.specs.Classes.{begins_newline, begins_expansion, is_name_byte}
use Rattle.tcl_words.specs.Changes.{name, word_begins, command_begins}
use Rattle.tcl_words.specs.Moves.{ByteMove, on, change_before, at_dollar, move_of}
use Rattle.tcl_words.specs.Reading.{first_skip}
use Rattle.tcl_words.specs.declared.kind.Kind.{Kind}
use Rattle.tcl_words.specs.declared.kind.Kind.TheVariants.{Blank, Newline, Semicolon, Hash, Dollar, Quote, OpenBracket, CloseBracket, OpenBrace, Expansion, CloseBrace, CloseParen, Backslash, Continuation, Other}
use Rattle.tcl_words.specs.declared.kind.Dollar.TheVariants.{Named, Indexed, Braced}
use Rattle.tcl_words.specs.declared.kind.BytePlace.{BytePlace}
use Rattle.tcl_words.specs.declared.kind.BytePlace.TheVariants.{Start, Comment, Between, Expanded, Text, PastQuotes, InBraces, PastBraces}
use Rattle.tcl_words.specs.declared.kind.Mode.{Mode}
use Rattle.tcl_words.specs.declared.kind.Mode.TheVariants.{Bare, Quotes, Parens}
use Rattle.tcl_words.specs.declared.kind.Step.{Step}
use Rattle.tcl_words.specs.declared.kind.Step.TheVariants.{On, Within, Ends}
use Rattle.tcl_words.specs.declared.script.WordForm.TheVariants.{Bare as BareForm}
use Rattle.tcl_text.specs.declared.fault.ParseFault.{ParseFault}

-- a byte that can end a script or an index
abbrev pub IsCloser : ℕ → Type 0
IsCloser c = (c ≡ 93) ⊎ (c ≡ 41)

-- what a step takes of a text of this length
abbrev pub FitsStep : Result Step ParseFault → ℕ → Type 0
FitsStep (Ok (On skip place)) n = skip ≤ n
FitsStep (Ok (Within opener mode)) n = first_skip opener ≤ n
FitsStep (Ok Ends) n = ⊥
FitsStep (Err fault) n = ⊥

-- ── what stands in front ──

digit_none : (c base : ℕ) → IsCloser c → base ≤ 16 → nat_lt (digit_value c) base ≡ false
digit_none c base (inl e) small = rw e (le-ltb 36 base (omega arith))
digit_none c base (inr e) small = rw e (le-ltb 36 base (omega arith))

cond_same : {X : Type 0} (t : Bool) (a a' b b' : X) → a ≡ a' → b ≡ b' → cond t a b ≡ cond t a' b'
cond_same t a a' b b' e f = ap (λ x. cond t x b) e ∙ ap (λ y. cond t a' y) f

digits_then : ℕ → Bool → Digits → Digits
digits_then n t more = cond t (record { value = more.value; count = suc more.count }) (record { value = n; count = 0 })

digits_cut : (base bound most n c : ℕ) (xs tail : List ℕ) → IsCloser c → base ≤ 16 → digits_from base bound most n (xs ++ c ∷ tail) ≡ digits_from base bound most n xs
unfolding digits_then
digits_cut base bound zero n c xs tail closer small = refl
digits_cut base bound (suc most) n c [] tail closer small = rw (digit_none c base closer small) refl
digits_cut base bound (suc most) n c (x ∷ xs) tail closer small =
    ap (digits_then n (nat_lt (digit_value x) base && nat_le (n * base + digit_value x) bound)) (digits_cut base bound most (n * base + digit_value x) c xs tail closer small)

blanks_cut : (c : ℕ) (xs tail : List ℕ) → IsCloser c → blanks (xs ++ c ∷ tail) ≡ blanks xs
blanks_cut c [] tail (inl e) = rw e refl
blanks_cut c [] tail (inr e) = rw e refl
blanks_cut c (x ∷ xs) tail closer = ap (λ n. cond (nat_eq x 32 || nat_eq x 9) (suc n) 0) (blanks_cut c xs tail closer)

letters_cut : (c : ℕ) (xs tail : List ℕ) → IsCloser c → name_bytes (xs ++ c ∷ tail) ≡ name_bytes xs
letters_cut c [] tail (inl e) = rw e refl
letters_cut c [] tail (inr e) = rw e refl
letters_cut c (x ∷ xs) tail closer = ap (λ n. cond (is_name_byte x) (suc n) 0) (letters_cut c xs tail closer)

letters_within : (xs : List ℕ) → name_bytes xs ≤ length xs
letters_within [] = omega arith
letters_within (x ∷ xs) = elim (cases_Bool (is_name_byte x)) [ inl e ↦ rw e (omega (arith, letters_within xs)) | inr e ↦ rw e (omega arith) ]

abbrev blank : ℕ → Escape
blank n = record { meaning = 32 ∷ []; length = suc n }

escape_cut : (x c : ℕ) (xs tail : List ℕ) → IsCloser c → escape (x ∷ (xs ++ c ∷ tail)) ≡ escape (x ∷ xs)
unfolding escape
escape_cut x c xs tail closer =
    cond_same (nat_eq x 10) _ _ _ _ (ap (λ n. blank n) (blanks_cut c xs tail closer))
    (cond_same (nat_le 48 x && nat_le x 55) _ _ _ _ (ap (numbered x 0) (digits_cut 8 255 3 0 c (x ∷ xs) tail closer (omega arith)))
    (cond_same (nat_eq x 120) _ _ _ _ (ap (numbered x 1) (digits_cut 16 0xFF 2 0 c xs tail closer (omega arith)))
    (cond_same (nat_eq x 117) _ _ _ _ (ap (numbered x 1) (digits_cut 16 0xFFFF 4 0 c xs tail closer (omega arith)))
    (cond_same (nat_eq x 85) _ _ _ _ (ap (numbered x 1) (digits_cut 16 0x10FFFF 8 0 c xs tail closer (omega arith))) refl))))

escape_some : (c : ℕ) (tail : List ℕ) → IsCloser c → (escape (c ∷ tail)).length ≡ 1
unfolding escape
escape_some c tail (inl e) = rw e refl
escape_some c tail (inr e) = rw e refl

begins_one : (p c : ℕ) (xs tail : List ℕ) → nat_eq p c ≡ false → starts_with nat_eq (xs ++ c ∷ tail) (p ∷ []) ≡ starts_with nat_eq xs (p ∷ [])
begins_one p c [] tail e = rw e refl
begins_one p c (x ∷ xs) tail e = refl

begins_two : (p q c : ℕ) (xs tail : List ℕ) → nat_eq p c ≡ false → nat_eq q c ≡ false → starts_with nat_eq (xs ++ c ∷ tail) (p ∷ q ∷ []) ≡ starts_with nat_eq xs (p ∷ q ∷ [])
begins_two p q c [] tail e f = rw e refl
begins_two p q c (x ∷ []) tail e f = rw f refl
begins_two p q c (x ∷ y ∷ xs) tail e f = refl

differs : (p c : ℕ) → IsCloser c → nat_eq p 93 ≡ false → nat_eq p 41 ≡ false → nat_eq p c ≡ false
differs p c (inl e) f g = rw e f
differs p c (inr e) f g = rw e g

colons_none : (x : ℕ) → (nat_eq 58 x && false) ≡ false
colons_none x = and_right (nat_eq 58 x) false refl

name_cut : (c : ℕ) (xs tail : List ℕ) → IsCloser c → name_length (xs ++ c ∷ tail) ≡ name_length xs
name_cut c [] tail (inl e) = rw e refl
name_cut c [] tail (inr e) = rw e refl
name_cut c (x ∷ []) tail closer =
    ap (λ t. cond (nat_eq 58 x && (t && true)) (past_colons (name_bytes tail)) (name_bytes (x ∷ c ∷ tail))) (differs 58 c closer refl refl)
    ∙ ap (λ t. cond t (past_colons (name_bytes tail)) (name_bytes (x ∷ c ∷ tail))) (colons_none x)
    ∙ letters_cut c (x ∷ []) tail closer
    ∙ ap (λ t. cond t (past_colons 0) (name_bytes (x ∷ []))) (sym (colons_none x))
name_cut c (x ∷ y ∷ xs) tail closer = cond_same (starts_with nat_eq (x ∷ y ∷ xs) (58 ∷ 58 ∷ [])) _ _ _ _ (ap past_colons (letters_cut c xs tail closer)) (letters_cut c (x ∷ y ∷ xs) tail closer)

past_colons_within : (n m : ℕ) → n ≤ m → past_colons n ≤ m + 2
past_colons_within zero m h = omega arith
past_colons_within (suc n) m h = omega (arith, h)

name_within : (xs : List ℕ) → name_length xs ≤ length xs
name_within [] = omega arith
name_within (x ∷ []) = rw (colons_none x) (letters_within (x ∷ []))
name_within (x ∷ y ∷ xs) = elim (cases_Bool (starts_with nat_eq (x ∷ y ∷ xs) (58 ∷ 58 ∷ []))) [
  | inl e ↦ rw e (omega (arith, past_colons_within (name_bytes xs) (length xs) (letters_within xs)))
  | inr e ↦ rw e (letters_within (x ∷ y ∷ xs))
]

further_is : (o : Option ℕ) (n : ℕ) → one_further o ≡ Some n → (m : ℕ) × ((o ≡ Some m) × (n ≡ suc m))
further_is None n e = cc
further_is (Some m) n e = (m, (refl, (let f : Some (suc m) ≡ Some n = e in cc)))

brace_cut : (c n : ℕ) (xs tail : List ℕ) → to_brace (xs ++ c ∷ tail) ≡ Some n → n < length xs → to_brace xs ≡ Some n
brace_cut c n [] tail e lt = absurd (omega (arith, lt))
brace_cut c n (x ∷ xs) tail e lt = elim (cases_Bool (nat_eq x 125)) [
  | inl t ↦ rw t (rw t at e)
  | inr t ↦ (let f = further_is (to_brace (xs ++ c ∷ tail)) n (rw t at e) in rw t (ap one_further (brace_cut c f.0 xs tail f.1.0 (omega (arith, lt, f.1.1))) ∙ ap (λ k. Some k) (sym f.1.1)))
]

brace_back : (n : ℕ) (xs tail : List ℕ) → to_brace xs ≡ Some n → (n < length xs) × (to_brace (xs ++ tail) ≡ Some n)
brace_back n [] tail e = cc
brace_back n (x ∷ xs) tail e = elim (cases_Bool (nat_eq x 125)) [
  | inl t ↦ (let f : Some 0 ≡ Some n = rw t at e in let z : 0 ≡ n = cc in (omega arith, rw t f))
  | inr t ↦ (let f = further_is (to_brace xs) n (rw t at e) in let g = brace_back f.0 xs tail f.1.0 in (omega (arith, g.0, f.1.1), rw t (ap one_further g.1 ∙ ap (λ k. Some k) (sym f.1.1))))
]

-- ── a `$` ──

named_same : (mode : Mode) (b n : ℕ) (X Y : List ℕ) → take n X ≡ take n Y → starts_with nat_eq (drop n X) (40 ∷ []) ≡ starts_with nat_eq (drop n Y) (40 ∷ []) →
    at_dollar mode (dollar_named n (drop n X)) b X ≡ at_dollar mode (dollar_named n (drop n Y)) b Y
named_same mode b zero X Y e f = refl
named_same mode b (suc n) X Y e f =
    ap (λ t. at_dollar mode (cond t (Indexed (suc n)) (Named (suc n))) b X) f
    ∙ elim (cases_Bool (starts_with nat_eq (drop (suc n) Y) (40 ∷ []))) [ inl t ↦ rw t refl | inr t ↦ rw t (ap (λ own. on (name own ∷ []) (suc n) (Text mode)) e) ]

named_cut : (mode : Mode) (b c : ℕ) (xs tail : List ℕ) → IsCloser c →
    at_dollar mode (dollar_named (name_length (xs ++ c ∷ tail)) (drop (name_length (xs ++ c ∷ tail)) (xs ++ c ∷ tail))) b (xs ++ c ∷ tail)
    ≡ at_dollar mode (dollar_named (name_length xs) (drop (name_length xs) xs)) b xs
named_cut mode b c xs tail closer =
    ap (λ n. at_dollar mode (dollar_named n (drop n (xs ++ c ∷ tail))) b (xs ++ c ∷ tail)) (name_cut c xs tail closer)
    ∙ named_same mode b (name_length xs) (xs ++ c ∷ tail) xs (take-append-le (name_length xs) xs (c ∷ tail) (name_within xs))
    (ap (λ t. starts_with nat_eq t (40 ∷ [])) (drop-append-le (name_length xs) xs (c ∷ tail) (name_within xs)) ∙ begins_one 40 c (drop (name_length xs) xs) tail (differs 40 c closer refl refl))

braced_same : (mode : Mode) (b c n x : ℕ) (ys tail : List ℕ) → n ≤ length ys → at_dollar mode (Braced n) b (x ∷ (ys ++ c ∷ tail)) ≡ at_dollar mode (Braced n) b (x ∷ ys)
braced_same mode b c n x ys tail h = let e : suc n - 1 ≡ n = omega arith in ap (λ own. on (name own ∷ []) (n + 2) (Text mode)) (ap (λ k. take k (ys ++ c ∷ tail)) e ∙ take-append-le n ys (c ∷ tail) h ∙ ap (λ k. take k ys) (sym e))

braced_cut : (mode : Mode) (b c x : ℕ) (ys tail : List ℕ) (o : Option ℕ) → to_brace (ys ++ c ∷ tail) ≡ o → FitsStep (at_dollar mode (dollar_braced o) b (x ∷ (ys ++ c ∷ tail))).step (suc (length ys)) →
    at_dollar mode (dollar_braced o) b (x ∷ (ys ++ c ∷ tail)) ≡ at_dollar mode (dollar_braced (to_brace ys)) b (x ∷ ys)
braced_cut mode b c x ys tail None e fits = absurd fits
braced_cut mode b c x ys tail (Some n) e fits =
    braced_same mode b c n x ys tail (omega (arith, fits)) ∙ ap (λ o. at_dollar mode (dollar_braced o) b (x ∷ ys)) (sym (brace_cut c n ys tail e (omega (arith, fits))))

braced_back : (mode : Mode) (b c x : ℕ) (ys tail : List ℕ) (o : Option ℕ) (k : ℕ) → to_brace ys ≡ o → FitsStep (at_dollar mode (dollar_braced o) b (x ∷ ys)).step k →
    at_dollar mode (dollar_braced o) b (x ∷ ys) ≡ at_dollar mode (dollar_braced (to_brace (ys ++ c ∷ tail))) b (x ∷ (ys ++ c ∷ tail))
braced_back mode b c x ys tail None k e fits = absurd fits
braced_back mode b c x ys tail (Some n) k e fits =
    let back : (n < length ys) × (to_brace (ys ++ c ∷ tail) ≡ Some n) = brace_back n ys (c ∷ tail) e in
    sym (braced_same mode b c n x ys tail (omega (arith, back.0))) ∙ ap (λ o. at_dollar mode (dollar_braced o) b (x ∷ (ys ++ c ∷ tail))) (sym back.1)

dollar_cut : (mode : Mode) (b c : ℕ) (xs tail : List ℕ) → IsCloser c → FitsStep (at_dollar mode (dollar_of (xs ++ c ∷ tail)) b (xs ++ c ∷ tail)).step (length xs) →
    at_dollar mode (dollar_of (xs ++ c ∷ tail)) b (xs ++ c ∷ tail) ≡ at_dollar mode (dollar_of xs) b xs
unfolding dollar_of
dollar_cut mode b c [] tail (inl e) = rw e (λ fits. refl)
dollar_cut mode b c [] tail (inr e) = rw e (λ fits. refl)
dollar_cut mode b c (x ∷ ys) tail closer = elim (cases_Bool (starts_with nat_eq (x ∷ ys) (123 ∷ []))) [
  | inl t ↦ rw t (λ fits. braced_cut mode b c x ys tail (to_brace (ys ++ c ∷ tail)) refl fits)
  | inr t ↦ rw t (λ fits. named_cut mode b c (x ∷ ys) tail closer)
]

dollar_back : (mode : Mode) (b c : ℕ) (xs tail : List ℕ) (k : ℕ) → IsCloser c → FitsStep (at_dollar mode (dollar_of xs) b xs).step k →
    at_dollar mode (dollar_of xs) b xs ≡ at_dollar mode (dollar_of (xs ++ c ∷ tail)) b (xs ++ c ∷ tail)
unfolding dollar_of
dollar_back mode b c [] tail k (inl e) = rw e (λ fits. refl)
dollar_back mode b c [] tail k (inr e) = rw e (λ fits. refl)
dollar_back mode b c (x ∷ ys) tail k closer = elim (cases_Bool (starts_with nat_eq (x ∷ ys) (123 ∷ []))) [
  | inl t ↦ rw t (λ fits. braced_back mode b c x ys tail (to_brace ys) k refl fits)
  | inr t ↦ rw t (λ fits. sym (named_cut mode b c (x ∷ ys) tail closer))
]

-- ── the moves ──

move_dollar : (place : BytePlace) (b at k : ℕ) (X Y : List ℕ) → ((mode : Mode) → FitsStep (at_dollar mode (dollar_of X) b X).step k → at_dollar mode (dollar_of X) b X ≡ at_dollar mode (dollar_of Y) b Y) →
    FitsStep (move_of place Dollar b at X).step k → move_of place Dollar b at X ≡ move_of place Dollar b at Y
move_dollar Start b at k X Y same fits = ap (λ m. change_before (command_begins at) (change_before (word_begins BareForm false at) m)) (same Bare fits)
move_dollar Between b at k X Y same fits = ap (change_before (word_begins BareForm false at)) (same Bare fits)
move_dollar Expanded b at k X Y same fits = ap (change_before (word_begins BareForm true (at - 3))) (same Bare fits)
move_dollar (Text Bare) b at k X Y same fits = same Bare fits
move_dollar (Text Quotes) b at k X Y same fits = same Quotes fits
move_dollar (Text Parens) b at k X Y same fits = same Parens fits
move_dollar place b at k X Y same fits = refl

move_backslash : (place : BytePlace) (b at : ℕ) (X Y : List ℕ) → escape X ≡ escape Y → take 1 X ≡ take 1 Y → move_of place Backslash b at X ≡ move_of place Backslash b at Y
move_backslash Comment b at X Y e f = rw f refl
move_backslash (Text Bare) b at X Y e f = rw e refl
move_backslash (Text Quotes) b at X Y e f = rw e refl
move_backslash (Text Parens) b at X Y e f = rw e refl
move_backslash PastQuotes b at X Y e f = refl
move_backslash (InBraces depth) b at X Y e f = rw f refl
move_backslash PastBraces b at X Y e f = refl
move_backslash place b at X Y e f = rw e refl

move_continuation : (place : BytePlace) (b at : ℕ) (X Y : List ℕ) → escape X ≡ escape Y → take 1 X ≡ take 1 Y → move_of place Continuation b at X ≡ move_of place Continuation b at Y
move_continuation Comment b at X Y e f = rw f refl
move_continuation (Text Bare) b at X Y e f = rw e refl
move_continuation (Text Quotes) b at X Y e f = rw e refl
move_continuation (Text Parens) b at X Y e f = rw e refl
move_continuation place b at X Y e f = rw e refl

none_backslash : (place : BytePlace) (b at c : ℕ) (tail : List ℕ) → IsCloser c → FitsStep (move_of place Backslash b at (c ∷ tail)).step 0 → ⊥
none_backslash Comment b at c tail closer fits = omega (arith, fits)
none_backslash (Text Bare) b at c tail closer fits = omega (arith, fits, escape_some c tail closer)
none_backslash (Text Quotes) b at c tail closer fits = omega (arith, fits, escape_some c tail closer)
none_backslash (Text Parens) b at c tail closer fits = omega (arith, fits, escape_some c tail closer)
none_backslash PastQuotes b at c tail closer fits = fits
none_backslash (InBraces depth) b at c tail closer fits = omega (arith, fits)
none_backslash PastBraces b at c tail closer fits = fits
none_backslash place b at c tail closer fits = omega (arith, fits, escape_some c tail closer)

none_continuation : (place : BytePlace) (b at c : ℕ) (tail : List ℕ) → IsCloser c → FitsStep (move_of place Continuation b at (c ∷ tail)).step 0 → ⊥
none_continuation Comment b at c tail closer fits = omega (arith, fits)
none_continuation (Text Bare) b at c tail closer fits = omega (arith, fits, escape_some c tail closer)
none_continuation (Text Quotes) b at c tail closer fits = omega (arith, fits, escape_some c tail closer)
none_continuation (Text Parens) b at c tail closer fits = omega (arith, fits, escape_some c tail closer)
none_continuation place b at c tail closer fits = omega (arith, fits, escape_some c tail closer)

move_blank : (place : BytePlace) (b at : ℕ) (X Y : List ℕ) → move_of place Blank b at X ≡ move_of place Blank b at Y
move_blank (Text Bare) b at X Y = refl
move_blank (Text Quotes) b at X Y = refl
move_blank (Text Parens) b at X Y = refl
move_blank place b at X Y = refl

move_newline : (place : BytePlace) (b at : ℕ) (X Y : List ℕ) → move_of place Newline b at X ≡ move_of place Newline b at Y
move_newline (Text Bare) b at X Y = refl
move_newline (Text Quotes) b at X Y = refl
move_newline (Text Parens) b at X Y = refl
move_newline place b at X Y = refl

move_semicolon : (place : BytePlace) (b at : ℕ) (X Y : List ℕ) → move_of place Semicolon b at X ≡ move_of place Semicolon b at Y
move_semicolon (Text Bare) b at X Y = refl
move_semicolon (Text Quotes) b at X Y = refl
move_semicolon (Text Parens) b at X Y = refl
move_semicolon place b at X Y = refl

move_hash : (place : BytePlace) (b at : ℕ) (X Y : List ℕ) → move_of place Hash b at X ≡ move_of place Hash b at Y
move_hash (Text Bare) b at X Y = refl
move_hash (Text Quotes) b at X Y = refl
move_hash (Text Parens) b at X Y = refl
move_hash place b at X Y = refl

move_quote : (place : BytePlace) (b at : ℕ) (X Y : List ℕ) → move_of place Quote b at X ≡ move_of place Quote b at Y
move_quote (Text Bare) b at X Y = refl
move_quote (Text Quotes) b at X Y = refl
move_quote (Text Parens) b at X Y = refl
move_quote place b at X Y = refl

move_openbracket : (place : BytePlace) (b at : ℕ) (X Y : List ℕ) → move_of place OpenBracket b at X ≡ move_of place OpenBracket b at Y
move_openbracket (Text Bare) b at X Y = refl
move_openbracket (Text Quotes) b at X Y = refl
move_openbracket (Text Parens) b at X Y = refl
move_openbracket place b at X Y = refl

move_closebracket : (place : BytePlace) (b at : ℕ) (X Y : List ℕ) → move_of place CloseBracket b at X ≡ move_of place CloseBracket b at Y
move_closebracket (Text Bare) b at X Y = refl
move_closebracket (Text Quotes) b at X Y = refl
move_closebracket (Text Parens) b at X Y = refl
move_closebracket place b at X Y = refl

move_openbrace : (place : BytePlace) (b at : ℕ) (X Y : List ℕ) → move_of place OpenBrace b at X ≡ move_of place OpenBrace b at Y
move_openbrace (Text Bare) b at X Y = refl
move_openbrace (Text Quotes) b at X Y = refl
move_openbrace (Text Parens) b at X Y = refl
move_openbrace place b at X Y = refl

move_expansion : (place : BytePlace) (b at : ℕ) (X Y : List ℕ) → move_of place Expansion b at X ≡ move_of place Expansion b at Y
move_expansion (Text Bare) b at X Y = refl
move_expansion (Text Quotes) b at X Y = refl
move_expansion (Text Parens) b at X Y = refl
move_expansion place b at X Y = refl

move_closebrace : (place : BytePlace) (b at : ℕ) (X Y : List ℕ) → move_of place CloseBrace b at X ≡ move_of place CloseBrace b at Y
move_closebrace (Text Bare) b at X Y = refl
move_closebrace (Text Quotes) b at X Y = refl
move_closebrace (Text Parens) b at X Y = refl
move_closebrace place b at X Y = refl

move_closeparen : (place : BytePlace) (b at : ℕ) (X Y : List ℕ) → move_of place CloseParen b at X ≡ move_of place CloseParen b at Y
move_closeparen (Text Bare) b at X Y = refl
move_closeparen (Text Quotes) b at X Y = refl
move_closeparen (Text Parens) b at X Y = refl
move_closeparen place b at X Y = refl

move_other : (place : BytePlace) (b at : ℕ) (X Y : List ℕ) → move_of place Other b at X ≡ move_of place Other b at Y
move_other (Text Bare) b at X Y = refl
move_other (Text Quotes) b at X Y = refl
move_other (Text Parens) b at X Y = refl
move_other place b at X Y = refl

-- a bracket or a parenthesis that ends nothing is as any other byte
outside_closebracket : (place : BytePlace) (b at n : ℕ) (X Y : List ℕ) → FitsStep (move_of place CloseBracket b at X).step n → move_of place CloseBracket b at X ≡ move_of place Other b at Y
outside_closebracket Comment b at n X Y fits = refl
outside_closebracket (Text Quotes) b at n X Y fits = refl
outside_closebracket (Text Parens) b at n X Y fits = refl
outside_closebracket (InBraces depth) b at n X Y fits = refl
outside_closebracket place b at n X Y fits = absurd fits

outside_closeparen : (place : BytePlace) (b at n : ℕ) (X Y : List ℕ) → FitsStep (move_of place CloseParen b at X).step n → move_of place CloseParen b at X ≡ move_of place Other b at Y
outside_closeparen (Text Parens) b at n X Y fits = absurd fits
outside_closeparen place b at n X Y fits = refl

cut_openbrace : (place : BytePlace) (b at c : ℕ) (xs tail : List ℕ) → IsCloser c → FitsStep (move_of place (class_means true OpenBrace (xs ++ c ∷ tail)) b at (xs ++ c ∷ tail)).step (length xs) →
    move_of place (class_means true OpenBrace (xs ++ c ∷ tail)) b at (xs ++ c ∷ tail) ≡ move_of place (class_means false OpenBrace xs) b at xs
cut_openbrace place b at c xs tail closer = rw (begins_two 42 125 c xs tail (differs 42 c closer refl refl) (differs 125 c closer refl refl))
    (elim (cases_Bool (begins_expansion xs)) [ inl t ↦ rw t (λ fits. move_expansion place b at (xs ++ c ∷ tail) xs) | inr t ↦ rw t (λ fits. move_openbrace place b at (xs ++ c ∷ tail) xs) ])

cut_backslash : (place : BytePlace) (b at c : ℕ) (xs tail : List ℕ) → IsCloser c → FitsStep (move_of place (class_means true Backslash (xs ++ c ∷ tail)) b at (xs ++ c ∷ tail)).step (length xs) →
    move_of place (class_means true Backslash (xs ++ c ∷ tail)) b at (xs ++ c ∷ tail) ≡ move_of place (class_means false Backslash xs) b at xs
cut_backslash place b at c [] tail closer = rw (begins_one 10 c [] tail (differs 10 c closer refl refl)) (λ fits. absurd (none_backslash place b at c tail closer fits))
cut_backslash place b at c (x ∷ xs) tail closer = elim (cases_Bool (begins_newline (x ∷ xs))) [
  | inl t ↦ rw t (λ fits. move_continuation place b at (x ∷ (xs ++ c ∷ tail)) (x ∷ xs) (escape_cut x c xs tail closer) refl)
  | inr t ↦ rw t (λ fits. move_backslash place b at (x ∷ (xs ++ c ∷ tail)) (x ∷ xs) (escape_cut x c xs tail closer) refl)
]

same_openbrace : (place : BytePlace) (b at c : ℕ) (xs tail other : List ℕ) → IsCloser c → FitsStep (move_of place (class_means true OpenBrace (xs ++ c ∷ tail)) b at (xs ++ c ∷ tail)).step (length xs) →
    move_of place (class_means true OpenBrace (xs ++ c ∷ tail)) b at (xs ++ c ∷ tail) ≡ move_of place (class_means true OpenBrace (xs ++ c ∷ other)) b at (xs ++ c ∷ other)
same_openbrace place b at c xs tail other closer fits = cut_openbrace place b at c xs tail closer fits ∙ sym (back (begins_two 42 125 c xs other (differs 42 c closer refl refl) (differs 125 c closer refl refl)))
  where
    back : begins_expansion (xs ++ c ∷ other) ≡ begins_expansion xs → move_of place (class_means true OpenBrace (xs ++ c ∷ other)) b at (xs ++ c ∷ other) ≡ move_of place (class_means false OpenBrace xs) b at xs
    back e = rw e (elim (cases_Bool (begins_expansion xs)) [ inl t ↦ rw t (move_expansion place b at (xs ++ c ∷ other) xs) | inr t ↦ rw t (move_openbrace place b at (xs ++ c ∷ other) xs) ])

same_backslash : (place : BytePlace) (b at c : ℕ) (xs tail other : List ℕ) → IsCloser c → FitsStep (move_of place (class_means true Backslash (xs ++ c ∷ tail)) b at (xs ++ c ∷ tail)).step (length xs) →
    move_of place (class_means true Backslash (xs ++ c ∷ tail)) b at (xs ++ c ∷ tail) ≡ move_of place (class_means true Backslash (xs ++ c ∷ other)) b at (xs ++ c ∷ other)
same_backslash place b at c [] tail other closer = rw (begins_one 10 c [] tail (differs 10 c closer refl refl)) (λ fits. absurd (none_backslash place b at c tail closer fits))
same_backslash place b at c (x ∷ xs) tail other closer = elim (cases_Bool (begins_newline (x ∷ xs))) [
  | inl t ↦ rw t (λ fits. move_continuation place b at (x ∷ (xs ++ c ∷ tail)) (x ∷ (xs ++ c ∷ other)) (escape_cut x c xs tail closer ∙ sym (escape_cut x c xs other closer)) refl)
  | inr t ↦ rw t (λ fits. move_backslash place b at (x ∷ (xs ++ c ∷ tail)) (x ∷ (xs ++ c ∷ other)) (escape_cut x c xs tail closer ∙ sym (escape_cut x c xs other closer)) refl)
]

-- behind what is read the text may end
pub step_cut : (k : Kind) (place : BytePlace) (b at c : ℕ) (xs tail : List ℕ) → IsCloser c → FitsStep (move_of place (class_means true k (xs ++ c ∷ tail)) b at (xs ++ c ∷ tail)).step (length xs) →
    move_of place (class_means true k (xs ++ c ∷ tail)) b at (xs ++ c ∷ tail) ≡ move_of place (class_means false k xs) b at xs
step_cut Blank place b at c xs tail closer fits = move_blank place b at (xs ++ c ∷ tail) xs
step_cut Newline place b at c xs tail closer fits = move_newline place b at (xs ++ c ∷ tail) xs
step_cut Semicolon place b at c xs tail closer fits = move_semicolon place b at (xs ++ c ∷ tail) xs
step_cut Hash place b at c xs tail closer fits = move_hash place b at (xs ++ c ∷ tail) xs
step_cut Dollar place b at c xs tail closer fits = move_dollar place b at (length xs) (xs ++ c ∷ tail) xs (λ mode f. dollar_cut mode b c xs tail closer f) fits
step_cut Quote place b at c xs tail closer fits = move_quote place b at (xs ++ c ∷ tail) xs
step_cut OpenBracket place b at c xs tail closer fits = move_openbracket place b at (xs ++ c ∷ tail) xs
step_cut CloseBracket place b at c xs tail closer fits = outside_closebracket place b at (length xs) (xs ++ c ∷ tail) xs fits
step_cut OpenBrace place b at c xs tail closer fits = cut_openbrace place b at c xs tail closer fits
step_cut Expansion place b at c xs tail closer fits = move_expansion place b at (xs ++ c ∷ tail) xs
step_cut CloseBrace place b at c xs tail closer fits = move_closebrace place b at (xs ++ c ∷ tail) xs
step_cut CloseParen place b at c xs tail closer fits = outside_closeparen place b at (length xs) (xs ++ c ∷ tail) xs fits
step_cut Backslash place b at c xs tail closer fits = cut_backslash place b at c xs tail closer fits
step_cut Continuation place b at c [] tail closer fits = absurd (none_continuation place b at c tail closer fits)
step_cut Continuation place b at c (x ∷ xs) tail closer fits = move_continuation place b at (x ∷ (xs ++ c ∷ tail)) (x ∷ xs) (escape_cut x c xs tail closer) refl
step_cut Other place b at c xs tail closer fits = move_other place b at (xs ++ c ∷ tail) xs

-- or go on otherwise
pub step_same : (k : Kind) (place : BytePlace) (b at c : ℕ) (xs tail other : List ℕ) → IsCloser c → FitsStep (move_of place (class_means true k (xs ++ c ∷ tail)) b at (xs ++ c ∷ tail)).step (length xs) →
    move_of place (class_means true k (xs ++ c ∷ tail)) b at (xs ++ c ∷ tail) ≡ move_of place (class_means true k (xs ++ c ∷ other)) b at (xs ++ c ∷ other)
step_same Blank place b at c xs tail other closer fits = move_blank place b at (xs ++ c ∷ tail) (xs ++ c ∷ other)
step_same Newline place b at c xs tail other closer fits = move_newline place b at (xs ++ c ∷ tail) (xs ++ c ∷ other)
step_same Semicolon place b at c xs tail other closer fits = move_semicolon place b at (xs ++ c ∷ tail) (xs ++ c ∷ other)
step_same Hash place b at c xs tail other closer fits = move_hash place b at (xs ++ c ∷ tail) (xs ++ c ∷ other)
step_same Dollar place b at c xs tail other closer fits =
    move_dollar place b at (length xs) (xs ++ c ∷ tail) (xs ++ c ∷ other)
    (λ mode f. dollar_cut mode b c xs tail closer f ∙ dollar_back mode b c xs other (length xs) closer (fits_by (dollar_cut mode b c xs tail closer f) f)) fits
  where
    fits_by : {m n : ByteMove} → m ≡ n → FitsStep m.step (length xs) → FitsStep n.step (length xs)
    fits_by e f = rw e at f
step_same Quote place b at c xs tail other closer fits = move_quote place b at (xs ++ c ∷ tail) (xs ++ c ∷ other)
step_same OpenBracket place b at c xs tail other closer fits = move_openbracket place b at (xs ++ c ∷ tail) (xs ++ c ∷ other)
step_same CloseBracket place b at c xs tail other closer fits = move_closebracket place b at (xs ++ c ∷ tail) (xs ++ c ∷ other)
step_same OpenBrace place b at c xs tail other closer fits = same_openbrace place b at c xs tail other closer fits
step_same Expansion place b at c xs tail other closer fits = move_expansion place b at (xs ++ c ∷ tail) (xs ++ c ∷ other)
step_same CloseBrace place b at c xs tail other closer fits = move_closebrace place b at (xs ++ c ∷ tail) (xs ++ c ∷ other)
step_same CloseParen place b at c xs tail other closer fits = move_closeparen place b at (xs ++ c ∷ tail) (xs ++ c ∷ other)
step_same Backslash place b at c xs tail other closer fits = same_backslash place b at c xs tail other closer fits
step_same Continuation place b at c [] tail other closer fits = absurd (none_continuation place b at c tail closer fits)
step_same Continuation place b at c (x ∷ xs) tail other closer fits = move_continuation place b at (x ∷ (xs ++ c ∷ tail)) (x ∷ (xs ++ c ∷ other)) (escape_cut x c xs tail closer ∙ sym (escape_cut x c xs other closer)) refl
step_same Other place b at c xs tail other closer fits = move_other place b at (xs ++ c ∷ tail) (xs ++ c ∷ other)
