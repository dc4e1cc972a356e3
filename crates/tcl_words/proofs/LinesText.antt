-- A script's commands as lines of their own are no longer than the script, and UTF-8 as it is.
use Rattle.std.proofs.Common.{◌≡◌, ℕ, suc, ◌+◌, ◌<◌, ◌≤◌, ◌⊎◌, inl, inr, Bool, true, false, ◌==◌, ◌||◌, List, [], ◌∷◌, ◌++◌, length, get_or, refl, sym, ap, subst, ◌∙◌, eqb-true, append_assoc, append-nil, length-append, arith}
use Rattle.std.specs.Str.{IsUtf8, IsCharBoundary}
use Rattle.std.proofs.lemmas.Str.{IsUtf8-append, IsUtf8-nil, IsUtf8-take, IsUtf8-drop, IsCharBoundary-before_ascii, IsCharBoundary-after_ascii}
use Rattle.tcl_text.proofs.Utf8Lemmas.{ascii_before}
use Rattle.tcl_words.specs.Classes.{class_of, is_blank}
use Rattle.tcl_words.specs.Spans.{command_from}
use Rattle.tcl_words.specs.Grammar.{leaves, class_ends, ends_word, IsInnerOf, IsWord, IsSeparator, IsGap, IsScript, IsScriptOf}
use Rattle.tcl_words.specs.Grammar.IsGap.{none as no_gap, blank, continuation, separator, comment}
use Rattle.tcl_words.specs.Joining.{source_of, lines_of, CommandsAlike}
use Rattle.tcl_words.specs.declared.kind.Kind.{Kind}
use Rattle.tcl_words.specs.declared.kind.Kind.TheVariants.{Blank, Newline, Semicolon, Hash, Dollar, Quote, OpenBracket, CloseBracket, OpenBrace, Expansion, CloseBrace, CloseParen, Backslash, Continuation, Other}
use Rattle.tcl_words.specs.declared.script.Word.{Word}
use Rattle.tcl_words.specs.declared.script.Command.{Command}
use Rattle.tcl_words.proofs.ClassLemmas.{byte_is}
use Rattle.tcl_words.proofs.NameLemmas.{drop_front, take_front}
use Rattle.tcl_words.proofs.Slices.{Stands, stands_on, stands_as}
use Rattle.tcl_words.proofs.ScriptsJoined.{After, Lined, lined, source_is, lines_are}

get_at : (xs : List ℕ) (c : ℕ) (ys : List ℕ) → get_or (xs ++ c ∷ ys) (length xs) 0 ≡ c
get_at [] c ys = refl
get_at (x ∷ xs) c ys = get_at xs c ys

-- a text is cut before an ASCII byte, and behind it
utf8_front : (xs : List ℕ) (c : ℕ) (ys : List ℕ) → IsUtf8 (xs ++ c ∷ ys) → c < 128 → IsUtf8 xs × IsUtf8 (c ∷ ys)
utf8_front xs c ys is small =
    let text : List ℕ = xs ++ c ∷ ys in
    let here : get_or text (length xs) 0 ≡ c = get_at xs c ys in
    let within : length xs < length text = omega (arith, length-append xs (c ∷ ys)) in
    let low : get_or text (length xs) 0 < 128 = omega (arith, here) in
    let edge : IsCharBoundary text (length xs) = IsCharBoundary-before_ascii text (length xs) within low in
    (subst IsUtf8 (take_front xs (c ∷ ys)) (IsUtf8-take text (length xs) is edge), subst IsUtf8 (drop_front xs (c ∷ ys)) (IsUtf8-drop text (length xs) is edge))

utf8_rest : (c : ℕ) (ys : List ℕ) → IsUtf8 (c ∷ ys) → c < 128 → IsUtf8 ys
utf8_rest c ys is small = IsUtf8-drop (c ∷ ys) 1 is (IsCharBoundary-after_ascii (c ∷ ys) 0 is (omega arith) small)

or_true : (a b : Bool) → (a || b) ≡ true → (a ≡ true) ⊎ (b ≡ true)
or_true true b h = inl refl
or_true false b h = inr h

blank_small : (b : ℕ) → is_blank b ≡ true → b < 128
blank_small b h = elim (or_true (b == 32 || b == 9 || b == 11 || b == 12) (b == 13) h) [
  | inr e ↦ omega (arith, eqb-true b 13 e)
  | inl h4 ↦ elim (or_true (b == 32 || b == 9 || b == 11) (b == 12) h4) [
    | inr e ↦ omega (arith, eqb-true b 12 e)
    | inl h3 ↦ elim (or_true (b == 32 || b == 9) (b == 11) h3) [
      | inr e ↦ omega (arith, eqb-true b 11 e)
      | inl h2 ↦ elim (or_true (b == 32) (b == 9) h2) [ inr e ↦ omega (arith, eqb-true b 9 e) | inl e ↦ omega (arith, eqb-true b 32 e) ]
    ]
  ]
]

separator_small : (b : ℕ) → IsSeparator b → b < 128
separator_small b (inl e) = omega (arith, e)
separator_small b (inr e) = omega (arith, e)

end_small : (kind : Kind) (b : ℕ) (text : List ℕ) → class_of b ≡ kind → class_ends false kind text ≡ true → b < 128
end_small Blank b text e h = blank_small b (byte_is b Blank e)
end_small Newline b text e h = omega (arith, byte_is b Newline e)
end_small Semicolon b text e h = omega (arith, byte_is b Semicolon e)
end_small Backslash b text e h = omega (arith, byte_is b Backslash e)
end_small CloseBracket b text e h = cc
end_small Hash b text e h = cc
end_small Dollar b text e h = cc
end_small Quote b text e h = cc
end_small OpenBracket b text e h = cc
end_small OpenBrace b text e h = cc
end_small Expansion b text e h = cc
end_small CloseBrace b text e h = cc
end_small CloseParen b text e h = cc
end_small Continuation b text e h = cc
end_small Other b text e h = cc

-- before what ends a word
utf8_word : (own rest : List ℕ) → IsUtf8 (own ++ rest) → ends_word false rest ≡ true → IsUtf8 own × IsUtf8 rest
utf8_word own [] is h = (subst IsUtf8 (append-nil own) is, IsUtf8-nil)
utf8_word own (b ∷ rest) is h = utf8_front own b rest is (end_small (class_of b) b rest refl h)

utf8_gap : {gap : List ℕ} → IsGap gap → (text : List ℕ) → IsUtf8 (gap ++ text) → IsUtf8 text
utf8_gap no_gap text is = is
utf8_gap (blank {b} {text = more} k h) text is = utf8_gap h text (utf8_rest b (more ++ text) is (blank_small b (byte_is b Blank k)))
utf8_gap (continuation {text = more} h) text is = utf8_gap h text (utf8_rest 10 (more ++ text) (utf8_rest 92 (10 ∷ (more ++ text)) is (omega arith)) (omega arith))
utf8_gap (separator {b} {text = more} s h) text is = utf8_gap h text (utf8_rest b (more ++ text) is (separator_small b s))
utf8_gap (comment note more n h) text is =
    let whole : IsUtf8 (note ++ 10 ∷ (more ++ text)) = subst IsUtf8 (append_assoc note (10 ∷ more) text) (utf8_rest 35 ((note ++ 10 ∷ more) ++ text) is (omega arith)) in
    utf8_gap h text (utf8_rest 10 (more ++ text) (utf8_front note 10 (more ++ text) whole (omega arith)).1 (omega arith))

utf8_line : (own rest : List ℕ) → IsUtf8 own → IsUtf8 rest → IsUtf8 (own ++ 10 ∷ rest)
utf8_line own rest is too = IsUtf8-append own (10 ∷ rest) is (ascii_before 10 rest (omega arith) too)

-- the lines are as short, and UTF-8
pub record LinesFit (source : List ℕ) (commands : List Command) (text : List ℕ) : Type 0 where
  pub short : length (lines_of source commands) ≤ length text
  pub utf8 : IsUtf8 (lines_of source commands)

fit_found : (source : List ℕ) (at : ℕ) (own rest : List ℕ) (word : Word) (words : List Word) (command : Command) (commands : List Command) → Stands source at (own ++ rest) → IsWord (IsInnerOf 200) false rest at own word →
    (f : Lined (at + length own) rest words commands) → command ≡ command_from at (word ∷ words) → IsUtf8 (own ++ rest) →
    ((first : ℕ) (text : List ℕ) → Stands source first text → IsScript (IsInnerOf 200) false first text commands (leaves []) → IsUtf8 text → LinesFit source commands text) → LinesFit source (command ∷ commands) (own ++ rest)
fit_found source at own rest word words command commands stand is f same utf8 further = go commands f further
  where
    whole : (taken behind : List ℕ) → rest ≡ taken ++ behind → own ++ rest ≡ (own ++ taken) ++ behind
    whole taken behind e = ap (λ t. own ++ t) e ∙ sym (append_assoc own taken behind)

    go : (cs : List Command) (g : Lined (at + length own) rest words cs) →
        ((first : ℕ) (text : List ℕ) → Stands source first text → IsScript (IsInnerOf 200) false first text cs (leaves []) → IsUtf8 text → LinesFit source cs text) → LinesFit source (command ∷ cs) (own ++ rest)
    go [] g ih =
        let from = source_is source at own rest word words [] command stand is g same in
        let cut : own ++ rest ≡ (own ++ g.taken) ++ g.rest = whole g.taken g.rest g.cut in
        let two = utf8_word (own ++ g.taken) g.rest (subst IsUtf8 cut utf8) g.stops in
        record { short = omega (arith, ap length from.is, ap length cut, length-append (own ++ g.taken) g.rest); utf8 = subst IsUtf8 (sym from.is) two.0 }
    go (other ∷ cs) g ih = after g.after
      where
        after : After (other ∷ cs) (at + length own + length g.taken) g.rest → LinesFit source (command ∷ other ∷ cs) (own ++ rest)
        after (blanks, left, e, b, inr (none, h)) = cc
        after (blanks, left, e, b, inl (c, behind, l, s, h)) =
            let from = source_is source at own rest word words (other ∷ cs) command stand is g same in
            let cut : own ++ rest ≡ (own ++ g.taken) ++ g.rest = whole g.taken g.rest g.cut in
            let two = utf8_word (own ++ g.taken) g.rest (subst IsUtf8 cut utf8) g.stops in
            let split : g.rest ≡ blanks ++ c ∷ behind = e ∙ ap (λ t. blanks ++ t) l in
            let here = stands_on source own rest at stand in
            let past = stands_on source g.taken g.rest (at + length own) (stands_as source rest (g.taken ++ g.rest) (at + length own) g.cut here) in
            let on = stands_on source blanks left (at + length own + length g.taken) (stands_as source g.rest (blanks ++ left) (at + length own + length g.taken) e past) in
            let next = stands_on source (c ∷ []) behind (at + length own + length g.taken + length blanks) (stands_as source left (c ∷ behind) (at + length own + length g.taken + length blanks) l on) in
            let small : c < 128 = separator_small c s in
            let last : IsUtf8 behind = utf8_rest c behind (utf8_front blanks c behind (subst IsUtf8 split two.1) small).1 small in
            let fit = ih (at + length own + length g.taken + length blanks + 1) behind next h last in
            let lines : List ℕ = lines_of source (other ∷ cs) in
            let sum : length (source_of source command ++ 10 ∷ lines) ≡ length (own ++ g.taken) + suc (length lines) = length-append (source_of source command) (10 ∷ lines) ∙ ap (λ t. length t + suc (length lines)) from.is in
            record {
              short = omega (arith, sum, fit.short, ap length cut, length-append (own ++ g.taken) g.rest, ap length split, length-append blanks (c ∷ behind));
              utf8 = utf8_line (source_of source command) lines (subst IsUtf8 (sym from.is) two.0) fit.utf8;
            }

pub lines_fit : (source : List ℕ) (commands : List Command) (at : ℕ) (text : List ℕ) → Stands source at text → IsScript (IsInnerOf 200) false at text commands (leaves []) → IsUtf8 text → LinesFit source commands text
lines_fit source [] at text stand h utf8 = record { short = omega arith; utf8 = IsUtf8-nil }
lines_fit source (command ∷ commands) at text stand (gap, own, rest, word, words, e, g, hash, is, h, same) utf8 =
    let start : ℕ = at + length gap in
    let here = stands_on source gap (own ++ rest) at (stands_as source text (gap ++ (own ++ rest)) at e stand) in
    let behind : IsUtf8 (own ++ rest) = utf8_gap g (own ++ rest) (subst IsUtf8 e utf8) in
    let fit = fit_found source start own rest word words command commands here is (lined (start + length own) rest words commands is.ends h) same behind (lines_fit source commands) in
    record { short = omega (arith, fit.short, ap length e, length-append gap (own ++ rest)); utf8 = fit.utf8 }

-- joined by newlines, the sources of a script's commands are a script of the same commands
pub lines_script : (text : List ℕ) (commands : List Command) → IsScriptOf text commands → (others : List Command) × IsScriptOf (lines_of text commands) others × CommandsAlike commands others
lines_script text commands is =
    let stand : Stands text 0 text = ([], refl, refl) in
    let found = lines_are text commands 0 text stand is.cut 0 in
    let fit = lines_fit text commands 0 text stand is.cut is.is_text.1 in
    (found.0, record { is_text = (omega (arith, fit.short, is.is_text.0), fit.utf8); cut = found.1 }, found.2)
