-- Each text is a script or has a fault.
use Rattle.std.proofs.Common.{◌≡◌, ℕ, zero, suc, ◌+◌, ◌≤◌, ◌⊎◌, inl, inr, Bool, true, false, List, [], ◌∷◌, ◌++◌, length, refl, sym, ap, subst, ◌∙◌, eqb-true, append_assoc, append-nil, length-append, arith}
use Rattle.tcl_words.specs.Classes.{class_of}
use Rattle.tcl_words.specs.Grammar.{class_ends, ends_word}
use Rattle.tcl_words.specs.Spans.{command_from}
use Rattle.tcl_words.specs.Grammar.{TextEnding, leaves, fails, script, index, ends_body, begins, ArePieces, IsInnerOf, IsWord, IsSeparator, AreBlanks, IsNote, IsLastNote, IsGap, IsEnding, IsLast, AreFurtherWords, IsRest, IsScript, end_of_text}
use Rattle.tcl_words.specs.Grammar.AreBlanks.{none as no_blanks, blank as one_blank, continuation as continued_blanks}
use Rattle.tcl_words.specs.Grammar.IsNote.{none as no_note, byte as note_byte, pair as note_pair}
use Rattle.tcl_words.specs.Grammar.IsGap.{none as no_gap, blank, continuation, separator, comment as gap_comment}
use Rattle.tcl_words.specs.Grammar.IsEnd.{closes, stands}
use Rattle.tcl_words.specs.Grammar.IsEnding.{ends as ends_command, faulty as faulty_word}
use Rattle.tcl_words.specs.Grammar.IsLast.{ends, comment, faulty}
use Rattle.tcl_words.specs.declared.kind.Mode.TheVariants.{Parens}
use Rattle.tcl_words.specs.declared.kind.Kind.{Kind}
use Rattle.tcl_words.specs.declared.kind.Kind.TheVariants.{Blank, Newline, Semicolon, CloseBracket, Backslash}
use Rattle.tcl_words.specs.declared.script.Piece.{Piece}
use Rattle.tcl_words.specs.declared.script.Word.{Word}
use Rattle.tcl_words.specs.declared.script.Command.{Command}
use Rattle.tcl_text.specs.declared.fault.ParseFault.TheVariants.{TooLong}
use Rattle.std.proofs.Common.{nat_eq}
use Rattle.tcl_words.proofs.ClassLemmas.{byte_is}
use Rattle.tcl_words.proofs.WordsRead.{both}
use Rattle.tcl_words.proofs.BracesCut.{decided, same_or_other}
use Rattle.tcl_words.proofs.PiecesCut.{InnerCuts, IsInnerCut, IsPiecesCut, pieces_found}
use Rattle.tcl_words.proofs.WordsCut.{FoundWord, word_cut}

-- what is left behind a script
abbrev pub IsBehind : Bool → List ℕ → Type 0
IsBehind true left = (rest : List ℕ) × (left ≡ 93 ∷ rest)
IsBehind false left = left ≡ []

abbrev pub IsScriptCut : Bool → List ℕ → TextEnding → Type 0
IsScriptCut inside text (leaves left) = (own : List ℕ) × (text ≡ own ++ left) × IsBehind inside left
IsScriptCut inside text (fails fault) = Unit {0}

cut_onto : (inside : Bool) (whole front text : List ℕ) (ending : TextEnding) → whole ≡ front ++ text → IsScriptCut inside text ending → IsScriptCut inside whole ending
cut_onto inside whole front text (leaves left) e (own, f, h) = (front ++ own, e ∙ ap (λ t. front ++ t) f ∙ sym (append_assoc front own left), h)
cut_onto inside whole front text (fails fault) e h = tt

pub record FoundScript (room : ℕ) (inside : Bool) (at : ℕ) (text : List ℕ) : Type 0 where
  pub commands : List Command
  pub ending : TextEnding
  pub is : IsScript (IsInnerOf room) inside at text commands ending
  pub cut : IsScriptCut inside text ending

-- what comes after a command
abbrev pub AfterCommand : ℕ → Bool → List Command → TextEnding → ℕ → List ℕ → Type 0
AfterCommand room inside commands ending =
    IsRest (λ next after. IsScript (IsInnerOf room) inside next after commands ending) (λ last. (commands ≡ []) × IsEnding (IsInnerOf room) inside last ending)

pub record FoundFurther (room : ℕ) (inside : Bool) (at : ℕ) (text : List ℕ) : Type 0 where
  pub commands : List Command
  pub ending : TextEnding
  pub words : List Word
  pub are : AreFurtherWords (IsInnerOf room) inside (AfterCommand room inside commands ending) at text words
  pub cut : IsScriptCut inside text ending

-- The rest of a command.

further_ended : (room : ℕ) (inside : Bool) (at : ℕ) (text : List ℕ) (ending : TextEnding) → IsEnding (IsInnerOf room) inside text ending → IsScriptCut inside text ending → FoundFurther room inside at text
further_ended room inside at text ending h cut = record { commands = []; ending = ending; words = []; are = ([], text, refl, no_blanks, inr (refl, h)); cut = cut }

end_cut : (inside : Bool) → IsScriptCut inside [] (end_of_text inside)
end_cut true = tt
end_cut false = ([], refl, refl)

closed_cut : (text : List ℕ) → IsScriptCut true (93 ∷ text) (leaves (93 ∷ text))
closed_cut text = ([], refl, (text, refl))

further_separated : (room : ℕ) (inside : Bool) (at b : ℕ) (text : List ℕ) → IsSeparator b → FoundScript room inside (at + 1) text → FoundFurther room inside at (b ∷ text)
further_separated room inside at b text s found =
    let e : at + 1 ≡ at + 0 + 1 = omega arith in
    record {
      commands = found.commands;
      ending = found.ending;
      words = [];
      are = ([], b ∷ text, refl, no_blanks, inl (b, text, refl, s, subst (λ n. IsScript (IsInnerOf room) inside n text found.commands found.ending) e found.is));
      cut = cut_onto inside (b ∷ text) (b ∷ []) text found.ending refl found.cut;
    }

blanks_front : (room : ℕ) (inside : Bool) (at next : ℕ) (front text : List ℕ) (words : List Word) (commands : List Command) (ending : TextEnding) →
    ((blanks : List ℕ) → AreBlanks blanks → AreBlanks (front ++ blanks)) → next ≡ at + length front →
    AreFurtherWords (IsInnerOf room) inside (AfterCommand room inside commands ending) next text words → AreFurtherWords (IsInnerOf room) inside (AfterCommand room inside commands ending) at (front ++ text) words
blanks_front room inside at next front text [] commands ending make m (blanks, rest, e, b, inl (c, after, f, s, h)) =
    let k : next + length blanks + 1 ≡ at + length (front ++ blanks) + 1 = omega (arith, m, length-append front blanks) in (
      front ++ blanks,
      rest,
      ap (λ t. front ++ t) e ∙ sym (append_assoc front blanks rest),
      make blanks b,
      inl (c, after, f, s, subst (λ n. IsScript (IsInnerOf room) inside n after commands ending) k h),
    )
blanks_front room inside at next front text [] commands ending make m (blanks, rest, e, b, inr h) =
    (front ++ blanks, rest, ap (λ t. front ++ t) e ∙ sym (append_assoc front blanks rest), make blanks b, inr h)
blanks_front room inside at next front text (word ∷ words) commands ending make m (blanks, own, rest, e, b, is, h) =
    let k : next + length blanks ≡ at + length (front ++ blanks) = omega (arith, m, length-append front blanks) in (
      front ++ blanks,
      own,
      rest,
      ap (λ t. front ++ t) e ∙ sym (append_assoc front blanks (own ++ rest)),
      make blanks b,
      subst (λ n. IsWord (IsInnerOf room) inside rest n own word) k is,
      subst (λ n. AreFurtherWords (IsInnerOf room) inside (AfterCommand room inside commands ending) (n + length own) rest words) k h,
    )

further_blanked : (room : ℕ) (inside : Bool) (at next : ℕ) (front text : List ℕ) → ((blanks : List ℕ) → AreBlanks blanks → AreBlanks (front ++ blanks)) → next ≡ at + length front →
    FoundFurther room inside next text → FoundFurther room inside at (front ++ text)
further_blanked room inside at next front text make m found = record {
  commands = found.commands;
  ending = found.ending;
  words = found.words;
  are = blanks_front room inside at next front text found.words found.commands found.ending make m found.are;
  cut = cut_onto inside (front ++ text) front text found.ending refl found.cut;
}

further_word : (room : ℕ) (inside : Bool) (at : ℕ) (text : List ℕ) (found : FoundWord room inside at text) → FoundFurther room inside (at + length found.own) found.rest → FoundFurther room inside at text
further_word room inside at text found more =
    let m : at ≡ at + 0 = omega arith in
    record {
      commands = more.commands;
      ending = more.ending;
      words = found.word ∷ more.words;
      are = (
        [],
        found.own,
        found.rest,
        found.cut,
        no_blanks,
        subst (λ n. IsWord (IsInnerOf room) inside found.rest n found.own found.word) m found.is,
        subst (λ n. AreFurtherWords (IsInnerOf room) inside (AfterCommand room inside more.commands more.ending) (n + length found.own) found.rest more.words) m more.are,
      );
      cut = cut_onto inside text found.own found.rest more.ending found.cut more.cut;
    }

-- What is known of all shorter texts.
pub record Known (room : ℕ) (inside : Bool) (n : ℕ) : Type 0 where
  pub scripts : (at : ℕ) (text : List ℕ) → length text ≤ n → FoundScript room inside at text
  pub further : (at : ℕ) (text : List ℕ) → length text ≤ n → FoundFurther room inside at text

further_stopped : (room : ℕ) (inside : Bool) (n at b : ℕ) (text : List ℕ) (kind : Kind) → class_of b ≡ kind → Known room inside n → length text ≤ n → class_ends inside kind text ≡ true → FoundFurther room inside at (b ∷ text)
further_stopped room inside n at b text Blank e ih fits h =
    further_blanked room inside at (at + 1) (b ∷ []) text (λ blanks k. one_blank e k) refl (ih.further (at + 1) text fits)
further_stopped room inside n at b text Newline e ih fits h = further_separated room inside at b text (inl (byte_is b Newline e)) (ih.scripts (at + 1) text fits)
further_stopped room inside n at b text Semicolon e ih fits h = further_separated room inside at b text (inr (byte_is b Semicolon e)) (ih.scripts (at + 1) text fits)
further_stopped room true n at b text CloseBracket e ih fits h =
    let same : b ≡ 93 = byte_is b CloseBracket e in
    subst (λ c. FoundFurther room true at (c ∷ text)) (sym same) (further_ended room true at (93 ∷ text) (leaves (93 ∷ text)) (ends_command (closes refl)) (closed_cut text))
further_stopped room false n at b text CloseBracket e ih fits h = cc
further_stopped room inside n at b [] Backslash e ih fits h = cc
further_stopped room inside n at b (c ∷ text) Backslash e ih fits h =
    let same : b ≡ 92 = byte_is b Backslash e in
    let next : c ≡ 10 = sym (eqb-true 10 c (both (nat_eq 10 c) true h).0) in
    subst (λ t. FoundFurther room inside at t) (sym (ap (λ x. x ∷ c ∷ text) same ∙ ap (λ x. 92 ∷ x ∷ text) next))
    (further_blanked room inside at (at + 2) (92 ∷ 10 ∷ []) text (λ blanks k. continued_blanks k) refl (ih.further (at + 2) text (omega arith)))
further_stopped room inside n at b text kind e ih fits h = cc

further_cut : (room : ℕ) (inside : Bool) (n at b : ℕ) (text : List ℕ) → InnerCuts room → Known room inside n → length text ≤ n → FoundFurther room inside at (b ∷ text)
further_cut room inside n at b text inner ih fits = elim (decided (ends_word inside (b ∷ text))) [
  | inl e ↦ further_stopped room inside n at b text (class_of b) refl ih fits e
  | inr e ↦ elim (word_cut room inside at (b ∷ text) inner e) [
    | inl found ↦ (let short : length found.rest ≤ n = omega (arith, found.shorter) in further_word room inside at (b ∷ text) found (ih.further (at + length found.own) found.rest short))
    | inr (fault, h) ↦ further_ended room inside at (b ∷ text) (fails fault) (faulty_word h) tt
  ]
]

-- Where a command could begin.

script_ended : (room : ℕ) (inside : Bool) (at : ℕ) (text : List ℕ) (ending : TextEnding) → IsLast (IsInnerOf room) inside text ending → IsScriptCut inside text ending → FoundScript room inside at text
script_ended room inside at text ending h cut = record { commands = []; ending = ending; is = ([], text, refl, no_gap, h); cut = cut }

gap_front : (room : ℕ) (inside : Bool) (at next : ℕ) (front text : List ℕ) (commands : List Command) (ending : TextEnding) → ((gap : List ℕ) → IsGap gap → IsGap (front ++ gap)) → next ≡ at + length front →
    IsScript (IsInnerOf room) inside next text commands ending → IsScript (IsInnerOf room) inside at (front ++ text) commands ending
gap_front room inside at next front text [] ending make m (gap, rest, e, g, h) = (front ++ gap, rest, ap (λ t. front ++ t) e ∙ sym (append_assoc front gap rest), make gap g, h)
gap_front room inside at next front text (command ∷ commands) ending make m (gap, own, rest, word, words, e, g, hash, is, h, same) =
    let k : next + length gap ≡ at + length (front ++ gap) = omega (arith, m, length-append front gap) in (
      front ++ gap,
      own,
      rest,
      word,
      words,
      ap (λ t. front ++ t) e ∙ sym (append_assoc front gap (own ++ rest)),
      make gap g,
      hash,
      subst (λ n. IsWord (IsInnerOf room) inside rest n own word) k is,
      subst (λ n. AreFurtherWords (IsInnerOf room) inside (AfterCommand room inside commands ending) (n + length own) rest words) k h,
      same ∙ ap (λ n. command_from n (word ∷ words)) k,
    )

script_gapped : (room : ℕ) (inside : Bool) (at next : ℕ) (front text : List ℕ) → ((gap : List ℕ) → IsGap gap → IsGap (front ++ gap)) → next ≡ at + length front →
    FoundScript room inside next text → FoundScript room inside at (front ++ text)
script_gapped room inside at next front text make m found = record {
  commands = found.commands;
  ending = found.ending;
  is = gap_front room inside at next front text found.commands found.ending make m found.is;
  cut = cut_onto inside (front ++ text) front text found.ending refl found.cut;
}

script_stopped : (room : ℕ) (inside : Bool) (n at b : ℕ) (text : List ℕ) (kind : Kind) → class_of b ≡ kind → Known room inside n → length text ≤ n → class_ends inside kind text ≡ true → FoundScript room inside at (b ∷ text)
script_stopped room inside n at b text Blank e ih fits h = script_gapped room inside at (at + 1) (b ∷ []) text (λ gap k. blank e k) refl (ih.scripts (at + 1) text fits)
script_stopped room inside n at b text Newline e ih fits h = script_gapped room inside at (at + 1) (b ∷ []) text (λ gap k. separator (inl (byte_is b Newline e)) k) refl (ih.scripts (at + 1) text fits)
script_stopped room inside n at b text Semicolon e ih fits h = script_gapped room inside at (at + 1) (b ∷ []) text (λ gap k. separator (inr (byte_is b Semicolon e)) k) refl (ih.scripts (at + 1) text fits)
script_stopped room true n at b text CloseBracket e ih fits h =
    let same : b ≡ 93 = byte_is b CloseBracket e in
    subst (λ c. FoundScript room true at (c ∷ text)) (sym same) (script_ended room true at (93 ∷ text) (leaves (93 ∷ text)) (ends (closes refl)) (closed_cut text))
script_stopped room false n at b text CloseBracket e ih fits h = cc
script_stopped room inside n at b [] Backslash e ih fits h = cc
script_stopped room inside n at b (c ∷ text) Backslash e ih fits h =
    let same : b ≡ 92 = byte_is b Backslash e in
    let next : c ≡ 10 = sym (eqb-true 10 c (both (nat_eq 10 c) true h).0) in
    subst (λ t. FoundScript room inside at t) (sym (ap (λ x. x ∷ c ∷ text) same ∙ ap (λ x. 92 ∷ x ∷ text) next))
    (script_gapped room inside at (at + 2) (92 ∷ 10 ∷ []) text (λ gap k. continuation k) refl (ih.scripts (at + 2) text (omega arith)))
script_stopped room inside n at b text kind e ih fits h = cc

-- a comment ends at a newline, or goes on to the end of the text
abbrev NoteCut : List ℕ → Type 0
NoteCut text = ((note : List ℕ) × (rest : List ℕ) × (text ≡ note ++ 10 ∷ rest) × IsNote note) ⊎ IsLastNote text

note_onto : (front text : List ℕ) → ((note : List ℕ) → IsNote note → IsNote (front ++ note)) → NoteCut text → NoteCut (front ++ text)
note_onto front text make (inl (note, rest, e, h)) = inl (front ++ note, rest, ap (λ t. front ++ t) e ∙ sym (append_assoc front note (10 ∷ rest)), make note h)
note_onto front text make (inr (inl h)) = inr (inl (make text h))
note_onto front text make (inr (inr (own, e, h))) = inr (inr (front ++ own, ap (λ t. front ++ t) e ∙ sym (append_assoc front own (92 ∷ [])), make own h))

note_cut : (n : ℕ) (text : List ℕ) → length text ≤ n → NoteCut text
note_cut n [] fits = inr (inl no_note)
note_cut zero (b ∷ text) fits = absurd (omega arith)
note_cut (suc n) (b ∷ []) fits = elim (same_or_other b 10) [
  | inl e ↦ inl ([], [], ap (λ c. c ∷ []) e, no_note)
  | inr h ↦ elim (same_or_other b 92) [ inl e ↦ inr (inr ([], ap (λ c. c ∷ []) e, no_note)) | inr k ↦ inr (inl (note_byte h k no_note)) ]
]
note_cut (suc n) (b ∷ c ∷ text) fits = elim (same_or_other b 10) [
  | inl e ↦ inl ([], c ∷ text, ap (λ x. x ∷ c ∷ text) e, no_note)
  | inr h ↦ elim (same_or_other b 92) [
    | inl e ↦ subst (λ x. NoteCut (x ∷ c ∷ text)) (sym e) (note_onto (92 ∷ c ∷ []) text (λ note k. note_pair k) (note_cut n text (omega arith)))
    | inr k ↦ note_onto (b ∷ []) (c ∷ text) (λ note l. note_byte h k l) (note_cut n (c ∷ text) (omega arith))
  ]
]

script_comment : (room : ℕ) (inside : Bool) (n at : ℕ) (text : List ℕ) → Known room inside n → length text ≤ n → NoteCut text → FoundScript room inside at (35 ∷ text)
script_comment room inside n at text ih fits (inr h) = script_ended room inside at (35 ∷ text) (end_of_text inside) (comment h) (cut_onto_end inside)
  where
    cut_onto_end : (t : Bool) → IsScriptCut t (35 ∷ text) (end_of_text t)
    cut_onto_end true = tt
    cut_onto_end false = (35 ∷ text, sym (append-nil (35 ∷ text)), refl)
script_comment room inside n at text ih fits (inl (note, rest, e, h)) =
    let front : List ℕ = 35 ∷ (note ++ 10 ∷ []) in
    let short : length rest ≤ n = omega (arith, ap length e, length-append note (10 ∷ rest)) in
    let whole : 35 ∷ text ≡ front ++ rest = ap (λ t. 35 ∷ t) (e ∙ sym (append_assoc note (10 ∷ []) rest)) in
    subst (λ t. FoundScript room inside at t) (sym whole)
    (script_gapped room inside at (at + length front) front rest (λ gap k. subst IsGap (ap (λ t. 35 ∷ t) (sym (append_assoc note (10 ∷ []) gap))) (gap_comment note gap h k)) refl (ih.scripts (at + length front) rest short))

script_word : (room : ℕ) (inside : Bool) (at : ℕ) (text : List ℕ) → begins 35 text ≡ false → (found : FoundWord room inside at text) → FoundFurther room inside (at + length found.own) found.rest → FoundScript room inside at text
script_word room inside at text hash found more =
    let m : at ≡ at + 0 = omega arith in
    record {
      commands = command_from (at + 0) (found.word ∷ more.words) ∷ more.commands;
      ending = more.ending;
      is = (
        [],
        found.own,
        found.rest,
        found.word,
        more.words,
        found.cut,
        no_gap,
        ap (begins 35) (sym found.cut) ∙ hash,
        subst (λ n. IsWord (IsInnerOf room) inside found.rest n found.own found.word) m found.is,
        subst (λ n. AreFurtherWords (IsInnerOf room) inside (AfterCommand room inside more.commands more.ending) (n + length found.own) found.rest more.words) m more.are,
        refl,
      );
      cut = cut_onto inside text found.own found.rest more.ending found.cut more.cut;
    }

script_cut : (room : ℕ) (inside : Bool) (n at b : ℕ) (text : List ℕ) → InnerCuts room → Known room inside n → length text ≤ n → FoundScript room inside at (b ∷ text)
script_cut room inside n at b text inner ih fits = elim (decided (ends_word inside (b ∷ text))) [
  | inl e ↦ script_stopped room inside n at b text (class_of b) refl ih fits e
  | inr e ↦ elim (decided (begins 35 (b ∷ text))) [
    | inl hash ↦ (let same : b ≡ 35 = eqb-true b 35 hash in subst (λ c. FoundScript room inside at (c ∷ text)) (sym same) (script_comment room inside n at text ih fits (note_cut n text fits)))
    | inr hash ↦ elim (word_cut room inside at (b ∷ text) inner e) [
      | inl found ↦ (let short : length found.rest ≤ n = omega (arith, found.shorter) in script_word room inside at (b ∷ text) hash found (ih.further (at + length found.own) found.rest short))
      | inr (fault, h) ↦ script_ended room inside at (b ∷ text) (fails fault) (faulty hash h) tt
    ]
  ]
]

none_known : (room : ℕ) (inside : Bool) (at : ℕ) → FoundScript room inside at [] × FoundFurther room inside at []
none_known room inside at = (script_ended room inside at [] (end_of_text inside) (ends stands) (end_cut inside), further_ended room inside at [] (end_of_text inside) (ends_command stands) (end_cut inside))

known : (room : ℕ) (inside : Bool) → InnerCuts room → (n : ℕ) → Known room inside n
known room inside inner zero = record {
  scripts = λ at text fits. empty at text fits;
  further = λ at text fits. empty_further at text fits;
}
  where
    empty : (at : ℕ) (text : List ℕ) → length text ≤ 0 → FoundScript room inside at text
    empty at [] fits = (none_known room inside at).0
    empty at (b ∷ text) fits = absurd (omega arith)

    empty_further : (at : ℕ) (text : List ℕ) → length text ≤ 0 → FoundFurther room inside at text
    empty_further at [] fits = (none_known room inside at).1
    empty_further at (b ∷ text) fits = absurd (omega arith)
known room inside inner (suc n) = one (known room inside inner n)
  where
    one_script : Known room inside n → (at : ℕ) (text : List ℕ) → length text ≤ suc n → FoundScript room inside at text
    one_script ih at [] fits = (none_known room inside at).0
    one_script ih at (b ∷ text) fits = script_cut room inside n at b text inner ih (omega arith)

    one_further : Known room inside n → (at : ℕ) (text : List ℕ) → length text ≤ suc n → FoundFurther room inside at text
    one_further ih at [] fits = (none_known room inside at).1
    one_further ih at (b ∷ text) fits = further_cut room inside n at b text inner ih (omega arith)

    one : Known room inside n → Known room inside (suc n)
    one ih = record { scripts = one_script ih; further = one_further ih }

pub script_found : (room : ℕ) (inside : Bool) → InnerCuts room → (at : ℕ) (text : List ℕ) → FoundScript room inside at text
script_found room inside inner at text = let all = known room inside inner (length text) in all.scripts at text (omega arith)

-- Brackets and indices.

pub index_left : (left : List ℕ) → ends_body true Parens left ≡ true → (rest : List ℕ) × (left ≡ 41 ∷ rest)
index_left [] h = cc
index_left (b ∷ rest) h = (rest, ap (λ c. c ∷ rest) (eqb-true b 41 h))

script_inner : (room : ℕ) (text : List ℕ) (commands : List Command) (ending : TextEnding) → IsScript (IsInnerOf room) true 0 text commands ending → IsScriptCut true text ending →
    (found : TextEnding) × IsInnerOf (suc room) script text found × IsInnerCut script text found
script_inner room text commands (leaves left) is (own, e, (rest, f)) = (leaves left, (commands, is), (own, rest, e ∙ ap (λ t. own ++ t) f, f))
script_inner room text commands (fails fault) is cut = (fails fault, (commands, is), tt)

index_inner : (room : ℕ) (text : List ℕ) (pieces : List Piece) (ending : TextEnding) → ArePieces (IsInnerOf room) true Parens text pieces ending → IsPiecesCut true Parens text ending →
    (found : TextEnding) × IsInnerOf (suc room) index text found × IsInnerCut index text found
index_inner room text pieces (leaves left) are (own, e, h) = let more = index_left left h in (leaves left, (pieces, are), (own, more.0, e ∙ ap (λ t. own ++ t) more.1, more.1))
index_inner room text pieces (fails fault) are cut = (fails fault, (pieces, are), tt)

pub inner_cuts : (room : ℕ) → InnerCuts room
inner_cuts zero inner text = (fails TooLong, refl, tt)
inner_cuts (suc room) script text = let found = script_found room true (inner_cuts room) 0 text in script_inner room text found.commands found.ending found.is found.cut
inner_cuts (suc room) index text = let found = pieces_found room true Parens (inner_cuts room) text in index_inner room text found.pieces found.ending found.are found.cut
