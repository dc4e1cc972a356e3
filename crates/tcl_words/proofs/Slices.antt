-- The spans of words and commands are where their texts stand.
use Rattle.std.proofs.Common.{false, ◌≡◌, ℕ, ◌+◌, inl, inr, List, [], ◌∷◌, ◌++◌, length, refl, sym, ap, subst, ◌∙◌, append_assoc, length-append, arith}
use Rattle.tcl_words.specs.Spans.{command_from, words_end}
use Rattle.tcl_words.specs.Grammar.{TextEnding, IsInnerOf, IsWord, AreFurtherWords, IsRest, IsEnding, IsScript, IsSlice, WordsAreSlices, CommandsAreSlices}
use Rattle.tcl_words.specs.declared.script.Word.{Word}
use Rattle.tcl_words.specs.declared.script.Command.{Command}

-- the text stands here
abbrev pub Stands : List ℕ → ℕ → List ℕ → Type 0
Stands source at text = (before : List ℕ) × (source ≡ before ++ text) × (at ≡ length before)

pub stands_on : (source front text : List ℕ) (at : ℕ) → Stands source at (front ++ text) → Stands source (at + length front) text
stands_on source front text at (before, e, m) = (before ++ front, e ∙ sym (append_assoc before front text), omega (arith, m, length-append before front))

pub stands_as : (source text same : List ℕ) (at : ℕ) → text ≡ same → Stands source at text → Stands source at same
stands_as source text same at e (before, f, m) = (before, f ∙ ap (λ t. before ++ t) e, m)

abbrev IsOuterWord : List ℕ → ℕ → List ℕ → Word → Type 0
IsOuterWord = IsWord (IsInnerOf 200) false

word_span : (rest : List ℕ) (at : ℕ) (own : List ℕ) (word : Word) → IsOuterWord rest at own word → word.span ≡ record { start = at; end = at + length own }
word_span rest at own word is = ap (λ w. w.span) is.same

word_slice : (source own rest : List ℕ) (at : ℕ) (word : Word) → Stands source at (own ++ rest) → IsOuterWord rest at own word →
    (part : List ℕ) × (behind : List ℕ) × IsSlice source word.span part × IsOuterWord behind word.span.start part word
word_slice source own rest at word (before, e, m) is =
    let span = word_span rest at own word is in
    (own, rest, (before, rest, e, span ∙ ap (λ n. record { start = n; end = n + length own }) m), subst (λ n. IsOuterWord rest n own word) (sym (ap (λ s. s.start) span)) is)

-- the further words of a command, and what they leave
record Further (source : List ℕ) (IsAfter : ℕ → List ℕ → Type 0) (at : ℕ) (text : List ℕ) (words : List Word) : Type 0 where
  slices : WordsAreSlices source words
  taken : List ℕ
  rest : List ℕ
  cut : text ≡ taken ++ rest
  ends : words_end at words ≡ at + length taken
  after : IsAfter (at + length taken) rest

further_slices : (source : List ℕ) (IsAfter : ℕ → List ℕ → Type 0) (at : ℕ) (text : List ℕ) (words : List Word) → Stands source at text → AreFurtherWords (IsInnerOf 200) false IsAfter at text words → Further source IsAfter at text words
further_slices source IsAfter at text [] stands h = let m : at ≡ at + 0 = omega arith in record {
  slices = tt;
  taken = [];
  rest = text;
  cut = refl;
  ends = m;
  after = subst (λ n. IsAfter n text) m h;
}
further_slices source IsAfter at text (word ∷ words) stands (blanks, own, rest, e, b, is, h) =
    let here = stands_on source blanks (own ++ rest) at (stands_as source text (blanks ++ (own ++ rest)) at e stands) in
    let more = further_slices source IsAfter (at + length blanks + length own) rest words (stands_on source own rest (at + length blanks) here) h in
    let m : at + length blanks + length own + length more.taken ≡ at + length (blanks ++ (own ++ more.taken)) = omega (arith, length-append blanks (own ++ more.taken), length-append own more.taken) in
    record {
      slices = (word_slice source own rest (at + length blanks) word here is, more.slices);
      taken = blanks ++ (own ++ more.taken);
      rest = more.rest;
      cut = e ∙ ap (λ t. blanks ++ (own ++ t)) more.cut ∙ ap (λ t. blanks ++ t) (sym (append_assoc own more.taken more.rest)) ∙ sym (append_assoc blanks (own ++ more.taken) more.rest);
      ends = ap (λ s. words_end s.end words) (word_span rest (at + length blanks) own word is) ∙ more.ends ∙ m;
      after = subst (λ n. IsAfter n more.rest) m more.after;
    }

-- what comes after a command
abbrev After : List Command → TextEnding → ℕ → List ℕ → Type 0
After commands ending = IsRest (λ next after. IsScript (IsInnerOf 200) false next after commands ending) (λ last. (commands ≡ []) × IsEnding (IsInnerOf 200) false last ending)

-- the commands after a command
rest_slices : (source : List ℕ) (commands : List Command) (ending : TextEnding) →
    ((at : ℕ) (text : List ℕ) → Stands source at text → IsScript (IsInnerOf 200) false at text commands ending → CommandsAreSlices source commands) →
    (at : ℕ) (text : List ℕ) → Stands source at text → After commands ending at text → CommandsAreSlices source commands
rest_slices source commands ending ih at text stands (blanks, rest, e, b, inl (c, after, f, s, h)) =
    let here = stands_on source blanks rest at (stands_as source text (blanks ++ rest) at e stands) in
    ih (at + length blanks + 1) after (stands_on source (c ∷ []) after (at + length blanks) (stands_as source rest (c ∷ after) (at + length blanks) f here)) h
rest_slices source commands ending ih at text stands (blanks, rest, e, b, inr (none, h)) = subst (CommandsAreSlices source) (sym none) tt

pub script_slices : (source : List ℕ) (commands : List Command) (ending : TextEnding) (at : ℕ) (text : List ℕ) → Stands source at text → IsScript (IsInnerOf 200) false at text commands ending → CommandsAreSlices source commands
script_slices source [] ending at text stands h = tt
script_slices source (command ∷ commands) ending at text stands (gap, own, rest, word, words, e, g, hash, is, h, same) =
    let start : ℕ = at + length gap in
    let here = stands_on source gap (own ++ rest) at (stands_as source text (gap ++ (own ++ rest)) at e stands) in
    let past = stands_on source own rest start here in
    let more = further_slices source (After commands ending) (start + length own) rest words past h in
    let m : start + length own + length more.taken ≡ start + length (own ++ more.taken) = omega (arith, length-append own more.taken) in
    let ends : words_end start (word ∷ words) ≡ start + length (own ++ more.taken) = ap (λ s. words_end s.end words) (word_span rest start own word is) ∙ more.ends ∙ m in
    let words_are : command.words ≡ word ∷ words = ap (λ c. c.words) same in
    let span_is : command.span ≡ record { start = start; end = start + length (own ++ more.taken) } = ap (λ c. c.span) same ∙ ap (λ n. record { start = start; end = n }) ends in (
      subst (WordsAreSlices source) (sym words_are) (word_slice source own rest start word here is, more.slices),
      same ∙ ap (λ n. command_from n (word ∷ words)) (sym (ap (λ s. s.start) span_is)) ∙ ap (λ t. command_from command.span.start t) (sym words_are),
      (
        own ++ more.taken,
        (
          here.0,
          more.rest,
          here.1 ∙ ap (λ t. here.0 ++ t) (ap (λ t. own ++ t) more.cut ∙ sym (append_assoc own more.taken more.rest)),
          span_is ∙ ap (λ n. record { start = n; end = n + length (own ++ more.taken) }) here.2,
        ),
      ),
      rest_slices source commands ending (script_slices source commands ending) (start + length own + length more.taken) more.rest
          (stands_on source more.taken more.rest (start + length own) (stands_as source rest (more.taken ++ more.rest) (start + length own) more.cut past)) more.after,
    )
