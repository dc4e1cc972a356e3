-- A script's commands as lines of their own are a script of the same commands.
use Rattle.std.proofs.Common.{◌≡◌, ℕ, ◌+◌, ◌-◌, inl, inr, true, false, List, [], ◌∷◌, ◌++◌, length, take, drop, refl, sym, ap, subst, ◌∙◌, append_assoc, append-nil, length-append, arith}
use Rattle.std.specs.List.{slice_range}
use Rattle.tcl_words.specs.Classes.{class_of}
use Rattle.tcl_words.specs.Spans.{command_from, words_end}
use Rattle.tcl_words.specs.Grammar.{leaves, begins, class_ends, ends_word, IsInnerOf, IsWord, AreBlanks, IsEnding, AreFurtherWords, IsRest, IsScript}
use Rattle.tcl_words.specs.Grammar.AreBlanks.{none as no_blanks, blank as one_blank, continuation as continued_blanks}
use Rattle.tcl_words.specs.Grammar.IsGap.{none as no_gap}
use Rattle.tcl_words.specs.Grammar.IsEnd.{stands}
use Rattle.tcl_words.specs.Grammar.IsEnding.{ends as ends_command}
use Rattle.tcl_words.specs.Grammar.IsLast.{ends as ends_script}
use Rattle.tcl_words.specs.Joining.{source_of, lines_of, WordsAlike, CommandsAlike}
use Rattle.tcl_words.specs.declared.script.Word.{Word}
use Rattle.tcl_words.specs.declared.script.Command.{Command}
use Rattle.tcl_words.proofs.NameLemmas.{drop_front, take_front}
use Rattle.tcl_words.proofs.WordsRead.{word_open, true_false}
use Rattle.tcl_words.proofs.WordsMoved.{EndsToo, placed, word_moved}
use Rattle.tcl_words.proofs.Slices.{Stands, stands_on, stands_as}

-- what comes after a command
abbrev pub After : List Command → ℕ → List ℕ → Type 0
After commands = IsRest (λ next after. IsScript (IsInnerOf 200) false next after commands (leaves [])) (λ last. (commands ≡ []) × IsEnding (IsInnerOf 200) false last (leaves []))

blanks_tail : {blanks : List ℕ} → AreBlanks blanks → (own text : List ℕ) → text ≡ blanks ++ own → ends_word false text ≡ true → ends_word false own ≡ false → (other : List ℕ) → EndsToo text (blanks ++ other)
unfolding class_of
blanks_tail no_blanks own text e h k other = let f : true ≡ false = sym h ∙ ap (ends_word false) e ∙ k in absurd (true_false f)
blanks_tail (one_blank {b} {text = more} is h) own text e f k other = record { ends = ap (λ c. class_ends false c (more ++ other)) is; none = λ g. (let l : b ∷ (more ++ own) ≡ [] = sym e ∙ g in cc) }
blanks_tail (continued_blanks {text = more} h) own text e f k other = record { ends = refl; none = λ g. (let l : 92 ∷ 10 ∷ (more ++ own) ≡ [] = sym e ∙ g in cc) }

-- the further words of a command, what they leave, and the same words before another text
pub record Lined (at : ℕ) (text : List ℕ) (words : List Word) (commands : List Command) : Type 0 where
  pub taken : List ℕ
  pub rest : List ℕ
  pub cut : text ≡ taken ++ rest
  pub ends : words_end at words ≡ at + length taken
  pub after : After commands (at + length taken) rest
  pub stops : ends_word false rest ≡ true
  pub tail : (other : List ℕ) → EndsToo rest other → EndsToo text (taken ++ other)
  pub again : (other : List ℕ) → EndsToo rest other → (next : ℕ) (more : List Command) → After more (next + length taken) other →
      (others : List Word) × AreFurtherWords (IsInnerOf 200) false (After more) next (taken ++ other) others × WordsAlike words others

word_alike : (rest : List ℕ) (at : ℕ) (own : List ℕ) (word : Word) → IsWord (IsInnerOf 200) false rest at own word → word.span ≡ record { start = at; end = at + length own }
word_alike rest at own word is = ap (λ w. w.span) is.same

pub lined : (at : ℕ) (text : List ℕ) (words : List Word) (commands : List Command) → ends_word false text ≡ true → AreFurtherWords (IsInnerOf 200) false (After commands) at text words → Lined at text words commands
lined at text [] commands here h =
    let m : at ≡ at + 0 = omega arith in
    record {
      taken = [];
      rest = text;
      cut = refl;
      ends = m;
      after = subst (λ n. After commands n text) m h;
      stops = here;
      tail = λ other k. k;
      again = λ other k next more a. (let n : next + 0 ≡ next = omega arith in ([], subst (λ i. After more i other) n a, tt));
    }
lined at text (word ∷ words) commands here (blanks, own, rest, e, b, is, h) =
    let start : ℕ = at + length blanks in
    let f : Lined (start + length own) rest words commands = lined (start + length own) rest words commands is.ends h in
    let open_word : ends_word false (own ++ rest) ≡ false = word_open (IsInnerOf 200) false rest start own word is in
    let m : start + length own + length f.taken ≡ at + length (blanks ++ (own ++ f.taken)) = omega (arith, length-append blanks (own ++ f.taken), length-append own f.taken) in
    record {
      taken = blanks ++ (own ++ f.taken);
      rest = f.rest;
      cut = e ∙ ap (λ t. blanks ++ (own ++ t)) f.cut ∙ ap (λ t. blanks ++ t) (sym (append_assoc own f.taken f.rest)) ∙ sym (append_assoc blanks (own ++ f.taken) f.rest);
      ends = ap (λ s. words_end s.end words) (word_alike rest start own word is) ∙ f.ends ∙ m;
      after = subst (λ n. After commands n f.rest) m f.after;
      stops = f.stops;
      tail = λ other k. subst (EndsToo text) (sym (append_assoc blanks (own ++ f.taken) other)) (blanks_tail b (own ++ rest) text e here open_word ((own ++ f.taken) ++ other));
      again = λ other k next more a. (
          let first : ℕ = next + length blanks in
          let n : next + length (blanks ++ (own ++ f.taken)) ≡ first + length own + length f.taken = omega (arith, length-append blanks (own ++ f.taken), length-append own f.taken) in
          let found = f.again other k (first + length own) more (subst (λ i. After more i other) n a) in
          let whole : (blanks ++ (own ++ f.taken)) ++ other ≡ blanks ++ (own ++ (f.taken ++ other)) = append_assoc blanks (own ++ f.taken) other ∙ ap (λ t. blanks ++ t) (append_assoc own f.taken other) in (
            placed first own word ∷ found.0,
            (blanks, own, f.taken ++ other, whole, b, word_moved rest start own word is (f.taken ++ other) (f.tail other k) first, found.1),
            (refl, refl, refl, found.2),
          ));
    }

-- the part of a text between two positions
slice_is : (source before own after : List ℕ) (start end : ℕ) → source ≡ before ++ (own ++ after) → start ≡ length before → end ≡ start + length own → slice_range source start end ≡ own
slice_is source before own after start end e f g =
    let m : end - start ≡ length own = omega arith in
    ap (λ n. take n (drop start source)) m
    ∙ ap (λ n. take (length own) (drop n source)) f
    ∙ ap (λ t. take (length own) (drop (length before) t)) e
    ∙ ap (take (length own)) (drop_front before (own ++ after))
    ∙ take_front own after

first_hash : (own rest other : List ℕ) → ends_word false (own ++ rest) ≡ false → ends_word false rest ≡ true → begins 35 (own ++ rest) ≡ false → begins 35 (own ++ other) ≡ false
first_hash [] rest other h k l = absurd (true_false (sym k ∙ h))
first_hash (b ∷ own) rest other h k l = l

-- a command with what follows it
command_lined : (at next : ℕ) (own rest : List ℕ) (word : Word) (words : List Word) (commands : List Command) → IsWord (IsInnerOf 200) false rest at own word → begins 35 (own ++ rest) ≡ false →
    (f : Lined (at + length own) rest words commands) → (other : List ℕ) → EndsToo f.rest other → (more : List Command) → After more (next + length own + length f.taken) other →
    (command : Command) × IsScript (IsInnerOf 200) false next ((own ++ f.taken) ++ other) (command ∷ more) (leaves []) × WordsAlike (word ∷ words) command.words
command_lined at next own rest word words commands is hash f other k more a =
    let m : next ≡ next + 0 = omega arith in
    let found = f.again other k (next + length own) more a in
    let new : Word = placed next own word in
    let is_word : IsWord (IsInnerOf 200) false (f.taken ++ other) next own new = word_moved rest at own word is (f.taken ++ other) (f.tail other k) next in
    let still : begins 35 (own ++ (f.taken ++ other)) ≡ false = first_hash own rest (f.taken ++ other) (word_open (IsInnerOf 200) false rest at own word is) is.ends hash in (
      command_from (next + 0) (new ∷ found.0),
      (
        [],
        own,
        f.taken ++ other,
        new,
        found.0,
        append_assoc own f.taken other,
        no_gap,
        still,
        subst (λ n. IsWord (IsInnerOf 200) false (f.taken ++ other) n own new) m is_word,
        subst (λ n. AreFurtherWords (IsInnerOf 200) false (After more) (n + length own) (f.taken ++ other) found.0) m found.1,
        refl,
      ),
      (refl, refl, refl, found.2),
    )

last_after : (at : ℕ) → After [] at []
last_after at = ([], [], refl, no_blanks, inr (refl, ends_command stands))

newline_after : (commands : List Command) (at : ℕ) (text : List ℕ) → IsScript (IsInnerOf 200) false (at + 0 + 1) text commands (leaves []) → After commands at (10 ∷ text)
newline_after commands at text h = ([], 10 ∷ text, refl, no_blanks, inl (10, text, refl, inl refl, h))

newline_too : (rest other blanks after : List ℕ) (c : ℕ) → rest ≡ blanks ++ c ∷ after → EndsToo rest (10 ∷ other)
unfolding class_of
newline_too rest other blanks after c e = record { ends = refl; none = λ f. absurd (some blanks (sym e ∙ f)) }
  where
    some : (front : List ℕ) → front ++ c ∷ after ≡ [] → ⊥
    some [] h = cc
    some (x ∷ front) h = cc

-- the lines of these commands
abbrev pub LinesAre : List ℕ → List Command → ℕ → Type 0
LinesAre source commands next = (others : List Command) × IsScript (IsInnerOf 200) false next (lines_of source commands) others (leaves []) × CommandsAlike commands others

-- the source of the first command
pub record FirstSource (source : List ℕ) (own taken : List ℕ) (command : Command) : Type 0 where
  pub is : source_of source command ≡ own ++ taken

pub source_is : (source : List ℕ) (at : ℕ) (own rest : List ℕ) (word : Word) (words : List Word) (commands : List Command) (command : Command) → Stands source at (own ++ rest) → IsWord (IsInnerOf 200) false rest at own word →
    (f : Lined (at + length own) rest words commands) → command ≡ command_from at (word ∷ words) → FirstSource source own f.taken command
source_is source at own rest word words commands command (before, e, m) is f same =
    let ends : words_end at (word ∷ words) ≡ at + length own + length f.taken = ap (λ s. words_end s.end words) (word_alike rest at own word is) ∙ f.ends in
    let n : at + length own + length f.taken ≡ at + length (own ++ f.taken) = omega (arith, length-append own f.taken) in
    record {
      is =
          ap (source_of source) same
          ∙ slice_is source before (own ++ f.taken) f.rest at (words_end at (word ∷ words)) (e ∙ ap (λ t. before ++ (own ++ t)) f.cut ∙ ap (λ t. before ++ t) (sym (append_assoc own f.taken f.rest))) m (ends ∙ n);
    }

lines_found : (source : List ℕ) (at next : ℕ) (own rest : List ℕ) (word : Word) (words : List Word) (command : Command) (commands : List Command) → Stands source at (own ++ rest) → IsWord (IsInnerOf 200) false rest at own word → begins 35 (own ++ rest) ≡ false →
    (f : Lined (at + length own) rest words commands) → command ≡ command_from at (word ∷ words) →
    ((first : ℕ) (text : List ℕ) → Stands source first text → IsScript (IsInnerOf 200) false first text commands (leaves []) → (then : ℕ) → LinesAre source commands then) → LinesAre source (command ∷ commands) next
lines_found source at next own rest word words command [] stand is hash f same further =
    let from = source_is source at own rest word words [] command stand is f same in
    let found = command_lined at next own rest word words [] is hash f [] (record { ends = refl; none = λ e. refl }) [] (last_after (next + length own + length f.taken)) in
    let line : (own ++ f.taken) ++ [] ≡ source_of source command = append-nil (own ++ f.taken) ∙ sym from.is in (
      found.0 ∷ [],
      subst (λ t. IsScript (IsInnerOf 200) false next t (found.0 ∷ []) (leaves [])) line found.1,
      (subst (λ c. WordsAlike c.words found.0.words) (sym same) found.2, tt),
    )
lines_found source at next own rest word words command (other ∷ commands) stand is hash f same further = go f.after
  where
    from : FirstSource source own f.taken command
    from = source_is source at own rest word words (other ∷ commands) command stand is f same

    place : ℕ
    place = next + length own + length f.taken

    joined : (blanks left : List ℕ) (c : ℕ) → f.rest ≡ blanks ++ c ∷ left → LinesAre source (other ∷ commands) (place + 0 + 1) → LinesAre source (command ∷ other ∷ commands) next
    joined blanks left c e (others, h, alike) =
        let behind : List ℕ = lines_of source (other ∷ commands) in
        let found = command_lined at next own rest word words (other ∷ commands) is hash f (10 ∷ behind) (newline_too f.rest behind blanks left c e) others (newline_after others place behind h) in
        let line : (own ++ f.taken) ++ 10 ∷ behind ≡ source_of source command ++ 10 ∷ behind = ap (λ t. t ++ 10 ∷ behind) (sym from.is) in (
          found.0 ∷ others,
          subst (λ t. IsScript (IsInnerOf 200) false next t (found.0 ∷ others) (leaves [])) line found.1,
          (subst (λ k. WordsAlike k.words found.0.words) (sym same) found.2, alike),
        )

    go : After (other ∷ commands) (at + length own + length f.taken) f.rest → LinesAre source (command ∷ other ∷ commands) next
    go (blanks, left, e, b, inr (none, h)) = cc
    go (blanks, left, e, b, inl (c, after, g, s, h)) =
        let here = stands_on source own rest at stand in
        let past = stands_on source f.taken f.rest (at + length own) (stands_as source rest (f.taken ++ f.rest) (at + length own) f.cut here) in
        let on = stands_on source blanks left (at + length own + length f.taken) (stands_as source f.rest (blanks ++ left) (at + length own + length f.taken) e past) in
        let behind = stands_on source (c ∷ []) after (at + length own + length f.taken + length blanks) (stands_as source left (c ∷ after) (at + length own + length f.taken + length blanks) g on) in
        joined blanks after c (e ∙ ap (λ t. blanks ++ t) g) (further (at + length own + length f.taken + length blanks + 1) after behind h (place + 0 + 1))

pub lines_are : (source : List ℕ) (commands : List Command) (at : ℕ) (text : List ℕ) → Stands source at text → IsScript (IsInnerOf 200) false at text commands (leaves []) → (next : ℕ) → LinesAre source commands next
lines_are source [] at text stand h next = ([], ([], [], refl, no_gap, ends_script stands), tt)
lines_are source (command ∷ commands) at text stand (gap, own, rest, word, words, e, g, hash, is, h, same) next =
    let start : ℕ = at + length gap in
    lines_found source start next own rest word words command commands (stands_on source gap (own ++ rest) at (stands_as source text (gap ++ (own ++ rest)) at e stand)) is hash
    (lined (start + length own) rest words commands is.ends h) same (lines_are source commands)
