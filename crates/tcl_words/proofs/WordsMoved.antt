-- Words are the same before another text that ends them, wherever they stand.
use Rattle.std.proofs.Common.{◌≡◌, ℕ, ◌+◌, ◌<◌, Bool, true, false, not, ◌==◌, ◌&&◌, List, [], ◌∷◌, ◌++◌, length, drop, refl, sym, ap, subst, ◌∙◌, append_assoc, length-append, arith}
use Rattle.tcl_words.specs.Classes.{class_of, begins_expansion}
use Rattle.tcl_words.specs.Spans.{word_of}
use Rattle.tcl_words.specs.Grammar.{TextEnding, leaves, begins, begins_bare, begins_expanded, ends_word, ArePieces, IsBraced, IsInnerOf, IsOwnWord, HasExpansion, IsWord}
use Rattle.tcl_words.specs.Grammar.ArePieces.{stop, unended, byte, backslash, dollar, variable, braced_name, unclosed_name, element, faulty_index, bracket, faulty_script}
use Rattle.tcl_words.specs.Grammar.IsOwnWord.{bare_word, quoted_word, braced_word}
use Rattle.tcl_words.specs.declared.kind.Mode.TheVariants.{Bare, Quotes}
use Rattle.tcl_words.specs.declared.script.WordForm.{WordForm}
use Rattle.tcl_words.specs.declared.script.WordForm.TheVariants.{Bare as BareForm}
use Rattle.tcl_words.specs.declared.script.Piece.{Piece}
use Rattle.tcl_words.specs.declared.script.Word.{Word}
use Rattle.tcl_words.proofs.WordsRead.{both, not_true, two_bytes, own_open}
use Rattle.tcl_words.proofs.BracesRead.{star_only}
use Rattle.tcl_words.proofs.Tails.{inert_end, inert_quote}
use Rattle.tcl_words.proofs.InnersMoved.{same_rest}
use Rattle.tcl_words.proofs.PiecesMoved.{Tail, MovedPieces, pieces_moved}

-- this text ends a word too, and is no more than that one where that one is empty
pub record EndsToo (left other : List ℕ) : Type 0 where
  pub ends : ends_word false other ≡ true
  pub none : left ≡ [] → other ≡ []

bare_tail : (left other : List ℕ) → EndsToo left other → Tail Bare left other
bare_tail left other h = record { stops_too = h.ends; none = h.none; inert = inert_end other h.ends; blanks = tt }

quote_tail : (left other : List ℕ) → Tail Quotes (34 ∷ left) (34 ∷ other)
quote_tail left other = record { stops_too = refl; none = λ e. cc; inert = inert_quote other; blanks = refl }

-- pieces that leave less than the whole begin with no end of a word
pieces_open : {text : List ℕ} {pieces : List Piece} {ending : TextEnding} → ArePieces (IsInnerOf 200) false Bare text pieces ending → (left : List ℕ) → ending ≡ leaves left → length left < length text → ends_word false text ≡ false
unfolding class_of
pieces_open (stop {text} h) left e m = let k : text ≡ left = cc in absurd (omega (arith, m, ap length k))
pieces_open (unended h) left e m = cc
pieces_open (byte h p more) left e m = h
pieces_open (backslash h more) left e m = h
pieces_open (dollar h k more) left e m = refl
pieces_open (variable name is h k more) left e m = refl
pieces_open (braced_name name h more) left e m = refl
pieces_open (unclosed_name h) left e m = cc
pieces_open (element name own is h more) left e m = refl
pieces_open (faulty_index name is h) left e m = cc
pieces_open (bracket own h more) left e m = refl
pieces_open (faulty_script h) left e m = cc

first_same : (b : ℕ) (own rest other : List ℕ) → begins_bare false (b ∷ (own ++ rest)) ≡ true → ends_word false (b ∷ (own ++ other)) ≡ false → begins_bare false (b ∷ (own ++ other)) ≡ true
first_same b own rest other h k = let two = both (not (ends_word false (b ∷ (own ++ rest)))) (not (b == 123) && not (b == 34)) h in rw k two.1

bare_moved : (own rest other : List ℕ) (pieces : List Piece) → begins_bare false (own ++ rest) ≡ true → ArePieces (IsInnerOf 200) false Bare (own ++ other) pieces (leaves other) → ends_word false rest ≡ true →
    IsOwnWord (IsInnerOf 200) false other own BareForm pieces
bare_moved [] rest other pieces first are ends =
    let two = both (not (ends_word false rest)) (not (begins 123 rest) && not (begins 34 rest)) first in
    let k : true ≡ false = sym ends ∙ not_true (ends_word false rest) two.0 in cc
bare_moved (b ∷ own) rest other pieces first are ends =
    let m : length other < length (b ∷ (own ++ other)) = omega (arith, length-append own other) in
    bare_word (first_same b own rest other first (pieces_open are other refl m)) are

own_moved : {rest own : List ℕ} {form : WordForm} {pieces : List Piece} → IsOwnWord (IsInnerOf 200) false rest own form pieces → ends_word false rest ≡ true → (other : List ℕ) → EndsToo rest other →
    IsOwnWord (IsInnerOf 200) false other own form pieces
own_moved {rest} (bare_word {own} {pieces} first are) ends other h =
    let self : EndsToo rest rest = record { ends = ends; none = λ e. e } in
    let moved : MovedPieces Bare (own ++ rest) pieces rest = pieces_moved Bare are (bare_tail rest rest self) in
    let cut = same_rest own moved.own rest rest moved.cut refl in
    bare_moved own rest other pieces first (subst (λ t. ArePieces (IsInnerOf 200) false Bare (t ++ other) pieces (leaves other)) (sym cut.0) (moved.again other (bare_tail rest other h))) ends
own_moved {rest} (quoted_word own {pieces} are) ends other h =
    let moved : MovedPieces Quotes (own ++ 34 ∷ rest) pieces (34 ∷ rest) = pieces_moved Quotes are (quote_tail rest rest) in
    let cut = same_rest own moved.own (34 ∷ rest) (34 ∷ rest) moved.cut refl in
    quoted_word own (subst (λ t. ArePieces (IsInnerOf 200) false Quotes (t ++ 34 ∷ other) pieces (leaves (34 ∷ other))) (sym cut.0) (moved.again (34 ∷ other) (quote_tail rest other)))
own_moved {rest} (braced_word own are) ends other h = braced_word own are

-- no `{*}` stands before a word's own text, also before the other text
other_first : (b c : ℕ) (t : Bool) → (b == c) ≡ false → ((b == c) && t) ≡ false
other_first b c t h = rw h refl

bare_unmarked : (text : List ℕ) → begins_bare false text ≡ true → begins_expanded false text ≡ false
bare_unmarked [] h = refl
bare_unmarked (b ∷ text) h =
    let two = both (not (ends_word false (b ∷ text))) (not (b == 123) && not (b == 34)) h in
    let more = both (not (b == 123)) (not (b == 34)) two.1 in
    other_first b 123 (begins_expansion text && not (ends_word false (drop 2 text))) (not_true (b == 123) more.0)

braced_unmarked : (own value rest : List ℕ) → IsBraced own value → ends_word false rest ≡ true → begins_expanded false (123 ∷ (own ++ 125 ∷ rest)) ≡ false
braced_unmarked own value rest are ends = go (begins_expansion (own ++ 125 ∷ rest)) refl
  where
    star : own ≡ 42 ∷ [] → begins_expanded false (123 ∷ (own ++ 125 ∷ rest)) ≡ false
    star e = ap (λ t. begins_expanded false (123 ∷ (t ++ 125 ∷ rest))) e ∙ ap not ends

    go : (t : Bool) → begins_expansion (own ++ 125 ∷ rest) ≡ t → begins_expanded false (123 ∷ (own ++ 125 ∷ rest)) ≡ false
    go true e = let two = two_bytes (own ++ 125 ∷ rest) e in star (star_only own value rest two.0 are two.1).0
    go false e = ap (λ t. t && not (ends_word false (drop 2 (own ++ 125 ∷ rest)))) e

own_unmarked : {rest own : List ℕ} {form : WordForm} {pieces : List Piece} → IsOwnWord (IsInnerOf 200) false rest own form pieces → ends_word false rest ≡ true → begins_expanded false (own ++ rest) ≡ false
own_unmarked {rest} (bare_word {own} first are) ends = bare_unmarked (own ++ rest) first
own_unmarked {rest} (quoted_word own are) ends = refl
own_unmarked {rest} (braced_word own {value} are) ends = ap (λ t. begins_expanded false (123 ∷ t)) (append_assoc own (125 ∷ []) rest) ∙ braced_unmarked own value rest are ends

mark_moved : (expand : Bool) (mark own rest other : List ℕ) (form : WordForm) (pieces : List Piece) → HasExpansion false expand mark (own ++ rest) → IsOwnWord (IsInnerOf 200) false other own form pieces → ends_word false other ≡ true →
    HasExpansion false expand mark (own ++ other)
mark_moved true mark own rest other form pieces (e, h) is ends = (e, own_open (IsInnerOf 200) false is)
mark_moved false mark own rest other form pieces (e, h) is ends = (e, own_unmarked is ends)

-- a word at another position
abbrev pub placed : ℕ → List ℕ → Word → Word
placed at text word = word_of word.form word.expand at word.pieces (at + length text)

pub word_moved : (rest : List ℕ) (at : ℕ) (text : List ℕ) (word : Word) → IsWord (IsInnerOf 200) false rest at text word → (other : List ℕ) → EndsToo rest other → (next : ℕ) →
    IsWord (IsInnerOf 200) false other next text (placed next text word)
word_moved rest at text word is other h next =
    let own : IsOwnWord (IsInnerOf 200) false other is.own is.form is.pieces = own_moved is.is is.ends other h in
    record {
      expand = is.expand;
      mark = is.mark;
      own = is.own;
      form = is.form;
      pieces = is.pieces;
      cut = is.cut;
      marked = mark_moved is.expand is.mark is.own rest other is.form is.pieces is.marked own h.ends;
      is = own;
      ends = h.ends;
      same = ap (placed next text) is.same;
    }
