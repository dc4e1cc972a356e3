-- Each text at which a word could begin has a word at its front, or a fault.
use Rattle.std.proofs.Common.{◌≡◌, ℕ, ◌+◌, ◌<◌, ◌⊎◌, inl, inr, Bool, true, false, not, ◌==◌, ◌&&◌, List, [], ◌∷◌, ◌++◌, length, drop, nat_eq, refl, sym, ap, subst, ◌∙◌, eqb-true, append_assoc, length-append, arith}
use Rattle.tcl_words.specs.Classes.{begins_expansion}
use Rattle.tcl_words.specs.Grammar.{ends_word}
use Rattle.tcl_words.specs.Spans.{word_of}
use Rattle.tcl_words.specs.Grammar.{ArePieces, TextEnding, leaves, fails, begins, begins_bare, begins_expanded, IsInnerOf, IsOwnWord, IsFaultyOwn, HasExpansion, IsWord, IsFaultyWord}
use Rattle.tcl_words.specs.Grammar.IsOwnWord.{bare_word, quoted_word, braced_word}
use Rattle.tcl_words.specs.Grammar.IsFaultyOwn.{faulty_bare, faulty_quoted, followed_quoted, unclosed_braced, followed_braced}
use Rattle.tcl_words.specs.declared.kind.Mode.TheVariants.{Bare, Quotes}
use Rattle.tcl_words.specs.declared.script.WordForm.{WordForm}
use Rattle.tcl_words.specs.declared.script.WordForm.TheVariants.{Bare as BareForm, Quoted as QuotedForm, Braced as BracedForm}
use Rattle.tcl_words.specs.declared.script.Piece.{Piece}
use Rattle.tcl_words.specs.declared.script.Piece.TheVariants.{Literal}
use Rattle.tcl_words.specs.declared.script.Word.{Word}
use Rattle.tcl_text.specs.declared.fault.ParseFault.{ParseFault}
use Rattle.tcl_text.specs.declared.fault.ParseFault.TheVariants.{MissingBrace, ExtraAfterBrace, ExtraAfterQuote}
use Rattle.tcl_words.proofs.WordsRead.{both}
use Rattle.tcl_words.proofs.BracesCut.{decided, braces_cut}
use Rattle.tcl_words.proofs.PiecesCut.{InnerCuts, IsPiecesCut, pieces_found}

-- a word's own text at the front, or its fault
pub record FoundOwn (room : ℕ) (inside : Bool) (text : List ℕ) : Type 0 where
  pub own : List ℕ
  pub rest : List ℕ
  pub form : WordForm
  pub pieces : List Piece
  pub cut : text ≡ own ++ rest
  pub is : IsOwnWord (IsInnerOf room) inside rest own form pieces
  pub ends : ends_word inside rest ≡ true

abbrev pub OwnCut : ℕ → Bool → List ℕ → Type 0
OwnCut room inside text = FoundOwn room inside text ⊎ ((fault : ParseFault) × IsFaultyOwn (IsInnerOf room) inside text fault)

bare_cut : (room : ℕ) (inside : Bool) (text : List ℕ) → InnerCuts room → begins_bare inside text ≡ true → OwnCut room inside text
bare_cut room inside text inner first =
    let found = pieces_found room inside Bare inner text in
    go found.pieces found.ending found.are found.cut
  where
    go : (pieces : List Piece) (ending : TextEnding) → ArePieces (IsInnerOf room) inside Bare text pieces ending → IsPiecesCut inside Bare text ending → OwnCut room inside text
    go pieces (leaves left) are (own, e, ends) = inl (record {
      own = own;
      rest = left;
      form = BareForm;
      pieces = pieces;
      cut = e;
      is = bare_word (ap (begins_bare inside) (sym e) ∙ first) (subst (λ t. ArePieces (IsInnerOf room) inside Bare t pieces (leaves left)) e are);
      ends = ends;
    })
    go pieces (fails fault) are cut = inr (fault, faulty_bare first are)

quote_cut : (room : ℕ) (inside : Bool) (text own left : List ℕ) (pieces : List Piece) → ArePieces (IsInnerOf room) inside Quotes text pieces (leaves left) → text ≡ own ++ left → begins 34 left ≡ true → OwnCut room inside (34 ∷ text)
quote_cut room inside text own [] pieces are e h = cc
quote_cut room inside text own (b ∷ rest) pieces are e h =
    let same : b ≡ 34 = eqb-true b 34 h in
    let cut : text ≡ own ++ 34 ∷ rest = e ∙ ap (λ c. own ++ c ∷ rest) same in
    let is : ArePieces (IsInnerOf room) inside Quotes (own ++ 34 ∷ rest) pieces (leaves (34 ∷ rest)) =
    subst (λ t. ArePieces (IsInnerOf room) inside Quotes t pieces (leaves (34 ∷ rest))) cut (subst (λ c. ArePieces (IsInnerOf room) inside Quotes text pieces (leaves (c ∷ rest))) same are) in
    elim (decided (ends_word inside rest)) [
      | inl ends ↦ inl (record {
        own = 34 ∷ (own ++ 34 ∷ []);
        rest = rest;
        form = QuotedForm;
        pieces = pieces;
        cut = ap (λ t. 34 ∷ t) (cut ∙ sym (append_assoc own (34 ∷ []) rest));
        is = quoted_word own is;
        ends = ends;
      })
      | inr other ↦ inr (ExtraAfterQuote, subst (λ t. IsFaultyOwn (IsInnerOf room) inside (34 ∷ t) ExtraAfterQuote) (sym cut) (followed_quoted own rest is other))
    ]

quoted_cut : (room : ℕ) (inside : Bool) (text : List ℕ) → InnerCuts room → OwnCut room inside (34 ∷ text)
quoted_cut room inside text inner =
    let found = pieces_found room inside Quotes inner text in
    go found.pieces found.ending found.are found.cut
  where
    go : (pieces : List Piece) (ending : TextEnding) → ArePieces (IsInnerOf room) inside Quotes text pieces ending → IsPiecesCut inside Quotes text ending → OwnCut room inside (34 ∷ text)
    go pieces (leaves left) are (own, e, ends) = quote_cut room inside text own left pieces are e ends
    go pieces (fails fault) are cut = inr (fault, faulty_quoted are)

braced_cut : (room : ℕ) (inside : Bool) (text : List ℕ) → OwnCut room inside (123 ∷ text)
braced_cut room inside text = elim (braces_cut text) [
  | inr h ↦ inr (MissingBrace, unclosed_braced h)
  | inl (own, value, rest, e, h) ↦ elim (decided (ends_word inside rest)) [
    | inl ends ↦ inl (record {
      own = 123 ∷ (own ++ 125 ∷ []);
      rest = rest;
      form = BracedForm;
      pieces = Literal value ∷ [];
      cut = ap (λ t. 123 ∷ t) (e ∙ sym (append_assoc own (125 ∷ []) rest));
      is = braced_word own h;
      ends = ends;
    })
    | inr other ↦ inr (ExtraAfterBrace, subst (λ t. IsFaultyOwn (IsInnerOf room) inside (123 ∷ t) ExtraAfterBrace) (sym e) (followed_braced own rest h other))
  ]
]

first_bare : (inside : Bool) (text : List ℕ) → ends_word inside text ≡ false → begins 123 text ≡ false → begins 34 text ≡ false → begins_bare inside text ≡ true
first_bare inside text h k l = rw (h, k, l) refl

own_cut : (room : ℕ) (inside : Bool) (text : List ℕ) → InnerCuts room → ends_word inside text ≡ false → OwnCut room inside text
own_cut room inside [] inner h = cc
own_cut room inside (b ∷ text) inner h = elim (decided (begins 123 (b ∷ text))) [
  | inl e ↦ (let same : b ≡ 123 = eqb-true b 123 e in subst (λ c. OwnCut room inside (c ∷ text)) (sym same) (braced_cut room inside text))
  | inr e ↦ elim (decided (begins 34 (b ∷ text))) [
    | inl f ↦ (let same : b ≡ 34 = eqb-true b 34 f in subst (λ c. OwnCut room inside (c ∷ text)) (sym same) (quoted_cut room inside text inner))
    | inr f ↦ bare_cut room inside (b ∷ text) inner (first_bare inside (b ∷ text) h e f)
  ]
]

-- a word at the front, or its fault
pub record FoundWord (room : ℕ) (inside : Bool) (at : ℕ) (text : List ℕ) : Type 0 where
  pub own : List ℕ
  pub rest : List ℕ
  pub word : Word
  pub cut : text ≡ own ++ rest
  pub is : IsWord (IsInnerOf room) inside rest at own word
  pub shorter : length rest < length text

abbrev pub WordCut : ℕ → Bool → ℕ → List ℕ → Type 0
WordCut room inside at text = FoundWord room inside at text ⊎ ((fault : ParseFault) × IsFaultyWord (IsInnerOf room) inside text fault)

rest_shorter : (inside : Bool) (text own rest : List ℕ) → text ≡ own ++ rest → ends_word inside text ≡ false → ends_word inside rest ≡ true → length rest < length text
rest_shorter inside text [] rest e h k = let f : false ≡ true = sym h ∙ ap (ends_word inside) e ∙ k in cc
rest_shorter inside text (b ∷ own) rest e h k = omega (arith, ap length e, length-append own rest)

marked_cut : (room : ℕ) (inside expand : Bool) (at : ℕ) (mark text whole : List ℕ) → whole ≡ mark ++ text → ends_word inside whole ≡ false →
    ((t : List ℕ) → t ≡ text → HasExpansion inside expand mark t) → OwnCut room inside text → WordCut room inside at whole
marked_cut room inside expand at mark text whole e open_word marked (inl found) =
    let cut : whole ≡ (mark ++ found.own) ++ found.rest = e ∙ ap (λ t. mark ++ t) found.cut ∙ sym (append_assoc mark found.own found.rest) in
    inl (record {
      own = mark ++ found.own;
      rest = found.rest;
      word = word_of found.form expand at found.pieces (at + length (mark ++ found.own));
      cut = cut;
      is = record {
        expand = expand;
        mark = mark;
        own = found.own;
        form = found.form;
        pieces = found.pieces;
        cut = refl;
        marked = marked (found.own ++ found.rest) (sym found.cut);
        is = found.is;
        ends = found.ends;
        same = refl;
      };
      shorter = rest_shorter inside whole (mark ++ found.own) found.rest cut open_word found.ends;
    })
marked_cut room inside expand at mark text whole e open_word marked (inr (fault, h)) =
    inr (fault, record { expand = expand; mark = mark; own = text; cut = e; marked = marked text refl; is = h })

-- `{*}` before a character that doesn't end the word
mark_found : (inside : Bool) (text : List ℕ) → begins_expanded inside text ≡ true → (rest : List ℕ) × (text ≡ 123 ∷ 42 ∷ 125 ∷ rest) × (ends_word inside rest ≡ false)
mark_found inside [] h = cc
mark_found inside (b ∷ text) h =
    let two = both (b == 123) (begins_expansion text && not (ends_word inside (drop 2 text))) h in
    let more = expansion_found inside text two.1 in
    (more.0, ap (λ c. c ∷ text) (eqb-true b 123 two.0) ∙ ap (λ t. 123 ∷ t) more.1, more.2)
  where
    not_false : (t : Bool) → not t ≡ true → t ≡ false
    not_false true k = cc
    not_false false k = refl

    expansion_found : (flag : Bool) (behind : List ℕ) → (begins_expansion behind && not (ends_word flag (drop 2 behind))) ≡ true → (rest : List ℕ) × (behind ≡ 42 ∷ 125 ∷ rest) × (ends_word flag rest ≡ false)
    expansion_found flag [] k = cc
    expansion_found flag (c ∷ []) k =
        let one = both (nat_eq 42 c && false) (not (ends_word flag [])) k in
        let two = both (nat_eq 42 c) false one.0 in
        let f : false ≡ true = two.1 in cc
    expansion_found flag (c ∷ d ∷ behind) k =
        let one = both (nat_eq 42 c && (nat_eq 125 d && true)) (not (ends_word flag behind)) k in
        let two = both (nat_eq 42 c) (nat_eq 125 d && true) one.0 in
        let three = both (nat_eq 125 d) true two.1 in
        let e : 42 ≡ c = eqb-true 42 c two.0 in
        let f : 125 ≡ d = eqb-true 125 d three.0 in
        (behind, ap (λ x. x ∷ d ∷ behind) (sym e) ∙ ap (λ x. 42 ∷ x ∷ behind) (sym f), not_false (ends_word flag behind) one.1)

pub word_cut : (room : ℕ) (inside : Bool) (at : ℕ) (text : List ℕ) → InnerCuts room → ends_word inside text ≡ false → WordCut room inside at text
word_cut room inside at text inner h = elim (decided (begins_expanded inside text)) [
  | inl e ↦ (
      let some = mark_found inside text e in
      marked_cut room inside true at (123 ∷ 42 ∷ 125 ∷ []) some.0 text some.1 h (λ t f. (refl, ap (ends_word inside) f ∙ some.2)) (own_cut room inside some.0 inner some.2))
  | inr e ↦ marked_cut room inside false at [] text text refl h (λ t f. (refl, ap (begins_expanded inside) f ∙ e)) (own_cut room inside text inner h)
]
