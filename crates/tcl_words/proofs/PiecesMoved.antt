-- The pieces of a body are the same before another text that ends it.
use Rattle.std.proofs.Common.{◌≡◌, ℕ, zero, suc, ◌<◌, ◌≤◌, true, false, List, [], ◌∷◌, ◌++◌, length, take, drop, refl, sym, ap, subst, ◌∙◌, append_assoc, length-take, take-append-drop, arith}
use Rattle.tcl_text.specs.Backslash.{escape}
use Rattle.tcl_text.proofs.BackslashLemmas.{escape_within}
use Rattle.tcl_words.specs.Classes.{class_of, begins_newline}
use Rattle.tcl_words.specs.Grammar.{TextEnding, leaves, fails, ends_body, is_plain, with_bytes, begins, begins_name_byte, begins_name, begins_space, class_ends, ArePieces, IsInnerOf}
use Rattle.tcl_words.specs.Grammar.ArePieces.{stop, unended, byte, backslash, dollar, variable, braced_name, unclosed_name, element, faulty_index, bracket, faulty_script}
use Rattle.tcl_words.specs.declared.kind.Mode.{Mode}
use Rattle.tcl_words.specs.declared.kind.Mode.TheVariants.{Bare, Quotes, Parens}
use Rattle.tcl_words.specs.declared.kind.Kind.{Kind}
use Rattle.tcl_words.specs.declared.kind.Kind.TheVariants.{Blank, Newline, Semicolon, Hash, Dollar, Quote, OpenBracket, CloseBracket, OpenBrace, Expansion, CloseBrace, CloseParen, Backslash, Continuation, Other}
use Rattle.tcl_words.specs.declared.script.Piece.{Piece}
use Rattle.tcl_words.specs.declared.script.Piece.TheVariants.{Variable, Element, Bracket}
use Rattle.tcl_words.proofs.NameLemmas.{drop_front}
use Rattle.tcl_words.proofs.InnersMoved.{script_moved, index_moved}
use Rattle.tcl_words.proofs.Tails.{Inert, escape_inert, escape_some, letter_inert, byte_inert, name_inert}

-- no blank is taken by a backslash-newline before it
abbrev pub KeepsBlanks : Mode → List ℕ → Type 0
KeepsBlanks Bare left = Unit {0}
KeepsBlanks Quotes left = begins_space left ≡ false
KeepsBlanks Parens left = ⊥

-- this text ends a body as that one does
pub record Tail (mode : Mode) (left other : List ℕ) : Type 0 where
  pub stops_too : ends_body false mode other ≡ true
  pub none : left ≡ [] → other ≡ []
  pub inert : Inert other
  pub blanks : KeepsBlanks mode other

pub record MovedPieces (mode : Mode) (text : List ℕ) (pieces : List Piece) (left : List ℕ) : Type 0 where
  pub own : List ℕ
  pub cut : text ≡ own ++ left
  pub again : (other : List ℕ) → Tail mode left other → ArePieces (IsInnerOf 200) false mode (own ++ other) pieces (leaves other)

abbrev pub Moved : Mode → List ℕ → List Piece → TextEnding → Type 0
Moved mode text pieces (leaves left) = Tail mode left left → MovedPieces mode text pieces left
Moved mode text pieces (fails fault) = Unit {0}

plain_open : (kind : Kind) (s t : List ℕ) → is_plain kind ≡ true → class_ends false kind s ≡ class_ends false kind t
plain_open Backslash s t h = cc
plain_open Blank s t h = refl
plain_open Newline s t h = refl
plain_open Semicolon s t h = refl
plain_open Hash s t h = refl
plain_open Dollar s t h = refl
plain_open Quote s t h = refl
plain_open OpenBracket s t h = refl
plain_open CloseBracket s t h = refl
plain_open OpenBrace s t h = refl
plain_open Expansion s t h = refl
plain_open CloseBrace s t h = refl
plain_open CloseParen s t h = refl
plain_open Continuation s t h = refl
plain_open Other s t h = refl

plain_stops : (mode : Mode) (b : ℕ) (s t : List ℕ) → is_plain (class_of b) ≡ true → ends_body false mode (b ∷ s) ≡ false → ends_body false mode (b ∷ t) ≡ false
plain_stops Bare b s t h k = plain_open (class_of b) t s h ∙ k
plain_stops Quotes b s t h k = k
plain_stops Parens b s t h k = k

-- more in front
moved_on : (mode : Mode) (front text whole : List ℕ) (pieces more : List Piece) (ending : TextEnding) → whole ≡ front ++ text →
    ((left own : List ℕ) → text ≡ own ++ left → Tail mode left left → (other : List ℕ) → Tail mode left other → ArePieces (IsInnerOf 200) false mode (own ++ other) pieces (leaves other) → ArePieces (IsInnerOf 200) false mode ((front ++ own) ++ other) more (leaves other)) →
    Moved mode text pieces ending → Moved mode whole more ending
moved_on mode front text whole pieces more (leaves left) e make moved = λ self. (
    let m = moved self in
    record {
      own = front ++ m.own;
      cut = e ∙ ap (λ t. front ++ t) m.cut ∙ sym (append_assoc front m.own left);
      again = λ other tail. make left m.own m.cut self other tail (m.again other tail);
    })
moved_on mode front text whole pieces more (fails fault) e make moved = tt

-- The text behind a backslash.

newline_tail : (mode : Mode) (x : ℕ) (xs left : List ℕ) → ends_body false mode (92 ∷ x ∷ xs) ≡ false → KeepsBlanks mode left → x ≡ 10 → begins_space left ≡ false
unfolding class_of
newline_tail Bare x xs left h k e = let f : true ≡ false = ap (λ c. begins_newline (c ∷ xs)) (sym e) ∙ h in cc
newline_tail Quotes x xs left h k e = k
newline_tail Parens x xs left h k e = absurd k

same_stops : (mode : Mode) (x : ℕ) (xs ys : List ℕ) → ends_body false mode (92 ∷ x ∷ xs) ≡ false → ends_body false mode (92 ∷ x ∷ ys) ≡ false
unfolding class_of
same_stops Bare x xs ys h = h
same_stops Quotes x xs ys h = h
same_stops Parens x xs ys h = h

-- the same escape, with the same text behind it up to what follows
record SameEscape (mode : Mode) (text own left other : List ℕ) : Type 0 where
  whole : List ℕ
  is : whole ≡ (take (escape text).length text ++ own) ++ other
  same : escape whole ≡ escape text
  rest : drop (escape text).length whole ≡ own ++ other
  open_too : ends_body false mode (92 ∷ whole) ≡ false

taken_none : (n : ℕ) (x : ℕ) (xs : List ℕ) → take n (x ∷ xs) ≡ [] → 0 < n → ⊥
taken_none zero x xs e h = omega arith
taken_none (suc n) x xs e h = cc

take_none : (n : ℕ) (text : List ℕ) → text ≡ [] → take n text ≡ []
take_none zero text e = refl
take_none (suc n) text e = ap (take (suc n)) e

drop_none : (n : ℕ) (text : List ℕ) → text ≡ [] → drop n text ≡ []
drop_none zero text e = e
drop_none (suc n) text e = ap (drop (suc n)) e

empty_escape : (mode : Mode) (text own left other : List ℕ) → take (escape text).length text ++ own ≡ [] → drop (escape text).length text ≡ own ++ left → Tail mode left other → (text ≡ []) × (own ≡ []) × (left ≡ [])
empty_escape mode [] own left other e f tail =
    let no : own ≡ [] = ap (λ t. t ++ own) (sym (take_none (escape []).length [] refl)) ∙ e in
    (refl, no, sym (sym (drop_none (escape []).length [] refl) ∙ f ∙ ap (λ t. t ++ left) no))
empty_escape mode (x ∷ xs) own left other e f tail = absurd (taken_none (escape (x ∷ xs)).length x xs (front_none (take (escape (x ∷ xs)).length (x ∷ xs)) own e) (escape_some x xs))
  where
    front_none : (a b : List ℕ) → a ++ b ≡ [] → a ≡ []
    front_none [] b h = refl
    front_none (y ∷ a) b h = cc

escape_moved : (mode : Mode) (text own left other front : List ℕ) → front ≡ take (escape text).length text ++ own → drop (escape text).length text ≡ own ++ left → ends_body false mode (92 ∷ text) ≡ false →
    Tail mode left left → Tail mode left other → SameEscape mode text own left other
escape_moved mode text own left other [] e f h self tail =
    let none = empty_escape mode text own left other (sym e) f tail in
    let end : other ≡ [] = tail.none none.2 in
    record {
      whole = [];
      is = sym (ap (λ t. t ++ other) (sym e) ∙ end);
      same = ap escape (sym none.0);
      rest = drop_none (escape text).length [] refl ∙ sym (ap (λ t. t ++ other) none.1 ∙ end);
      open_too = ap (λ t. ends_body false mode (92 ∷ t)) (sym none.0) ∙ h;
    }
escape_moved mode text own left other (x ∷ xs) e f h self tail =
    let n : ℕ = (escape text).length in
    let split : text ≡ x ∷ (xs ++ left) = sym (take-append-drop n text) ∙ ap (λ t. take n text ++ t) f ∙ sym (append_assoc (take n text) own left) ∙ ap (λ t. t ++ left) (sym e) in
    let open_word : ends_body false mode (92 ∷ x ∷ (xs ++ left)) ≡ false = ap (λ t. ends_body false mode (92 ∷ t)) (sym split) ∙ h in
    let here : escape text ≡ escape (x ∷ xs) = ap escape split ∙ escape_inert x xs left self.inert.digit (newline_tail mode x (xs ++ left) left open_word self.blanks) in
    let there : escape (x ∷ (xs ++ other)) ≡ escape (x ∷ xs) = escape_inert x xs other tail.inert.digit (newline_tail mode x (xs ++ left) other open_word tail.blanks) in
    let fits : n ≤ length text = escape_within text in
    let m : length (take n text) ≡ n = omega (arith, length-take n text, fits) in
    record {
      whole = x ∷ (xs ++ other);
      is = ap (λ t. t ++ other) e;
      same = there ∙ sym here;
      rest = ap (λ t. drop n (t ++ other)) e ∙ ap (drop n) (append_assoc (take n text) own other) ∙ ap (λ k. drop k (take n text ++ (own ++ other))) (sym m) ∙ drop_front (take n text) (own ++ other);
      open_too = same_stops mode x (xs ++ left) (xs ++ other) open_word;
    }

backslash_again : (mode : Mode) (text own left other : List ℕ) (pieces : List Piece) → drop (escape text).length text ≡ own ++ left → ends_body false mode (92 ∷ text) ≡ false → Tail mode left left → Tail mode left other →
    ArePieces (IsInnerOf 200) false mode (own ++ other) pieces (leaves other) →
    ArePieces (IsInnerOf 200) false mode (((92 ∷ take (escape text).length text) ++ own) ++ other) (with_bytes (escape text).meaning pieces) (leaves other)
backslash_again mode text own left other pieces f h self tail are =
    let s : SameEscape mode text own left other = escape_moved mode text own left other (take (escape text).length text ++ own) refl f h self tail in
    let rest : drop (escape s.whole).length s.whole ≡ own ++ other = ap (λ e. drop e.length s.whole) s.same ∙ s.rest in
    let one : ArePieces (IsInnerOf 200) false mode (92 ∷ s.whole) (with_bytes (escape s.whole).meaning pieces) (leaves other) =
    backslash s.open_too (subst (λ t. ArePieces (IsInnerOf 200) false mode t pieces (leaves other)) (sym rest) are) in
    subst (λ t. ArePieces (IsInnerOf 200) false mode (92 ∷ t) (with_bytes (escape text).meaning pieces) (leaves other)) s.is
    (subst (λ e. ArePieces (IsInnerOf 200) false mode (92 ∷ s.whole) (with_bytes e.meaning pieces) (leaves other)) s.same one)

-- regrouped
regrouped : (mode : Mode) (a : ℕ) (front own other : List ℕ) (pieces : List Piece) → ArePieces (IsInnerOf 200) false mode (a ∷ (front ++ (own ++ other))) pieces (leaves other) →
    ArePieces (IsInnerOf 200) false mode (((a ∷ front) ++ own) ++ other) pieces (leaves other)
regrouped mode a front own other pieces are = subst (λ t. ArePieces (IsInnerOf 200) false mode (a ∷ t) pieces (leaves other)) (sym (append_assoc front own other)) are

pub pieces_moved : (mode : Mode) {text : List ℕ} {pieces : List Piece} {ending : TextEnding} → ArePieces (IsInnerOf 200) false mode text pieces ending → Moved mode text pieces ending
pieces_moved mode (stop {text} h) = λ self. record { own = []; cut = refl; again = λ other tail. stop tail.stops_too }
pieces_moved mode (unended h) = tt
pieces_moved mode (byte {b} {text} {pieces} {ending} h p more) =
    moved_on mode (b ∷ []) text (b ∷ text) pieces (with_bytes (b ∷ []) pieces) ending refl
    (λ left own e self other tail are. byte (plain_stops mode b text (own ++ other) p h) p are) (pieces_moved mode more)
pieces_moved mode (backslash {text} {pieces} {ending} h more) =
    let n : ℕ = (escape text).length in
    moved_on mode (92 ∷ take n text) (drop n text) (92 ∷ text) pieces (with_bytes (escape text).meaning pieces) ending (ap (λ t. 92 ∷ t) (sym (take-append-drop n text)))
    (λ left own e self other tail are. backslash_again mode text own left other pieces e h self tail are) (pieces_moved mode more)
pieces_moved mode (dollar {text} {pieces} {ending} h k more) =
    moved_on mode (36 ∷ []) text (36 ∷ text) pieces (with_bytes (36 ∷ []) pieces) ending refl
    (λ left own e self other tail are. dollar (name_inert own left other (ap begins_name (sym e) ∙ h) tail.inert) (byte_inert 123 own left other (ap (begins 123) (sym e) ∙ k) tail.inert.brace) are) (pieces_moved mode more)
pieces_moved mode (variable name {text} {pieces} {ending} is h k more) =
    moved_on mode (36 ∷ name) text (36 ∷ (name ++ text)) pieces (Variable name ∷ pieces) ending refl
    (λ left own e self other tail are. regrouped mode 36 name own other (Variable name ∷ pieces)
    (variable name is (letter_inert own left other (ap begins_name_byte (sym e) ∙ h) tail.inert) (byte_inert 40 own left other (ap (begins 40) (sym e) ∙ k) tail.inert.paren) are)) (pieces_moved mode more)
pieces_moved mode (braced_name name {text} {pieces} {ending} h more) =
    moved_on mode (36 ∷ 123 ∷ (name ++ 125 ∷ [])) text (36 ∷ 123 ∷ (name ++ 125 ∷ text)) pieces (Variable name ∷ pieces) ending (ap (λ t. 36 ∷ 123 ∷ t) (sym (append_assoc name (125 ∷ []) text)))
    (λ left own e self other tail are. regrouped mode 36 (123 ∷ (name ++ 125 ∷ [])) own other (Variable name ∷ pieces)
    (subst (λ t. ArePieces (IsInnerOf 200) false mode (36 ∷ 123 ∷ t) (Variable name ∷ pieces) (leaves other)) (sym (append_assoc name (125 ∷ []) (own ++ other))) (braced_name name h are))) (pieces_moved mode more)
pieces_moved mode (unclosed_name h) = tt
pieces_moved mode (element name inner {text} {pieces} {ending} is h more) =
    let front : List ℕ = name ++ 40 ∷ (inner ++ 41 ∷ []) in
    moved_on mode (36 ∷ front) text (36 ∷ (name ++ 40 ∷ (inner ++ 41 ∷ text))) pieces (Element name inner ∷ pieces) ending (ap (λ t. 36 ∷ t) (element_cut name inner text))
    (λ left own e self other tail are. regrouped mode 36 front own other (Element name inner ∷ pieces)
    (subst (λ t. ArePieces (IsInnerOf 200) false mode (36 ∷ t) (Element name inner ∷ pieces) (leaves other)) (element_cut name inner (own ++ other)) (element name inner is (index_moved 199 inner text (own ++ other) h) are))) (pieces_moved mode more)
  where
    element_cut : (a b c : List ℕ) → a ++ 40 ∷ (b ++ 41 ∷ c) ≡ (a ++ 40 ∷ (b ++ 41 ∷ [])) ++ c
    element_cut a b c = ap (λ t. a ++ 40 ∷ t) (sym (append_assoc b (41 ∷ []) c)) ∙ sym (append_assoc a (40 ∷ (b ++ 41 ∷ [])) c)
pieces_moved mode (faulty_index name is h) = tt
pieces_moved mode (bracket inner {text} {pieces} {ending} h more) =
    moved_on mode (91 ∷ (inner ++ 93 ∷ [])) text (91 ∷ (inner ++ 93 ∷ text)) pieces (Bracket inner ∷ pieces) ending (ap (λ t. 91 ∷ t) (sym (append_assoc inner (93 ∷ []) text)))
    (λ left own e self other tail are. regrouped mode 91 (inner ++ 93 ∷ []) own other (Bracket inner ∷ pieces)
    (subst (λ t. ArePieces (IsInnerOf 200) false mode (91 ∷ t) (Bracket inner ∷ pieces) (leaves other)) (sym (append_assoc inner (93 ∷ []) (own ++ other))) (bracket inner (script_moved 199 inner text (own ++ other) h) are))) (pieces_moved mode more)
pieces_moved mode (faulty_script h) = tt
