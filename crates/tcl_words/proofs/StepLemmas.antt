-- What is read past a byte, and past bytes that were taken before.
use Rattle.std.proofs.Common.{length-append, append_assoc, ◌≡◌, ℕ, zero, suc, ◌+◌, ◌≤◌, List, [], ◌∷◌, ◌++◌, length, drop, refl, sym, ap, ◌∙◌, arith, Ok, Err}
use Rattle.tcl_words.specs.Kinds.{kind_before}
use Rattle.tcl_words.specs.Changes.{TextRest, Read, put, changed}
use Rattle.tcl_words.specs.Moves.{ByteMove, move_of}
use Rattle.tcl_words.specs.Reading.{Level, rest_of, past, within}
use Rattle.tcl_words.specs.declared.kind.BytePlace.{BytePlace}

-- what a text gives past a byte with this move
abbrev pub after_move : ByteMove → Level → ℕ → List ℕ → Read
after_move move level at text =
    put (changed move.changes)
    (past move.step level.room at text (λ skip next. rest_of text level skip next (at + 1)) (λ room skip next. rest_of text (within room) skip next 0))

pub moved_by : (move : ByteMove) (place : BytePlace) (b : ℕ) (text : List ℕ) (level : Level) (at : ℕ) → move_of place (kind_before level.inside b text) b at text ≡ move →
    rest_of (b ∷ text) level 0 place at ≡ after_move move level at text
moved_by move place b text level at e = ap (λ m. after_move m level at text) e

-- the same, further on
pub read_at : (text : List ℕ) (level : Level) (place : BytePlace) (m n : ℕ) → m ≡ n → rest_of text level 0 place m ≡ rest_of text level 0 place n
read_at text level place m n e = ap (rest_of text level 0 place) e

-- what changes twice
pub put-put : (f g : TextRest → TextRest) (r : Read) → put f (put g r) ≡ put (λ x. f (g x)) r
put-put f g (Ok rest) = refl
put-put f g (Err fault) = refl

-- what changes nothing
pub put-none : (r : Read) → put (changed []) r ≡ r
put-none (Ok rest) = refl
put-none (Err fault) = refl

-- past bytes that were taken before
pub skip_read : (front rest : List ℕ) (level : Level) (place : BytePlace) (at : ℕ) → rest_of (front ++ rest) level (length front) place at ≡ rest_of rest level 0 place (at + length front)
skip_read [] rest level place at = let e : at ≡ at + 0 = omega arith in read_at rest level place at (at + 0) e
skip_read (b ∷ front) rest level place at =
    let e : (at + 1) + length front ≡ at + suc (length front) = omega arith in
    skip_read front rest level place (at + 1) ∙ read_at rest level place ((at + 1) + length front) (at + suc (length front)) e

pub skip_drop : (n : ℕ) (text : List ℕ) (level : Level) (place : BytePlace) (at : ℕ) → n ≤ length text → rest_of text level n place at ≡ rest_of (drop n text) level 0 place (at + n)
skip_drop zero text level place at h = let e : at ≡ at + 0 = omega arith in read_at text level place at (at + 0) e
skip_drop (suc n) [] level place at h = absurd (omega arith)
skip_drop (suc n) (b ∷ text) level place at h =
    let e : (at + 1) + n ≡ at + suc n = omega arith in
    skip_drop n text level place (at + 1) (omega arith) ∙ read_at (drop n text) level place ((at + 1) + n) (at + suc n) e

pub skip_past : (own : List ℕ) (c : ℕ) (text : List ℕ) (level : Level) (place : BytePlace) (at : ℕ) →
    rest_of (own ++ c ∷ text) level (suc (length own)) place at ≡ rest_of text level 0 place (at + suc (length own))
skip_past [] c text level place at = let e : at + 1 ≡ at + suc 0 = omega arith in read_at text level place (at + 1) (at + suc 0) e
skip_past (b ∷ own) c text level place at =
    let e : (at + 1) + suc (length own) ≡ at + suc (suc (length own)) = omega arith in
    skip_past own c text level place (at + 1) ∙ read_at text level place ((at + 1) + suc (length own)) (at + suc (suc (length own))) e

pub skip_element : (name own text : List ℕ) (level : Level) (place : BytePlace) (at : ℕ) →
    rest_of (name ++ 40 ∷ (own ++ 41 ∷ text)) level (suc (suc (length name) + length own)) place at ≡ rest_of text level 0 place (at + suc (suc (length name) + length own))
skip_element name own text level place at =
    let e : suc (suc (length name) + length own) ≡ suc (length (name ++ 40 ∷ own)) = omega (arith, length-append name (40 ∷ own)) in
    ap (λ t. rest_of t level (suc (suc (length name) + length own)) place at) (sym (append_assoc name (40 ∷ own) (41 ∷ text)))
    ∙ ap (λ n. rest_of ((name ++ 40 ∷ own) ++ 41 ∷ text) level n place at) e
    ∙ skip_past (name ++ 40 ∷ own) 41 text level place at
    ∙ ap (λ n. rest_of text level 0 place (at + n)) (sym e)
