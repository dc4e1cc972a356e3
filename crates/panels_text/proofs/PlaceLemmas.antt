-- Lemmas on the lines of a bench.
use Rattle.std.proofs.Common.{◌≡◌, ℕ, zero, suc, ◌+◌, ◌-◌, ◌<◌, ◌≤◌, Bool, true, false, eqb, List, [], ◌∷◌, ◌++◌, length, drop, Some, refl, sym, ap, ◌∙◌, arith}
use Rattle.std.proofs.lemmas.List.{length_push}
use Rattle.std.specs.List.{onto_first}
use Rattle.std.specs.Prelude.{slice_get}
use Rattle.panels_text.specs.Places.{begins_table, has_key, heads_from, is_head, key_line}
use Rattle.panels_text.specs.Texts.{lines_of}

length-onto : {A : Type 0} (x : A) (parts : List (List A)) → length (onto_first x parts) ≤ length parts + 1
length-onto x [] = omega arith
length-onto x (part ∷ parts) = omega arith

lines_by_test : (byte : ℕ) (text : List ℕ) (t : Bool) → eqb byte 10 ≡ t → length (lines_of text) ≤ length text + 1 → length (lines_of (byte ∷ text)) ≤ length text + 2
lines_by_test byte text true is few = rw is (omega arith)
lines_by_test byte text false is few = rw is (omega (arith, length-onto byte (lines_of text)))

-- a text has a line more than bytes at most
pub length-lines_of : (text : List ℕ) → length (lines_of text) ≤ length text + 1
length-lines_of [] = omega arith
length-lines_of (byte ∷ text) = omega (arith, lines_by_test byte text (eqb byte 10) refl (length-lines_of text))

-- the first head of what is left, and those behind it
pub heads-hit : (number : ℕ) (array line : List ℕ) (left lines : List (List ℕ)) → left ≡ line ∷ lines → is_head array line ≡ true → heads_from number array left ≡ number ∷ heads_from (number + 1) array lines
heads-hit number array line left lines here is = rw (here, is) refl

pub heads-miss : (number : ℕ) (array line : List ℕ) (left lines : List (List ℕ)) → left ≡ line ∷ lines → is_head array line ≡ false → heads_from number array left ≡ heads_from (number + 1) array lines
heads-miss number array line left lines here is = rw (here, is) refl

pub get-later : (number index : ℕ) (others : List ℕ) → 0 < index → slice_get (number ∷ others) index ≡ slice_get others (index - 1)
get-later number zero others some = absurd (omega arith)
get-later number (suc index) others some = let e : suc index - 1 ≡ index = omega arith in rw e refl

-- One line more of those in which heads are looked for: `next` is its number, counted from 1.
module _ {X : Type 0} (array : List ℕ) (lines : List (List ℕ)) (index left : ℕ) (read : List X) (item : X) {line : List ℕ} {number next : ℕ} (so_far : number ≡ length read) (one : next ≡ number + 1)
    (same : slice_get (heads_from (number + 1) array (drop number lines)) left ≡ slice_get (heads_from 1 array lines) index)
    (here : drop (length read) lines ≡ line ∷ drop (length (read ++ item ∷ [])) lines) where
  pub next_is : next ≡ length (read ++ item ∷ [])
  next_is = one ∙ ap (λ n. n + 1) so_far ∙ sym (length_push read item)

  line_is : drop number lines ≡ line ∷ drop next lines
  line_is = ap (λ n. drop n lines) so_far ∙ here ∙ ap (λ n. line ∷ drop n lines) (sym next_is)

  abbrev pub behind : List ℕ
  behind = heads_from (next + 1) array (drop next lines)

  heads_here : is_head array line ≡ true → slice_get (next ∷ behind) left ≡ slice_get (heads_from 1 array lines) index
  heads_here is =
      ap (λ n. slice_get (n ∷ heads_from (n + 1) array (drop next lines)) left) one
      ∙ ap (λ heads. slice_get heads left) (sym (heads-hit (number + 1) array line (drop number lines) (drop next lines) line_is is)) ∙ same

  -- it is the head that is looked for
  pub head_found : is_head array line ≡ true → left ≡ 0 → Some next ≡ slice_get (heads_from 1 array lines) index
  head_found is none = ap (slice_get (next ∷ behind)) (sym none) ∙ heads_here is

  -- it is one before it
  pub head_before : is_head array line ≡ true → 0 < left → (fewer : ℕ) → fewer ≡ left - 1 → slice_get behind fewer ≡ slice_get (heads_from 1 array lines) index
  head_before is some fewer less = ap (slice_get behind) less ∙ sym (get-later next left behind some) ∙ heads_here is

  pub no_head : is_head array line ≡ false → slice_get behind left ≡ slice_get (heads_from 1 array lines) index
  no_head is =
      ap (λ n. slice_get (heads_from (n + 1) array (drop next lines)) left) one
      ∙ ap (λ heads. slice_get heads left) (sym (heads-miss (number + 1) array line (drop number lines) (drop next lines) line_is is)) ∙ same

-- the line of a key in what is left of a table
pub key-end : (head number : ℕ) (key line : List ℕ) (left lines : List (List ℕ)) → left ≡ line ∷ lines → begins_table line ≡ true → key_line head number key left ≡ head
key-end head number key line left lines here is = rw (here, is) refl

pub key-hit : (head number : ℕ) (key line : List ℕ) (left lines : List (List ℕ)) → left ≡ line ∷ lines → begins_table line ≡ false → has_key key line ≡ true → key_line head number key left ≡ number
key-hit head number key line left lines here is has = rw (here, is, has) refl

pub key-miss : (head number : ℕ) (key line : List ℕ) (left lines : List (List ℕ)) → left ≡ line ∷ lines → begins_table line ≡ false → has_key key line ≡ false → key_line head number key left ≡ key_line head (number + 1) key lines
key-miss head number key line left lines here is has = rw (here, is, has) refl

pub key-none : (head number : ℕ) (key : List ℕ) (left : List (List ℕ)) → left ≡ [] → key_line head number key left ≡ head
key-none head number key left none = rw none refl
