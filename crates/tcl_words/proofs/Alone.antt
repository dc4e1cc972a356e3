-- What was read up to the bracket or the parenthesis that ends it is what the text before that gives by itself.
use Rattle.std.proofs.Common.{◌≡◌, ℕ, zero, suc, ◌+◌, ◌-◌, ◌<◌, ◌≤◌, Bool, true, false, List, [], ◌∷◌, ◌++◌, length, drop, take, refl, sym, ap, subst, ◌∙◌, append_assoc, arith, Ok, Err, Result}
use Rattle.std.specs.List.{slice_range}
use Rattle.std.proofs.lemmas.List.{take-append-le, drop-append-le, length-drop}
use Rattle.tcl_words.specs.Kinds.{class_means, kind_before}
use Rattle.tcl_words.specs.Classes.{class_of}
use Rattle.tcl_words.specs.Changes.{TextRest, Read, put, piece_before, last_rest, Change, bytes, name, text_ends, word_ends, command_ends, word_begins, command_begins, changed}
use Rattle.tcl_words.specs.Moves.{ByteMove, move_of}
use Rattle.tcl_words.specs.Reading.{Level, within, rest_of, read_at_end, past, past_opened, opened_place, first_skip, opened_piece}
use Rattle.tcl_words.specs.declared.kind.BytePlace.{BytePlace}
use Rattle.tcl_words.specs.declared.kind.BytePlace.TheVariants.{Start, Comment, Between, Expanded, Text, PastQuotes, InBraces, PastBraces}
use Rattle.tcl_words.specs.declared.kind.Mode.{Mode}
use Rattle.tcl_words.specs.declared.kind.Mode.TheVariants.{Bare, Quotes, Parens}
use Rattle.tcl_words.specs.declared.kind.Opener.{Opener}
use Rattle.tcl_words.specs.declared.kind.Opener.TheVariants.{Bracket, Index}
use Rattle.tcl_words.specs.declared.kind.Step.{Step}
use Rattle.tcl_words.specs.declared.kind.Step.TheVariants.{On, Within, Ends}
use Rattle.tcl_words.specs.declared.script.Piece.TheVariants.{Bracket as BracketPiece, Element}
use Rattle.tcl_text.specs.declared.fault.ParseFault.{ParseFault}
use Rattle.tcl_words.proofs.Cuts.{IsCloser, FitsStep, step_cut, step_same}
use Rattle.tcl_words.proofs.Closers.{class_ends, class_closes}

-- what was read of this text ends at a bracket or a parenthesis in it
pub record Closed (text : List ℕ) (room skip : ℕ) (place : BytePlace) (at : ℕ) (rest : TextRest) : Type 0 where
  pub inner : List ℕ
  pub closer : ℕ
  pub after : List ℕ
  pub text_is : text ≡ inner ++ closer ∷ after
  pub closes : IsCloser closer
  pub close_at : rest.close ≡ at + length inner
  pub skipped : skip ≤ length inner
  -- whatever follows, and where deeper nesting is allowed, it is read the same
  pub again : (tail : List ℕ) (more : ℕ) → room ≤ more → rest_of (inner ++ closer ∷ tail) (within more) skip place at ≡ Ok rest
  -- so it is where the text ends before the bracket or the parenthesis
  pub alone : (more : ℕ) → room ≤ more → rest_of inner (record { inside = false; room = more }) skip place at ≡ Ok rest

pub put_ok : (f : TextRest → TextRest) (r : Read) (rest : TextRest) → put f r ≡ Ok rest → (found : TextRest) × ((r ≡ Ok found) × (f found ≡ rest))
put_ok f (Ok found) rest e = (found, (refl, (let h : Ok (f found) ≡ Ok rest = e in cc)))
put_ok f (Err fault) rest e = absurd (let h : Err fault ≡ Ok rest = e in cc)

changed_close : (cs : List Change) (rest : TextRest) → (changed cs rest).close ≡ rest.close
changed_close [] rest = refl
changed_close (bytes own ∷ cs) rest = changed_close cs rest
changed_close (name own ∷ cs) rest = changed_close cs rest
changed_close (text_ends ∷ cs) rest = changed_close cs rest
changed_close (word_ends at ∷ cs) rest = changed_close cs rest
changed_close (command_ends ∷ cs) rest = changed_close cs rest
changed_close (word_begins form expand start ∷ cs) rest = changed_close cs rest
changed_close (command_begins start ∷ cs) rest = changed_close cs rest

-- the longer of two fronts of a text
split_longer : (xs ys us vs : List ℕ) (x y : ℕ) → xs ++ x ∷ us ≡ ys ++ y ∷ vs → length xs < length ys → (mid : List ℕ) × (ys ≡ xs ++ x ∷ mid)
split_longer xs [] us vs x y e lt = absurd (omega (arith, lt))
split_longer [] (b ∷ ys) us vs x y e lt = (ys, (let h : x ∷ us ≡ b ∷ (ys ++ y ∷ vs) = e in let k : x ≡ b = cc in ap (λ n. n ∷ ys) (sym k)))
split_longer (a ∷ xs) (b ∷ ys) us vs x y e lt =
    let h : a ∷ (xs ++ x ∷ us) ≡ b ∷ (ys ++ y ∷ vs) = e in
    let k : a ≡ b = cc in
    let tails : xs ++ x ∷ us ≡ ys ++ y ∷ vs = cc in
    let found : (mid : List ℕ) × (ys ≡ xs ++ x ∷ mid) = split_longer xs ys us vs x y tails (omega (arith, lt)) in
    (found.0, ap (λ n. n ∷ ys) (sym k) ∙ ap (λ t. a ∷ t) found.1)

piece_cut : (opener : Opener) (xs tail : List ℕ) (close : ℕ) → close ≤ length xs → first_skip opener ≤ length xs → opened_piece opener (xs ++ tail) close ≡ opened_piece opener xs close
piece_cut Bracket xs tail close h k = ap (λ t. BracketPiece t) (take-append-le close xs tail h)
piece_cut (Index n) xs tail close h k =
    let room : close - suc n ≤ length (drop (suc n) xs) = omega (arith, h, k, length-drop (suc n) xs) in
    ap (λ t. Element t (slice_range (xs ++ tail) (suc n) close)) (take-append-le n xs tail (omega (arith, k)))
    ∙ ap (λ t. Element (take n xs) t) (ap (take (close - suc n)) (drop-append-le (suc n) xs tail k) ∙ take-append-le (close - suc n) (drop (suc n) xs) tail room)

-- an end before it should end is a fault
no_end : (place : BytePlace) (at : ℕ) (rest : TextRest) → read_at_end true place at ≡ Ok rest → ⊥
no_end Start at rest e = let h : read_at_end true Start at ≡ Ok rest = e in cc
no_end Comment at rest e = let h : read_at_end true Comment at ≡ Ok rest = e in cc
no_end Between at rest e = let h : read_at_end true Between at ≡ Ok rest = e in cc
no_end Expanded at rest e = let h : read_at_end true Expanded at ≡ Ok rest = e in cc
no_end (Text Bare) at rest e = let h : read_at_end true (Text Bare) at ≡ Ok rest = e in cc
no_end (Text Quotes) at rest e = let h : read_at_end true (Text Quotes) at ≡ Ok rest = e in cc
no_end (Text Parens) at rest e = let h : read_at_end true (Text Parens) at ≡ Ok rest = e in cc
no_end PastQuotes at rest e = let h : read_at_end true PastQuotes at ≡ Ok rest = e in cc
no_end (InBraces depth) at rest e = let h : read_at_end true (InBraces depth) at ≡ Ok rest = e in cc
no_end PastBraces at rest e = let h : read_at_end true PastBraces at ≡ Ok rest = e in cc

pub past_ok : (opener : Opener) (mode : Mode) (behind : List ℕ) (go : ℕ → BytePlace → Read) (x : Read) (rest : TextRest) → past_opened opener mode behind go x ≡ Ok rest →
    (found : TextRest) × ((x ≡ Ok found) × (put (piece_before (opened_piece opener behind found.close)) (go (suc found.close) (Text mode)) ≡ Ok rest))
past_ok opener mode behind go (Ok found) rest e = (found, (refl, e))
past_ok opener mode behind go (Err fault) rest e = absurd (let h : past_opened opener mode behind go (Err fault) ≡ Ok rest = e in cc)

pub room_left : (room at : ℕ) (opener : Opener) (mode : Mode) (behind : List ℕ) (go : ℕ → BytePlace → Read) (inner : ℕ → ℕ → BytePlace → Read) (rest : TextRest) → past (Ok (Within opener mode)) room at behind go inner ≡ Ok rest →
    (0 < room) × (past_opened opener mode behind go (inner (room - 1) (first_skip opener) (opened_place opener)) ≡ Ok rest)
room_left zero at opener mode behind go inner rest e = absurd (let h : past (Ok (Within opener mode)) zero at behind go inner ≡ Ok rest = e in cc)
room_left (suc room) at opener mode behind go inner rest e = let h : room ≡ suc room - 1 = omega arith in (omega arith, ap (λ n. past_opened opener mode behind go (inner n (first_skip opener) (opened_place opener))) (sym h) ∙ e)

room_goes : (room at : ℕ) (opener : Opener) (mode : Mode) (behind : List ℕ) (go : ℕ → BytePlace → Read) (inner : ℕ → ℕ → BytePlace → Read) → 0 < room →
    past (Ok (Within opener mode)) room at behind go inner ≡ past_opened opener mode behind go (inner (room - 1) (first_skip opener) (opened_place opener))
room_goes zero at opener mode behind go inner some = absurd (omega (arith, some))
room_goes (suc room) at opener mode behind go inner some = let h : room ≡ suc room - 1 = omega arith in ap (λ n. past_opened opener mode behind go (inner n (first_skip opener) (opened_place opener))) h

-- the reading of a text past its first byte, by a move that is known
moved : List ℕ → Level → ByteMove → ℕ → Read
moved text level move at =
    put (changed move.changes) (past move.step level.room at text (λ skip next. rest_of text level skip next (at + 1)) (λ room skip next. rest_of text (within room) skip next 0))

module _ (b : ℕ) (text : List ℕ) (place : BytePlace) (at : ℕ) where
  abbrev move : Bool → List ℕ → ByteMove
  move inside behind = move_of place (class_means inside (class_of b) behind) b at behind

  -- behind what was taken
  same_fits : (n : ℕ) (inner : List ℕ) (closer : ℕ) (after : List ℕ) (step : Result Step ParseFault) → text ≡ inner ++ closer ∷ after → (move true text).step ≡ step → FitsStep step n →
      FitsStep (move true (inner ++ closer ∷ after)).step n
  same_fits n inner closer after step e h fits = subst (λ t. FitsStep (move true t).step n) e (subst (λ s. FitsStep s n) (sym h) fits)

  to_cut : (inner : List ℕ) (closer : ℕ) (after : List ℕ) (step : Result Step ParseFault) → text ≡ inner ++ closer ∷ after → IsCloser closer → (move true text).step ≡ step → FitsStep step (length inner) →
      move true text ≡ move false inner
  to_cut inner closer after step e closes h fits = ap (move true) e ∙ step_cut (class_of b) place b at closer inner after closes (same_fits (length inner) inner closer after step e h fits)

  to_same : (inner : List ℕ) (closer : ℕ) (after tail : List ℕ) (step : Result Step ParseFault) → text ≡ inner ++ closer ∷ after → IsCloser closer → (move true text).step ≡ step → FitsStep step (length inner) →
      move true text ≡ move true (inner ++ closer ∷ tail)
  to_same inner closer after tail step e closes h fits = ap (move true) e ∙ step_same (class_of b) place b at closer inner after tail closes (same_fits (length inner) inner closer after step e h fits)

  goes_on : (other : List ℕ) (level : Level) (m : ByteMove) (skip : ℕ) (next : BytePlace) (found rest : TextRest) → move true text ≡ m → (move true text).step ≡ Ok (On skip next) →
      changed (move true text).changes found ≡ rest → rest_of other level skip next (at + 1) ≡ Ok found → moved other level m at ≡ Ok rest
  unfolding moved
  goes_on other level m skip next found rest same h e again =
      ap (λ x. moved other level x at) (sym same)
      ∙ ap (λ s. put (changed (move true text).changes) (past s level.room at other (λ skip next. rest_of other level skip next (at + 1)) (λ room skip next. rest_of other (within room) skip next 0))) h
      ∙ ap (put (changed (move true text).changes)) again
      ∙ ap (λ r. Ok r) e

  goes_past : (other : List ℕ) (level : Level) (m : ByteMove) (opener : Opener) (mode : Mode) (first second third rest : TextRest) → move true text ≡ m → (move true text).step ≡ Ok (Within opener mode) → 0 < level.room →
      changed (move true text).changes third ≡ rest → piece_before (opened_piece opener text first.close) second ≡ third → opened_piece opener other first.close ≡ opened_piece opener text first.close →
      rest_of other (within (level.room - 1)) (first_skip opener) (opened_place opener) 0 ≡ Ok first → rest_of other level (suc first.close) (Text mode) (at + 1) ≡ Ok second → moved other level m at ≡ Ok rest
  unfolding moved
  goes_past other level m opener mode first second third rest same h some e f piece inner outer =
      ap (λ x. moved other level x at) (sym same)
      ∙ ap (λ s. put (changed (move true text).changes) (past s level.room at other (λ skip next. rest_of other level skip next (at + 1)) (λ room skip next. rest_of other (within room) skip next 0))) h
      ∙ ap (put (changed (move true text).changes)) (
      room_goes level.room at opener mode other (λ skip next. rest_of other level skip next (at + 1)) (λ room skip next. rest_of other (within room) skip next 0) some
      ∙ ap (past_opened opener mode other (λ skip next. rest_of other level skip next (at + 1))) inner
      ∙ ap (put (piece_before (opened_piece opener other first.close))) outer
      ∙ ap (λ p. Ok (piece_before p second)) piece
      ∙ ap (λ r. Ok r) f
      )
      ∙ ap (λ r. Ok r) e

  stepped : (room : ℕ) (rest : TextRest) → ((room skip : ℕ) (place : BytePlace) (at : ℕ) (rest : TextRest) → rest_of text (within room) skip place at ≡ Ok rest → Closed text room skip place at rest) →
      (step : Result Step ParseFault) → (move true text).step ≡ step →
      put (changed (move true text).changes) (past step room at text (λ skip next. rest_of text (within room) skip next (at + 1)) (λ room skip next. rest_of text (within room) skip next 0)) ≡ Ok rest →
      Closed (b ∷ text) room 0 place at rest
  unfolding moved
  stepped room rest known (Err fault) h e = absurd (let g : put (changed (move true text).changes) (Err fault) ≡ Ok rest = e in cc)
  stepped room rest known (Ok Ends) h e =
      let found : Ok (changed (move true text).changes (last_rest at)) ≡ Ok rest = e in
      let is : changed (move true text).changes (last_rest at) ≡ rest = cc in
      record {
        inner = [];
        closer = b;
        after = text;
        text_is = refl;
        closes = class_closes b (class_ends (class_of b) place b at text text h).0;
        close_at = (let k : rest.close ≡ at = ap (λ r. r.close) (sym is) ∙ changed_close (move true text).changes (last_rest at) in omega (arith, k));
        skipped = omega arith;
        again = λ tail more m.
            ap (λ x. moved tail (within more) x at) (sym (class_ends (class_of b) place b at text tail h).1)
            ∙ ap (λ s. put (changed (move true text).changes) (past s more at tail (λ skip next. rest_of tail (within more) skip next (at + 1)) (λ room skip next. rest_of tail (within room) skip next 0))) h
            ∙ found;
        alone = λ more m. (class_ends (class_of b) place b at text text h).2 ∙ found;
      }
  stepped room rest known (Ok (On skip next)) h e =
      let p : (found : TextRest) × ((rest_of text (within room) skip next (at + 1) ≡ Ok found) × (changed (move true text).changes found ≡ rest)) = put_ok (changed (move true text).changes) (rest_of text (within room) skip next (at + 1)) rest e in
      let c : Closed text room skip next (at + 1) p.0 = known room skip next (at + 1) p.0 p.1.0 in
      record {
        inner = b ∷ c.inner;
        closer = c.closer;
        after = c.after;
        text_is = ap (λ t. b ∷ t) c.text_is;
        closes = c.closes;
        close_at = (let k : rest.close ≡ p.0.close = ap (λ r. r.close) (sym p.1.1) ∙ changed_close (move true text).changes p.0 in let l : p.0.close ≡ at + 1 + length c.inner = c.close_at in omega (arith, k, l));
        skipped = omega arith;
        again = λ tail more m.
            goes_on (c.inner ++ c.closer ∷ tail) (within more) (move true (c.inner ++ c.closer ∷ tail)) skip next p.0 rest (to_same c.inner c.closer c.after tail (Ok (On skip next)) c.text_is c.closes h c.skipped) h p.1.1 (c.again tail more m);
        alone = λ more m.
            goes_on c.inner (record { inside = false; room = more }) (move false c.inner) skip next p.0 rest (to_cut c.inner c.closer c.after (Ok (On skip next)) c.text_is c.closes h c.skipped) h p.1.1 (c.alone more m);
      }
  stepped room rest known (Ok (Within opener mode)) h e =
      let go : ℕ → BytePlace → Read = λ skip next. rest_of text (within room) skip next (at + 1) in
      let p : (third : TextRest) × ((past (Ok (Within opener mode)) room at text go (λ room skip next. rest_of text (within room) skip next 0) ≡ Ok third) × (changed (move true text).changes third ≡ rest)) =
      put_ok (changed (move true text).changes) (past (Ok (Within opener mode)) room at text go (λ room skip next. rest_of text (within room) skip next 0)) rest e in
      let q : (0 < room) × (past_opened opener mode text go (rest_of text (within (room - 1)) (first_skip opener) (opened_place opener) 0) ≡ Ok p.0) =
      room_left room at opener mode text go (λ room skip next. rest_of text (within room) skip next 0) p.0 p.1.0 in
      let r : (first : TextRest) × ((rest_of text (within (room - 1)) (first_skip opener) (opened_place opener) 0 ≡ Ok first) × (put (piece_before (opened_piece opener text first.close)) (go (suc first.close) (Text mode)) ≡ Ok p.0)) =
      past_ok opener mode text go (rest_of text (within (room - 1)) (first_skip opener) (opened_place opener) 0) p.0 q.1 in
      let s : (second : TextRest) × ((go (suc r.0.close) (Text mode) ≡ Ok second) × (piece_before (opened_piece opener text r.0.close) second ≡ p.0)) =
      put_ok (piece_before (opened_piece opener text r.0.close)) (go (suc r.0.close) (Text mode)) p.0 r.1.1 in
      let i : Closed text (room - 1) (first_skip opener) (opened_place opener) 0 r.0 = known (room - 1) (first_skip opener) (opened_place opener) 0 r.0 r.1.0 in
      let c : Closed text room (suc r.0.close) (Text mode) (at + 1) s.0 = known room (suc r.0.close) (Text mode) (at + 1) s.0 s.1.0 in
      let near : r.0.close ≡ 0 + length i.inner = i.close_at in
      let far : suc r.0.close ≤ length c.inner = c.skipped in
      let mid : (mid : List ℕ) × (c.inner ≡ i.inner ++ i.closer ∷ mid) = split_longer i.inner c.inner i.after c.after i.closer c.closer (sym i.text_is ∙ c.text_is) (omega (arith, near, far)) in
      let skips : first_skip opener ≤ length c.inner = omega (arith, i.skipped, near, far) in
      let closed : r.0.close ≤ length c.inner = omega (arith, far) in
      let piece : opened_piece opener c.inner r.0.close ≡ opened_piece opener text r.0.close =
      sym (ap (λ t. opened_piece opener t r.0.close) c.text_is ∙ piece_cut opener c.inner (c.closer ∷ c.after) r.0.close closed skips) in
      record {
        inner = b ∷ c.inner;
        closer = c.closer;
        after = c.after;
        text_is = ap (λ t. b ∷ t) c.text_is;
        closes = c.closes;
        close_at =
            (let k : rest.close ≡ p.0.close = ap (λ r. r.close) (sym p.1.1) ∙ changed_close (move true text).changes p.0 in
            let l : p.0.close ≡ s.0.close = ap (λ r. r.close) (sym s.1.1) in
            let n : s.0.close ≡ at + 1 + length c.inner = c.close_at in
            omega (arith, k, l, n));
        skipped = omega arith;
        again = λ tail more m.
            goes_past (c.inner ++ c.closer ∷ tail) (within more) (move true (c.inner ++ c.closer ∷ tail)) opener mode r.0 s.0 p.0 rest (to_same c.inner c.closer c.after tail (Ok (Within opener mode)) c.text_is c.closes h skips) h
            (omega (arith, m, q.0)) p.1.1 s.1.1 (piece_cut opener c.inner (c.closer ∷ tail) r.0.close closed skips ∙ piece)
            (ap (λ t. rest_of t (within (more - 1)) (first_skip opener) (opened_place opener) 0) (ap (λ t. t ++ c.closer ∷ tail) mid.1 ∙ append_assoc i.inner (i.closer ∷ mid.0) (c.closer ∷ tail)) ∙ i.again (mid.0 ++ c.closer ∷ tail) (more - 1) (omega (arith, m)))
            (c.again tail more m);
        alone = λ more m.
            goes_past c.inner (record { inside = false; room = more }) (move false c.inner) opener mode r.0 s.0 p.0 rest (to_cut c.inner c.closer c.after (Ok (Within opener mode)) c.text_is c.closes h skips) h
            (omega (arith, m, q.0)) p.1.1 s.1.1 piece
            (ap (λ t. rest_of t (within (more - 1)) (first_skip opener) (opened_place opener) 0) mid.1 ∙ i.again mid.0 (more - 1) (omega (arith, m)))
            (c.alone more m);
      }

pub closed : (text : List ℕ) (room skip : ℕ) (place : BytePlace) (at : ℕ) (rest : TextRest) → rest_of text (within room) skip place at ≡ Ok rest → Closed text room skip place at rest
closed [] room skip place at rest e = absurd (no_end place at rest e)
closed (b ∷ text) room (suc skip) place at rest e =
    let c : Closed text room skip place (at + 1) rest = closed text room skip place (at + 1) rest e in
    record {
      inner = b ∷ c.inner;
      closer = c.closer;
      after = c.after;
      text_is = ap (λ t. b ∷ t) c.text_is;
      closes = c.closes;
      close_at = (let l : rest.close ≡ at + 1 + length c.inner = c.close_at in omega (arith, l));
      skipped = (let l : skip ≤ length c.inner = c.skipped in omega (arith, l));
      again = c.again;
      alone = c.alone;
    }
closed (b ∷ text) room zero place at rest e =
    stepped b text place at room rest (λ room skip place at rest. closed text room skip place at rest) (move_of place (kind_before true b text) b at text).step refl e
