-- What the code has done at a byte is the definition's move.
use Rattle.std.proofs.Common.{◌≡◌, ℕ, zero, suc, ◌+◌, ◌-◌, ◌<◌, ◌≤◌, ◌⊎◌, Bool, List, [], ◌∷◌, ◌++◌, refl, sym, ap, subst, ◌∙◌, arith, Ok, Err, Result, inl, inr, length, drop, take, get_or, slice_index, append-nil, append_assoc, length-append, true, false, encode_utf8}
use Rattle.std.specs.List.{slice_range}
use Rattle.std.specs.Str.{IsCharBoundary, IsUtf8}
use Rattle.std.proofs.lemmas.List.{drop-drop, get_or-drop, length-drop, length-take}
use Rattle.std.proofs.lemmas.Bool.{and_parts, cases_Bool, ltb-true, ltb-false}
use Rattle.std.proofs.lemmas.Bool.Decides.{nat_tests}
use Rattle.std.specs.Prelude.{nat_eq, nat_lt, ◌&&◌, ◌≢◌, IsTrue}
use Rattle.std.proofs.lemmas.Str.{IsCharBoundary-before_ascii, IsCharBoundary-after_ascii}
use Rattle.tcl_text.specs.Backslash.{escape}
use Rattle.tcl_words.specs.Changes.{TextRest, Read, put, piece_before, last_rest, Change, bytes, name, text_ends, word_ends, command_ends, changed, changed_by}
use Rattle.tcl_words.specs.Moves.{ByteMove, on, ends, change_before, word_over, at_brace, at_dollar, in_braces, in_expanded, in_text, lone}
use Rattle.tcl_words.specs.Reading.{read_at_end}
use Rattle.tcl_words.specs.Parts.{Parts, joined_parts, with_word, with_command, with_piece, with_literal, with_braced, so_far, ended, script_whole, IsCut, StandsAt, Escaped, EndsWord, DollarFits, DoesMove, is_index, IsExpansion, IsOpenerCut}
use Rattle.tcl_words.specs.declared.kind.Kind.{Kind}
use Rattle.tcl_words.specs.declared.kind.Kind.TheVariants.{Dollar, OpenBracket, Backslash, Continuation, OpenBrace, Expansion, Other}
use Rattle.tcl_words.specs.declared.kind.Dollar.{Dollar as DollarForm}
use Rattle.tcl_words.specs.declared.kind.Dollar.TheVariants.{Named, Indexed, Braced}
use Rattle.tcl_words.specs.declared.kind.Opener.TheVariants.{Bracket, Index}
use Rattle.tcl_words.specs.Kinds.{dollar_of}
use Rattle.tcl_words.specs.Classes.{begins_expansion, begins_newline}
use Rattle.tcl_words.specs.declared.script.Piece.TheVariants.{Variable}
use Rattle.tcl_words.specs.declared.script.WordForm.TheVariants.{Braced as BracedForm}
use Rattle.tcl_words.specs.declared.kind.BytePlace.{BytePlace}
use Rattle.tcl_words.specs.declared.kind.BytePlace.TheVariants.{Start, Comment, Between, Expanded, Text, InBraces, PastBraces}
use Rattle.tcl_words.specs.declared.kind.Mode.{Mode}
use Rattle.tcl_words.specs.declared.kind.Mode.TheVariants.{Bare, Quotes, Parens}
use Rattle.tcl_words.specs.declared.kind.Opener.{Opener}
use Rattle.tcl_words.specs.declared.kind.Step.{Step}
use Rattle.tcl_words.specs.declared.kind.Step.TheVariants.{On, Within, Ends}
use Rattle.tcl_words.specs.declared.script.Piece.{Piece}
use Rattle.tcl_text.specs.declared.fault.ParseFault.{ParseFault}
use Rattle.tcl_words.proofs.Escapes.{cut_past, escape_ascii, escape_itself}
use Rattle.tcl_text.proofs.BackslashLemmas.{escape_short, escape_within}
use Rattle.tcl_words.proofs.Joins.{slice_none, slice_one, slice_split, slice_behind, text_bytes, brace_bytes, text_piece, text_opened, bare_ended}

-- the move is given otherwise
pub same_move : (old new : Parts) (s : List ℕ) (at : ℕ) (place : BytePlace) (m m' : ByteMove) (result : Result Step ParseFault) → m ≡ m' → DoesMove old new s at place m' result → DoesMove old new s at place m result
same_move old new s at place m m' result e does = let P : ByteMove → Type 0 = λ x. DoesMove old new s at place x result in subst P (sym e) does

put_first : (c : Change) (cs : List Change) (r : Read) → put (changed (c ∷ cs)) r ≡ put (changed_by c) (put (changed cs) r)
put_first c cs (Ok rest) = refl
put_first c cs (Err fault) = refl

-- a first change of the parts, and then what the byte does
pub first : (old mid new : Parts) (s : List ℕ) (at : ℕ) (place place' : BytePlace) (c : Change) (m : ByteMove) (result : Result Step ParseFault) →
    ((r : Read) → joined_parts old s place at (put (changed_by c) r) ≡ joined_parts mid s place' at r) → ended place' new at ≡ ended place new at → is_index place' ≡ is_index place →
    DoesMove mid new s at place' m result → DoesMove old new s at place (change_before c m) result
first old mid new s at place place' c m (Ok (On skip next)) over same index does =
    (does.0, λ r. ap (joined_parts old s place at) (put_first c m.changes r) ∙ over (put (changed m.changes) r) ∙ does.1 r, does.2, does.3, does.4 ∙ index)
first old mid new s at place place' c m (Ok (Within opener mode)) over same index does =
    (does.0, λ own mark r. ap (joined_parts old s place at) (put_first c m.changes (put (piece_before own) r)) ∙ over (put (changed m.changes) (put (piece_before own) r)) ∙ does.1 own mark r, does.2, does.3, does.4 ∙ index)
first old mid new s at place place' c m (Ok Ends) over same index does =
    (does.0, over (put (changed m.changes) (Ok (last_rest at))) ∙ does.1 ∙ ap (λ w. Ok w) same, does.2, does.3)
first old mid new s at place place' c m (Err fault) over same index does = does

pub past_expansion : (old new : Parts) (s : List ℕ) (at : ℕ) (m : ByteMove) (result : Result Step ParseFault) → DoesMove old new s at Between m result → DoesMove old new s at Expanded m result
past_expansion old new s at m (Ok (On skip next)) does = (does.0, λ r. same r (changed m.changes) ∙ does.1 r, does.2, does.3, does.4)
  where
    same : (r : Read) (change : TextRest → TextRest) → joined_parts old s Expanded at (put change r) ≡ joined_parts old s Between at (put change r)
    same (Ok rest) change = refl
    same (Err fault) change = refl
past_expansion old new s at m (Ok (Within opener mode)) does = (does.0, λ own mark r. same r (changed m.changes) own ∙ does.1 own mark r, does.2, does.3, does.4)
  where
    same : (r : Read) (change : TextRest → TextRest) (own : Piece) → joined_parts old s Expanded at (put change (put (piece_before own) r)) ≡ joined_parts old s Between at (put change (put (piece_before own) r))
    same (Ok rest) change own = refl
    same (Err fault) change own = refl
past_expansion old new s at m (Ok Ends) does = does
past_expansion old new s at m (Err fault) does = does

further : (p : Parts) (s : List ℕ) (at end : ℕ) → IsCut p s at → at ≤ end → IsCut p s end
further p s at end cut h = record { before = (let k : p.mark ≤ at = cut.before in omega arith); boundary = cut.boundary; short = cut.short }

-- ── texts with substitution ──

pub text_goes_on : (p : Parts) (s : List ℕ) (mode : Mode) (at b : ℕ) (kind : Kind) (m : ByteMove) → StandsAt s at b kind → IsCut p s at → m ≡ on (bytes (b ∷ []) ∷ []) 0 (Text mode) →
    DoesMove p p s at (Text mode) m (Ok (On 0 (Text mode)))
text_goes_on p s mode at b kind m stands cut e =
    let end : at + 1 + 0 ≡ at + 1 = omega arith in
    let within : at < length s = stands.within in
    rw e (
      refl,
      λ r. text_bytes p s mode at (at + 1 + 0) (b ∷ []) r cut.before (omega arith) (rw end (slice_one s at b stands.within stands.byte_is)),
      further p s at (at + 1 + 0) cut (omega arith),
      omega arith,
      refl,
    )

name_over : (p : Parts) (s : List ℕ) (mode : Mode) (at end : ℕ) (own : List ℕ) (r : Read) → joined_parts p s (Text mode) at (put (changed (name own ∷ [])) r) ≡ joined_parts (with_piece (with_literal p s at) (Variable own) end) s (Text mode) end r
name_over p s mode at end own (Ok rest) = text_piece p s mode at end (Variable own) (Ok rest)
name_over p s mode at end own (Err fault) = refl

-- a name ends here, and the literal before it
pub piece_goes_on : (p : Parts) (s : List ℕ) (mode : Mode) (at skip end : ℕ) (own : List ℕ) (m : ByteMove) → m ≡ on (name own ∷ []) skip (Text mode) → end ≡ at + 1 + skip → IsCharBoundary s end →
    DoesMove p (with_piece (with_literal p s at) (Variable own) end) s at (Text mode) m (Ok (On skip (Text mode)))
piece_goes_on p s mode at skip end own m e here cut =
    rw (e, ← here) (
      refl,
      λ r. name_over p s mode at end own r,
      record { before = omega arith; boundary = cut; short = omega arith },
      cut.0,
      refl,
    )

pub text_opens : (p : Parts) (s : List ℕ) (mode : Mode) (at : ℕ) (opener : Opener) (m : ByteMove) → m ≡ record { changes = []; step = Ok (Within opener mode) } → IsOpenerCut s at opener →
    DoesMove p (with_literal p s at) s at (Text mode) m (Ok (Within opener mode))
text_opens p s mode at opener m e within = rw e (refl, λ own mark r. text_opened p s mode at mark own r, refl, within, refl)

meant_over : (p : Parts) (s : List ℕ) (at end mark : ℕ) (literal own rest : List ℕ) → literal ++ slice_range s mark end ≡ so_far p s at ++ own → so_far p s at ++ (own ++ rest) ≡ (literal ++ slice_range s mark end) ++ rest
meant_over p s at end mark literal own rest e = sym (append_assoc (so_far p s at) own rest) ∙ ap (λ t. t ++ rest) (sym e)

text_escaped : (p new : Parts) (s : List ℕ) (mode : Mode) (at end : ℕ) (own : List ℕ) (r : Read) → new ≡ record p { literal = new.literal; mark = new.mark } → so_far new s end ≡ so_far p s at ++ own →
    joined_parts p s (Text mode) at (put (changed (bytes own ∷ [])) r) ≡ joined_parts new s (Text mode) end r
text_escaped p new s mode at end own (Err fault) same meant = refl
text_escaped p new s Bare at end own (Ok rest) same meant = rw same (rw (meant_over p s at end new.mark new.literal own rest.bytes meant) refl)
text_escaped p new s Quotes at end own (Ok rest) same meant = rw same (rw (meant_over p s at end new.mark new.literal own rest.bytes meant) refl)
text_escaped p new s Parens at end own (Ok rest) same meant = rw same (rw (meant_over p s at end new.mark new.literal own rest.bytes meant) refl)

brace_escaped : (p new : Parts) (s : List ℕ) (depth at end : ℕ) (own : List ℕ) (r : Read) → new ≡ record p { literal = new.literal; mark = new.mark } → so_far new s end ≡ so_far p s at ++ own →
    joined_parts p s (InBraces depth) at (put (changed (bytes own ∷ [])) r) ≡ joined_parts new s (InBraces depth) end r
brace_escaped p new s depth at end own (Err fault) same meant = refl
brace_escaped p new s depth at end own (Ok rest) same meant = rw same (rw (meant_over p s at end new.mark new.literal own rest.bytes meant) refl)

pub escape_goes_on : (p new : Parts) (s : List ℕ) (mode : Mode) (at n : ℕ) (m : ByteMove) → Escaped p new s at n →
    m ≡ on (bytes (escape (drop (at + 1) s)).meaning ∷ []) (escape (drop (at + 1) s)).length (Text mode) → DoesMove p new s at (Text mode) m (Ok (On n (Text mode)))
escape_goes_on p new s mode at n m done e =
    rw e (
      ap (λ k. Ok (On k (Text mode))) (sym done.takes),
      λ r. text_escaped p new s mode at (at + 1 + n) (escape (drop (at + 1) s)).meaning r done.same done.meant,
      done.cut,
      done.within,
      refl,
    )

pub brace_escape_goes_on : (p new : Parts) (s : List ℕ) (depth at n : ℕ) (m : ByteMove) → Escaped p new s at n → depth ≤ at →
    m ≡ on (bytes (escape (drop (at + 1) s)).meaning ∷ []) (escape (drop (at + 1) s)).length (InBraces depth) → DoesMove p new s at (InBraces depth) m (Ok (On n (InBraces depth)))
brace_escape_goes_on p new s depth at n m done small e =
    rw e (
      ap (λ k. Ok (On k (InBraces depth))) (sym done.takes),
      λ r. brace_escaped p new s depth at (at + 1 + n) (escape (drop (at + 1) s)).meaning r done.same done.meant,
      (done.cut, omega arith),
      done.within,
      refl,
    )

-- ── words in braces ──

pub braces_go_on : (p : Parts) (s : List ℕ) (depth next at b : ℕ) (kind : Kind) (m : ByteMove) → StandsAt s at b kind → IsCut p s at → next ≤ at + 1 → m ≡ on (bytes (b ∷ []) ∷ []) 0 (InBraces next) →
    DoesMove p p s at (InBraces depth) m (Ok (On 0 (InBraces next)))
braces_go_on p s depth next at b kind m stands cut small e =
    let end : at + 1 + 0 ≡ at + 1 = omega arith in
    let within : at < length s = stands.within in
    rw e (
      refl,
      λ r. brace_bytes p s depth next at (at + 1 + 0) (b ∷ []) r cut.before (omega arith) (rw end (slice_one s at b stands.within stands.byte_is)),
      (further p s at (at + 1 + 0) cut (omega arith), omega arith),
      omega arith,
      refl,
    )

-- a backslash and the byte behind it
pub braces_skip : (p : Parts) (s : List ℕ) (depth at b n : ℕ) (kind : Kind) (m : ByteMove) → StandsAt s at b kind → IsCut p s at → depth ≤ at → n ≡ length (take 1 (drop (at + 1) s)) → at + 1 + n ≤ length s →
    slice_range s at (at + 1 + n) ≡ b ∷ take 1 (drop (at + 1) s) →
    m ≡ on (bytes (b ∷ take 1 (drop (at + 1) s)) ∷ []) (length (take 1 (drop (at + 1) s))) (InBraces depth) →
    DoesMove p p s at (InBraces depth) m (Ok (On n (InBraces depth)))
braces_skip p s depth at b n kind m stands cut small count within own e =
    rw e (
      ap (λ k. Ok (On k (InBraces depth))) (sym count),
      λ r. brace_bytes p s depth depth at (at + 1 + n) (b ∷ take 1 (drop (at + 1) s)) r cut.before (omega arith) own,
      (further p s at (at + 1 + n) cut (omega arith), omega arith),
      within,
      refl,
    )

-- ── where words end ──

pub script_ends : (p : Parts) (s : List ℕ) (at : ℕ) (m : ByteMove) → m ≡ ends → IsCharBoundary s at → IsCharBoundary s (at + 1) → DoesMove p (with_command (with_word p at)) s at PastBraces m (Ok Ends)
script_ends p s at m e cut cut_after = rw e (refl, simp append-nil, cut, cut_after)

-- The move of a byte that ends words begins with the end of the word; `lead` is what the move puts before that.
changed_after : (lead cs : List Change) (rest : TextRest) → changed (lead ++ cs) rest ≡ changed lead (changed cs rest)
changed_after [] cs rest = refl
changed_after (c ∷ lead) cs rest = ap (changed_by c) (changed_after lead cs rest)

put_after : (lead cs : List Change) (r : Read) → put (changed (lead ++ cs)) r ≡ put (changed lead) (put (changed cs) r)
put_after lead cs (Ok rest) = ap (λ t. Ok t) (changed_after lead cs rest)
put_after lead cs (Err fault) = refl

module _ (p mid new : Parts) (s : List ℕ) (at : ℕ) (place : BytePlace) (lead : List Change)
    (over : (r : Read) → joined_parts p s place at (put (changed lead) (put (changed_by text_ends) r)) ≡ joined_parts mid s PastBraces at r)
    (whole : ended PastBraces new at ≡ ended place new at) (index : is_index PastBraces ≡ is_index place)
  where
    absorbs : (ch : List Change) (r : Read) → joined_parts p s place at (put (changed (lead ++ word_ends at ∷ ch)) r) ≡ joined_parts mid s PastBraces at (put (changed (word_ends at ∷ ch)) r)
    absorbs ch (Ok rest) = ap (joined_parts p s place at) (put_after lead (word_ends at ∷ ch) (Ok rest)) ∙ over (Ok (changed (word_ends at ∷ ch) rest))
    absorbs ch (Err fault) = refl

    absorbed : (ch : List Change) (step : Result Step ParseFault) (result : Result Step ParseFault) →
        DoesMove mid new s at PastBraces (record { changes = word_ends at ∷ ch; step = step }) result → DoesMove p new s at place (record { changes = lead ++ word_ends at ∷ ch; step = step }) result
    absorbed ch step (Ok (On skip next)) d = (d.0, λ r. absorbs ch r ∙ d.1 r, d.2, d.3, d.4 ∙ index)
    absorbed ch step (Ok (Within opener mode)) d = (d.0, λ own mark r. absorbs ch (put (piece_before own) r) ∙ d.1 own mark r, d.2, d.3, d.4 ∙ index)
    absorbed ch step (Ok Ends) d = (d.0, absorbs ch (Ok (last_rest at)) ∙ d.1 ∙ ap (λ w. Ok w) whole, d.2, d.3)
    absorbed ch step (Err fault) d = d

    closed : (result : Result Step ParseFault) → DoesMove mid new s at PastBraces ends result → DoesMove p new s at place (record { changes = lead ++ []; step = Ok Ends }) result
    closed (Ok (On skip next)) d = absurd (let e : ends.step ≡ Ok (On skip next) = d.0 in cc)
    closed (Ok (Within opener mode)) d = absurd (let e : ends.step ≡ Ok (Within opener mode) = d.0 in cc)
    closed (Ok Ends) d = (d.0, ap (joined_parts p s place at) (put_after lead [] (Ok (last_rest at))) ∙ over (Ok (last_rest at)) ∙ d.1 ∙ ap (λ w. Ok w) whole, d.2, d.3)
    closed (Err fault) d = d

    pub word_before : (kind : Kind) (behind : List ℕ) (other : ByteMove) (result : Result Step ParseFault) → EndsWord kind →
        DoesMove mid new s at PastBraces (word_over kind at behind other) result → DoesMove p new s at place (record { changes = lead ++ (word_over kind at behind other).changes; step = (word_over kind at behind other).step }) result
    word_before kind behind other result (inl e) = rw e (absorbed [] (Ok (On 0 Between)) result)
    word_before kind behind other result (inr (inl e)) = rw e (absorbed (command_ends ∷ []) (Ok (On 0 Start)) result)
    word_before kind behind other result (inr (inr (inl e))) = rw e (absorbed (command_ends ∷ []) (Ok (On 0 Start)) result)
    word_before kind behind other result (inr (inr (inr (inl e)))) = rw e (absorbed [] (Ok (On (escape behind).length Between)) result)
    word_before kind behind other result (inr (inr (inr (inr e)))) = rw e (closed result)

pub bare_ends : (p new : Parts) (s : List ℕ) (at : ℕ) (kind : Kind) (behind : List ℕ) (other : ByteMove) (result : Result Step ParseFault) → EndsWord kind →
    DoesMove (with_literal p s at) new s at PastBraces (word_over kind at behind other) result → DoesMove p new s at (Text Bare) (word_over kind at behind other) result
bare_ends p new s at kind behind other result ends does =
    word_before p (with_literal p s at) new s at (Text Bare) [] over refl refl kind behind other result ends does
  where
    over : (r : Read) → joined_parts p s (Text Bare) at (put (changed []) (put (changed_by text_ends) r)) ≡ joined_parts (with_literal p s at) s PastBraces at r
    over (Ok rest) = bare_ended p s at at (Ok rest)
    over (Err fault) = refl

-- `{*}` before the end of a word
expanded_ends : (kind : Kind) (b at : ℕ) (behind : List ℕ) → EndsWord kind → in_expanded kind b at behind ≡ record { changes = lone at ++ (word_over kind at behind ends).changes; step = (word_over kind at behind ends).step }
expanded_ends kind b at behind (inl e) = rw e refl
expanded_ends kind b at behind (inr (inl e)) = rw e refl
expanded_ends kind b at behind (inr (inr (inl e))) = rw e refl
expanded_ends kind b at behind (inr (inr (inr (inl e)))) = rw e refl
expanded_ends kind b at behind (inr (inr (inr (inr e)))) = rw e refl

pub lone_ends : (p new : Parts) (s : List ℕ) (at b : ℕ) (kind : Kind) (behind : List ℕ) (result : Result Step ParseFault) → IsExpansion s at → EndsWord kind →
    DoesMove (with_braced (record p { word_start = at - 3; form = BracedForm; expand = false; pieces = []; literal = []; mark = at - 2 }) s (at - 1)) new s at PastBraces (word_over kind at behind ends) result →
    DoesMove p new s at Expanded (in_expanded kind b at behind) result
lone_ends p new s at b kind behind result expansion ends_word does =
    same_move p new s at Expanded (in_expanded kind b at behind) (record { changes = lone at ++ (word_over kind at behind ends).changes; step = (word_over kind at behind ends).step }) result
    (expanded_ends kind b at behind ends_word)
    (word_before p (with_braced (record p { word_start = at - 3; form = BracedForm; expand = false; pieces = []; literal = []; mark = at - 2 }) s (at - 1)) new s at Expanded (lone at) over refl refl kind behind ends result ends_word does)
  where
    over : (r : Read) → joined_parts p s Expanded at (put (changed (lone at)) (put (changed_by text_ends) r)) ≡ joined_parts (with_braced (record p { word_start = at - 3; form = BracedForm; expand = false; pieces = []; literal = []; mark = at - 2 }) s (at - 1)) s PastBraces at r
    over (Ok rest) = rw expansion.star refl
    over (Err fault) = refl

-- ── what the arms need ──

pub closes : (depth b : ℕ) → 0 < depth → at_brace depth b ≡ on (bytes (b ∷ []) ∷ []) 0 (InBraces (depth - 1))
closes zero b some = absurd (omega (arith, some))
closes (suc depth) b some = let e : depth ≡ suc depth - 1 = omega arith in ap (λ n. on (bytes (b ∷ []) ∷ []) 0 (InBraces n)) e

pub opens : (depth b : ℕ) (kind : Kind) (behind : List ℕ) → (kind ≡ OpenBrace) ⊎ (kind ≡ Expansion) → in_braces depth kind b behind ≡ on (bytes (b ∷ []) ∷ []) 0 (InBraces (depth + 1))
opens depth b kind behind (inl e) = let f : suc depth ≡ depth + 1 = omega arith in rw (e, f) refl
opens depth b kind behind (inr e) = let f : suc depth ≡ depth + 1 = omega arith in rw (e, f) refl

take_one : (behind : List ℕ) → take (length (take 1 behind)) behind ≡ take 1 behind
take_one [] = refl
take_one (b ∷ behind) = refl

pub slice_skip : (s : List ℕ) (at b n : ℕ) → at < length s → slice_index s at ≡ b → n ≡ length (take 1 (drop (at + 1) s)) → slice_range s at (at + 1 + n) ≡ b ∷ take 1 (drop (at + 1) s)
slice_skip s at b n within is count =
    slice_split s at (at + 1) (at + 1 + n) (omega arith) (omega arith)
    ∙ ap (λ t. t ++ slice_range s (at + 1) (at + 1 + n)) (slice_one s at b within is)
    ∙ ap (λ t. b ∷ t) (slice_behind s (at + 1) n ∙ ap (λ k. take k (drop (at + 1) s)) count ∙ take_one (drop (at + 1) s))

pub brace_backslash : (depth b : ℕ) (kind : Kind) (behind : List ℕ) → kind ≡ Backslash → in_braces depth kind b behind ≡ on (bytes (b ∷ take 1 behind) ∷ []) (length (take 1 behind)) (InBraces depth)
brace_backslash depth b kind behind e = rw e refl

pub brace_continuation : (depth b : ℕ) (kind : Kind) (behind : List ℕ) → kind ≡ Continuation → in_braces depth kind b behind ≡ on (bytes (escape behind).meaning ∷ []) (escape behind).length (InBraces depth)
brace_continuation depth b kind behind e = rw e refl

pub text_escapes : (mode : Mode) (b : ℕ) (kind : Kind) (behind : List ℕ) → (kind ≡ Backslash) ⊎ (kind ≡ Continuation) → in_text mode kind b behind ≡ on (bytes (escape behind).meaning ∷ []) (escape behind).length (Text mode)
text_escapes mode b kind behind (inl e) = rw e refl
text_escapes mode b kind behind (inr e) = rw e refl

-- what stands behind a `$`
pub dollar_is : (mode : Mode) (b : ℕ) (behind : List ℕ) (form : DollarForm) → form ≡ dollar_of behind → in_text mode Dollar b behind ≡ at_dollar mode form b behind
dollar_is mode b behind form e = ap (λ f. at_dollar mode f b behind) (sym e)

pub named_goes_on : (p : Parts) (s : List ℕ) (mode : Mode) (at n b : ℕ) → Named n ≡ dollar_of (drop (at + 1) s) → IsCharBoundary s (at + 1 + n) →
    DoesMove p (with_piece (with_literal p s at) (Variable (slice_range s (at + 1) (at + 1 + n))) (at + 1 + n)) s at (Text mode) (in_text mode Dollar b (drop (at + 1) s)) (Ok (On n (Text mode)))
named_goes_on p s mode at n b form cut =
    piece_goes_on p s mode at n (at + 1 + n) (slice_range s (at + 1) (at + 1 + n)) (in_text mode Dollar b (drop (at + 1) s))
    (dollar_is mode b (drop (at + 1) s) (Named n) form ∙ ap (λ t. on (name t ∷ []) n (Text mode)) (sym (slice_behind s (at + 1) n))) refl cut

-- the name in braces
slice_named : (s : List ℕ) (at n : ℕ) → slice_range (drop (at + 1) s) 1 (suc n) ≡ slice_range s (at + 2) (at + 2 + n)
slice_named s at n =
    let e : suc n - 1 ≡ n = omega arith in
    let f : at + 1 + 1 ≡ at + 2 = omega arith in
    ap (λ k. take k (drop 1 (drop (at + 1) s))) e ∙ ap (take n) (drop-drop 1 (at + 1) s ∙ ap (λ k. drop k s) f) ∙ sym (slice_behind s (at + 2) n)

pub braced_goes_on : (p : Parts) (s : List ℕ) (mode : Mode) (at n b : ℕ) → Braced n ≡ dollar_of (drop (at + 1) s) → IsCharBoundary s (at + 2 + n + 1) →
    DoesMove p (with_piece (with_literal p s at) (Variable (slice_range s (at + 2) (at + 2 + n))) (at + 2 + n + 1)) s at (Text mode) (in_text mode Dollar b (drop (at + 1) s)) (Ok (On (n + 2) (Text mode)))
braced_goes_on p s mode at n b form cut =
    piece_goes_on p s mode at (n + 2) (at + 2 + n + 1) (slice_range s (at + 2) (at + 2 + n)) (in_text mode Dollar b (drop (at + 1) s))
    (dollar_is mode b (drop (at + 1) s) (Braced n) form ∙ ap (λ t. on (name t ∷ []) (n + 2) (Text mode)) (slice_named s at n)) (omega arith) cut

pub indexed_opens : (p : Parts) (s : List ℕ) (mode : Mode) (at n b : ℕ) → Indexed n ≡ dollar_of (drop (at + 1) s) → IsOpenerCut s at (Index n) →
    DoesMove p (with_literal p s at) s at (Text mode) (in_text mode Dollar b (drop (at + 1) s)) (Ok (Within (Index n) mode))
indexed_opens p s mode at n b form within = text_opens p s mode at (Index n) (in_text mode Dollar b (drop (at + 1) s)) (dollar_is mode b (drop (at + 1) s) (Indexed n) form) within

-- where the source can be cut behind a `$`
pub cut_named : (s : List ℕ) (at n : ℕ) → IsUtf8 s → at < length s → DollarFits (drop (at + 1) s) (Named n) → IsCharBoundary s (at + 1 + n)
cut_named s at zero utf8 within fits = absurd (omega (arith, fits.0))
cut_named s at (suc n) utf8 within fits =
    let e : suc n - 1 ≡ n = omega arith in
    let f : at + 1 + suc n ≡ at + 1 + n + 1 = omega arith in
    let low : get_or s (at + 1 + n) 0 < 128 = rw get_or-drop at (rw e at fits.2) in
    rw f (IsCharBoundary-after_ascii s (at + 1 + n) utf8 (omega (arith, fits.1, length-drop (at + 1) s)) low)

pub cut_indexed : (s : List ℕ) (at n : ℕ) → IsUtf8 s → at < length s → IsCharBoundary s (at + 1) → DollarFits (drop (at + 1) s) (Indexed n) → IsOpenerCut s at (Index n)
cut_indexed s at n utf8 within cut fits =
    let f : at + 1 + suc n ≡ at + 1 + n + 1 = omega arith in
    let low : get_or s (at + 1 + n) 0 < 128 = rw get_or-drop at fits.1 in
    let room : at + 1 + n < length s = omega (arith, fits.0, length-drop (at + 1) s) in
    record { behind = cut; name = IsCharBoundary-before_ascii s (at + 1 + n) room low; first = rw f (IsCharBoundary-after_ascii s (at + 1 + n) utf8 room low) }

pub cut_braced : (s : List ℕ) (at n : ℕ) → IsUtf8 s → at < length s → DollarFits (drop (at + 1) s) (Braced n) → IsCharBoundary s (at + 2) × IsCharBoundary s (at + 2 + n) × IsCharBoundary s (at + 2 + n + 1)
cut_braced s at n utf8 within fits =
    let f : at + 2 ≡ at + 1 + 0 + 1 = omega arith in
    let g : at + 2 + n ≡ at + 1 + (n + 1) = omega arith in
    let open_low : get_or s (at + 1 + 0) 0 < 128 = rw get_or-drop at fits.1 in
    let close_low : get_or s (at + 1 + (n + 1)) 0 < 128 = rw get_or-drop at fits.2 in
    let inside : at + 1 + (n + 1) < length s = omega (arith, fits.0, length-drop (at + 1) s) in (
      rw f (IsCharBoundary-after_ascii s (at + 1 + 0) utf8 (omega arith) open_low),
      rw g (IsCharBoundary-before_ascii s (at + 1 + (n + 1)) inside close_low),
      rw g (IsCharBoundary-after_ascii s (at + 1 + (n + 1)) utf8 inside close_low),
    )

pub text_bracket : (mode : Mode) (b : ℕ) (kind : Kind) (behind : List ℕ) → kind ≡ OpenBracket → in_text mode kind b behind ≡ record { changes = []; step = Ok (Within Bracket mode) }
text_bracket mode b kind behind e = rw e refl

-- ── backslashes ──

pub escape_cut_at : (s : List ℕ) (at : ℕ) → IsUtf8 s → at < length s → IsCharBoundary s (at + 1) → get_or (drop (at + 1) s) 0 0 < 128 → IsCharBoundary s (at + 1 + (escape (drop (at + 1) s)).length)
escape_cut_at s at utf8 within cut low =
    cut_past s (at + 1) (escape (drop (at + 1) s)).length utf8 cut (omega (arith, escape_within (drop (at + 1) s), length-drop (at + 1) s)) (escape_ascii (drop (at + 1) s) low)

so_far_short : (p : Parts) (s : List ℕ) (at : ℕ) → IsCut p s at → at ≤ length s → length (so_far p s at) ≤ at
so_far_short p s at cut within =
    let l : length (slice_range s p.mark at) ≤ at - p.mark = length-take-most (at - p.mark) (drop p.mark s) in
    let a : p.mark ≤ at = cut.before in
    let b : length p.literal ≤ p.mark = cut.short in
    omega (arith, length-append p.literal (slice_range s p.mark at))
  where
    length-take-most : (n : ℕ) (xs : List ℕ) → length (take n xs) ≤ n
    length-take-most n xs = omega (arith, length-take n xs)

pub escaped_itself : (p : Parts) (s : List ℕ) (at : ℕ) → at < length s → 128 ≤ get_or (drop (at + 1) s) 0 0 → IsCut p s at → IsCharBoundary s (at + 1) → Escaped p (record p { literal = so_far p s at; mark = at + 1 }) s at 1
escaped_itself p s at within high cut here = found (drop (at + 1) s) refl
  where
    found : (behind : List ℕ) → drop (at + 1) s ≡ behind → Escaped p (record p { literal = so_far p s at; mark = at + 1 }) s at 1
    found [] e = absurd (let h : 128 ≤ get_or {A = ℕ} [] 0 0 = rw e at high in omega (arith, h))
    found (c ∷ behind) e =
        let h : 128 ≤ c = rw e at high in
        let l : length (drop (at + 1) s) ≡ suc (length behind) = ap length e in
        let room : at + 1 < length s = omega (arith, l, length-drop (at + 1) s) in
        let byte : get_or s (at + 1 + 0) 0 ≡ c = rw get_or-drop at (ap (λ t. get_or t 0 0) e) in
        let k : at + 1 + 0 ≡ at + 1 = omega arith in
        record {
          takes = sym (ap (λ x. x.length) (ap escape e ∙ escape_itself c behind h));
          within = omega arith;
          same = refl;
          meant = ap (λ t. so_far p s at ++ t) (slice_one s (at + 1) c room (rw k at byte) ∙ sym (ap (λ x. x.meaning) (ap escape e ∙ escape_itself c behind h)));
          cut = record { before = omega arith; boundary = here; short = (let m : length (so_far p s at) ≤ at = so_far_short p s at cut (omega arith) in omega arith) };
        }

pub escaped_plain : (p : Parts) (s : List ℕ) (at n character : ℕ) → IsUtf8 s → at < length s → get_or (drop (at + 1) s) 0 0 < 128 → IsCut p s at → IsCharBoundary s (at + 1) →
    encode_utf8 character ≡ (escape (drop (at + 1) s)).meaning → n ≡ (escape (drop (at + 1) s)).length → at + 1 + n ≤ length s →
    Escaped p (record p { literal = so_far p s at ++ encode_utf8 character; mark = at + 1 + n }) s at n
escaped_plain p s at n character utf8 within low cut here meaning takes room =
    let m : length (so_far p s at) ≤ at = so_far_short p s at cut (omega arith) in
    let short : length (encode_utf8 character) ≤ n + 1 = omega (arith, escape_short (drop (at + 1) s), ap length meaning, takes) in
    record {
      takes = takes;
      within = room;
      same = refl;
      meant = rw (slice_none s (at + 1 + n), append-nil (so_far p s at ++ encode_utf8 character)) (ap (λ t. so_far p s at ++ t) meaning);
      cut = record { before = omega arith; boundary = rw takes (escape_cut_at s at utf8 within here low); short = omega (arith, length-append (so_far p s at) (encode_utf8 character)) };
    }

-- ── what the code sees ──

star_brace : (text : List ℕ) → begins_expansion text ≡ true → (2 ≤ length text) × (get_or text 0 0 ≡ 42) × (get_or text 1 0 ≡ 125)
star_brace [] e = cc
star_brace (x ∷ []) e = elim (cases_Bool (nat_eq 42 x)) [ inl f ↦ absurd (let g : false ≡ true = rw f at e in cc) | inr f ↦ absurd (let g : false ≡ true = rw f at e in cc) ]
star_brace (x ∷ y ∷ text) e =
    let both = and_parts (nat_eq 42 x) (nat_eq 125 y && true) e in
    let first : 42 ≡ x = grind (arith, nat_tests, both.0) in
    let second : 125 ≡ y = grind (arith, nat_tests, (and_parts (nat_eq 125 y) true both.1).0) in
    (omega arith, sym first, sym second)

newline_first : (text : List ℕ) → begins_newline text ≡ true → get_or text 0 0 ≡ 10
newline_first [] e = cc
newline_first (x ∷ text) e = grind (arith, nat_tests, (and_parts (nat_eq 10 x) true e).0)

expansion_at : (s : List ℕ) (at : ℕ) → IsUtf8 s → at < length s → get_or s at 0 < 128 → begins_expansion (drop (at + 1) s) ≡ true → IsExpansion s (at + 3)
expansion_at s at utf8 within low e =
    let found : (2 ≤ length (drop (at + 1) s)) × (get_or (drop (at + 1) s) 0 0 ≡ 42) × (get_or (drop (at + 1) s) 1 0 ≡ 125) = star_brace (drop (at + 1) s) e in
    let star : get_or s (at + 1 + 0) 0 ≡ 42 = rw get_or-drop at found.1 in
    let brace : get_or s (at + 1 + 1) 0 ≡ 125 = rw get_or-drop at found.2 in
    let f : at + 3 - 2 ≡ at + 1 + 0 = omega arith in
    let g : at + 3 - 1 ≡ at + 1 + 0 + 1 = omega arith in
    let h : at + 3 ≡ at + 1 + 1 + 1 = omega arith in
    let room : at + 1 + 1 < length s = omega (arith, found.0, length-drop (at + 1) s) in
    record {
      three = omega arith;
      star = rw (f, g) (slice_one s (at + 1 + 0) 42 (omega arith) star);
      cut_before = rw f (IsCharBoundary-before_ascii s (at + 1 + 0) (omega arith) (omega (arith, star)));
      cut_between = rw g (IsCharBoundary-after_ascii s (at + 1 + 0) utf8 (omega arith) (omega (arith, star)));
      cut_after = rw h (IsCharBoundary-after_ascii s (at + 1 + 1) utf8 room (omega (arith, brace)));
    }

pub stands_at : (s : List ℕ) (at b : ℕ) (kind : Kind) → IsUtf8 s → at < length s → length s ≤ 65536 → slice_index s at ≡ b → (kind ≢ Other → b < 128) →
    (kind ≡ Expansion → begins_expansion (drop (at + 1) s) ≡ true) → (kind ≡ Continuation → begins_newline (drop (at + 1) s) ≡ true) → StandsAt s at b kind
stands_at s at b kind utf8 within short e ascii expands continues = record {
  within = within;
  short = short;
  byte_is = e;
  cut = λ h. let low : b < 128 = ascii h in IsCharBoundary-before_ascii s at within (omega (arith, e));
  cut_after = λ h. let low : b < 128 = ascii h in IsCharBoundary-after_ascii s at utf8 within (omega (arith, e));
  expansion = λ k. let low : b < 128 = ascii (λ h. let x : Expansion ≡ Other = sym k ∙ h in cc) in expansion_at s at utf8 within (omega (arith, e)) (expands k);
  continuation = λ k.
      let low : b < 128 = ascii (λ h. let x : Continuation ≡ Other = sym k ∙ h in cc) in
      let first : get_or (drop (at + 1) s) 0 0 ≡ 10 = newline_first (drop (at + 1) s) (continues k) in
      escape_cut_at s at utf8 within (IsCharBoundary-after_ascii s at utf8 within (omega (arith, e))) (omega (arith, first));
}

pub not_ascii : (r : Bool) (x : ℕ) → (x < 128 → IsTrue r) → r ≡ false → 128 ≤ x
not_ascii r x h e = elim (cases_Bool (nat_lt x 128)) [
  | inl low ↦ absurd (let t : r ≡ true = h (ltb-true x 128 low) in let f : false ≡ true = sym e ∙ t in cc)
  | inr high ↦ ltb-false x 128 high
]

pub is_ascii : (r : Bool) (x : ℕ) → (IsTrue r → x < 128) → r ≡ true → x < 128
is_ascii r x h e = h e

pub cut_bracket : (s : List ℕ) (at : ℕ) → IsCharBoundary s (at + 1) → IsOpenerCut s at Bracket
cut_bracket s at cut = let e : at + 1 + 0 ≡ at + 1 = omega arith in record { behind = cut; name = rw e cut; first = rw e cut }

-- ── the end of the text ──

pub start_finish : (p : Parts) (s : List ℕ) (at : ℕ) → joined_parts p s Start at (Ok (last_rest at)) ≡ Ok (script_whole p.commands at)
start_finish p s at = simp append-nil

pub command_finish : (p : Parts) (s : List ℕ) (at : ℕ) → joined_parts p s Between at (Ok (last_rest at)) ≡ Ok (script_whole (with_command p).commands at)
command_finish p s at = simp append-nil

pub word_finish : (p : Parts) (s : List ℕ) (at : ℕ) → joined_parts p s PastBraces at (Ok (last_rest at)) ≡ Ok (script_whole (with_command (with_word p at)).commands at)
word_finish p s at = simp append-nil

pub start_any : (p : Parts) (s : List ℕ) (place : BytePlace) (at : ℕ) → (place ≡ Start) ⊎ (place ≡ Comment) → joined_parts p s place at (read_at_end false place at) ≡ Ok (script_whole p.commands at)
start_any p s place at (inl e) = rw e (start_finish p s at)
start_any p s place at (inr e) = rw e (start_finish p s at)
