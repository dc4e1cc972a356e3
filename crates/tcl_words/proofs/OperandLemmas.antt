-- Brackets, variables and quotes that stand in a text that is no script.
use Rattle.std.proofs.Common.{◌≡◌, ◌≢◌, ℕ, zero, suc, ◌+◌, ◌-◌, ◌<◌, ◌≤◌, ◌⊎◌, true, false, List, [], ◌∷◌, ◌++◌, length, drop, take, slice_index, refl, sym, ap, subst, ◌∙◌, arith, append-nil, Ok, Err, Result, inl, inr}
use Rattle.std.proofs.Math.Seq.{drop-cons}
use Rattle.std.specs.List.{slice_range}
use Rattle.std.specs.Str.{IsCharBoundary, IsUtf8}
use Rattle.std.proofs.lemmas.List.{drop-drop, length-drop}
use Rattle.tcl_words.specs.Kinds.{kind_before, dollar_of}
use Rattle.tcl_words.specs.Changes.{Read, put, last_rest, changed, piece_before, literal_before}
use Rattle.tcl_words.specs.Moves.{ByteMove, in_text, at_dollar}
use Rattle.tcl_words.specs.Reading.{Level, within, rest_of, past, past_opened, read_at_end, opened_place, first_skip, opened_piece}
use Rattle.tcl_words.specs.Parts.{Parts, Whole, joined_parts, no_parts, with_piece, with_literal, index_whole, is_index, ended, DoesMove, IsFine, IsOpenerCut}
use Rattle.tcl_words.specs.Chain.{origin_level, own, opened, IsChain, IsReading, IsClosing, IsParse, Goes}
use Rattle.tcl_words.specs.Operands.{piece_found, opened_of, at_quote, quoted_rest, pieces_found, quoted_of, outer, EndsAt, quoted_whole, ReadsOn}
use Rattle.tcl_words.specs.declared.kind.Kind.{Kind}
use Rattle.tcl_words.specs.declared.kind.Kind.TheVariants.{Blank, Newline, Semicolon, Hash, Dollar, Quote, OpenBracket, CloseBracket, OpenBrace, Expansion, CloseBrace, CloseParen, Backslash, Continuation, Other}
use Rattle.tcl_words.specs.declared.kind.Dollar.{Dollar as DollarForm}
use Rattle.tcl_words.specs.declared.kind.Dollar.TheVariants.{Alone, Named, Indexed, Braced, Unclosed}
use Rattle.tcl_words.specs.declared.kind.BytePlace.{BytePlace}
use Rattle.tcl_words.specs.declared.kind.BytePlace.TheVariants.{Start, Comment, Between, Expanded, Text, PastQuotes, InBraces, PastBraces}
use Rattle.tcl_words.specs.declared.kind.Mode.{Mode}
use Rattle.tcl_words.specs.declared.kind.Mode.TheVariants.{Bare, Quotes, Parens}
use Rattle.tcl_words.specs.declared.kind.Opener.{Opener}
use Rattle.tcl_words.specs.declared.kind.Opener.TheVariants.{Bracket, Index}
use Rattle.tcl_words.specs.declared.kind.Step.{Step}
use Rattle.tcl_words.specs.declared.kind.Step.TheVariants.{On, Within, Ends}
use Rattle.tcl_words.specs.declared.nesting.Origin.{Origin}
use Rattle.tcl_words.specs.declared.nesting.Waiting.{Waiting}
use Rattle.tcl_words.specs.declared.script.Piece.{Piece}
use Rattle.tcl_text.specs.declared.fault.ParseFault.{ParseFault}
use Rattle.tcl_text.specs.declared.fault.ParseFault.TheVariants.{TooLong, NoMemory, MissingQuote}
use Rattle.tcl_words.proofs.Joins.{slice_none, slice_behind}
use Rattle.tcl_words.proofs.Nests.{chain_fault, rest_skip}
use Rattle.tcl_words.proofs.Readers.{moved_cut, to_base, parse_found, ended_close, first_fine, end_reads, chain_inside}

-- ── what an opener opens ──

pub opened_begins : (s : List ℕ) (at room : ℕ) (opener : Opener) → 0 < room → room ≤ 200 → IsOpenerCut s at opener →
    IsReading (opened (outer room) at opener) s [] (opened (outer room) at opener) (no_parts (first_skip opener)) (opened_place opener) (first_skip opener)
opened_begins s at room opener some most cut =
    let o : Origin = outer room in
    let e : at + 1 ≡ 0 + (at + 1) = omega arith in
    let f : at + 1 + first_skip opener ≡ 0 + (at + 1) + first_skip opener = omega arith in
    let base : IsCharBoundary s (0 + (at + 1)) = moved_cut s _ _ e cut.behind in
    let first : IsCharBoundary s (0 + (at + 1) + first_skip opener) = moved_cut s _ _ f cut.first in
    let here : IsCharBoundary (drop (0 + (at + 1)) s) (first_skip opener) = to_base s (0 + (at + 1)) (first_skip opener) base.0 first in
    let k : 0 + first_skip opener ≡ first_skip opener = omega arith in
    let level : Level = origin_level (opened o at opener) in
    let rest : rest_of (drop (0 + (at + 1)) s) level (first_skip opener) (opened_place opener) 0 ≡ rest_of (drop (first_skip opener) (drop (0 + (at + 1)) s)) level 0 (opened_place opener) (first_skip opener) =
    rest_skip (drop (0 + (at + 1)) s) level (first_skip opener) (opened_place opener) 0 here.0 ∙ ap (rest_of (drop (first_skip opener) (drop (0 + (at + 1)) s)) level 0 (opened_place opener)) k in
    record {
      chain = refl;
      reads = ap (joined_parts (no_parts (first_skip opener)) (drop (0 + (at + 1)) s) (opened_place opener) (first_skip opener)) (sym rest);
      fine = first_fine (drop (0 + (at + 1)) s) opener here;
      base = base;
      within = first.0;
      index = refl;
      room = omega (arith, most);
    }

-- what began first ends where nothing waits
pub ends_inside : (first : Origin) (s : List ℕ) (ws : List Waiting) (o : Origin) (p : Parts) (place : BytePlace) (n k : ℕ) → Goes true first s ws o p place n k → EndsAt first s p n
ends_inside first s ws o p place n k (none, ending) =
    let alone : IsClosing first s [] o p place n = subst (λ x. IsClosing first s x o p place n) none ending in
    (place, subst (λ x. IsClosing first s [] x p place n) (sym alone.chain) alone)

still_inside : (s : List ℕ) (first o : Origin) (ws : List Waiting) → IsChain s first ws o → first.inside ≡ true → o.inside ≡ true
still_inside s first o [] chain e = ap (λ x. x.inside) (sym chain) ∙ e
still_inside s first o (w ∷ ws) chain e = chain_inside s first o w ws chain

-- the text ends before it
pub never_ends : (first : Origin) (s : List ℕ) (ws : List Waiting) (o : Origin) (p : Parts) (place : BytePlace) (n : ℕ) (fault : ParseFault) → IsReading first s ws o p place n → first.inside ≡ true → length s ≤ o.base + n →
    ((at : ℕ) → read_at_end true place at ≡ Err fault) → own s first ≡ Err fault
never_ends first s ws o p place n fault r inside end told =
    let in_it : o.inside ≡ true = still_inside s first o ws r.chain inside in
    chain_fault s first o ws fault r.chain (sym (end_reads s ws o p place n r end) ∙ ap (λ b. joined_parts p (drop o.base s) place n (read_at_end b place n)) in_it ∙ ap (joined_parts p (drop o.base s) place n) (told n))

found_by : (opener : Opener) (behind : List ℕ) (r : Read) (whole : Whole) → joined_parts (no_parts (first_skip opener)) behind (opened_place opener) (first_skip opener) r ≡ Ok whole →
    piece_found opener behind r ≡ Ok (opened_piece opener behind whole.close, suc whole.close)
found_by Bracket behind (Ok rest) whole e =
    let is : joined_parts (no_parts 0) behind Start 0 (Ok rest) ≡ Ok whole = e in
    let close : rest.close ≡ whole.close = ap (λ (x : Result Whole ParseFault). close_in x) is in
    ap (λ k. Ok (opened_piece Bracket behind k, suc k)) close
  where
    close_in : Result Whole ParseFault → ℕ
    close_in (Ok w) = w.close
    close_in (Err fault) = 0
found_by (Index n) behind (Ok rest) whole e =
    let is : joined_parts (no_parts (suc n)) behind (Text Parens) (suc n) (Ok rest) ≡ Ok whole = e in
    let close : rest.close ≡ whole.close = ap (λ (x : Result Whole ParseFault). close_in x) is in
    ap (λ k. Ok (opened_piece (Index n) behind k, suc k)) close
  where
    close_in : Result Whole ParseFault → ℕ
    close_in (Ok w) = w.close
    close_in (Err fault) = 0
found_by opener behind (Err fault) whole e = absurd (let h : Err fault ≡ Ok whole = e in cc)

failed_by : (opener : Opener) (behind : List ℕ) (r : Read) (fault : ParseFault) → joined_parts (no_parts (first_skip opener)) behind (opened_place opener) (first_skip opener) r ≡ Err fault → piece_found opener behind r ≡ Err fault
failed_by opener behind (Ok rest) fault e = absurd (let h : joined_parts (no_parts (first_skip opener)) behind (opened_place opener) (first_skip opener) (Ok rest) ≡ Err fault = e in cc)
failed_by opener behind (Err other) fault e = let h : Err other ≡ Err fault = e in cc

opened_some : (room : ℕ) (opener : Opener) (behind : List ℕ) → 0 < room → opened_of room opener behind ≡ piece_found opener behind (rest_of behind (within (room - 1)) (first_skip opener) (opened_place opener) 0)
opened_some zero opener behind some = absurd (omega (arith, some))
opened_some (suc room) opener behind some = let e : room ≡ suc room - 1 = omega arith in ap (λ n. piece_found opener behind (rest_of behind (within n) (first_skip opener) (opened_place opener) 0)) e

behind_is : (s : List ℕ) (at : ℕ) → drop (0 + (at + 1)) s ≡ drop (at + 1) s
behind_is s at = let e : 0 + (at + 1) ≡ at + 1 = omega arith in ap (λ n. drop n s) e

-- what was opened has ended
pub record Found (s : List ℕ) (at room : ℕ) (opener : Opener) (p : Parts) (n : ℕ) : Type 0 where
  pub found : opened_of room opener (drop (at + 1) s) ≡ Ok (opened_piece opener (drop (at + 1) s) n, n + 1)
  pub ends : IsCharBoundary s (at + 1 + n)
  pub parse : IsParse opener (drop (at + 1) s) n p
  pub past : IsCharBoundary s (at + 1 + (n + 1))

pub found_there : (s : List ℕ) (at room : ℕ) (opener : Opener) (p : Parts) (n : ℕ) → IsUtf8 s → length s ≤ 65536 → 0 < room → room ≤ 200 → IsOpenerCut s at opener → EndsAt (opened (outer room) at opener) s p n → Found s at room opener p n
found_there s at room opener p n utf8 short some most cut (place, r) =
    let o : Origin = outer room in
    let e : at + 1 ≡ 0 + (at + 1) = omega arith in
    let base : IsCharBoundary s (0 + (at + 1)) = moved_cut s _ _ e cut.behind in
    let is : own s (opened o at opener) ≡ Ok (ended place p n) = r.ends in
    let close : (ended place p n).close ≡ n = ended_close place p n in
    let parsed = parse_found opener s o at n place p utf8 short most is r.index base r.here in
    let found : piece_found opener (drop (0 + (at + 1)) s) (rest_of (drop (0 + (at + 1)) s) (within (room - 1)) (first_skip opener) (opened_place opener) 0) ≡ Ok (opened_piece opener (drop (0 + (at + 1)) s) (ended place p n).close, suc (ended place p n).close) =
    found_by opener (drop (0 + (at + 1)) s) (rest_of (drop (0 + (at + 1)) s) (within (room - 1)) (first_skip opener) (opened_place opener) 0) (ended place p n) is in
    let g : suc n ≡ n + 1 = omega arith in
    let h : 0 + (at + 1) + n ≡ at + 1 + n = omega arith in
    record {
      found =
          opened_some room opener (drop (at + 1) s) some
          ∙ ap (λ t. piece_found opener t (rest_of t (within (room - 1)) (first_skip opener) (opened_place opener) 0)) (sym (behind_is s at))
          ∙ found
          ∙ ap (λ t. Ok (opened_piece opener t (ended place p n).close, suc (ended place p n).close)) (behind_is s at)
          ∙ ap (λ k. Ok (opened_piece opener (drop (at + 1) s) k, suc k)) close
          ∙ ap (λ k. Ok (opened_piece opener (drop (at + 1) s) n, k)) g;
      ends = moved_cut s _ _ h r.here;
      parse = subst (λ t. IsParse opener t n p) (behind_is s at) parsed.0;
      past = (let k : 0 + (at + 1) + n + 1 ≡ at + 1 + (n + 1) = omega arith in moved_cut s _ _ k r.past);
    }

pub failed_there : (s : List ℕ) (at room : ℕ) (opener : Opener) (fault : ParseFault) → 0 < room → own s (opened (outer room) at opener) ≡ Err fault → opened_of room opener (drop (at + 1) s) ≡ Err fault
failed_there s at room opener fault some e =
    opened_some room opener (drop (at + 1) s) some
    ∙ ap (λ t. piece_found opener t (rest_of t (within (room - 1)) (first_skip opener) (opened_place opener) 0)) (sym (behind_is s at))
    ∙ failed_by opener (drop (0 + (at + 1)) s) (rest_of (drop (0 + (at + 1)) s) (within (room - 1)) (first_skip opener) (opened_place opener) 0) fault e

-- the name in `${name}`
pub braced_name : (s : List ℕ) (at n : ℕ) → slice_range (drop (at + 1) s) 1 (suc n) ≡ slice_range s (at + 1 + 1) (at + 1 + 1 + n)
braced_name s at n =
    let e : suc n - 1 ≡ n = omega arith in
    ap (λ k. take k (drop 1 (drop (at + 1) s))) e ∙ ap (take n) (drop-drop 1 (at + 1) s) ∙ sym (slice_behind s (at + 1 + 1) n)

pub braced_cut : (s : List ℕ) (at : ℕ) → IsCharBoundary s (at + 2) → IsCharBoundary s (at + 1 + 1)
braced_cut s at cut = let e : at + 2 ≡ at + 1 + 1 = omega arith in moved_cut s _ _ e cut

-- ── quotes ──

dollar_goes_on : (form : DollarForm) (b : ℕ) (behind : List ℕ) → (at_dollar Parens form b behind).step ≡ Ok Ends → ⊥
dollar_goes_on Alone b behind e = let h : (at_dollar Parens Alone b behind).step ≡ Ok Ends = e in cc
dollar_goes_on (Named n) b behind e = let h : (at_dollar Parens (Named n) b behind).step ≡ Ok Ends = e in cc
dollar_goes_on (Indexed n) b behind e = let h : (at_dollar Parens (Indexed n) b behind).step ≡ Ok Ends = e in cc
dollar_goes_on (Braced n) b behind e = let h : (at_dollar Parens (Braced n) b behind).step ≡ Ok Ends = e in cc
dollar_goes_on Unclosed b behind e = let h : (at_dollar Parens Unclosed b behind).step ≡ Ok Ends = e in cc

-- no byte of a text with substitution ends it by itself
pub text_goes : (kind : Kind) (b : ℕ) (behind : List ℕ) → (in_text Parens kind b behind).step ≡ Ok Ends → ⊥
text_goes Blank b behind e = let h : (in_text Parens Blank b behind).step ≡ Ok Ends = e in cc
text_goes Newline b behind e = let h : (in_text Parens Newline b behind).step ≡ Ok Ends = e in cc
text_goes Semicolon b behind e = let h : (in_text Parens Semicolon b behind).step ≡ Ok Ends = e in cc
text_goes Hash b behind e = let h : (in_text Parens Hash b behind).step ≡ Ok Ends = e in cc
text_goes Dollar b behind e = dollar_goes_on (dollar_of behind) b behind e
text_goes Quote b behind e = let h : (in_text Parens Quote b behind).step ≡ Ok Ends = e in cc
text_goes OpenBracket b behind e = let h : (in_text Parens OpenBracket b behind).step ≡ Ok Ends = e in cc
text_goes CloseBracket b behind e = let h : (in_text Parens CloseBracket b behind).step ≡ Ok Ends = e in cc
text_goes OpenBrace b behind e = let h : (in_text Parens OpenBrace b behind).step ≡ Ok Ends = e in cc
text_goes Expansion b behind e = let h : (in_text Parens Expansion b behind).step ≡ Ok Ends = e in cc
text_goes CloseBrace b behind e = let h : (in_text Parens CloseBrace b behind).step ≡ Ok Ends = e in cc
text_goes CloseParen b behind e = let h : (in_text Parens CloseParen b behind).step ≡ Ok Ends = e in cc
text_goes Backslash b behind e = let h : (in_text Parens Backslash b behind).step ≡ Ok Ends = e in cc
text_goes Continuation b behind e = let h : (in_text Parens Continuation b behind).step ≡ Ok Ends = e in cc
text_goes Other b behind e = let h : (in_text Parens Other b behind).step ≡ Ok Ends = e in cc

quote_ends : (kind : Kind) (at : ℕ) (other : Read) → kind ≡ Quote → at_quote kind at other ≡ Ok (last_rest at)
quote_ends kind at other e = rw e refl

quote_not : (kind : Kind) (at : ℕ) (other : Read) → kind ≢ Quote → at_quote kind at other ≡ other
quote_not Blank at other h = refl
quote_not Newline at other h = refl
quote_not Semicolon at other h = refl
quote_not Hash at other h = refl
quote_not Dollar at other h = refl
quote_not Quote at other h = absurd (h refl)
quote_not OpenBracket at other h = refl
quote_not CloseBracket at other h = refl
quote_not OpenBrace at other h = refl
quote_not Expansion at other h = refl
quote_not CloseBrace at other h = refl
quote_not CloseParen at other h = refl
quote_not Backslash at other h = refl
quote_not Continuation at other h = refl
quote_not Other at other h = refl

pub quoted_skip : (room : ℕ) (text : List ℕ) (k at : ℕ) → k ≤ length text → quoted_rest room text k at ≡ quoted_rest room (drop k text) 0 (at + k)
quoted_skip room text zero at h = let e : at ≡ at + 0 = omega arith in ap (quoted_rest room text 0) e
quoted_skip room [] (suc k) at h = absurd (omega (arith, h))
quoted_skip room (b ∷ text) (suc k) at h =
    let e : at + 1 + k ≡ at + suc k = omega arith in quoted_skip room text k (at + 1) (omega (arith, h)) ∙ ap (quoted_rest room (drop k text) 0) e

past_quoted : ℕ → List ℕ → ℕ → Result Step ParseFault → Read
past_quoted room s at step =
    past step room at (drop (at + 1) s) (λ skip next. quoted_rest room (drop (at + 1) s) skip (at + 1)) (λ room skip next. rest_of (drop (at + 1) s) (within room) skip next 0)

-- a byte of a text with substitution
pub record Byte (s : List ℕ) (at b : ℕ) (kind : Kind) : Type 0 where
  pub within : at < length s
  pub is : slice_index s at ≡ b
  pub kind_is : kind ≡ kind_before false b (drop (at + 1) s)

quoted_next : (room : ℕ) (s : List ℕ) (at b : ℕ) (kind : Kind) → Byte s at b kind →
    quoted_rest room (drop at s) 0 at
    ≡ at_quote kind at (put (changed (in_text Parens kind b (drop (at + 1) s)).changes) (past_quoted room s at (in_text Parens kind b (drop (at + 1) s)).step))
unfolding past_quoted
quoted_next room s at b kind byte =
    let e : suc at ≡ at + 1 = omega arith in
    let cut : drop at s ≡ b ∷ drop (at + 1) s = drop-cons s at 0 byte.within ∙ ap (λ n. slice_index s at ∷ drop n s) e ∙ ap (λ x. x ∷ drop (at + 1) s) byte.is in
    ap (λ t. quoted_rest room t 0 at) cut
    ∙ ap (λ k. at_quote k at (put (changed (in_text Parens k b (drop (at + 1) s)).changes) (past_quoted room s at (in_text Parens k b (drop (at + 1) s)).step))) (sym byte.kind_is)

quoted_by : (room : ℕ) (s : List ℕ) (at b : ℕ) (kind : Kind) (step : Result Step ParseFault) → Byte s at b kind → kind ≢ Quote → (in_text Parens kind b (drop (at + 1) s)).step ≡ step →
    quoted_rest room (drop at s) 0 at ≡ put (changed (in_text Parens kind b (drop (at + 1) s)).changes) (past_quoted room s at step)
quoted_by room s at b kind step byte other e =
    quoted_next room s at b kind byte
    ∙ quote_not kind at (put (changed (in_text Parens kind b (drop (at + 1) s)).changes) (past_quoted room s at (in_text Parens kind b (drop (at + 1) s)).step)) other
    ∙ ap (λ x. put (changed (in_text Parens kind b (drop (at + 1) s)).changes) (past_quoted room s at x)) e

place_is : (place : BytePlace) → is_index place ≡ true → place ≡ Text Parens
place_is Start e = absurd (let h : false ≡ true = e in cc)
place_is Comment e = absurd (let h : false ≡ true = e in cc)
place_is Between e = absurd (let h : false ≡ true = e in cc)
place_is Expanded e = absurd (let h : false ≡ true = e in cc)
place_is (Text Bare) e = absurd (let h : false ≡ true = e in cc)
place_is (Text Quotes) e = absurd (let h : false ≡ true = e in cc)
place_is (Text Parens) e = refl
place_is PastQuotes e = absurd (let h : false ≡ true = e in cc)
place_is (InBraces depth) e = absurd (let h : false ≡ true = e in cc)
place_is PastBraces e = absurd (let h : false ≡ true = e in cc)

-- from a position, whatever stands before it
from_here : (room : ℕ) (s : List ℕ) (at skip : ℕ) → at + 1 + skip ≤ length s → quoted_rest room (drop (at + 1) s) skip (at + 1) ≡ quoted_rest room (drop (at + 1 + skip) s) 0 (at + 1 + skip)
from_here room s at skip h =
    quoted_skip room (drop (at + 1) s) skip (at + 1) (omega (arith, h, length-drop (at + 1) s)) ∙ ap (λ t. quoted_rest room t 0 (at + 1 + skip)) (drop-drop skip (at + 1) s)

pub quoted_on : (room : ℕ) (s : List ℕ) (at b : ℕ) (kind : Kind) (skip : ℕ) (next : BytePlace) (old new : Parts) → Byte s at b kind → kind ≢ Quote →
    DoesMove old new s at (Text Parens) (in_text Parens kind b (drop (at + 1) s)) (Ok (On skip next)) → ReadsOn room s old at new (at + 1 + skip)
unfolding past_quoted
quoted_on room s at b kind skip next old new byte other does =
    let place : next ≡ Text Parens = place_is next does.4 in
    let rest : Read = quoted_rest room (drop (at + 1) s) skip (at + 1) in
    let move : ByteMove = in_text Parens kind b (drop (at + 1) s) in
    record {
      same =
          ap (joined_parts new s (Text Parens) (at + 1 + skip)) (sym (from_here room s at skip does.3))
          ∙ ap (λ x. joined_parts new s x (at + 1 + skip) rest) (sym place)
          ∙ sym (does.1 rest)
          ∙ ap (joined_parts old s (Text Parens) at) (sym (quoted_by room s at b kind (Ok (On skip next)) byte other does.0));
      fine = subst (λ x. IsFine new s x (at + 1 + skip)) place does.2;
      further = omega arith;
      within = does.3;
    }

past_found : (opener : Opener) (mode : Mode) (behind : List ℕ) (go : ℕ → BytePlace → Read) (r : Read) (piece : Piece) (taken : ℕ) → piece_found opener behind r ≡ Ok (piece, taken) →
    past_opened opener mode behind go r ≡ put (piece_before piece) (go taken (Text mode))
past_found opener mode behind go (Ok rest) piece taken e =
    let h : Ok (opened_piece opener behind rest.close, suc rest.close) ≡ Ok (piece, taken) = e in
    let k : (opened_piece opener behind rest.close, suc rest.close) ≡ (piece, taken) = cc in
    ap (λ (x : Piece × ℕ). put (piece_before x.0) (go x.1 (Text mode))) k
past_found opener mode behind go (Err fault) piece taken e = absurd (let h : piece_found opener behind (Err fault) ≡ Ok (piece, taken) = e in cc)

past_failed : (opener : Opener) (mode : Mode) (behind : List ℕ) (go : ℕ → BytePlace → Read) (r : Read) (fault : ParseFault) → piece_found opener behind r ≡ Err fault → past_opened opener mode behind go r ≡ Err fault
past_failed opener mode behind go (Ok rest) fault e = absurd (let h : piece_found opener behind (Ok rest) ≡ Err fault = e in cc)
past_failed opener mode behind go (Err other) fault e = let h : piece_found opener behind (Err other) ≡ Err fault = e in let k : other ≡ fault = cc in ap (λ f. Err f) k

goes_past : (room at : ℕ) (opener : Opener) (mode : Mode) (behind : List ℕ) (go : ℕ → BytePlace → Read) (piece : Piece) (taken : ℕ) → opened_of room opener behind ≡ Ok (piece, taken) →
    past (Ok (Within opener mode)) room at behind go (λ room skip next. rest_of behind (within room) skip next 0) ≡ put (piece_before piece) (go taken (Text mode))
goes_past zero at opener mode behind go piece taken e = absurd (let h : opened_of zero opener behind ≡ Ok (piece, taken) = e in cc)
goes_past (suc room) at opener mode behind go piece taken e = past_found opener mode behind go (rest_of behind (within room) (first_skip opener) (opened_place opener) 0) piece taken e

fails_past : (room at : ℕ) (opener : Opener) (mode : Mode) (behind : List ℕ) (go : ℕ → BytePlace → Read) (fault : ParseFault) → opened_of room opener behind ≡ Err fault →
    past (Ok (Within opener mode)) room at behind go (λ room skip next. rest_of behind (within room) skip next 0) ≡ Err fault
fails_past zero at opener mode behind go fault e = let h : opened_of zero opener behind ≡ Err fault = e in let k : TooLong ≡ fault = cc in ap (λ f. Err f) k
fails_past (suc room) at opener mode behind go fault e = past_failed opener mode behind go (rest_of behind (within room) (first_skip opener) (opened_place opener) 0) fault e

pub quoted_within : (room : ℕ) (s : List ℕ) (at b : ℕ) (kind : Kind) (opener : Opener) (mode : Mode) (old new : Parts) (piece : Piece) (taken : ℕ) → Byte s at b kind → kind ≢ Quote →
    DoesMove old new s at (Text Parens) (in_text Parens kind b (drop (at + 1) s)) (Ok (Within opener mode)) → opened_of room opener (drop (at + 1) s) ≡ Ok (piece, taken) → IsCharBoundary s (at + 1 + taken) →
    ReadsOn room s old at (with_piece new piece (at + 1 + taken)) (at + 1 + taken)
unfolding past_quoted
quoted_within room s at b kind opener mode old new piece taken byte other does found cut =
    let place : Text mode ≡ Text Parens = place_is (Text mode) does.4 in
    let rest : Read = quoted_rest room (drop (at + 1) s) taken (at + 1) in
    let move : ByteMove = in_text Parens kind b (drop (at + 1) s) in
    record {
      same =
          ap (joined_parts (with_piece new piece (at + 1 + taken)) s (Text Parens) (at + 1 + taken)) (sym (from_here room s at taken cut.0))
          ∙ ap (λ x. joined_parts (with_piece new piece (at + 1 + taken)) s x (at + 1 + taken) rest) (sym place)
          ∙ sym (does.1 piece (at + 1 + taken) rest)
          ∙ ap (λ r. joined_parts old s (Text Parens) at (put (changed move.changes) r)) (sym (goes_past room at opener mode (drop (at + 1) s) (λ skip next. quoted_rest room (drop (at + 1) s) skip (at + 1)) piece taken found))
          ∙ ap (joined_parts old s (Text Parens) at) (sym (quoted_by room s at b kind (Ok (Within opener mode)) byte other does.0));
      fine = record { before = omega arith; boundary = cut; short = (let none : length new.literal ≡ 0 = ap length does.2 in omega (arith, none)) };
      further = omega arith;
      within = cut.0;
    }

pub quoted_fails : (room : ℕ) (s : List ℕ) (at b : ℕ) (kind : Kind) (fault : ParseFault) → Byte s at b kind → kind ≢ Quote → (in_text Parens kind b (drop (at + 1) s)).step ≡ Err fault → quoted_rest room (drop at s) 0 at ≡ Err fault
unfolding past_quoted
quoted_fails room s at b kind fault byte other e = quoted_by room s at b kind (Err fault) byte other e

pub quoted_opens : (room : ℕ) (s : List ℕ) (at b : ℕ) (kind : Kind) (opener : Opener) (mode : Mode) (fault : ParseFault) → Byte s at b kind → kind ≢ Quote → (in_text Parens kind b (drop (at + 1) s)).step ≡ Ok (Within opener mode) →
    opened_of room opener (drop (at + 1) s) ≡ Err fault → quoted_rest room (drop at s) 0 at ≡ Err fault
unfolding past_quoted
quoted_opens room s at b kind opener mode fault byte other e failed =
    quoted_by room s at b kind (Ok (Within opener mode)) byte other e
    ∙ ap (put (changed (in_text Parens kind b (drop (at + 1) s)).changes)) (fails_past room at opener mode (drop (at + 1) s) (λ skip next. quoted_rest room (drop (at + 1) s) skip (at + 1)) fault failed)

closes_with : (p : Parts) (s : List ℕ) (at : ℕ) → joined_parts p s (Text Parens) at (Ok (last_rest at)) ≡ Ok (index_whole (with_literal p s at).pieces at)
closes_with p s at = simp append-nil

pub quoted_opening : (room : ℕ) (s : List ℕ) (at b : ℕ) (kind : Kind) (opener : Opener) (mode : Mode) (fault : ParseFault) → Byte s at b kind → kind ≢ Quote → (in_text Parens kind b (drop (at + 1) s)).step ≡ Ok (Within opener mode) →
    (opened_of room opener (drop (at + 1) s) ≡ Err fault) ⊎ (fault ≡ NoMemory) → (quoted_rest room (drop at s) 0 at ≡ Err fault) ⊎ (fault ≡ NoMemory)
quoted_opening room s at b kind opener mode fault byte other e (inl failed) = inl (quoted_opens room s at b kind opener mode fault byte other e failed)
quoted_opening room s at b kind opener mode fault byte other e (inr refused) = inr refused

-- the quote that ends the text
quoted_closes : (room : ℕ) (s : List ℕ) (at b : ℕ) (kind : Kind) (p : Parts) → Byte s at b kind → kind ≡ Quote → quoted_whole room s p at ≡ Ok (index_whole (with_literal p s at).pieces at)
quoted_closes room s at b kind p byte e =
    ap (joined_parts p s (Text Parens) at)
    (quoted_next room s at b kind byte ∙ quote_ends kind at (put (changed (in_text Parens kind b (drop (at + 1) s)).changes) (past_quoted room s at (in_text Parens kind b (drop (at + 1) s)).step)) e)
    ∙ closes_with p s at

found_pieces : (s : List ℕ) (r : Read) (pieces : List Piece) (close : ℕ) → joined_parts (no_parts 0) s (Text Parens) 0 r ≡ Ok (index_whole pieces close) → pieces_found r ≡ Ok (pieces, suc close)
found_pieces s (Ok rest) pieces close e =
    let text : List ℕ = ([] ++ slice_range s 0 0) ++ rest.bytes in
    let is : index_whole ([] ++ literal_before text rest.pieces) rest.close ≡ index_whole pieces close = (let h : Ok (index_whole ([] ++ literal_before text rest.pieces) rest.close) ≡ Ok (index_whole pieces close) = e in cc) in
    let own : literal_before rest.bytes rest.pieces ≡ pieces = ap (λ u. literal_before (u ++ rest.bytes) rest.pieces) (sym (slice_none s 0)) ∙ ap (λ w. w.pieces) is in
    ap (λ x. Ok (x, suc rest.close)) own ∙ ap (λ k. Ok (pieces, suc k)) (ap (λ w. w.close) is)
found_pieces s (Err fault) pieces close e = absurd (let h : joined_parts (no_parts 0) s (Text Parens) 0 (Err fault) ≡ Ok (index_whole pieces close) = e in cc)

failed_pieces : (s : List ℕ) (r : Read) (fault : ParseFault) → joined_parts (no_parts 0) s (Text Parens) 0 r ≡ Err fault → pieces_found r ≡ Err fault
failed_pieces s (Ok rest) fault e = absurd (let h : joined_parts (no_parts 0) s (Text Parens) 0 (Ok rest) ≡ Err fault = e in cc)
failed_pieces s (Err other) fault e = let h : joined_parts (no_parts 0) s (Text Parens) 0 (Err other) ≡ Err fault = e in let k : other ≡ fault = cc in ap (λ f. Err f) k

pub quoted_found : (room : ℕ) (s : List ℕ) (at b : ℕ) (kind : Kind) (p : Parts) → Byte s at b kind → kind ≡ Quote → quoted_whole room s p at ≡ quoted_whole room s (no_parts 0) 0 →
    quoted_of room s ≡ Ok ((with_literal p s at).pieces, at + 1)
quoted_found room s at b kind p byte e same =
    let n : suc at ≡ at + 1 = omega arith in
    found_pieces s (quoted_rest room s 0 0) (with_literal p s at).pieces at (sym same ∙ quoted_closes room s at b kind p byte e) ∙ ap (λ k. Ok ((with_literal p s at).pieces, k)) n

pub quoted_failed : (room : ℕ) (s : List ℕ) (at : ℕ) (p : Parts) (fault : ParseFault) → quoted_rest room (drop at s) 0 at ≡ Err fault → quoted_whole room s p at ≡ quoted_whole room s (no_parts 0) 0 → quoted_of room s ≡ Err fault
quoted_failed room s at p fault e same = failed_pieces s (quoted_rest room s 0 0) fault (sym same ∙ ap (joined_parts p s (Text Parens) at) e)

drop_all : (xs : List ℕ) (n : ℕ) → length xs ≤ n → drop n xs ≡ []
drop_all [] zero h = refl
drop_all [] (suc n) h = refl
drop_all (x ∷ xs) zero h = absurd (omega (arith, h))
drop_all (x ∷ xs) (suc n) h = drop_all xs n (omega (arith, h))

pub quoted_unended : (room : ℕ) (s : List ℕ) (at : ℕ) (p : Parts) → length s ≤ at → quoted_whole room s p at ≡ quoted_whole room s (no_parts 0) 0 → quoted_of room s ≡ Err MissingQuote
quoted_unended room s at p end same = quoted_failed room s at p MissingQuote (ap (λ t. quoted_rest room t 0 at) (drop_all s at end)) same
