-- Reading as the code does it: a byte further, into what opens, and out of what ends.
use Rattle.std.proofs.Common.{◌≡◌, ℕ, zero, suc, ◌+◌, ◌-◌, ◌<◌, ◌≤◌, ◌⊎◌, Bool, true, false, List, [], ◌∷◌, ◌++◌, length, drop, take, get_or, slice_index, refl, sym, ap, subst, ◌∙◌, arith, Ok, Err, inl, inr}
use Rattle.std.specs.List.{slice_range}
use Rattle.std.specs.Str.{IsCharBoundary, IsUtf8}
use Rattle.std.proofs.lemmas.List.{drop-drop, length-drop, get_or-drop, length-take}
use Rattle.std.proofs.lemmas.Str.{IsCharBoundary-start, IsCharBoundary-from_rest, IsUtf8-take, IsUtf8-drop}
use Rattle.tcl_words.specs.Classes.{class_of}
use Rattle.tcl_words.specs.Changes.{Read}
use Rattle.tcl_words.specs.declared.script.Command.{Command}
use Rattle.tcl_words.specs.Moves.{move_at}
use Rattle.tcl_words.specs.Reading.{Level, rest_of, read_at_end, within, opened_place, first_skip, opened_piece, commands_in, index_pieces_of, outermost}
use Rattle.tcl_words.specs.Parts.{Parts, joined_parts, no_parts, with_piece, script_whole, is_index, ended, DoesMove, IsFine, IsOpenerCut, name_before}
use Rattle.tcl_words.specs.Chain.{outset, origin_level, own, opened, waits_for, IsWaiting, IsChain, IsReading, IsOpening, IsClosing, IsParse}
use Rattle.tcl_words.specs.declared.kind.BytePlace.{BytePlace}
use Rattle.tcl_words.specs.declared.kind.BytePlace.TheVariants.{Start, Comment, Between, Expanded, Text, PastQuotes, InBraces, PastBraces}
use Rattle.tcl_words.specs.declared.kind.Mode.{Mode}
use Rattle.tcl_words.specs.declared.kind.Mode.TheVariants.{Bare, Quotes, Parens}
use Rattle.tcl_words.specs.declared.kind.Opener.{Opener}
use Rattle.tcl_words.specs.declared.kind.Opener.TheVariants.{Bracket, Index}
use Rattle.tcl_words.specs.declared.kind.Step.{Step}
use Rattle.tcl_words.specs.declared.kind.Step.TheVariants.{On, Within, Ends}
use Rattle.tcl_words.specs.declared.nesting.Origin.{Origin}
use Rattle.tcl_words.specs.declared.nesting.Waiting.{Waiting}
use Rattle.tcl_words.specs.declared.script.Piece.{Piece}
use Rattle.tcl_text.specs.declared.fault.ParseFault.{ParseFault}
use Rattle.tcl_text.specs.declared.fault.ParseFault.TheVariants.{NoMemory}
use Rattle.tcl_words.proofs.Closers.{none_outside}
use Rattle.tcl_words.proofs.Inners.{script_alone, index_alone}
use Rattle.tcl_words.proofs.Texts.{commands_of-read}
use Rattle.tcl_words.proofs.Nests.{chain_push, chain_pop, chain_fault, rest_skip, on_read, fault_read, end_read, full_read, link_made, resume_read}

-- a place of a text, counted from its start and from a base
pub from_base : (s : List ℕ) (base at : ℕ) → base ≤ length s → IsCharBoundary (drop base s) at → IsCharBoundary s (base + at)
from_base s base at within cut = IsCharBoundary-from_rest s base at within cut

pub to_base : (s : List ℕ) (base at : ℕ) → base ≤ length s → IsCharBoundary s (base + at) → IsCharBoundary (drop base s) at
to_base s base at within cut =
    let byte : get_or (drop base s) at 0 ≡ get_or s (base + at) 0 = get_or-drop base s at 0 in
    let most : base + at ≤ length s = cut.0 in
    (omega (arith, most, length-drop base s), λ lt high. let k : 192 ≤ get_or s (base + at) 0 = cut.1 (omega (arith, lt, length-drop base s)) (omega (arith, high, byte)) in omega (arith, k, byte))

pub moved_cut : (s : List ℕ) (i j : ℕ) → i ≡ j → IsCharBoundary s i → IsCharBoundary s j
moved_cut s i j e cut = subst (IsCharBoundary s) e cut

-- ── a byte further ──

pub read_on : {first : Origin} (s : List ℕ) (ws : List Waiting) (o : Origin) (p new : Parts) (place next : BytePlace) (n skip : ℕ) → IsReading first s ws o p place n → n < length (drop o.base s) →
    DoesMove p new (drop o.base s) n place (move_at (drop o.base s) n o.inside place) (Ok (On skip next)) → IsReading first s ws o new next (n + 1 + skip) × (o.base + n < o.base + (n + 1 + skip))
read_on s ws o p new place next n skip r here does = (
  record {
    chain = r.chain;
    reads = on_read p new (drop o.base s) (origin_level o) place next n skip (own s o) here r.reads does;
    fine = does.2;
    base = r.base;
    within = (let k : n + 1 + skip ≤ length (drop o.base s) = does.3 in let b : o.base ≤ length s = r.base.0 in omega (arith, k, b, length-drop o.base s));
    index = does.4 ∙ r.index;
    room = r.room;
  },
  omega arith,
)

pub read_fault : {first : Origin} (s : List ℕ) (ws : List Waiting) (o : Origin) (p new : Parts) (place : BytePlace) (n : ℕ) (fault : ParseFault) → IsReading first s ws o p place n → n < length (drop o.base s) →
    DoesMove p new (drop o.base s) n place (move_at (drop o.base s) n o.inside place) (Err fault) → (own s first ≡ Err fault) ⊎ (fault ≡ NoMemory)
read_fault {first} s ws o p new place n fault r here (inl e) = inl (chain_fault s first o ws fault r.chain (fault_read p (drop o.base s) (origin_level o) place n (own s o) fault here r.reads e))
read_fault {first} s ws o p new place n fault r here (inr e) = inr e

opener_cut : (s : List ℕ) (base at : ℕ) (opener : Opener) → base ≤ length s → IsOpenerCut (drop base s) at opener → IsOpenerCut s (base + at) opener
opener_cut s base at opener within cut =
    let e : base + (at + 1) ≡ base + at + 1 = omega arith in
    let f : base + (at + 1 + name_before opener) ≡ base + at + 1 + name_before opener = omega arith in
    let g : base + (at + 1 + first_skip opener) ≡ base + at + 1 + first_skip opener = omega arith in
    record {
      behind = moved_cut s _ _ e (from_base s base (at + 1) within cut.behind);
      name = moved_cut s _ _ f (from_base s base (at + 1 + name_before opener) within cut.name);
      first = moved_cut s _ _ g (from_base s base (at + 1 + first_skip opener) within cut.first);
    }

pub read_opening : {first : Origin} (s : List ℕ) (ws : List Waiting) (o : Origin) (p new : Parts) (place : BytePlace) (n : ℕ) (opener : Opener) (mode : Mode) → IsReading first s ws o p place n → n < length (drop o.base s) →
    DoesMove p new (drop o.base s) n place (move_at (drop o.base s) n o.inside place) (Ok (Within opener mode)) → IsOpening first s ws o new n opener mode
read_opening s ws o p new place n opener mode r here does = record {
  chain = r.chain;
  waits = λ some. record {
    resumes = link_made s o p new place n opener mode here r.reads does some;
    literal = does.2;
    index = does.4 ∙ r.index;
    base = r.base;
    cut = opener_cut s o.base n opener r.base.0 does.3;
    room = r.room;
  };
  full = λ none. full_read p (drop o.base s) (origin_level o) place n opener mode (own s o) here r.reads does.0 none;
  room = r.room;
  cut = opener_cut s o.base n opener r.base.0 does.3;
}

inside_ends : (inside : Bool) (s : List ℕ) (place : BytePlace) (n : ℕ) → (move_at s n inside place).step ≡ Ok Ends → inside ≡ true
inside_ends true s place n e = refl
inside_ends false s place n e = absurd (none_outside (class_of (slice_index s n)) place (slice_index s n) n (drop (n + 1) s) e)

pub read_ending : {first : Origin} (s : List ℕ) (ws : List Waiting) (o : Origin) (p new : Parts) (place : BytePlace) (n : ℕ) → IsReading first s ws o p place n → n < length (drop o.base s) →
    DoesMove p new (drop o.base s) n place (move_at (drop o.base s) n o.inside place) (Ok Ends) → IsClosing first s ws o new place n
read_ending s ws o p new place n r here does =
    let e : o.base + (n + 1) ≡ o.base + n + 1 = omega arith in
    record {
      chain = r.chain;
      inside = inside_ends o.inside (drop o.base s) place n does.0;
      ends = end_read p new (drop o.base s) (origin_level o) place n (own s o) here r.reads does;
      index = r.index;
      here = from_base s o.base n r.base.0 does.2;
      past = moved_cut s _ _ e (from_base s o.base (n + 1) r.base.0 does.3);
    }

-- ── into what opens ──

pub first_fine : (s : List ℕ) (opener : Opener) → IsCharBoundary s (first_skip opener) → IsFine (no_parts (first_skip opener)) s (opened_place opener) (first_skip opener)
first_fine s Bracket cut = cut
first_fine s (Index n) cut = record { before = omega arith; boundary = cut; short = omega arith }

pub opening_reads : {first : Origin} (s : List ℕ) (ws : List Waiting) (o : Origin) (p : Parts) (n : ℕ) (opener : Opener) (mode : Mode) → IsOpening first s ws o p n opener mode → 0 < o.room →
    IsReading first s (ws ++ waits_for o p n opener mode ∷ []) (opened o n opener) (no_parts (first_skip opener)) (opened_place opener) (first_skip opener) × (o.base + n < o.base + (n + 1) + first_skip opener)
opening_reads {first} s ws o p n opener mode r some =
    let e : o.base + n + 1 ≡ o.base + (n + 1) = omega arith in
    let f : o.base + n + 1 + first_skip opener ≡ o.base + (n + 1) + first_skip opener = omega arith in
    let base : IsCharBoundary s (o.base + (n + 1)) = moved_cut s _ _ e r.cut.behind in
    let begins : IsCharBoundary s (o.base + (n + 1) + first_skip opener) = moved_cut s _ _ f r.cut.first in
    let cut : IsCharBoundary (drop (o.base + (n + 1)) s) (first_skip opener) = to_base s (o.base + (n + 1)) (first_skip opener) base.0 begins in
    let k : 0 + first_skip opener ≡ first_skip opener = omega arith in
    let level : Level = origin_level (opened o n opener) in
    let rest : rest_of (drop (o.base + (n + 1)) s) level (first_skip opener) (opened_place opener) 0 ≡ rest_of (drop (first_skip opener) (drop (o.base + (n + 1)) s)) level 0 (opened_place opener) (first_skip opener) =
    rest_skip (drop (o.base + (n + 1)) s) level (first_skip opener) (opened_place opener) 0 cut.0 ∙ ap (rest_of (drop (first_skip opener) (drop (o.base + (n + 1)) s)) level 0 (opened_place opener)) k in (
      record {
        chain = chain_push s first o ws (waits_for o p n opener mode) r.chain refl (r.waits some);
        reads = ap (joined_parts (no_parts (first_skip opener)) (drop (o.base + (n + 1)) s) (opened_place opener) (first_skip opener)) (sym rest);
        fine = first_fine (drop (o.base + (n + 1)) s) opener cut;
        base = base;
        within = begins.0;
        index = refl;
        room = (let h : o.room ≤ 200 = r.room in omega (arith, h));
      },
      omega arith,
    )

-- ── out of what ends ──

pub ended_close : (place : BytePlace) (p : Parts) (n : ℕ) → (ended place p n).close ≡ n
ended_close Start p n = refl
ended_close Comment p n = refl
ended_close Between p n = refl
ended_close Expanded p n = refl
ended_close (Text Bare) p n = refl
ended_close (Text Quotes) p n = refl
ended_close (Text Parens) p n = refl
ended_close PastQuotes p n = refl
ended_close (InBraces depth) p n = refl
ended_close PastBraces p n = refl

ended_script : (place : BytePlace) (p : Parts) (n : ℕ) → is_index place ≡ false → (ended place p n).commands ≡ p.commands
ended_script Start p n e = refl
ended_script Comment p n e = refl
ended_script Between p n e = refl
ended_script Expanded p n e = refl
ended_script (Text Bare) p n e = refl
ended_script (Text Quotes) p n e = refl
ended_script (Text Parens) p n e = absurd (let h : true ≡ false = e in cc)
ended_script PastQuotes p n e = refl
ended_script (InBraces depth) p n e = refl
ended_script PastBraces p n e = refl

ended_index : (place : BytePlace) (p : Parts) (n : ℕ) → is_index place ≡ true → (ended place p n).pieces ≡ p.pieces
ended_index Start p n e = absurd (let h : false ≡ true = e in cc)
ended_index Comment p n e = absurd (let h : false ≡ true = e in cc)
ended_index Between p n e = absurd (let h : false ≡ true = e in cc)
ended_index Expanded p n e = absurd (let h : false ≡ true = e in cc)
ended_index (Text Bare) p n e = absurd (let h : false ≡ true = e in cc)
ended_index (Text Quotes) p n e = absurd (let h : false ≡ true = e in cc)
ended_index (Text Parens) p n e = refl
ended_index PastQuotes p n e = absurd (let h : false ≡ true = e in cc)
ended_index (InBraces depth) p n e = absurd (let h : false ≡ true = e in cc)
ended_index PastBraces p n e = absurd (let h : false ≡ true = e in cc)

pub parse_found : (opener : Opener) (s : List ℕ) (o : Origin) (at n : ℕ) (place : BytePlace) (p : Parts) → IsUtf8 s → length s ≤ 65536 → o.room ≤ 200 → own s (opened o at opener) ≡ Ok (ended place p n) → is_index place ≡ is_index (opened_place opener) →
    IsCharBoundary s (o.base + (at + 1)) → IsCharBoundary s (o.base + (at + 1) + n) → IsParse opener (drop (o.base + (at + 1)) s) n p × (suc n ≤ length (drop (o.base + (at + 1)) s))
parse_found Bracket s o at n place p utf8 short room e index base here =
    let text : List ℕ = drop (o.base + (at + 1)) s in
    let found = script_alone text (o.room - 1) (ended place p n) (omega (arith, room)) e in
    let close : (ended place p n).close ≡ n = ended_close place p n in
    let inner_utf8 : IsUtf8 (take n text) = IsUtf8-take text n (IsUtf8-drop s (o.base + (at + 1)) utf8 base) (to_base s (o.base + (at + 1)) n base.0 here) in
    let inner_short : length (take n text) ≤ 65536 = omega (arith, short, length-take n text, length-drop (o.base + (at + 1)) s) in (
      commands_of-read (take n text) inner_short inner_utf8 ∙ ap (λ k. commands_in (rest_of (take k text) outermost 0 Start 0)) (sym close) ∙ found.0 ∙ ap (λ c. Ok c) (ended_script place p n index),
      (let h : suc (ended place p n).close ≤ length text = found.1 in omega (arith, h, close)),
    )
parse_found (Index m) s o at n place p utf8 short room e index base here =
    let text : List ℕ = drop (o.base + (at + 1)) s in
    let found = index_alone text m (o.room - 1) (ended place p n) (omega (arith, room)) e in
    let close : (ended place p n).close ≡ n = ended_close place p n in (
      (
        ap (λ k. index_pieces_of (slice_range text (suc m) k)) (sym close) ∙ found.0 ∙ ap (λ c. Ok c) (ended_index place p n index),
        (let h : suc m ≤ (ended place p n).close = found.1 in omega (arith, h, close)),
      ),
      (let h : suc (ended place p n).close ≤ length text = found.2 in omega (arith, h, close)),
    )

-- what waits for what has ended
pub record Popped (first : Origin) (s : List ℕ) (ws : List Waiting) (w : Waiting) (p : Parts) (n : ℕ) : Type 0 where
  pub chain : IsChain s first ws w.origin
  pub waits : IsWaiting s w
  pub parse : IsParse w.opener (drop (w.origin.base + w.at + 1) s) n p
  pub ends : IsCharBoundary s (w.origin.base + w.at + 1 + n)
  pub past : IsCharBoundary s (w.origin.base + w.at + 1 + n + 1)

pub popped : {first : Origin} (s : List ℕ) (ws : List Waiting) (w : Waiting) (o : Origin) (p : Parts) (place : BytePlace) (n : ℕ) → IsUtf8 s → length s ≤ 65536 → IsClosing first s (ws ++ w ∷ []) o p place n → Popped first s ws w p n
popped {first} s ws w o p place n utf8 short r =
    let q : IsChain s first ws w.origin × IsWaiting s w × (opened w.origin w.at w.opener ≡ o) = chain_pop s first o ws w r.chain in
    let waiting : IsWaiting s w = q.1 in
    let ends : own s (opened w.origin w.at w.opener) ≡ Ok (ended place p n) = ap (own s) q.2 ∙ r.ends in
    let index : is_index place ≡ is_index (opened_place w.opener) = r.index ∙ ap (λ x. is_index x.place) (sym q.2) in
    let base : w.origin.base + (w.at + 1) ≡ o.base = ap (λ x. x.base) q.2 in
    let e : w.origin.base + w.at + 1 ≡ w.origin.base + (w.at + 1) = omega arith in
    let behind : IsCharBoundary s (w.origin.base + (w.at + 1)) = moved_cut s _ _ e waiting.cut.behind in
    let f : o.base + n ≡ w.origin.base + (w.at + 1) + n = omega (arith, base) in
    let here : IsCharBoundary s (w.origin.base + (w.at + 1) + n) = moved_cut s _ _ f r.here in
    let g : w.origin.base + (w.at + 1) + n ≡ w.origin.base + w.at + 1 + n = omega arith in
    let k : o.base + n + 1 ≡ w.origin.base + w.at + 1 + n + 1 = omega (arith, base) in
    let found = parse_found w.opener s w.origin w.at n place p utf8 short waiting.room ends index behind here in
    record {
      chain = q.0;
      waits = waiting;
      parse = subst (λ x. IsParse w.opener (drop x s) n p) (sym e) found.0;
      ends = moved_cut s _ _ g here;
      past = moved_cut s _ _ k r.past;
    }

pub ending_reads : {first : Origin} (s : List ℕ) (ws : List Waiting) (w : Waiting) (o : Origin) (p : Parts) (place : BytePlace) (n : ℕ) → IsUtf8 s → length s ≤ 65536 → IsClosing first s (ws ++ w ∷ []) o p place n →
    IsReading first s ws w.origin (with_piece w.parts (opened_piece w.opener (drop (w.origin.base + w.at + 1) s) n) (w.at + 1 + n + 1)) (Text w.mode) (w.at + 1 + n + 1) × (o.base + n < w.origin.base + (w.at + 1 + n + 1))
ending_reads {first} s ws w o p place n utf8 short r =
    let q : IsChain s first ws w.origin × IsWaiting s w × (opened w.origin w.at w.opener ≡ o) = chain_pop s first o ws w r.chain in
    let waiting : IsWaiting s w = q.1 in
    let ends : own s (opened w.origin w.at w.opener) ≡ Ok (ended place p n) = ap (own s) q.2 ∙ r.ends in
    let base : w.origin.base + (w.at + 1) ≡ o.base = ap (λ x. x.base) q.2 in
    let close : (ended place p n).close ≡ n = ended_close place p n in
    let end : w.at + 1 + suc (ended place p n).close ≡ w.at + 1 + n + 1 = omega (arith, close) in
    let text : drop (w.at + 1) (drop w.origin.base s) ≡ drop (w.origin.base + w.at + 1) s = drop-drop (w.at + 1) w.origin.base s ∙ ap (λ k. drop k s) (let e : w.origin.base + (w.at + 1) ≡ w.origin.base + w.at + 1 = omega arith in e) in
    let past : o.base + n + 1 ≤ length s = r.past.0 in
    let room : suc (ended place p n).close ≤ length (drop (w.at + 1) (drop w.origin.base s)) = omega (arith, past, base, close, length-drop (w.at + 1) (drop w.origin.base s), length-drop w.origin.base s) in
    let k : o.base + n + 1 ≡ w.origin.base + (w.at + 1 + n + 1) = omega (arith, base) in
    let cut : IsCharBoundary s (w.origin.base + (w.at + 1 + n + 1)) = moved_cut s _ _ k r.past in
    let piece : opened_piece w.opener (drop (w.at + 1) (drop w.origin.base s)) (ended place p n).close ≡ opened_piece w.opener (drop (w.origin.base + w.at + 1) s) n =
    ap (λ t. opened_piece w.opener t (ended place p n).close) text ∙ ap (opened_piece w.opener (drop (w.origin.base + w.at + 1) s)) close in (
      record {
        chain = q.0;
        reads =
            ap (λ x. joined_parts (with_piece w.parts x (w.at + 1 + n + 1)) (drop w.origin.base s) (Text w.mode) (w.at + 1 + n + 1) (rest_of (drop (w.at + 1 + n + 1) (drop w.origin.base s)) (origin_level w.origin) 0 (Text w.mode) (w.at + 1 + n + 1))) (sym piece)
            ∙ ap (λ x. joined_parts (with_piece w.parts (opened_piece w.opener (drop (w.at + 1) (drop w.origin.base s)) (ended place p n).close) x) (drop w.origin.base s) (Text w.mode) x (rest_of (drop x (drop w.origin.base s)) (origin_level w.origin) 0 (Text w.mode) x)) (sym end)
            ∙ resume_read s w (ended place p n) waiting ends room;
        fine = record { before = omega arith; boundary = to_base s w.origin.base (w.at + 1 + n + 1) waiting.base.0 cut; short = (let none : length w.parts.literal ≡ 0 = ap length waiting.literal in omega (arith, none)) };
        base = waiting.base;
        within = cut.0;
        index = waiting.index;
        room = waiting.room;
      },
      omega (arith, base),
    )

-- ── as the code has them ──

pub opening_as : {first : Origin} (s : List ℕ) (ws : List Waiting) (o : Origin) (p : Parts) (n : ℕ) (opener : Opener) (mode : Mode) (ws' : List Waiting) (o' : Origin) (p' q : Parts) → IsOpening first s ws o p n opener mode → 0 < o.room →
    ws' ≡ ws ++ waits_for o q n opener mode ∷ [] → q ≡ p → o' ≡ opened o n opener → p' ≡ no_parts o'.skip → IsReading first s ws' o' p' o'.place o'.skip × (o.base + n < o'.base + o'.skip)
opening_as s ws o p n opener mode ws' o' p' q r some ew eq eo ep = rw (ep, eo, ew, eq) (opening_reads s ws o p n opener mode r some)

pub popped_as : {first : Origin} (s : List ℕ) (ws ws' : List Waiting) (w : Waiting) (o : Origin) (p : Parts) (place : BytePlace) (n : ℕ) → ws ≡ ws' ++ w ∷ [] → IsUtf8 s → length s ≤ 65536 → IsClosing first s ws o p place n → Popped first s ws' w p n
popped_as {first} s ws ws' w o p place n e utf8 short r = popped s ws' w o p place n utf8 short (subst (λ x. IsClosing first s x o p place n) e r)

pub ending_as : {first : Origin} (s : List ℕ) (ws ws' : List Waiting) (w : Waiting) (o : Origin) (p : Parts) (place : BytePlace) (n : ℕ) (p' dest : Parts) (x : Piece) → ws ≡ ws' ++ w ∷ [] → IsUtf8 s → length s ≤ 65536 → IsClosing first s ws o p place n →
    p' ≡ with_piece dest x (w.at + 1 + n + 1) → dest ≡ w.parts → x ≡ opened_piece w.opener (drop (w.origin.base + w.at + 1) s) n →
    IsReading first s ws' w.origin p' (Text w.mode) (w.at + 1 + n + 1) × (o.base + n < w.origin.base + (w.at + 1 + n + 1))
ending_as {first} s ws ws' w o p place n p' dest x e utf8 short r ep ed ex = rw (ep, ed, ex) (ending_reads s ws' w o p place n utf8 short (subst (λ y. IsClosing first s y o p place n) e r))

pub step_as : (p new : Parts) (t t' : List ℕ) (n : ℕ) (inside : Bool) (place : BytePlace) (step step' : Step) → t ≡ t' → step ≡ step' → DoesMove p new t n place (move_at t n inside place) (Ok step) → DoesMove p new t' n place (move_at t' n inside place) (Ok step')
step_as p new t t' n inside place step step' e f does =
    subst (λ x. DoesMove p new t' n place (move_at t' n inside place) (Ok x)) f (subst (λ x. DoesMove p new x n place (move_at x n inside place) (Ok step)) e does)

-- ── the start and the end of the source ──

pub first_reading : (s : List ℕ) → IsUtf8 s → IsReading outset s [] outset (no_parts 0) Start 0
first_reading s utf8 = record {
  chain = refl;
  reads = refl;
  fine = IsCharBoundary-start s utf8;
  base = IsCharBoundary-start s utf8;
  within = omega arith;
  index = refl;
  room = omega arith;
}

found_fault : (s : List ℕ) (fault : ParseFault) (r : Read) → joined_parts (no_parts 0) s Start 0 r ≡ Err fault → commands_in r ≡ Err fault
found_fault s fault (Ok rest) e = absurd (let h : joined_parts (no_parts 0) s Start 0 (Ok rest) ≡ Err fault = e in cc)
found_fault s fault (Err other) e = let h : joined_parts (no_parts 0) s Start 0 (Err other) ≡ Err fault = e in cc

pub outset_fault : (s : List ℕ) (fault : ParseFault) → own s outset ≡ Err fault → commands_in (rest_of s outermost 0 Start 0) ≡ Err fault
outset_fault s fault e = found_fault s fault (rest_of s outermost 0 Start 0) e

pub outset_faults : (s : List ℕ) (fault : ParseFault) → (own s outset ≡ Err fault) ⊎ (fault ≡ NoMemory) → (commands_in (rest_of s outermost 0 Start 0) ≡ Err fault) ⊎ (fault ≡ NoMemory)
outset_faults s fault (inl e) = inl (outset_fault s fault e)
outset_faults s fault (inr e) = inr e

found_commands : (s : List ℕ) (commands : List Command) (close : ℕ) (r : Read) → joined_parts (no_parts 0) s Start 0 r ≡ Ok (script_whole commands close) → commands_in r ≡ Ok commands
found_commands s commands close (Ok rest) e =
    let is : script_whole ([] ++ rest.commands) rest.close ≡ script_whole commands close = (let h : Ok (script_whole ([] ++ rest.commands) rest.close) ≡ Ok (script_whole commands close) = e in cc) in
    ap (λ w. Ok w.commands) is
found_commands s commands close (Err fault) e = absurd (let h : joined_parts (no_parts 0) s Start 0 (Err fault) ≡ Ok (script_whole commands close) = e in cc)

drop_all : (xs : List ℕ) (n : ℕ) → length xs ≤ n → drop n xs ≡ []
drop_all [] zero h = refl
drop_all [] (suc n) h = refl
drop_all (x ∷ xs) zero h = absurd (omega (arith, h))
drop_all (x ∷ xs) (suc n) h = drop_all xs n (omega (arith, h))

-- where nothing is left to read
pub end_reads : {first : Origin} (s : List ℕ) (ws : List Waiting) (o : Origin) (p : Parts) (place : BytePlace) (n : ℕ) → IsReading first s ws o p place n → length s ≤ o.base + n → joined_parts p (drop o.base s) place n (read_at_end o.inside place n) ≡ own s o
end_reads s ws o p place n r end =
    let none : drop n (drop o.base s) ≡ [] = drop_all (drop o.base s) n (omega (arith, end, length-drop o.base s)) in
    ap (λ t. joined_parts p (drop o.base s) place n (rest_of t (origin_level o) 0 place n)) (sym none) ∙ r.reads

pub unfinished_fault : (s : List ℕ) (ws : List Waiting) (o : Origin) (p : Parts) (place : BytePlace) (n : ℕ) (fault : ParseFault) → IsReading outset s ws o p place n → length s ≤ o.base + n → o.inside ≡ true → ((at : ℕ) → read_at_end true place at ≡ Err fault) →
    commands_in (rest_of s outermost 0 Start 0) ≡ Err fault
unfinished_fault s ws o p place n fault r end inside told =
    let here : own s o ≡ Err fault = sym (end_reads s ws o p place n r end) ∙ ap (λ b. joined_parts p (drop o.base s) place n (read_at_end b place n)) inside ∙ ap (joined_parts p (drop o.base s) place n) (told n) in
    outset_fault s fault (chain_fault s outset o ws fault r.chain here)

pub chain_inside : (s : List ℕ) (first o : Origin) (w : Waiting) (ws : List Waiting) → IsChain s first (w ∷ ws) o → o.inside ≡ true
chain_inside s first o w [] chain = ap (λ x. x.inside) (sym chain.2)
chain_inside s first o w (v ∷ ws) chain = chain_inside s (opened w.origin w.at w.opener) o v ws chain.2

outside_first : (s : List ℕ) (ws : List Waiting) (o : Origin) → IsChain s outset ws o → o.inside ≡ false → o ≡ outset
outside_first s [] o chain e = sym chain
outside_first s (w ∷ ws) o chain e = absurd (let h : o.inside ≡ true = chain_inside s outset o w ws chain in let k : true ≡ false = sym h ∙ e in cc)

-- the whole text is read, and nothing waits
pub record Finishing (s : List ℕ) (p : Parts) (place : BytePlace) : Type 0 where
  pub fine : IsFine p s place (length s)
  pub script : is_index place ≡ false
  pub reads : joined_parts p s place (length s) (read_at_end false place (length s)) ≡ own s outset

pub finishing : (s : List ℕ) (ws : List Waiting) (o : Origin) (p : Parts) (place : BytePlace) (n : ℕ) → IsReading outset s ws o p place n → length s ≤ o.base + n → o.inside ≡ false → Finishing s p place
finishing s ws o p place n r end outside =
    let first : o ≡ outset = outside_first s ws o r.chain outside in
    let base : o.base ≡ 0 = ap (λ x. x.base) first in
    let all : n ≡ length s = (let h : o.base + n ≤ length s = r.within in omega (arith, h, end, base)) in
    record {
      fine = subst (λ k. IsFine p s place k) all (subst (λ k. IsFine p (drop k s) place n) base r.fine);
      script = r.index ∙ ap (λ x. is_index x.place) first;
      reads =
          ap (λ k. joined_parts p s place k (read_at_end false place k)) (sym all)
          ∙ ap (λ k. joined_parts p (drop k s) place n (read_at_end false place n)) (sym base)
          ∙ ap (λ b. joined_parts p (drop o.base s) place n (read_at_end b place n)) (sym outside)
          ∙ end_reads s ws o p place n r end
          ∙ ap (own s) first;
    }

pub finished : (s : List ℕ) (p new : Parts) (place : BytePlace) → Finishing s p place → joined_parts p s place (length s) (read_at_end false place (length s)) ≡ Ok (script_whole new.commands (length s)) → commands_in (rest_of s outermost 0 Start 0) ≡ Ok new.commands
finished s p new place f e = found_commands s new.commands (length s) (rest_of s outermost 0 Start 0) (sym f.reads ∙ e)

pub finish_fault : (s : List ℕ) (p : Parts) (place : BytePlace) (fault : ParseFault) → Finishing s p place → (read_at_end false place (length s) ≡ Err fault) ⊎ (fault ≡ NoMemory) → (commands_in (rest_of s outermost 0 Start 0) ≡ Err fault) ⊎ (fault ≡ NoMemory)
finish_fault s p place fault f (inl e) = inl (outset_fault s fault (sym f.reads ∙ ap (joined_parts p s place (length s)) e))
finish_fault s p place fault f (inr e) = inr e
