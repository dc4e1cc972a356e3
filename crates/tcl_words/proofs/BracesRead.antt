-- Braces are read as the grammar says.
use Rattle.std.proofs.Common.{◌⊎◌, inl, inr, ◌≡◌, ◌≢◌, ℕ, suc, ◌+◌, Bool, true, false, List, [], ◌∷◌, ◌++◌, length, refl, sym, ap, ◌∙◌, append-nil, append_assoc, length-append, arith, Ok, Err}
use Rattle.tcl_text.specs.Backslash.{escape, blanks}
use Rattle.tcl_words.specs.Kinds.{class_means}
use Rattle.tcl_words.specs.Classes.{class_of, begins_expansion}
use Rattle.tcl_words.specs.Changes.{Read, put, changed}
use Rattle.tcl_words.specs.Changes.Change.{bytes as put_bytes, text_ends}
use Rattle.tcl_words.specs.Moves.{on, in_braces}
use Rattle.tcl_words.specs.Reading.{Level, rest_of}
use Rattle.tcl_words.specs.Grammar.{begins_space, AreSpaces, IsBraced, IsUnclosed}
use Rattle.tcl_words.specs.Grammar.IsBraced.{none, byte, pair, continuation, braces}
use Rattle.tcl_words.specs.Grammar.IsUnclosed.{ends, backslash, opens}
use Rattle.tcl_words.specs.declared.kind.Kind.{Kind}
use Rattle.tcl_words.specs.declared.kind.Kind.TheVariants.{CloseBracket, OpenBrace, Expansion, CloseBrace, CloseParen, Backslash, Continuation}
use Rattle.tcl_words.specs.declared.kind.BytePlace.TheVariants.{InBraces, PastBraces}
use Rattle.tcl_text.specs.declared.fault.ParseFault.TheVariants.{MissingBrace}
use Rattle.tcl_words.proofs.ClassLemmas.{byte_is, expansion_or, newline_or}
use Rattle.tcl_words.proofs.StepLemmas.{after_move, moved_by, read_at, skip_read}

byte_kinds : (inside : Bool) (kind : Kind) (depth b : ℕ) (text : List ℕ) → kind ≢ OpenBrace → kind ≢ Expansion → kind ≢ CloseBrace → kind ≢ Backslash → kind ≢ Continuation →
    in_braces depth (class_means inside kind text) b text ≡ on (put_bytes (b ∷ []) ∷ []) 0 (InBraces depth)
byte_kinds inside OpenBrace depth b text h1 h2 h3 h4 h5 = absurd (h1 refl)
byte_kinds inside Expansion depth b text h1 h2 h3 h4 h5 = absurd (h2 refl)
byte_kinds inside CloseBrace depth b text h1 h2 h3 h4 h5 = absurd (h3 refl)
byte_kinds inside Backslash depth b text h1 h2 h3 h4 h5 = absurd (h4 refl)
byte_kinds inside Continuation depth b text h1 h2 h3 h4 h5 = absurd (h5 refl)
byte_kinds true CloseBracket depth b text h1 h2 h3 h4 h5 = refl
byte_kinds false CloseBracket depth b text h1 h2 h3 h4 h5 = refl
byte_kinds true CloseParen depth b text h1 h2 h3 h4 h5 = refl
byte_kinds false CloseParen depth b text h1 h2 h3 h4 h5 = refl
byte_kinds inside kind depth b text h1 h2 h3 h4 h5 = refl

byte_step : (level : Level) (depth b : ℕ) (text : List ℕ) (at : ℕ) → b ≢ 123 → b ≢ 125 → b ≢ 92 →
    rest_of (b ∷ text) level 0 (InBraces depth) at ≡ put (changed (put_bytes (b ∷ []) ∷ [])) (rest_of text level 0 (InBraces depth) (at + 1))
byte_step level depth b text at h1 h2 h3 =
    moved_by (on (put_bytes (b ∷ []) ∷ []) 0 (InBraces depth)) (InBraces depth) b text level at
    (byte_kinds level.inside (class_of b) depth b text (λ e. h1 (byte_is b OpenBrace e)) (λ e. byte_is b Expansion e) (λ e. h2 (byte_is b CloseBrace e)) (λ e. h3 (byte_is b Backslash e)) (λ e. byte_is b Continuation e))

open_step : (level : Level) (depth : ℕ) (text : List ℕ) (at : ℕ) →
    rest_of (123 ∷ text) level 0 (InBraces depth) at ≡ put (changed (put_bytes (123 ∷ []) ∷ [])) (rest_of text level 0 (InBraces (suc depth)) (at + 1))
unfolding class_of
open_step level depth text at =
    moved_by (on (put_bytes (123 ∷ []) ∷ []) 0 (InBraces (suc depth))) (InBraces depth) 123 text level at
    (expansion_or (λ k. in_braces depth k 123 text ≡ on (put_bytes (123 ∷ []) ∷ []) 0 (InBraces (suc depth))) (begins_expansion text) refl refl)

close_step : (level : Level) (depth : ℕ) (text : List ℕ) (at : ℕ) →
    rest_of (125 ∷ text) level 0 (InBraces (suc depth)) at ≡ put (changed (put_bytes (125 ∷ []) ∷ [])) (rest_of text level 0 (InBraces depth) (at + 1))
unfolding class_of
close_step level depth text at = refl

pub last_step : (level : Level) (text : List ℕ) (at : ℕ) → rest_of (125 ∷ text) level 0 (InBraces 0) at ≡ put (changed (text_ends ∷ [])) (rest_of text level 0 PastBraces (at + 1))
unfolding class_of
last_step level text at = refl

pair_step : (level : Level) (depth b : ℕ) (text : List ℕ) (at : ℕ) → b ≢ 10 →
    rest_of (92 ∷ b ∷ text) level 0 (InBraces depth) at ≡ put (changed (put_bytes (92 ∷ b ∷ []) ∷ [])) (rest_of text level 0 (InBraces depth) (at + 1 + 1))
unfolding class_of
pair_step level depth b text at h = newline_or (λ k. after_move (in_braces depth k 92 (b ∷ text)) level at (b ∷ text) ≡ put (changed (put_bytes (92 ∷ b ∷ []) ∷ [])) (rest_of text level 0 (InBraces depth) (at + 1 + 1))) b text h refl

lone_step : (level : Level) (depth at : ℕ) → rest_of (92 ∷ []) level 0 (InBraces depth) at ≡ Err MissingBrace
unfolding class_of
lone_step level depth at = refl

pub blanks_front : (spaces text : List ℕ) → AreSpaces spaces → begins_space text ≡ false → blanks (spaces ++ text) ≡ length spaces
blanks_front [] [] h k = refl
blanks_front [] (b ∷ text) h k = rw k refl
blanks_front (b ∷ spaces) text (is, h) k = rw is (ap (λ n. suc n) (blanks_front spaces text h k))

pub spaces_escape : (spaces text : List ℕ) → AreSpaces spaces → begins_space text ≡ false → escape (10 ∷ (spaces ++ text)) ≡ record { meaning = 32 ∷ []; length = suc (length spaces) }
unfolding escape
spaces_escape spaces text h k = ap (λ n. record { meaning = 32 ∷ []; length = suc n }) (blanks_front spaces text h k)

continued_step : (level : Level) (depth : ℕ) (spaces text : List ℕ) (at : ℕ) → AreSpaces spaces → begins_space text ≡ false →
    rest_of (92 ∷ 10 ∷ (spaces ++ text)) level 0 (InBraces depth) at ≡ put (changed (put_bytes (32 ∷ []) ∷ [])) (rest_of text level 0 (InBraces depth) (at + 1 + 1 + length spaces))
unfolding class_of
continued_step level depth spaces text at h k =
    ap (λ e. put (changed (put_bytes e.meaning ∷ [])) (rest_of (10 ∷ (spaces ++ text)) level e.length (InBraces depth) (at + 1))) (spaces_escape spaces text h k)
    ∙ ap (put (changed (put_bytes (32 ∷ []) ∷ []))) (skip_read spaces text level (InBraces depth) (at + 1 + 1))

space_follows : (text follow : List ℕ) → begins_space text ≡ false → begins_space follow ≡ false → begins_space (text ++ follow) ≡ false
space_follows [] follow h k = k
space_follows (b ∷ text) follow h k = h

bytes_none : (r : Read) → r ≡ put (changed (put_bytes [] ∷ [])) r
bytes_none (Ok rest) = refl
bytes_none (Err fault) = refl

bytes_both : (a b : List ℕ) (r : Read) → put (changed (put_bytes a ∷ [])) (put (changed (put_bytes b ∷ [])) r) ≡ put (changed (put_bytes (a ++ b) ∷ [])) r
bytes_both a b (Ok rest) = ap (λ t. Ok (record rest { bytes = t })) (sym (append_assoc a b rest.bytes))
bytes_both a b (Err fault) = refl

-- what stands between braces is read
pub braces_read : (level : Level) {own value : List ℕ} → IsBraced own value → (depth : ℕ) (follow : List ℕ) (at : ℕ) → begins_space follow ≡ false →
    rest_of (own ++ follow) level 0 (InBraces depth) at ≡ put (changed (put_bytes value ∷ [])) (rest_of follow level 0 (InBraces depth) (at + length own))
braces_read level none depth follow at h = let e : at ≡ at + 0 = omega arith in read_at follow level (InBraces depth) at (at + 0) e ∙ bytes_none (rest_of follow level 0 (InBraces depth) (at + 0))
braces_read level (byte {b} {text} {value} h1 h2 h3 more) depth follow at h =
    let e : at + 1 + length text ≡ at + suc (length text) = omega arith in
    byte_step level depth b (text ++ follow) at h1 h2 h3
    ∙ ap (put (changed (put_bytes (b ∷ []) ∷ []))) (braces_read level more depth follow (at + 1) h)
    ∙ bytes_both (b ∷ []) value (rest_of follow level 0 (InBraces depth) (at + 1 + length text))
    ∙ ap (put (changed (put_bytes (b ∷ value) ∷ []))) (read_at follow level (InBraces depth) (at + 1 + length text) (at + suc (length text)) e)
braces_read level (pair {b} {text} {value} h1 more) depth follow at h =
    let e : at + 1 + 1 + length text ≡ at + suc (suc (length text)) = omega arith in
    pair_step level depth b (text ++ follow) at h1
    ∙ ap (put (changed (put_bytes (92 ∷ b ∷ []) ∷ []))) (braces_read level more depth follow (at + 1 + 1) h)
    ∙ bytes_both (92 ∷ b ∷ []) value (rest_of follow level 0 (InBraces depth) (at + 1 + 1 + length text))
    ∙ ap (put (changed (put_bytes (92 ∷ b ∷ value) ∷ []))) (read_at follow level (InBraces depth) (at + 1 + 1 + length text) (at + suc (suc (length text))) e)
braces_read level (continuation spaces {text} {value} are stop more) depth follow at h =
    let e : at + 1 + 1 + length spaces + length text ≡ at + suc (suc (length (spaces ++ text))) = omega (arith, length-append spaces text) in
    ap (λ t. rest_of (92 ∷ 10 ∷ t) level 0 (InBraces depth) at) (append_assoc spaces text follow)
    ∙ continued_step level depth spaces (text ++ follow) at are (space_follows text follow stop h)
    ∙ ap (put (changed (put_bytes (32 ∷ []) ∷ []))) (braces_read level more depth follow (at + 1 + 1 + length spaces) h)
    ∙ bytes_both (32 ∷ []) value (rest_of follow level 0 (InBraces depth) (at + 1 + 1 + length spaces + length text))
    ∙ ap (put (changed (put_bytes (32 ∷ value) ∷ []))) (read_at follow level (InBraces depth) (at + 1 + 1 + length spaces + length text) (at + suc (suc (length (spaces ++ text)))) e)
braces_read level (braces own text {inner} {value} first more) depth follow at h =
    let mid : ℕ = at + 1 + length own + 1 in
    let end : ℕ = mid + length text in
    let e : end ≡ at + suc (length (own ++ 125 ∷ text)) = omega (arith, length-append own (125 ∷ text)) in
    ap (λ t. rest_of (123 ∷ t) level 0 (InBraces depth) at) (append_assoc own (125 ∷ text) follow)
    ∙ open_step level depth (own ++ 125 ∷ (text ++ follow)) at
    ∙ ap (put (changed (put_bytes (123 ∷ []) ∷ [])))
    (braces_read level first (suc depth) (125 ∷ (text ++ follow)) (at + 1) refl
    ∙ ap (put (changed (put_bytes inner ∷ [])))
    (close_step level depth (text ++ follow) (at + 1 + length own)
    ∙ ap (put (changed (put_bytes (125 ∷ []) ∷ []))) (braces_read level more depth follow mid h)
    ∙ bytes_both (125 ∷ []) value (rest_of follow level 0 (InBraces depth) end))
    ∙ bytes_both inner (125 ∷ value) (rest_of follow level 0 (InBraces depth) end))
    ∙ bytes_both (123 ∷ []) (inner ++ 125 ∷ value) (rest_of follow level 0 (InBraces depth) end)
    ∙ ap (put (changed (put_bytes (123 ∷ (inner ++ 125 ∷ value)) ∷ []))) (read_at follow level (InBraces depth) end (at + suc (length (own ++ 125 ∷ text))) e)

-- a brace without its match
pub unclosed_read : (level : Level) {text : List ℕ} → IsUnclosed text → (depth at : ℕ) → rest_of text level 0 (InBraces depth) at ≡ Err MissingBrace
unclosed_read level (ends {text} {value} h) depth at =
    ap (λ t. rest_of t level 0 (InBraces depth) at) (sym (append-nil text)) ∙ braces_read level h depth [] at refl
unclosed_read level (backslash text {value} h) depth at =
    braces_read level h depth (92 ∷ []) at refl ∙ ap (put (changed (put_bytes value ∷ []))) (lone_step level depth (at + length text))
unclosed_read level (opens before text {value} h more) depth at =
    braces_read level h depth (123 ∷ text) at refl
    ∙ ap (put (changed (put_bytes value ∷ []))) (open_step level depth text (at + length before) ∙ ap (put (changed (put_bytes (123 ∷ []) ∷ []))) (unclosed_read level more (suc depth) (at + length before + 1)))

-- a text's first byte and its second
pub first : List ℕ → ℕ
first [] = 0
first (b ∷ text) = b

pub second : List ℕ → ℕ
second [] = 0
second (b ∷ text) = first text

pub firsts : (a b : ℕ) (s t : List ℕ) → a ∷ s ≡ b ∷ t → a ≡ b
unfolding first
firsts a b s t e = ap first e

pub seconds : (a b c d : ℕ) (s t : List ℕ) → a ∷ c ∷ s ≡ b ∷ d ∷ t → c ≡ d
unfolding first second
seconds a b c d s t e = ap second e

rests : (a b : ℕ) (s t : List ℕ) → a ∷ s ≡ b ∷ t → s ≡ t
rests a b s t e = cc

-- where `*}` stands at the front, the braces hold a `*`
abbrev StarCut : List ℕ → List ℕ → List ℕ → List ℕ → Type 0
StarCut own value rest text = ((own ≡ []) × (rest ≡ 42 ∷ 125 ∷ text)) ⊎ ((own ≡ 42 ∷ []) × (value ≡ 42 ∷ []) × (rest ≡ 125 ∷ text))

star_alone : (b : ℕ) (rest text : List ℕ) → b ∷ rest ≡ 42 ∷ 125 ∷ text → StarCut (b ∷ []) (b ∷ []) rest text
star_alone b rest text e =
    let same : b ≡ 42 = firsts b 42 rest (125 ∷ text) e in
    inr (ap (λ c. c ∷ []) same, ap (λ c. c ∷ []) same, rests b 42 rest (125 ∷ text) e)

pub star_cut : {own value : List ℕ} → IsBraced own value → (rest text : List ℕ) → own ++ rest ≡ 42 ∷ 125 ∷ text → StarCut own value rest text
star_cut none rest text e = inl (refl, e)
star_cut (byte {b} h1 h2 h3 none) rest text e = star_alone b rest text e
star_cut (byte {b} h1 h2 h3 (byte {b = c} {text = more} h4 h5 h6 h)) rest text e = absurd (h5 (seconds b 42 c 125 (more ++ rest) text e))
star_cut (byte {b} h1 h2 h3 (pair {b = c} {text = more} h4 h)) rest text e = let k = seconds b 42 92 125 (c ∷ (more ++ rest)) text e in absurd (omega (arith, k))
star_cut (byte {b} h1 h2 h3 (continuation spaces {text = more} h4 h5 h)) rest text e = let k = seconds b 42 92 125 (10 ∷ ((spaces ++ more) ++ rest)) text e in absurd (omega (arith, k))
star_cut (byte {b} h1 h2 h3 (braces own behind h4 h)) rest text e = let k = seconds b 42 123 125 ((own ++ 125 ∷ behind) ++ rest) text e in absurd (omega (arith, k))
star_cut (pair {b} {text = more} h k) rest text e = let l = firsts 92 42 (b ∷ (more ++ rest)) (125 ∷ text) e in absurd (omega (arith, l))
star_cut (continuation spaces {text = more} h k l) rest text e = let m = firsts 92 42 (10 ∷ ((spaces ++ more) ++ rest)) (125 ∷ text) e in absurd (omega (arith, m))
star_cut (braces own behind h k) rest text e = let m = firsts 123 42 ((own ++ 125 ∷ behind) ++ rest) (125 ∷ text) e in absurd (omega (arith, m))

star_none : (own value rest text : List ℕ) → StarCut own value rest text → (first rest ≡ 42 → ⊥) → (first rest ≡ 125 → ⊥) → ⊥
unfolding first
star_none own value rest text (inl (p, e)) h k = h (ap first e)
star_none own value rest text (inr (p, q, e)) h k = k (ap first e)

pub star_closed : (text behind : List ℕ) → IsUnclosed text → text ≡ 42 ∷ 125 ∷ behind → ⊥
unfolding first
star_closed text behind (ends {text = same} {value} h) e = star_none text value [] behind (star_cut h [] behind (append-nil text ∙ e)) (λ f. omega (arith, f)) (λ f. omega (arith, f))
star_closed text behind (backslash before {value} h) e = star_none before value (92 ∷ []) behind (star_cut h (92 ∷ []) behind e) (λ f. omega (arith, f)) (λ f. omega (arith, f))
star_closed text behind (opens before after {value} h more) e = star_none before value (123 ∷ after) behind (star_cut h (123 ∷ after) behind e) (λ f. omega (arith, f)) (λ f. omega (arith, f))

-- closed by the second byte
pub star_only : (own value rest text : List ℕ) → IsBraced own value → own ++ 125 ∷ rest ≡ 42 ∷ 125 ∷ text → (own ≡ 42 ∷ []) × (value ≡ 42 ∷ [])
star_only own value rest text h e = go (star_cut h (125 ∷ rest) text e)
  where
    go : StarCut own value (125 ∷ rest) text → (own ≡ 42 ∷ []) × (value ≡ 42 ∷ [])
    go (inl (p, f)) = let k = firsts 125 42 rest (125 ∷ text) f in absurd (omega (arith, k))
    go (inr (p, q, f)) = (p, q)
