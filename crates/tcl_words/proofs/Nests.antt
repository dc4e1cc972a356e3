-- Scripts and indices within one another, as the code goes from one to the other.
use Rattle.std.proofs.Common.{◌≡◌, ℕ, zero, suc, ◌+◌, ◌-◌, ◌<◌, ◌≤◌, List, [], ◌∷◌, ◌++◌, length, drop, slice_index, refl, sym, ap, ◌∙◌, arith, Ok, Err, Result}
use Rattle.std.proofs.Math.Seq.{drop-cons}
use Rattle.std.proofs.lemmas.List.{drop-drop, length-drop}
use Rattle.tcl_words.specs.Changes.{Read, put, piece_before, changed}
use Rattle.tcl_words.specs.Moves.{move_at}
use Rattle.tcl_words.specs.Reading.{Level, within, rest_of, past, past_opened, opened_place, first_skip, opened_piece}
use Rattle.tcl_words.specs.Parts.{Parts, Whole, joined_parts, no_parts, with_piece, ended, DoesMove}
use Rattle.tcl_words.specs.Chain.{origin_level, own, opened, waiting_resumed, IsWaiting, IsChain}
use Rattle.tcl_words.specs.declared.kind.BytePlace.{BytePlace}
use Rattle.tcl_words.specs.declared.kind.BytePlace.TheVariants.{Text}
use Rattle.tcl_words.specs.declared.kind.Mode.{Mode}
use Rattle.tcl_words.specs.declared.kind.Opener.{Opener}
use Rattle.tcl_words.specs.declared.kind.Opener.TheVariants.{Bracket, Index}
use Rattle.tcl_words.specs.declared.kind.Step.{Step}
use Rattle.tcl_words.specs.declared.kind.Step.TheVariants.{On, Within, Ends}
use Rattle.tcl_words.specs.declared.nesting.Origin.{Origin}
use Rattle.tcl_words.specs.declared.nesting.Waiting.{Waiting}
use Rattle.tcl_words.specs.declared.script.Piece.{Piece}
use Rattle.tcl_text.specs.declared.fault.ParseFault.{ParseFault}
use Rattle.tcl_text.specs.declared.fault.ParseFault.TheVariants.{TooLong}

-- ── what waits ──

pub chain_push : (s : List ℕ) (first origin : Origin) (ws : List Waiting) (w : Waiting) → IsChain s first ws origin → w.origin ≡ origin → IsWaiting s w → IsChain s first (ws ++ w ∷ []) (opened w.origin w.at w.opener)
chain_push s first origin [] w chain e waits = (e ∙ sym chain, waits, refl)
chain_push s first origin (v ∷ ws) w chain e waits = (chain.0, chain.1, chain_push s (opened v.origin v.at v.opener) origin ws w chain.2 e waits)

pub chain_pop : (s : List ℕ) (first origin : Origin) (ws : List Waiting) (w : Waiting) → IsChain s first (ws ++ w ∷ []) origin → IsChain s first ws w.origin × IsWaiting s w × (opened w.origin w.at w.opener ≡ origin)
chain_pop s first origin [] w chain = (sym chain.0, chain.1, chain.2)
chain_pop s first origin (v ∷ ws) w chain =
    let others : IsChain s (opened v.origin v.at v.opener) ws w.origin × IsWaiting s w × (opened w.origin w.at w.opener ≡ origin) = chain_pop s (opened v.origin v.at v.opener) origin ws w chain.2 in
    ((chain.0, chain.1, others.0), others.1, others.2)

-- a fault in what is read is the fault of all that waits for it
pub chain_fault : (s : List ℕ) (first origin : Origin) (ws : List Waiting) (fault : ParseFault) → IsChain s first ws origin → own s origin ≡ Err fault → own s first ≡ Err fault
chain_fault s first origin [] fault chain e = ap (own s) chain ∙ e
chain_fault s first origin (w ∷ ws) fault chain e =
    let inner : own s (opened w.origin w.at w.opener) ≡ Err fault = chain_fault s (opened w.origin w.at w.opener) origin ws fault chain.2 e in
    ap (own s) (sym chain.0) ∙ sym chain.1.resumes ∙ ap (waiting_resumed s w) inner

-- ── texts ──

pub rest_skip : (text : List ℕ) (level : Level) (k : ℕ) (place : BytePlace) (at : ℕ) → k ≤ length text → rest_of text level k place at ≡ rest_of (drop k text) level 0 place (at + k)
rest_skip text level zero place at h = let e : at ≡ at + 0 = omega arith in ap (rest_of text level 0 place) e
rest_skip [] level (suc k) place at h = absurd (omega (arith, h))
rest_skip (b ∷ text) level (suc k) place at h =
    let e : at + 1 + k ≡ at + suc k = omega arith in rest_skip text level k place (at + 1) (omega (arith, h)) ∙ ap (rest_of (drop k text) level 0 place) e

past_at : List ℕ → Level → BytePlace → ℕ → Result Step ParseFault → Read
past_at s level place at step =
    past step level.room at (drop (at + 1) s) (λ skip next. rest_of (drop (at + 1) s) level skip next (at + 1)) (λ room skip next. rest_of (drop (at + 1) s) (within room) skip next 0)

-- what is left of the text begins with the next byte
rest_next : (s : List ℕ) (level : Level) (place : BytePlace) (at : ℕ) → at < length s →
    rest_of (drop at s) level 0 place at ≡ put (changed (move_at s at level.inside place).changes) (past_at s level place at (move_at s at level.inside place).step)
unfolding past_at
rest_next s level place at within =
    let e : suc at ≡ at + 1 = omega arith in ap (λ t. rest_of t level 0 place at) (drop-cons s at 0 within ∙ ap (λ n. slice_index s at ∷ drop n s) e)

-- the same, by the step that the code found
rest_by : (s : List ℕ) (level : Level) (place : BytePlace) (at : ℕ) (step : Result Step ParseFault) → at < length s → (move_at s at level.inside place).step ≡ step →
    rest_of (drop at s) level 0 place at ≡ put (changed (move_at s at level.inside place).changes) (past_at s level place at step)
rest_by s level place at step within e = rest_next s level place at within ∙ ap (λ x. put (changed (move_at s at level.inside place).changes) (past_at s level place at x)) e

pub on_read : (old new : Parts) (s : List ℕ) (level : Level) (place next : BytePlace) (at skip : ℕ) (whole : Result Whole ParseFault) → at < length s →
    joined_parts old s place at (rest_of (drop at s) level 0 place at) ≡ whole → DoesMove old new s at place (move_at s at level.inside place) (Ok (On skip next)) →
    joined_parts new s next (at + 1 + skip) (rest_of (drop (at + 1 + skip) s) level 0 next (at + 1 + skip)) ≡ whole
unfolding past_at
on_read old new s level place next at skip whole here reads does =
    let room : skip ≤ length (drop (at + 1) s) = omega (arith, does.3, length-drop (at + 1) s) in
    let rest : rest_of (drop (at + 1) s) level skip next (at + 1) ≡ rest_of (drop (at + 1 + skip) s) level 0 next (at + 1 + skip) = rest_skip (drop (at + 1) s) level skip next (at + 1) room ∙ ap (λ t. rest_of t level 0 next (at + 1 + skip)) (drop-drop skip (at + 1) s) in
    ap (joined_parts new s next (at + 1 + skip)) (sym rest) ∙ sym (does.1 (rest_of (drop (at + 1) s) level skip next (at + 1))) ∙ ap (joined_parts old s place at) (sym (rest_by s level place at (Ok (On skip next)) here does.0)) ∙ reads

pub fault_read : (old : Parts) (s : List ℕ) (level : Level) (place : BytePlace) (at : ℕ) (whole : Result Whole ParseFault) (fault : ParseFault) → at < length s →
    joined_parts old s place at (rest_of (drop at s) level 0 place at) ≡ whole → (move_at s at level.inside place).step ≡ Err fault → whole ≡ Err fault
unfolding past_at
fault_read old s level place at whole fault here reads e = sym reads ∙ ap (joined_parts old s place at) (rest_by s level place at (Err fault) here e)

pub end_read : (old new : Parts) (s : List ℕ) (level : Level) (place : BytePlace) (at : ℕ) (whole : Result Whole ParseFault) → at < length s →
    joined_parts old s place at (rest_of (drop at s) level 0 place at) ≡ whole → DoesMove old new s at place (move_at s at level.inside place) (Ok Ends) → whole ≡ Ok (ended place new at)
unfolding past_at
end_read old new s level place at whole here reads does = sym reads ∙ ap (joined_parts old s place at) (rest_by s level place at (Ok Ends) here does.0) ∙ does.1

-- too deep
pub full_read : (old : Parts) (s : List ℕ) (level : Level) (place : BytePlace) (at : ℕ) (opener : Opener) (mode : Mode) (whole : Result Whole ParseFault) → at < length s →
    joined_parts old s place at (rest_of (drop at s) level 0 place at) ≡ whole → (move_at s at level.inside place).step ≡ Ok (Within opener mode) → level.room ≡ 0 → whole ≡ Err TooLong
unfolding past_at
full_read old s level place at opener mode whole here reads e none =
    sym reads ∙ ap (joined_parts old s place at) (rest_by s level place at (Ok (Within opener mode)) here e) ∙ rw none refl

past_suc : (room at : ℕ) (opener : Opener) (mode : Mode) (behind : List ℕ) (go : ℕ → BytePlace → Read) (inner : ℕ → ℕ → BytePlace → Read) → 0 < room →
    past (Ok (Within opener mode)) room at behind go inner ≡ past_opened opener mode behind go (inner (room - 1) (first_skip opener) (opened_place opener))
past_suc zero at opener mode behind go inner some = absurd (omega (arith, some))
past_suc (suc room) at opener mode behind go inner some = let e : room ≡ suc room - 1 = omega arith in ap (λ n. past_opened opener mode behind go (inner n (first_skip opener) (opened_place opener))) e

-- what a bracket or a parenthesis opens is waited for
pub link_made : (s : List ℕ) (origin : Origin) (old new : Parts) (place : BytePlace) (at : ℕ) (opener : Opener) (mode : Mode) → at < length (drop origin.base s) →
    joined_parts old (drop origin.base s) place at (rest_of (drop at (drop origin.base s)) (origin_level origin) 0 place at) ≡ own s origin →
    DoesMove old new (drop origin.base s) at place (move_at (drop origin.base s) at origin.inside place) (Ok (Within opener mode)) → 0 < origin.room →
    waiting_resumed s (record { origin = origin; parts = new; at = at; opener = opener; mode = mode }) (own s (opened origin at opener)) ≡ own s origin
unfolding past_at
link_made s origin old new place at opener mode here reads does some =
    let text : List ℕ = drop origin.base s in
    let behind : List ℕ = drop (at + 1) text in
    let level : Level = within (origin.room - 1) in
    let same : own s (opened origin at opener) ≡ joined_parts (no_parts (first_skip opener)) behind (opened_place opener) (first_skip opener) (rest_of behind level (first_skip opener) (opened_place opener) 0) =
    ap (λ t. joined_parts (no_parts (first_skip opener)) t (opened_place opener) (first_skip opener) (rest_of t level (first_skip opener) (opened_place opener) 0)) (sym (drop-drop (at + 1) origin.base s)) in
    ap (waiting_resumed s (record { origin = origin; parts = new; at = at; opener = opener; mode = mode })) same
    ∙ by_inner opener does.1 (rest_of behind level (first_skip opener) (opened_place opener) 0)
    ∙ ap (λ r. joined_parts old text place at (put (changed (move_at text at origin.inside place).changes) r)) (sym (past_suc origin.room at opener mode behind (λ skip next. rest_of behind (origin_level origin) skip next (at + 1)) (λ room skip next. rest_of behind (within room) skip next 0) some))
    ∙ ap (joined_parts old text place at) (sym (rest_by text (origin_level origin) place at (Ok (Within opener mode)) here does.0))
    ∙ reads
  where
    by_inner : (o : Opener) →
        ((piece : Piece) (mark : ℕ) (rest : Read) →
        joined_parts old (drop origin.base s) place at (put (changed (move_at (drop origin.base s) at origin.inside place).changes) (put (piece_before piece) rest)) ≡ joined_parts (with_piece new piece mark) (drop origin.base s) (Text mode) mark rest) →
        (r : Read) →
        waiting_resumed s (record { origin = origin; parts = new; at = at; opener = o; mode = mode }) (joined_parts (no_parts (first_skip o)) (drop (at + 1) (drop origin.base s)) (opened_place o) (first_skip o) r)
        ≡ joined_parts old (drop origin.base s) place at (put (changed (move_at (drop origin.base s) at origin.inside place).changes) (past_opened o mode (drop (at + 1) (drop origin.base s)) (λ skip next. rest_of (drop (at + 1) (drop origin.base s)) (origin_level origin) skip next (at + 1)) r))
    by_inner o over (Err fault) = refl
    by_inner Bracket over (Ok rest) = sym (over (opened_piece Bracket (drop (at + 1) (drop origin.base s)) rest.close) (at + 1 + suc rest.close) (rest_of (drop (at + 1) (drop origin.base s)) (origin_level origin) (suc rest.close) (Text mode) (at + 1)))
    by_inner (Index n) over (Ok rest) = sym (over (opened_piece (Index n) (drop (at + 1) (drop origin.base s)) rest.close) (at + 1 + suc rest.close) (rest_of (drop (at + 1) (drop origin.base s)) (origin_level origin) (suc rest.close) (Text mode) (at + 1)))

-- what waited goes on past what it waited for
pub resume_read : (s : List ℕ) (w : Waiting) (whole : Whole) → IsWaiting s w → own s (opened w.origin w.at w.opener) ≡ Ok whole → suc whole.close ≤ length (drop (w.at + 1) (drop w.origin.base s)) →
    joined_parts (with_piece w.parts (opened_piece w.opener (drop (w.at + 1) (drop w.origin.base s)) whole.close) (w.at + 1 + suc whole.close)) (drop w.origin.base s) (Text w.mode) (w.at + 1 + suc whole.close)
    (rest_of (drop (w.at + 1 + suc whole.close) (drop w.origin.base s)) (origin_level w.origin) 0 (Text w.mode) (w.at + 1 + suc whole.close))
    ≡ own s w.origin
resume_read s w whole waits e room =
    let text : List ℕ = drop w.origin.base s in
    let end : ℕ = w.at + 1 + suc whole.close in
    let rest : rest_of (drop (w.at + 1) text) (origin_level w.origin) (suc whole.close) (Text w.mode) (w.at + 1) ≡ rest_of (drop end text) (origin_level w.origin) 0 (Text w.mode) end =
    rest_skip (drop (w.at + 1) text) (origin_level w.origin) (suc whole.close) (Text w.mode) (w.at + 1) room ∙ ap (λ t. rest_of t (origin_level w.origin) 0 (Text w.mode) end) (drop-drop (suc whole.close) (w.at + 1) text) in
    ap (joined_parts (with_piece w.parts (opened_piece w.opener (drop (w.at + 1) text) whole.close) end) text (Text w.mode) end) (sym rest)
    ∙ ap (waiting_resumed s w) (sym e)
    ∙ waits.resumes
