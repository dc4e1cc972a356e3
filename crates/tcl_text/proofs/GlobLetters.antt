-- Facts about the places of a text by its letters.
use Rattle.std.proofs.Common.{◌≡◌, ℕ, ◌+◌, ◌-◌, ◌<◌, ◌≤◌, ◌⊎◌, inl, inr, Bool, true, false, cond, ltb, List, [], ◌∷◌, ◌++◌, length, take, drop, replicate, get_or, set, refl, sym, ap, subst, ◌∙◌, arith}
use Rattle.std.specs.Int.{bit_at}
use Rattle.std.proofs.lemmas.Bool.{true≢false, cases_eq, cases_lt}
use Rattle.std.proofs.lemmas.Bool.Decides.{nat_tests}
use Rattle.std.proofs.lemmas.List.{get_or-set_same, get_or-set_other, get_or-take, get_or-drop, get_or_append_left, get_or_default, get_or-replicate, length-replicate, drop-drop, take-append-drop, length-take-le, length-drop, drop_all, same_lists}
use Rattle.tcl_text.specs.Glob.{GlobMatches}
use Rattle.tcl_text.specs.GlobSteps.{Allows, AllowsAt, AreDeadIn, IsBehindDead, IsHigh, KeepsAllowed, KeepsMatching, Spans, mask_at}
use Rattle.tcl_text.proofs.GlobLemmas.{drop_past}

is_below : (n most : ℕ) → n < most → ltb n most ≡ true
is_below n most below = grind (arith, nat_tests)

is_above : (n most : ℕ) → most ≤ n → ltb n most ≡ false
is_above n most above = grind (arith, nat_tests)

-- the letters that the masks tell of
abbrev pub AllowsLow : List ℕ → ℕ → List ℕ → ℕ → Type 0
AllowsLow pattern below low count = Allows pattern (λ letter. letter < below) (λ letter. letter) (λ letter. get_or low letter 0) count

abbrev pub AllowsHigh : List ℕ → ℕ → List ℕ → List ℕ → ℕ → Type 0
AllowsHigh pattern below letters high count = Allows pattern (IsHigh below letters) (λ at. get_or letters at 0) (λ at. get_or high at 0) count

letters_allowed : (pattern letters low high behind : List ℕ) (below count place : ℕ) → AllowsLow pattern below low count → AllowsHigh pattern below letters high count → place + count ≤ length letters → GlobMatches pattern (drop place (letters ++ behind)) → AllowsAt (mask_at below low letters high) count place
letters_allowed pattern letters low high behind below count place lows highs fits m = λ part within.
    let at = place + part in
    let letter = get_or letters at 0 in
    let text = drop place (letters ++ behind) in
    let inside : letter ≡ get_or text part 0 = sym (get_or-drop place (letters ++ behind) part 0 ∙ get_or_append_left letters behind 0 at (omega arith)) in
    elim (cases_lt letter below) [
      | inl less ↦
          ap (λ (t : Bool). bit_at (cond t (get_or low letter 0) (get_or high at 0)) part) (is_below letter below less) ∙ lows.told text m part within letter less inside
      | inr more ↦
          ap (λ (t : Bool). bit_at (cond t (get_or low letter 0) (get_or high at 0)) part) (is_above letter below more) ∙ highs.told text m part within at (omega arith, more) inside
    ]

pub mask_read : (low letters high : List ℕ) (below at letter m : ℕ) → letter ≡ get_or letters at letter → at < length letters → m ≡ cond (ltb letter below) (get_or low letter 0) (get_or high at 0) → m ≡ mask_at below low letters high at
mask_read low letters high below at letter m read within is =
    is ∙ ap (λ (l : ℕ). cond (ltb l below) (get_or low l 0) (get_or high at 0)) (read ∙ get_or_default letters at letter 0 within)

-- places that die
by_life : {T : Type 0} (was now b : Bool) → was ≡ b → now ≡ false → (T → now ≡ was) → (was ≡ false) ⊎ (T → ⊥)
by_life was now false is dead keeps = inl is
by_life was now true is dead keeps = inr (λ t. true≢false (sym (keeps t ∙ is) ∙ dead))

pub next_kept : (pattern letters low high : List ℕ) (below count : ℕ) (before after : List Bool) → AllowsLow pattern below low count → AllowsHigh pattern below letters high count → length before + count ≤ length letters → KeepsAllowed (mask_at below low letters high) count before after → KeepsMatching pattern letters before after
next_kept pattern letters low high below count before after lows highs fits keeps = λ place within dead.
    elim (by_life {T = AllowsAt (mask_at below low letters high) count place} (get_or before place false) (get_or after place false) (get_or before place false) refl dead (keeps place within)) [
      | inl was ↦ inl was
      | inr none ↦ inr (λ behind m. none (letters_allowed pattern letters low high behind below count place lows highs (omega arith) m))
    ]

pub none_kept : (pattern letters : List ℕ) (alive : List Bool) → KeepsMatching pattern letters alive alive
none_kept pattern letters alive = λ place within dead. inl dead

pub dead_next : (pattern rest text behind letters : List ℕ) (before after : List Bool) (at : ℕ) → AreDeadIn pattern text before → Spans pattern rest at → behind ≡ drop at text → letters ++ drop (length letters) behind ≡ behind → KeepsMatching rest letters before after → length after ≡ length before → AreDeadIn pattern text after
dead_next pattern rest text behind letters before after at dead spans is whole keeps long = record {
  none = λ place within is_dead m. elim (keeps place (omega arith) is_dead) [
    | inl was ↦ dead.none place (omega arith) was m
    | inr stuck ↦
        let turned : place + at ≡ at + place = omega arith in
        let there : drop at (drop place text) ≡ drop place (letters ++ drop (length letters) behind) =
        drop-drop at place text ∙ ap (λ (n : ℕ). drop n text) turned ∙ sym (drop-drop place at text) ∙ ap (drop place) (sym is ∙ sym whole)
        in
        stuck (drop (length letters) behind) (subst (λ (t : List ℕ). GlobMatches rest t) there (spans.forth (drop place text) m).1)
  ];
}

pub dead_first : (pattern text : List ℕ) (most places : ℕ) → places ≤ most → AreDeadIn pattern text (take places (replicate most true))
dead_first pattern text most places few = record {
  none = λ place within dead m.
      let below : place < places = omega (arith, length-take-le places (replicate most true), length-replicate most true) in
      true≢false (sym (get_or-take places (replicate most true) place false below ∙ get_or-replicate most place true false (omega arith)) ∙ dead);
}

pub behind_letters : (pattern text left : List ℕ) (alive : List Bool) (dead : ℕ) → AreDeadIn pattern text alive → dead ≤ length alive → ((place : ℕ) → place < dead → get_or alive place false ≡ false) → left ≡ drop dead text → IsBehindDead pattern text left
behind_letters pattern text left alive dead are within none is = record {
  passed = dead;
  at = is;
  none = λ place below m. are.none place (omega arith) (none place below) m;
}

-- letters that are filled from a text, as far as they are
pub record FilledTo (text letters rest : List ℕ) (at : ℕ) : Type 0 where
  pub seen : (i : ℕ) → i < at → get_or letters i 0 ≡ get_or text i 0
  pub is : rest ≡ drop at text
  pub within : at ≤ length text

pub filled_none : (text letters : List ℕ) → FilledTo text letters text 0
filled_none text letters = record { seen = λ i below. absurd (omega arith); is = refl; within = omega arith }

pub filled_more : (text letters rest after : List ℕ) (at first : ℕ) → FilledTo text letters rest at → rest ≡ first ∷ after → at < length letters → FilledTo text (set letters at first) after (at + 1)
filled_more text letters rest after at first filled cut inside =
    let there : drop at text ≡ first ∷ after = sym filled.is ∙ cut in
    record {
      seen = λ i below. elim (cases_eq i at) [
        | inl same ↦
            let plus : at + 0 ≡ at = omega arith in
            let here : get_or (set letters at first) at 0 ≡ get_or text at 0 =
            get_or-set_same letters at first 0 inside ∙ sym (ap (λ (t : List ℕ). get_or t 0 0) there) ∙ get_or-drop at text 0 0 ∙ ap (λ (n : ℕ). get_or text n 0) plus
            in
            subst (λ (n : ℕ). get_or (set letters at first) n 0 ≡ get_or text n 0) (sym same) here
        | inr other ↦ get_or-set_other letters at i first 0 other ∙ filled.seen i (omega arith)
      ];
      is = drop_past text after at first there;
      within = omega (arith, ap length there, length-drop at text);
    }

pub filled_all : (text letters rest : List ℕ) (at : ℕ) → FilledTo text letters rest at → at ≡ length letters → letters ++ drop (length letters) text ≡ text
filled_all text letters rest at filled whole =
    let n = length letters in
    let long : length (take n text) ≡ n = length-take-le n text (let fits = filled.within in omega arith) in
    let same : letters ≡ take n text = same_lists letters (take n text) (sym long) (λ i d within.
    get_or_default letters i d 0 within ∙ filled.seen i (omega arith) ∙ sym (get_or-take n text i 0 within) ∙ get_or_default (take n text) i 0 d (omega arith)) in
    ap (λ (t : List ℕ). t ++ drop n text) same ∙ take-append-drop n text

-- letters that are skipped
pub skip_end : (text rest : List ℕ) (passed count : ℕ) → rest ≡ drop passed text → rest ≡ [] → passed ≤ count → rest ≡ drop count text
skip_end text rest passed count is none within =
    let far : passed + (count - passed) ≡ count = omega arith in
    none ∙ sym (drop_all (count - passed) rest (omega (arith, ap length none))) ∙ ap (drop (count - passed)) is ∙ drop-drop (count - passed) passed text ∙ ap (λ (n : ℕ). drop n text) far
