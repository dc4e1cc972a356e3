-- The parts, after a change to what is of one of them.
use Rattle.std.proofs.Common.{◌≡◌, ◌≢◌, ℕ, Bool, zero, suc, ◌+◌, ◌<◌, ◌≤◌, List, [], ◌∷◌, ◌++◌, length, get_or, set, refl, sym, ap, ◌∙◌, arith}
use Rattle.std.specs.Prelude.{Any, None, Option, Some, option_and_then, option_map, slice_get}
use Rattle.std.proofs.lemmas.Option.{slice_get_past, slice_get_read}
use Rattle.tk_panel.specs.declared.tables.Tables.{Tables}
use Rattle.tk_panel.specs.Shared.{panel_of}
use Rattle.tk_app.specs.Application.{Application}
use Rattle.tk_app.specs.Inspection.{seen_in}
use Rattle.tk_app.specs.Part.{Part}
use Rattle.tk_app.specs.declared.turns.Turn.{Turn}
use Rattle.tk_app.specs.Turns.{Applications, Program, application_of, part_of, parts_from}

pub length-parts_from : {M : Type 0} (n : ℕ) (tables : Tables) (ps : List (Program M)) → length (parts_from n tables ps) ≡ length ps
unfolding parts_from
length-parts_from n tables [] = refl
length-parts_from n tables (p ∷ ps) = ap suc (length-parts_from (n + 1) tables ps)

get_from : {M : Type 0} (n : ℕ) (tables : Tables) (ps : List (Program M)) (i j : ℕ) (d : Part M) (p : Program M) → i < length ps → n + i ≡ j → get_or (parts_from n tables ps) i d ≡ part_of (panel_of j tables) (get_or ps i p)
unfolding parts_from
get_from n tables [] i j d p lt e = absurd (omega (arith, lt))
get_from n tables (x ∷ ps) zero j d p lt e = let here : n ≡ j = omega (arith, e) in ap (λ k. part_of (panel_of k tables) x) here
get_from n tables (x ∷ ps) (suc i) j d p lt e = get_from (n + 1) tables ps i j d p (omega (arith, lt)) (omega (arith, e))

pub get_parts : {M : Type 0} (tables : Tables) (ps : List (Program M)) (parts : List (Part M)) (i : ℕ) (p : Program M) → parts_from 0 tables ps ≡ parts → i < length ps → p ≡ get_or ps i p
    → slice_get parts i ≡ Some (part_of (panel_of i tables) p)
get_parts {M} tables ps parts i p is lt at =
    let all : List (Part M) = parts_from 0 tables ps in
    let part : Part M = part_of (panel_of i tables) p in
    let here : part ≡ get_or all i part = ap (part_of (panel_of i tables)) at ∙ sym (get_from 0 tables ps i i part p lt (omega arith)) in
    ap (λ qs. slice_get qs i) (sym is) ∙ slice_get_read all (length all) i part refl (omega (arith, length-parts_from 0 tables ps, lt)) here

pub same_from : {M : Type 0} (n : ℕ) (old new : Tables) (ps : List (Program M)) → ((k : ℕ) (p : Program M) → n ≤ k → k < n + length ps → part_of (panel_of k new) p ≡ part_of (panel_of k old) p) → parts_from n new ps ≡ parts_from n old ps
unfolding parts_from
same_from n old new [] h = refl
same_from n old new (p ∷ ps) h =
    ap (λ part. part ∷ parts_from (n + 1) new ps) (h n p (omega arith) (omega arith))
    ∙ ap (λ parts. part_of (panel_of n old) p ∷ parts) (same_from (n + 1) old new ps (λ k q le lt. h k q (omega (arith, le)) (omega (arith, lt))))

set_from : {M : Type 0} (n : ℕ) (old new : Tables) (ps : List (Program M)) (i j : ℕ) (p : Program M) → n + i ≡ j → ((k : ℕ) → k < n + length ps → k ≢ j → panel_of k new ≡ panel_of k old)
    → parts_from n new (set ps i p) ≡ set (parts_from n old ps) i (part_of (panel_of j new) p)
unfolding parts_from
set_from n old new [] i j p e h = refl
set_from n old new (x ∷ ps) zero j p e h =
    let here : n ≡ j = omega (arith, e) in
    ap (λ q. q ∷ parts_from (n + 1) new ps) (ap (λ k. part_of (panel_of k new) p) here)
    ∙ ap (λ parts. part_of (panel_of j new) p ∷ parts) (same_from (n + 1) old new ps (λ k q le lt. ap (λ s. part_of s q) (h k (omega (arith, lt)) (λ same. omega (arith, same, le, e)))))
set_from n old new (x ∷ ps) (suc i) j p e h =
    ap (λ q. q ∷ parts_from (n + 1) new (set ps i p)) (ap (λ s. part_of s x) (h n (omega arith) (λ same. omega (arith, same, e))))
    ∙ ap (λ parts. part_of (panel_of n old) x ∷ parts) (set_from (n + 1) old new ps i j p (omega (arith, e)) (λ k lt. h k (omega (arith, lt))))

pub set_parts : {M : Type 0} (old new : Tables) (ps : List (Program M)) (i : ℕ) (p : Program M) → ((k : ℕ) → k < length ps → k ≢ i → panel_of k new ≡ panel_of k old)
    → parts_from 0 new (set ps i p) ≡ set (parts_from 0 old ps) i (part_of (panel_of i new) p)
set_parts old new ps i p h = set_from 0 old new ps i i p (omega arith) (λ k lt. h k (omega (arith, lt)))

push_from : {M : Type 0} (n : ℕ) (tables : Tables) (ps : List (Program M)) (p : Program M) (j : ℕ) → n + length ps ≡ j → parts_from n tables (ps ++ p ∷ []) ≡ parts_from n tables ps ++ part_of (panel_of j tables) p ∷ []
unfolding parts_from
push_from n tables [] p j e = let here : n ≡ j = omega (arith, e) in ap (λ k. part_of (panel_of k tables) p ∷ []) here
push_from n tables (x ∷ ps) p j e = ap (λ parts. part_of (panel_of n tables) x ∷ parts) (push_from (n + 1) tables ps p j (omega (arith, e)))

pub push_parts : {M : Type 0} (tables : Tables) (ps : List (Program M)) (p : Program M) → parts_from 0 tables (ps ++ p ∷ []) ≡ parts_from 0 tables ps ++ part_of (panel_of (length ps) tables) p ∷ []
push_parts tables ps p = push_from 0 tables ps p (length ps) (omega arith)

-- ── what is told of a slot ──

-- all applications, by what lies in memory
abbrev pub held_in : {M : Type 0} → Tables → List (Program M) → List Turn → Bool → Applications M
held_in tables ps turns refused = record { moment = tables.clock; parts = parts_from 0 tables ps; turns = turns; refused = refused }

module _ {M : Type 0} (tables : Tables) (ps : List (Program M)) {turns : List Turn} {refused : Bool} {held : Applications M} (is : held_in tables ps turns refused ≡ held) where
  parts_are : parts_from 0 tables ps ≡ held.parts
  parts_are = ap (λ (h : Applications M). h.parts) is

  pub in_range : {i : ℕ} → i < length held.parts → i < length ps
  in_range lt = omega (arith, lt, length-parts_from 0 tables ps, ap (λ qs. length qs) parts_are)

  pub part_at : {i : ℕ} {p : Program M} → i < length held.parts → p ≡ get_or ps i p → slice_get held.parts i ≡ Some (part_of (panel_of i tables) p)
  part_at {i} {p} lt at = get_parts tables ps held.parts i p parts_are (in_range lt) at

  pub of_slot : {T : Type 0} (f : Part M → T) {i : ℕ} {p : Program M} {x : T} → i < length held.parts → p ≡ get_or ps i p → x ≡ f (part_of (panel_of i tables) p) → option_map f (slice_get held.parts i) ≡ Some x
  of_slot f lt at told = ap (option_map f) (part_at lt at) ∙ ap Some (sym told)

  -- ── what is looked at ──

  pub seen_there : {T : Type 0} (look : Application M → Option T) {items : List (Program M)} {i : ℕ} {p : Program M} → items ≡ ps → i < length items → p ≡ get_or items i p
      → look (application_of (panel_of i tables) p) ≡ seen_in look i held.parts
  seen_there look {items} {i} {p} same lt at =
      sym (ap (option_and_then (λ (part : Part M). look part.application)) (get_parts tables ps held.parts i p parts_are (omega (arith, lt, ap length same)) (at ∙ ap (λ xs. get_or xs i p) same)))

  -- no application is in the slot
  pub seen_nowhere : {T : Type 0} (look : Application M → Option T) {items : List (Program M)} {i : ℕ} → items ≡ ps → length items ≤ i → None ≡ seen_in look i held.parts
  seen_nowhere look {items} {i} same le =
      sym (ap (option_and_then (λ (part : Part M). look part.application))
      (slice_get_past held.parts i (omega (arith, le, ap length same, length-parts_from 0 tables ps, ap (λ qs. length qs) parts_are))))

-- ── names ──

somewhere : {M : Type 0} (ps : List (Program M)) (k : ℕ) → k < length ps → (p : Program M) × (get_or ps k p ≡ p)
somewhere [] k lt = absurd (omega (arith, lt))
somewhere (p ∷ ps) zero lt = (p, refl)
somewhere (p ∷ ps) (suc k) lt = somewhere ps k (omega (arith, lt))

pub name_in_parts : {M : Type 0} (name : List ℕ) (tables : Tables) (ps : List (Program M)) → Any (λ (p : Program M). p.name ≡ name) ps → Any (λ (part : Part M). part.application.name ≡ name) (parts_from 0 tables ps)
name_in_parts name tables ps (k, p, lt, at, is) =
    let part = part_of (panel_of k tables) p in
    (k, part, omega (arith, lt, length-parts_from 0 tables ps), get_from 0 tables ps k k part p lt (omega arith) ∙ ap (part_of (panel_of k tables)) at, is)

pub name_of_part : {M : Type 0} (name : List ℕ) (tables : Tables) (ps : List (Program M)) → Any (λ (part : Part M). part.application.name ≡ name) (parts_from 0 tables ps) → Any (λ (p : Program M). p.name ≡ name) ps
name_of_part {M} name tables ps (k, part, lt, at, is) =
    let lt' : k < length ps = omega (arith, lt, length-parts_from 0 tables ps) in
    let here = somewhere ps k lt' in
    let same : part ≡ part_of (panel_of k tables) here.0 = sym at ∙ get_from 0 tables ps k k part here.0 lt' (omega arith) ∙ ap (part_of (panel_of k tables)) here.1 in
    (k, here.0, lt', here.1, sym (ap (λ (q : Part M). q.application.name) same) ∙ is)
