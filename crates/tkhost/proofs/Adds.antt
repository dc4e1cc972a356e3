-- A host takes the applications that a session may have.
use Rattle.std.proofs.Common.{◌≡◌, ℕ, zero, suc, ◌+◌, ◌<◌, true, false, List, [], ◌∷◌, ◌++◌, length, get_or, take, drop, map, ◌⊎◌, refl, sym, ◌∙◌, ap, subst, inl, inr, arith, append_assoc, append-nil}
use Rattle.std.specs.Prelude.{Any}
use Rattle.std.proofs.lemmas.List.{take_more}
use Rattle.std.proofs.Math.Seq.{drop-cons, drop-length, take-length}
use Rattle.tk_base.specs.declared.rect.Rect.{Rect}
use Rattle.tk_base.specs.Rect.{SharePixel}
use Rattle.tk_route.specs.Lines.{Line}
use Rattle.tk_app.specs.Part.{Part}
use Rattle.tk_app.specs.Seen.{Meaning}
use Rattle.tk_route.specs.Names.{IsAppInRange}
use Rattle.tk_route.specs.Refusals.{IsFirst, NoneApplies}
use Rattle.tk_route.specs.declared.fault.HostFault.{HostFault}
use Rattle.tk_route.specs.declared.fault.HostFault.TheVariants.{Refused, NoMemory}
use Rattle.tk_route.specs.declared.fault.LineFault.{LineFault}
use Rattle.tk_host.specs.declared.phase.Phase.{Phase}
use Rattle.tk_host.specs.declared.phase.Phase.TheVariants.{Adding}
use Rattle.tk_host.specs.Held.{Call, AddApp, HostState, given_by, held_after, held_in, lines_after, lines_of, part_in, parts_in, phase_after}
use Rattle.tk_host.specs.Refusals.{IsRefusal, RefusesApp, add_faults}
use Rattle.tk_host.specs.Spec.{Given, rect_of}
use Rattle.tk_session.specs.Session.{AreAllowed, IsCovered, IsTaken, MayFollow, MayServe, rects_of}
use Rattle.tk_session.specs.declared.session.AppBlock.{AppBlock}
use Rattle.tkhost.specs.Calls.{adding, given_of}
use Rattle.tkhost.specs.Play.{Serve}
use Rattle.tkhost.proofs.Names.{may_be_aliases, no_name_twice}

no_first : (Applies : LineFault → Type 0) (list : List LineFault) (found : LineFault) → NoneApplies Applies list → IsFirst Applies list found → ⊥
no_first Applies [] found none first = first
no_first Applies (fault ∷ list) found none (inl here) = none.0 here.0
no_first Applies (fault ∷ list) found none (inr later) = no_first Applies list found none.1 later.1

-- where no fault applies, a refusal is for want of memory
pub only_memory : (Applies : LineFault → Type 0) (list : List LineFault) (found : HostFault) → NoneApplies Applies list → IsRefusal Applies list found → found ≡ NoMemory
only_memory Applies list NoMemory none is = refl
only_memory Applies list (Refused found) none is = absurd (no_first Applies list found none is)

module _ {M : Type 0} where
  -- ── the calls that add applications ──

  -- the applications as a host is given them
  abbrev pub givens : List AppBlock → List (List (List ℕ × M)) → List (Given M)
  givens [] lists = []
  givens (app ∷ apps) [] = []
  givens (app ∷ apps) (aliases ∷ lists) = given_of app aliases ∷ givens apps lists

  pub adding-given : (apps : List AppBlock) (lists : List (List (List ℕ × M))) (calls : List (Call M)) → given_by (adding apps lists ++ calls) ≡ givens apps lists ++ given_by calls
  adding-given [] lists calls = refl
  adding-given (app ∷ apps) [] calls = refl
  adding-given (app ∷ apps) (aliases ∷ lists) calls = ap (λ rest. given_of app aliases ∷ rest) (adding-given apps lists calls)

  pub adding-phase : (phase : Phase) (apps : List AppBlock) (lists : List (List (List ℕ × M))) (calls : List (Call M)) → phase_after phase (adding apps lists ++ calls) ≡ phase_after phase calls
  adding-phase phase [] lists calls = refl
  adding-phase phase (app ∷ apps) [] calls = refl
  adding-phase phase (app ∷ apps) (aliases ∷ lists) calls = adding-phase phase apps lists calls

  pub adding-lines : (earlier : List Line) (apps : List AppBlock) (lists : List (List (List ℕ × M))) (calls : List (Call M)) → lines_after earlier (adding apps lists ++ calls) ≡ lines_after earlier calls
  adding-lines earlier [] lists calls = refl
  adding-lines earlier (app ∷ apps) [] calls = refl
  adding-lines earlier (app ∷ apps) (aliases ∷ lists) calls = adding-lines earlier apps lists calls

  -- one more, with its aliases
  adding-push : (apps : List AppBlock) (lists : List (List (List ℕ × M))) (app : AppBlock) (aliases : List (List ℕ × M)) → Serve apps lists
      → adding (apps ++ app ∷ []) (lists ++ aliases ∷ []) ≡ adding apps lists ++ AddApp (given_of app aliases) ∷ []
  adding-push [] [] app aliases serve = refl
  adding-push [] (first ∷ lists) app aliases serve = absurd serve
  adding-push (first ∷ apps) [] app aliases serve = absurd serve
  adding-push (first ∷ apps) (own ∷ lists) app aliases serve = ap (λ rest. AddApp (given_of first own) ∷ rest) (adding-push apps lists app aliases serve.1)

  serve-push : (apps : List AppBlock) (lists : List (List (List ℕ × M))) (app : AppBlock) (aliases : List (List ℕ × M)) → Serve apps lists → Serve (app ∷ []) (aliases ∷ [])
      → Serve (apps ++ app ∷ []) (lists ++ aliases ∷ [])
  serve-push [] [] app aliases serve one = one
  serve-push [] (first ∷ lists) app aliases serve one = absurd serve
  serve-push (first ∷ apps) [] app aliases serve one = absurd serve
  serve-push (first ∷ apps) (own ∷ lists) app aliases serve one = (serve.0, serve-push apps lists app aliases serve.1 one)

  -- their rectangles are those of the session
  pub givens-rects : (apps : List AppBlock) (lists : List (List (List ℕ × M))) → Serve apps lists → map rect_of (givens apps lists) ≡ rects_of apps
  givens-rects [] [] serve = refl
  givens-rects [] (first ∷ lists) serve = absurd serve
  givens-rects (app ∷ apps) [] serve = absurd serve
  givens-rects (app ∷ apps) (aliases ∷ lists) serve = ap (λ rest. app.rect ∷ rest) (givens-rects apps lists serve.1)

any_head : {X : Type 0} (P : X → Type 0) (x : X) (xs : List X) → Any P (x ∷ xs) → P x ⊎ Any P xs
any_head P x xs (zero, y, within, is, holds) = inl (subst P (sym is) holds)
any_head P x xs (suc k, y, within, is, holds) = inr (k, y, omega (arith, within), is, holds)

module _ {M : Type 0} (answer : M → Meaning) where
  -- ── what is held after calls, by what they come to ──

  pub held_by : (calls : List (Call M)) (phase : Phase) (apps : List (Given M)) (lines : List Line) → phase_after Adding calls ≡ phase → given_by calls ≡ apps → lines_of calls ≡ lines
      → held_after answer calls ≡ held_in answer phase apps lines
  held_by calls phase apps lines there given said =
      ap (λ x. held_in answer x (given_by calls) (lines_of calls)) there ∙ ap (λ x. held_in answer phase x (lines_of calls)) given ∙ ap (λ x. held_in answer phase apps x) said

  pub held-adding : (apps : List AppBlock) (lists : List (List (List ℕ × M))) → held_after answer (adding apps lists) ≡ held_in answer Adding (givens apps lists) []
  held-adding apps lists =
      ap (held_after answer) (sym (append-nil (adding apps lists)))
      ∙ held_by (adding apps lists ++ []) Adding (givens apps lists) [] (adding-phase Adding apps lists []) (adding-given apps lists [] ∙ append-nil (givens apps lists)) (adding-lines [] apps lists [])

  -- ── one more ──

  taken_from_parts : (name : List ℕ) (first : List Rect) (slot : ℕ) (apps : List AppBlock) (lists : List (List (List ℕ × M))) → Serve apps lists
      → Any (λ (part : Part M). part.application.name ≡ name) (parts_in answer Adding first [] slot (givens apps lists)) → IsTaken name apps
  taken_from_parts name first slot [] [] serve any = absurd (omega (arith, any.2))
  taken_from_parts name first slot [] (own ∷ lists) serve any = absurd serve
  taken_from_parts name first slot (app ∷ apps) [] serve any = absurd serve
  taken_from_parts name first slot (app ∷ apps) (own ∷ lists) serve any =
      elim (any_head (λ (part : Part M). part.application.name ≡ name) (part_in answer Adding [] (given_of app own)) (parts_in answer Adding first [] (slot + 1) (givens apps lists)) any) [
        | inl here ↦ inl here
        | inr later ↦ inr (taken_from_parts name first (slot + 1) apps lists serve.1 later)
      ]

  length-parts : (first : List Rect) (slot : ℕ) (apps : List AppBlock) (lists : List (List (List ℕ × M))) → Serve apps lists → length (parts_in answer Adding first [] slot (givens apps lists)) ≡ length apps
  length-parts first slot [] [] serve = refl
  length-parts first slot [] (own ∷ lists) serve = absurd serve
  length-parts first slot (app ∷ apps) [] serve = absurd serve
  length-parts first slot (app ∷ apps) (own ∷ lists) serve = ap suc (length-parts first (slot + 1) apps lists serve.1)

  covered_from_rects : (rect : Rect) (apps : List AppBlock) → Any (λ other. SharePixel other rect) (rects_of apps) → IsCovered rect apps
  covered_from_rects rect [] any = absurd (omega (arith, any.2))
  covered_from_rects rect (app ∷ apps) any =
      elim (any_head (λ other. SharePixel other rect) app.rect (rects_of apps) any) [
        | inl here ↦ inl here
        | inr later ↦ inr (covered_from_rects rect apps later)
      ]

  -- a host takes an application that may follow those that were added
  none_refuses : (apps : List AppBlock) (lists : List (List (List ℕ × M))) (app : AppBlock) (aliases : List (List ℕ × M)) → Serve apps lists → Serve (app ∷ []) (aliases ∷ [])
      → IsAppInRange app.name app.rect app.budget → MayServe [] app.aliases → MayFollow apps app.name app.rect
      → NoneApplies (RefusesApp (held_in answer Adding (givens apps lists) []) (given_of app aliases)) add_faults
  none_refuses apps lists app aliases serve one fits serves may =
      let first : List Rect = map rect_of (givens apps lists) in
      let count = length-parts first 0 apps lists serve in (
        λ refuses. refuses,
        (
          λ refuses. refuses,
          (
            λ refuses. refuses,
            (
              λ refuses. refuses (fits, may_be_aliases app.aliases aliases one.0 serves),
              (
                λ refuses. omega (arith, count, refuses, may.room),
                (
                  λ refuses. elim refuses [
                    | inl taken ↦ may.new (taken_from_parts app.name first 0 apps lists serve taken)
                    | inr twice ↦ (let wrong : false ≡ true = sym (no_name_twice app.aliases aliases one.0 serves) ∙ twice in cc)
                  ],
                  (
                    λ refuses. may.apart (covered_from_rects app.rect apps (subst (Any (λ other. SharePixel other app.rect)) (givens-rects apps lists serve) refuses)),
                    tt,
                  ),
                ),
              ),
            ),
          ),
        ),
      )

  -- ── one after another ──

  -- so many have been added, each with its aliases, and these lists are left
  pub record Added (apps : List AppBlock) (lists : List (List (List ℕ × M))) (count : ℕ) (left : List (List (List ℕ × M))) (held : HostState M) : Type 0 where
    pub done : List (List (List ℕ × M))
    pub all : lists ≡ done ++ left
    pub served : Serve (take count apps) done
    pub serve : Serve (drop count apps) left
    pub allowed : AreAllowed (take count apps) (drop count apps)
    pub now : held ≡ held_after answer (adding (take count apps) done)

  pub added_none : (apps : List AppBlock) (lists left : List (List (List ℕ × M))) (held : HostState M) → left ≡ lists → Serve apps lists → AreAllowed [] apps → held ≡ held_after answer [] → Added apps lists 0 left held
  added_none apps lists left held same serve allowed empty =
      record { done = []; all = sym same; served = tt; serve = subst (Serve apps) (sym same) serve; allowed = allowed; now = empty }

  -- the next one, where one is left
  module _ (apps : List AppBlock) (lists left : List (List (List ℕ × M))) (count : ℕ) (held : HostState M) (added : Added apps lists count left held) (app : AppBlock)
      (within : count < length apps) (is : app ≡ get_or apps count app) where
    next_apps : drop count apps ≡ app ∷ drop (count + 1) apps
    next_apps = drop-cons apps count app within ∙ ap (λ a. a ∷ drop (suc count) apps) (sym is) ∙ ap (λ n. app ∷ drop n apps) (let e : suc count ≡ count + 1 = omega arith in e)

    one_more : take (count + 1) apps ≡ take count apps ++ app ∷ []
    one_more = take_more apps count app within ∙ ap (λ a. take count apps ++ a ∷ []) (sym is)

    -- a list of aliases is left for it
    pub some_left : left ≡ [] → ⊥
    some_left none = subst (Serve {M = M} (app ∷ drop (count + 1) apps)) none (subst (λ rest. Serve {M = M} rest left) next_apps added.serve)

    module _ (aliases : List (List ℕ × M)) (others : List (List (List ℕ × M))) (from : left ≡ aliases ∷ others) where
      serves : Serve (app ∷ drop (count + 1) apps) (aliases ∷ others)
      serves = subst (Serve {M = M} (app ∷ drop (count + 1) apps)) from (subst (λ rest. Serve {M = M} rest left) next_apps added.serve)

      may : AreAllowed (take count apps) (app ∷ drop (count + 1) apps)
      may = subst (AreAllowed (take count apps)) next_apps added.allowed

      pub not_refused : NoneApplies (RefusesApp held (given_of app aliases)) add_faults
      not_refused =
          subst (λ (h : HostState M). NoneApplies (RefusesApp h (given_of app aliases)) add_faults) (sym (added.now ∙ held-adding (take count apps) added.done))
          (none_refuses (take count apps) added.done app aliases added.served (serves.0, tt) may.0 may.1 may.2)

      pub one_added : (after : HostState M) → ((calls : List (Call M)) → held ≡ held_after answer calls → after ≡ held_after answer (calls ++ AddApp (given_of app aliases) ∷ [])) → Added apps lists (count + 1) others after
      one_added after history = record {
        done = added.done ++ aliases ∷ [];
        all = added.all ∙ ap (λ rest. added.done ++ rest) from ∙ sym (append_assoc added.done (aliases ∷ []) others);
        served = subst (λ front. Serve front (added.done ++ aliases ∷ [])) (sym one_more) (serve-push (take count apps) added.done app aliases added.served (serves.0, tt));
        serve = serves.1;
        allowed = subst (λ front. AreAllowed front (drop (count + 1) apps)) (sym one_more) may.3;
        now =
            history (adding (take count apps) added.done) added.now
            ∙ ap (held_after answer) (sym (adding-push (take count apps) added.done app aliases added.served) ∙ ap (λ front. adding front (added.done ++ aliases ∷ [])) (sym one_more));
      }

  -- once all have been added
  pub all_added : (apps : List AppBlock) (lists left : List (List (List ℕ × M))) (held : HostState M) → Added apps lists (length apps) left held → held ≡ held_after answer (adding apps lists)
  all_added apps lists left held added =
      let serve : Serve [] left = subst (λ rest. Serve rest left) (drop-length apps) added.serve in
      let none : left ≡ [] = by left serve in
      let all : lists ≡ added.done = added.all ∙ ap (λ rest. added.done ++ rest) none ∙ append-nil added.done in
      added.now ∙ ap (λ front. held_after answer (adding front added.done)) (take-length apps) ∙ ap (λ ls. held_after answer (adding apps ls)) (sym all)
    where
      by : (rest : List (List (List ℕ × M))) → Serve [] rest → rest ≡ []
      by [] serve = refl
      by (first ∷ rest) serve = absurd serve
