-- What ran, line by line.
use Rattle.std.proofs.Common.{◌≡◌, ℕ, ◌+◌, ◌<◌, ◌≤◌, List, [], ◌∷◌, ◌++◌, length, get_or, drop, ap, sym, subst, ◌∙◌, append_assoc, arith}
use Rattle.panels_text.proofs.Turns.{drop_at}
use Rattle.tk_app.specs.Seen.{Meaning}
use Rattle.tk_host.specs.Held.{Call, HostState, held_after}
use Rattle.tk_session.specs.declared.session.EventLine.{EventLine}
use Rattle.panels_film.specs.Bindings.{Told, known_at, ran_at, ran_from}
use Rattle.panels_film.specs.Films.{handed}

module _ {M : Type 0} (answer : M → Meaning) (events : List EventLine) (end : ℕ) (all : List Told) where
  -- a host has come through so many lines: what ran, and what is left to run, are all
  pub record Ran (number : ℕ) (known : List ℕ) (held : HostState M) (ran : List Told) : Type 0 where
    pub calls : List (Call M)
    pub held_is : held ≡ held_after answer calls
    pub left : ran ++ ran_from answer calls number known (drop number events) end ≡ all
    pub within : number ≤ length events

  pub none_ran : (first known : List ℕ) (held : HostState M) (calls : List (Call M)) (ran : List Told) → ran ≡ [] → known ≡ first → held ≡ held_after answer calls
      → ran_from answer calls 0 first events end ≡ all → Ran 0 known held ran
  none_ran first known held calls ran none same begun is = record {
    calls = calls;
    held_is = begun;
    left =
        ap (λ (front : List Told). front ++ ran_from answer calls 0 known events end) none
        ∙ ap (λ (k : List ℕ). ran_from answer calls 0 k events end) same
        ∙ is;
    within = omega arith;
  }

  -- one line more
  pub one_ran : (number : ℕ) (known next : List ℕ) (event : EventLine) (held after : HostState M) (ran more : List Told) → number < length events → event ≡ get_or events number event
      → Ran number known held ran
      → ((calls : List (Call M)) → held ≡ held_after answer calls → after ≡ held_after answer (handed calls event))
      → ((calls : List (Call M)) → held ≡ held_after answer calls → more ≡ ran ++ ran_at answer calls number (number + 1) known event)
      → ((calls : List (Call M)) → held ≡ held_after answer calls → next ≡ known_at answer calls known event)
      → Ran (number + 1) next after more
  one_ran number known next event held after ran more within is before history told noted =
      let calls = before.calls in
      let rest = drop (number + 1) events in
      let behind = ran_from answer (handed calls event) (number + 1) (known_at answer calls known event) rest end in
      let P : List EventLine → Type 0 = λ es. ran ++ ran_from answer calls number known es end ≡ all in
      let here : ran ++ (ran_at answer calls number (number + 1) known event ++ behind) ≡ all = subst P (drop_at events number event (within, is)) before.left in
      record {
        calls = handed calls event;
        held_is = history calls before.held_is;
        left =
            ap (λ (k : List ℕ). more ++ ran_from answer (handed calls event) (number + 1) k rest end) (noted calls before.held_is)
            ∙ ap (λ (front : List Told). front ++ behind) (told calls before.held_is)
            ∙ append_assoc ran (ran_at answer calls number (number + 1) known event) behind
            ∙ here;
        within = omega (arith, within);
      }

  -- the end
  pub all_ran : (number : ℕ) (known : List ℕ) (held after : HostState M) (ran more : List Told) → drop number events ≡ [] → Ran number known held ran
      → ((calls : List (Call M)) → held ≡ held_after answer calls → more ≡ ran ++ ran_from answer calls number known [] end)
      → more ≡ all
  all_ran number known held after ran more none before told =
      let P : List EventLine → Type 0 = λ es. ran ++ ran_from answer before.calls number known es end ≡ all in
      told before.calls before.held_is ∙ subst P none before.left
