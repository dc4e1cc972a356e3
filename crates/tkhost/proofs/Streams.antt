-- Known bytes of readers and writers over several calls.
use Rattle.std.proofs.Common.{◌≡◌, ℕ, List, [], ◌++◌, take, drop, Option, Some, None, Result, Ok, Err, OnErr, refl, sym, ◌∙◌, ap, append_assoc}
use Rattle.std.proofs.lemmas.List.{append-nil, take-append-drop}
use Rattle.std.specs.Io.KnownBytes.{Appends, Consumes, Keeps}
use Rattle.tkhost.specs.Output.{AppendsFront}

pub appends_none : (known : Option (List ℕ)) → Appends known known []
appends_none None = tt
appends_none (Some xs) = sym (append-nil xs)

pub appends_more : (old mid new : Option (List ℕ)) (front more : List ℕ) → Appends old mid front → Appends mid new more → Appends old new (front ++ more)
appends_more None mid new front more first second = tt
appends_more (Some xs) None new front more first second = absurd first
appends_more (Some xs) (Some ys) None front more first second = absurd second
appends_more (Some xs) (Some ys) (Some zs) front more first second = second ∙ ap (λ bytes. bytes ++ more) first ∙ append_assoc xs front more

pub appends_kept : (old mid new : Option (List ℕ)) (front : List ℕ) → Appends old mid front → Keeps mid new → Appends old new front
appends_kept None mid new front first kept = tt
appends_kept (Some xs) None new front first kept = absurd first
appends_kept (Some xs) (Some ys) None front first kept = absurd kept
appends_kept (Some xs) (Some ys) (Some zs) front first kept = kept ∙ first

-- of the text all but the rest has gone out
abbrev pub HasGone : Option (List ℕ) → Option (List ℕ) → List ℕ → List ℕ → Type 0
HasGone old new text rest = (front : List ℕ) × (text ≡ front ++ rest) × Appends old new front

pub HasGone-none : (known : Option (List ℕ)) (text : List ℕ) → HasGone known known text text
HasGone-none known text = ([], refl, appends_none known)

pub HasGone-more : (old mid new : Option (List ℕ)) (text rest : List ℕ) (count : ℕ) → HasGone old mid text rest → Appends mid new (take count rest) → HasGone old new text (drop count rest)
HasGone-more old mid new text rest count gone more = (
  gone.0 ++ take count rest,
  gone.1 ∙ ap (λ bytes. gone.0 ++ bytes) (sym (take-append-drop count rest)) ∙ sym (append_assoc gone.0 (take count rest) (drop count rest)),
  appends_more old mid new gone.0 (take count rest) gone.2 more,
)

pub HasGone-all : (old new : Option (List ℕ)) (text : List ℕ) → HasGone old new text [] → Appends old new text
HasGone-all old new text gone = rw (gone.1 ∙ append-nil gone.0) gone.2

pub AppendsFront-from_gone : (old mid new : Option (List ℕ)) (text rest : List ℕ) → HasGone old mid text rest → Keeps mid new → AppendsFront old new text
AppendsFront-from_gone old mid new text rest gone kept = (gone.0, rest, gone.1, appends_kept old mid new gone.0 gone.2 kept)

-- a front of what comes after a front
pub AppendsFront-behind : (old mid new : Option (List ℕ)) (front text : List ℕ) → Appends old mid front → AppendsFront mid new text → AppendsFront old new (front ++ text)
AppendsFront-behind old mid new front text first second = (
  front ++ second.0,
  second.1,
  ap (λ bytes. front ++ bytes) second.2 ∙ sym (append_assoc front second.0 second.1),
  appends_more old mid new front second.0 first second.3,
)

-- a front of a front
pub AppendsFront-within : (old new : Option (List ℕ)) (text more : List ℕ) → AppendsFront old new text → AppendsFront old new (text ++ more)
AppendsFront-within old new text more first = (
  first.0,
  first.1 ++ more,
  ap (λ bytes. bytes ++ more) first.2 ∙ append_assoc first.0 first.1 more,
  first.3,
)

pub consumes_none : (known : Option (List ℕ)) → Consumes known known []
consumes_none None = tt
consumes_none (Some xs) = refl

pub consumes_more : (old mid new : Option (List ℕ)) (front more : List ℕ) → Consumes old mid front → Consumes mid new more → Consumes old new (front ++ more)
consumes_more None mid new front more first second = tt
consumes_more (Some xs) None new front more first second = absurd first
consumes_more (Some xs) (Some ys) None front more first second = absurd second
consumes_more (Some xs) (Some ys) (Some zs) front more first second =
    first ∙ ap (λ bytes. front ++ bytes) second ∙ sym (append_assoc front more zs)

-- what holds anyway holds at an error
pub on_err_always : {T E P : Type 0} (r : Result T E) → P → OnErr r P
on_err_always (Ok x) p = tt
on_err_always (Err e) p = p
