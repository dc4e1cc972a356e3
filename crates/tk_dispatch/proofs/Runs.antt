-- A script as runs of characters with a `%` behind each.
use Rattle.std.proofs.Common.{◌≡◌, ◌≢◌, ℕ, suc, ◌+◌, ◌<◌, ◌≤◌, Bool, true, false, nat_eq, List, [], ◌∷◌, ◌++◌, append_assoc, length, length-append, take, drop, get_or, Option, Some, None, lit<, refl, sym, ap, ◌∙◌, subst, arith}
use Rattle.std.specs.Str.{IsUtf8, IsCharBoundary, byte as letter}
use Rattle.std.proofs.lemmas.Bool.{eqb-true}
use Rattle.std.proofs.lemmas.Bool.Decides.{nat_tests}
use Rattle.std.proofs.lemmas.List.{drop_more, get_or-take, length-take, take-append-drop}
use Rattle.std.proofs.lemmas.Str.{IsCharBoundary-after_ascii}
use Rattle.memchr.specs.Find.{IsFirstByte, is_byte}
use Rattle.tk_sequences.specs.declared.event.Event.{Event}
use Rattle.tk_dispatch.specs.Percent.{field_named, percent, replacement, shown_or_itself, substituted}
use Rattle.tk_dispatch.specs.Substitution.{substituted_from}
use Rattle.tk_dispatch.specs.declared.field.Field.{Field}

not_eqb : (a b : ℕ) → a ≢ b → nat_eq a b ≡ false
not_eqb a b differ = grind (arith, nat_tests)

pub longer : (old item : List ℕ) → 65536 < length item → 65536 < length (old ++ item)
longer old item long = omega (arith, length-append old item)

pub longer_front : (front back : List ℕ) → 65536 < length front → 65536 < length (front ++ back)
longer_front front back long = omega (arith, length-append front back)

-- a run up to a `%`
pub run_first : (event : Event) (run behind : List ℕ) → ((k : ℕ) → k < length run → get_or run k 0 ≢ 37)
    → substituted_from event false (run ++ 37 ∷ behind) ≡ run ++ substituted_from event true behind
run_first event [] behind none = refl
run_first event (byte ∷ run) behind none =
    let other : nat_eq byte 37 ≡ false = not_eqb byte 37 (none 0 (omega arith)) in
    let first : substituted_from event false (byte ∷ (run ++ 37 ∷ behind)) ≡ byte ∷ substituted_from event false (run ++ 37 ∷ behind) = rw other refl in
    first ∙ ap (λ (rest : List ℕ). byte ∷ rest) (run_first event run behind (λ k lt. none (suc k) (omega arith)))

-- a run up to the end
pub run_last : (event : Event) (run : List ℕ) → ((k : ℕ) → k < length run → get_or run k 0 ≢ 37) → substituted_from event false run ≡ run
run_last event [] none = refl
run_last event (byte ∷ run) none =
    let other : nat_eq byte 37 ≡ false = not_eqb byte 37 (none 0 (omega arith)) in
    let first : substituted_from event false (byte ∷ run) ≡ byte ∷ substituted_from event false run = rw other refl in
    first ∙ ap (λ (rest : List ℕ). byte ∷ rest) (run_last event run (λ k lt. none (suc k) (omega arith)))

-- ---- where the first `%` is found

found_here : (text : List ℕ) (place : ℕ) → IsFirstByte (is_byte 37) text (Some place) → get_or text place 0 ≡ 37
found_here text place found = eqb-true (get_or text place 0) 37 found.1

-- a text can be cut behind a `%`
pub behind_percent : (text : List ℕ) (place : ℕ) → IsUtf8 text → IsFirstByte (is_byte 37) text (Some place) → IsCharBoundary text (place + 1)
behind_percent text place utf8 found =
    let here = found_here text place found in
    IsCharBoundary-after_ascii text place utf8 found.0.high (omega arith)

another : (byte : ℕ) → ¬ (is_byte 37 byte ≡ true) → byte ≢ 37
another byte away = λ is. away (grind (arith, nat_tests))

-- a text is the run in front of its first `%`, the `%` and what is behind it
pub parts_cut : (event : Event) (text : List ℕ) (place : ℕ) (run behind : List ℕ) → IsFirstByte (is_byte 37) text (Some place)
    → run ≡ take place text → behind ≡ drop (place + 1) text → substituted_from event false text ≡ run ++ substituted_from event true behind
parts_cut event text place run behind found front rest =
    let before : (k : ℕ) → k < length (take place text) → get_or (take place text) k 0 ≢ 37 = λ k lt.
    let below : k < place = omega (arith, length-take place text, lt) in
    rw (get_or-take place text k 0 below) (another (get_or text k 0) (found.0.before k (omega arith) below)) in
    let cut : drop place text ≡ 37 ∷ drop (place + 1) text = drop_more text place 0 found.0.high ∙ ap (λ (byte : ℕ). byte ∷ drop (place + 1) text) (found_here text place found) in
    rw (front, rest)
    (ap (substituted_from event false) (sym (take-append-drop place text) ∙ ap (λ (bytes : List ℕ). take place text ++ bytes) cut) ∙ run_first event (take place text) (drop (place + 1) text) before)

-- a text without a `%` stays
pub whole_stays : (event : Event) (text : List ℕ) → IsFirstByte (is_byte 37) text None → substituted_from event false text ≡ text
whole_stays event text away = run_last event text (λ k lt. another (get_or text k 0) (away k (omega arith) lt))

-- ---- the loop

-- a run and what stands behind it are added
pub step : (event : Event) (old now new script rest run behind left : List ℕ) → old ++ substituted_from event false rest ≡ substituted_from event false script
    → substituted_from event false rest ≡ run ++ substituted_from event true behind → now ≡ old ++ run
    → new ++ substituted_from event false left ≡ now ++ substituted_from event true behind
    → new ++ substituted_from event false left ≡ substituted_from event false script
step event old now new script rest run behind left so_far is pushed put =
    put ∙ ap (λ (text : List ℕ). text ++ substituted_from event true behind) pushed ∙ append_assoc old run (substituted_from event true behind)
    ∙ ap (λ (text : List ℕ). old ++ text) (sym is) ∙ so_far

-- with a run it would be too long
pub run_long : (event : Event) (old script rest run behind : List ℕ) → old ++ substituted_from event false rest ≡ substituted_from event false script
    → substituted_from event false rest ≡ run ++ substituted_from event true behind → 65536 < length (old ++ run) → 65536 < length (substituted_from event false script)
run_long event old script rest run behind so_far is long =
    let whole : (old ++ run) ++ substituted_from event true behind ≡ substituted_from event false script =
    append_assoc old run (substituted_from event true behind) ∙ ap (λ (text : List ℕ). old ++ text) (sym is) ∙ so_far in
    subst (λ (text : List ℕ). 65536 < length text) whole (longer_front (old ++ run) (substituted_from event true behind) long)

pub behind_long : (event : Event) (old now script rest run behind : List ℕ) → old ++ substituted_from event false rest ≡ substituted_from event false script
    → substituted_from event false rest ≡ run ++ substituted_from event true behind → now ≡ old ++ run
    → 65536 < length (now ++ substituted_from event true behind) → 65536 < length (substituted_from event false script)
behind_long event old now script rest run behind so_far is pushed long =
    let whole : now ++ substituted_from event true behind ≡ substituted_from event false script =
    ap (λ (text : List ℕ). text ++ substituted_from event true behind) pushed ∙ append_assoc old run (substituted_from event true behind)
    ∙ ap (λ (text : List ℕ). old ++ text) (sym is) ∙ so_far in
    subst (λ (text : List ℕ). 65536 < length text) whole long

-- ---- a character that isn't ASCII

other_than : (byte k : ℕ) → 128 ≤ byte → k < 128 → nat_eq byte k ≡ false
other_than byte k high low = not_eqb byte k (λ same. omega arith)

no_field : (byte : ℕ) → 128 ≤ byte → field_named byte ≡ None
no_field byte high =
    let ne : (k : ℕ) → k < 128 → nat_eq byte k ≡ false = λ k low. other_than byte k high low in
    rw (ne (letter "W") (lit< tt), ne (letter "T") (lit< tt), ne (letter "t") (lit< tt), ne (letter "s") (lit< tt), ne (letter "x") (lit< tt), ne (letter "y") (lit< tt), ne (letter "X") (lit< tt), ne (letter "Y") (lit< tt), ne (letter "b") (lit< tt), ne (letter "K") (lit< tt), ne (letter "A") (lit< tt), ne (letter "w") (lit< tt), ne (letter "h") (lit< tt), ne (letter "d") (lit< tt)) refl

-- it stands for itself with or without a `%`
pub itself : (event : Event) (behind : List ℕ) → 0 < length behind → 128 ≤ get_or behind 0 0 → substituted_from event false behind ≡ substituted_from event true behind
unfolding replacement
itself event [] some high = absurd (omega arith)
itself event (byte ∷ bytes) some high =
    let plain : nat_eq byte 37 ≡ false = other_than byte 37 high (lit< tt) in
    let first : substituted_from event false (byte ∷ bytes) ≡ byte ∷ substituted_from event false bytes = rw plain refl in
    first ∙ ap (λ (field : Option Field). shown_or_itself event byte field ++ substituted_from event false bytes) (sym (no_field byte high))

-- ---- byte by byte, and two bytes at once

last_by : (event : Event) (byte : ℕ) (b : Bool) → nat_eq byte percent ≡ b → substituted_from event false (byte ∷ []) ≡ byte ∷ []
last_by event byte true is = rw is (ap (λ (n : ℕ). n ∷ []) (sym (eqb-true byte percent is)))
last_by event byte false is = rw is refl

pair_by : (event : Event) (byte character : ℕ) (bytes : List ℕ) (b : Bool) → nat_eq byte percent ≡ b → substituted_from event false bytes ≡ substituted event bytes
    → substituted_from event false (character ∷ bytes) ≡ substituted event (character ∷ bytes) → substituted_from event false (byte ∷ character ∷ bytes) ≡ substituted event (byte ∷ character ∷ bytes)
unfolding substituted
pair_by event byte character bytes true is behind rest = rw is (ap (λ (text : List ℕ). replacement event character ++ text) behind)
pair_by event byte character bytes false is behind rest = rw is (ap (λ (text : List ℕ). byte ∷ text) rest)

pub as_steps : (event : Event) (script : List ℕ) → substituted_from event false script ≡ substituted event script
unfolding substituted
as_steps event [] = refl
as_steps event (byte ∷ []) = last_by event byte (nat_eq byte percent) refl
as_steps event (byte ∷ character ∷ bytes) = pair_by event byte character bytes (nat_eq byte percent) refl (as_steps event bytes) (as_steps event (character ∷ bytes))

pub as_steps_long : (event : Event) (script : List ℕ) → 65536 < length (substituted_from event false script) → 65536 < length (substituted event script)
as_steps_long event script long = subst (λ (text : List ℕ). 65536 < length text) (as_steps event script) long
