-- The names of the aliases of a session, as a host tests them.
use Rattle.std.proofs.Common.{◌≡◌, ℕ, ◌+◌, ◌≤◌, Bool, true, false, ◌&&◌, ◌||◌, List, [], ◌∷◌, ◌++◌, length, map, refl, sym, ap, ◌∙◌, subst, inl, inr, arith, length-append}
use Rattle.std.specs.List.{list_all}
use Rattle.std.specs.Str.{bytes_eq}
use Rattle.std.proofs.lemmas.Bool.{le-leb}
use Rattle.std.proofs.lemmas.List.{length-map}
use Rattle.std.proofs.lemmas.List.Folds.{list_all-map}
use Rattle.std.proofs.lemmas.Slice.Eq.{bytes_eq-Decides}
use Rattle.tk_app.specs.Seen.{names_of}
use Rattle.tk_session.specs.Session.{IsServed, MayServe}
use Rattle.tk_session.specs.declared.session.AliasLine.{AliasLine}
use Rattle.tk_alias.specs.Names.{is_command_name}
use Rattle.tk_host.specs.Spec.{are_aliases, have_one_name, is_served}

-- the same of names alone
abbrev is_one_of : List ℕ → List (List ℕ) → Bool
is_one_of name [] = false
is_one_of name (other ∷ names) = bytes_eq other name || is_one_of name names

abbrev repeat : List (List ℕ) → Bool
repeat [] = false
repeat (name ∷ names) = is_one_of name names || repeat names

served_names : {M : Type 0} (name : List ℕ) (aliases : List (List ℕ × M)) → is_served name aliases ≡ is_one_of name (names_of aliases)
served_names name [] = refl
served_names name (alias ∷ aliases) = ap (λ b. bytes_eq alias.0 name || b) (served_names name aliases)

repeats : {M : Type 0} (aliases : List (List ℕ × M)) → have_one_name aliases ≡ repeat (names_of aliases)
repeats [] = refl
repeats (alias ∷ aliases) =
    ap (λ b. b || have_one_name aliases) (served_names alias.0 aliases) ∙ ap (λ b. is_one_of alias.0 (names_of aliases) || b) (repeats aliases)

-- ── the lines of aliases that may come one after another ──

abbrev pub line_names : List AliasLine → List (List ℕ)
line_names lines = map (λ (line : AliasLine). line.name) lines

served_more : (name : List ℕ) (before : List AliasLine) (line : AliasLine) → IsServed name before → IsServed name (before ++ line ∷ [])
served_more name [] line served = absurd served
served_more name (first ∷ before) line (inl here) = inl here
served_more name (first ∷ before) line (inr later) = inr (served_more name before line later)

served_last : (before : List AliasLine) (line : AliasLine) → IsServed line.name (before ++ line ∷ [])
served_last [] line = inl refl
served_last (first ∷ before) line = inr (served_last before line)

-- a name that is served isn't that of a later one
not_later : (name : List ℕ) (before later : List AliasLine) → IsServed name before → MayServe before later → is_one_of name (line_names later) ≡ false
not_later name before [] served may = refl
not_later name before (line ∷ later) served may =
    by (bytes_eq line.name name) refl (not_later name (before ++ line ∷ []) later (served_more name before line served) may.2)
  where
    by : (b : Bool) → bytes_eq line.name name ≡ b → is_one_of name (line_names later) ≡ false → (b || is_one_of name (line_names later)) ≡ false
    by true same rest = absurd (may.1.new (subst (λ n. IsServed n before) (sym ((bytes_eq-Decides line.name name).0 same)) served))
    by false same rest = rest

unique : (before later : List AliasLine) → MayServe before later → repeat (line_names later) ≡ false
unique before [] may = refl
unique before (line ∷ later) may =
    ap (λ b. b || repeat (line_names later)) (not_later line.name (before ++ line ∷ []) later (served_last before line) may.2) ∙ unique (before ++ line ∷ []) later may.2

few : (before later : List AliasLine) → MayServe before later → length before ≤ 64 → length before + length later ≤ 64
few before [] may le = omega (arith, le)
few before (line ∷ later) may le =
    let more : length (before ++ line ∷ []) ≡ length before + 1 = length-append before (line ∷ []) in
    let rest = few (before ++ line ∷ []) later may.2 (omega (arith, more, may.1.room)) in
    omega (arith, more, rest)

valid : (before later : List AliasLine) → MayServe before later → list_all is_command_name (line_names later) ≡ true
valid before [] may = refl
valid before (line ∷ later) may =
    let named : is_command_name line.name ≡ true = may.0.named in
    ap (λ b. b && list_all is_command_name (line_names later)) named ∙ valid (before ++ line ∷ []) later may.2

-- aliases by the names of lines that may come one after another
module _ {M : Type 0} (lines : List AliasLine) (aliases : List (List ℕ × M)) (same : names_of aliases ≡ line_names lines) (may : MayServe [] lines) where
  pub no_name_twice : have_one_name aliases ≡ false
  no_name_twice = repeats aliases ∙ ap repeat same ∙ unique [] lines may

  count : length aliases ≤ 64
  count =
      let own : length (names_of aliases) ≡ length aliases = length-map aliases (λ alias. alias.0) in
      let other : length (line_names lines) ≡ length lines = length-map lines (λ (line : AliasLine). line.name) in
      let all = few [] lines may (omega arith) in
      omega (arith, own, other, ap (λ (names : List (List ℕ)). length names) same, all)

  pub may_be_aliases : are_aliases aliases ≡ true
  may_be_aliases =
      let named : list_all (λ (alias : List ℕ × M). is_command_name alias.0) aliases ≡ true =
      sym (list_all-map is_command_name (λ (alias : List ℕ × M). alias.0) aliases) ∙ ap (list_all is_command_name) same ∙ valid [] lines may in
      ap (λ b. b && list_all (λ (alias : List ℕ × M). is_command_name alias.0) aliases) (le-leb (length aliases) 64 count) ∙ named
