-- Facts about glob patterns.
use Rattle.std.proofs.Common.{◌≡◌, ℕ, zero, suc, ◌+◌, ◌-◌, ◌<◌, ◌≤◌, ◌⊎◌, inl, inr, Bool, true, false, ◌||◌, eqb, ltb, List, [], ◌∷◌, ◌++◌, length, get_or, take, drop, Option, Some, None, Bor, refl, sym, ap, subst, ◌∙◌, arith}
use Rattle.std.specs.Str.{chars, IsUtf8, NonePass, NoCharPasses, encode_utf8_all}
use Rattle.std.proofs.lemmas.Str.{chars-append, chars_from_encodes, encodes-chars, encode_ascii, chars-nil}
use Rattle.std.proofs.lemmas.Bool.{ne_eqb, eqb-false, cases_lt}
use Rattle.std.proofs.lemmas.List.{take-append-drop, drop-drop, drop_at}
use Rattle.std.proofs.lemmas.Bool.Decides.{eqb_tells, nat_tests}
use Rattle.std.specs.Option.{IfSome, IfNone, MatchOption}
use Rattle.std.specs.Bool.{then_some}
use Rattle.std.proofs.lemmas.Str.Pattern.{IsSplitOnceResult, split_parts}
use Rattle.tcl_text.specs.Glob.{in_class, Lacks, AllowsByClass, AllowsFirst, GlobMatches}
use Rattle.tcl_text.specs.Glob.GlobMatches.{nothing_left, skips, allows}
use Rattle.tcl_text.specs.GlobSteps.{HasPart, StopsAt, Runs}

or_false : (b : Bool) → (b || false) ≡ b
or_false true = refl
or_false false = refl

-- without a `-` and a character after it, a class's first character stands for itself
pub in_class-one : (low c : ℕ) (after : List ℕ) → ((high : ℕ) (rest : List ℕ) → after ≡ 45 ∷ high ∷ rest → ⊥) → in_class (low ∷ after) c ≡ (eqb low c || in_class after c)
in_class-one low c [] h = sym (or_false (eqb low c))
in_class-one low c (dash ∷ []) h = refl
in_class-one low c (dash ∷ high ∷ rest) h = rw (ne_eqb dash 45 (λ e. h high rest cc))

-- none of these characters is the one
pub Lacks-from_NonePass : (x : ℕ) (cs : List ℕ) → NonePass (λ d. eqb d x) cs → Lacks x cs
Lacks-from_NonePass x [] h = tt
Lacks-from_NonePass x (c ∷ cs) h = (eqb-false c x h.0, Lacks-from_NonePass x cs h.1)

pub Lacks-cut : (x : ℕ) (front rest : List ℕ) → Lacks x (front ++ x ∷ rest) → ⊥
Lacks-cut x [] rest h = h.0 refl
Lacks-cut x (y ∷ front) rest h = Lacks-cut x front rest h.1

-- a text has one first cut at x
pub first_cut-same : (x : ℕ) (a b s t : List ℕ) → Lacks x a → Lacks x b → a ++ x ∷ s ≡ b ++ x ∷ t → (a ≡ b) × (s ≡ t)
first_cut-same x [] [] s t la lb e = (refl, cc)
first_cut-same x [] (y ∷ b) s t la lb e = absurd (lb.0 cc)
first_cut-same x (y ∷ a) [] s t la lb e = absurd (la.0 cc)
first_cut-same x (y ∷ a) (z ∷ b) s t la lb e =
    let tails : a ++ x ∷ s ≡ b ++ x ∷ t = cc in
    let heads : y ≡ z = cc in
    let both : (a ≡ b) × (s ≡ t) = first_cut-same x a b s t la.1 lb.1 tails in
    let front : a ≡ b = both.0 in
    (cc, both.1)

-- a class is cut at one place
pub AllowsByClass-same : (text : List ℕ) (c d : ℕ) (rest other : List ℕ) (h : AllowsByClass text c rest) (k : AllowsByClass text d other) → (h.0 ≡ k.0) × (rest ≡ other)
AllowsByClass-same text c d rest other h k = first_cut-same 93 h.0 k.0 rest other h.1 k.1 (sym h.2 ∙ k.2)

-- a part for one character leaves one rest, whatever the character
AllowsFirst-same : (pattern : List ℕ) (c d : ℕ) (rest other : List ℕ) → AllowsFirst pattern c rest → AllowsFirst pattern d other → rest ≡ other
AllowsFirst-same [] c d rest other h k = absurd h
AllowsFirst-same (first ∷ after) c d rest other (inl h) (inl k) = cc
AllowsFirst-same (first ∷ after) c d rest other (inl h) (inr (inl k)) = absurd (omega arith)
AllowsFirst-same (first ∷ after) c d rest other (inl h) (inr (inr (inl k))) = absurd (omega arith)
AllowsFirst-same (first ∷ after) c d rest other (inl h) (inr (inr (inr k))) = absurd (k.1 h.0)
AllowsFirst-same (first ∷ after) c d rest other (inr (inl h)) (inl k) = absurd (omega arith)
AllowsFirst-same (first ∷ after) c d rest other (inr (inl h)) (inr (inl k)) = cc
AllowsFirst-same (first ∷ after) c d rest other (inr (inl h)) (inr (inr (inl k))) = absurd (omega arith)
AllowsFirst-same (first ∷ after) c d rest other (inr (inl h)) (inr (inr (inr k))) = absurd (k.3 h.0)
AllowsFirst-same (first ∷ after) c d rest other (inr (inr (inl h))) (inl k) = absurd (omega arith)
AllowsFirst-same (first ∷ after) c d rest other (inr (inr (inl h))) (inr (inl k)) = absurd (omega arith)
AllowsFirst-same (first ∷ after) c d rest other (inr (inr (inl h))) (inr (inr (inl k))) =
    (AllowsByClass-same after c d rest other h.1 k.1).1
AllowsFirst-same (first ∷ after) c d rest other (inr (inr (inl h))) (inr (inr (inr k))) = absurd (k.2 h.0)
AllowsFirst-same (first ∷ after) c d rest other (inr (inr (inr h))) (inl k) = absurd (h.1 k.0)
AllowsFirst-same (first ∷ after) c d rest other (inr (inr (inr h))) (inr (inl k)) = absurd (h.3 k.0)
AllowsFirst-same (first ∷ after) c d rest other (inr (inr (inr h))) (inr (inr (inl k))) = absurd (h.2 k.0)
AllowsFirst-same (first ∷ after) c d rest other (inr (inr (inr h))) (inr (inr (inr k))) = cc

AllowsFirst-star : (after : List ℕ) (c : ℕ) (rest : List ℕ) → AllowsFirst (42 ∷ after) c rest → ⊥
AllowsFirst-star after c rest (inl h) = omega arith
AllowsFirst-star after c rest (inr (inl h)) = omega arith
AllowsFirst-star after c rest (inr (inr (inl h))) = omega arith
AllowsFirst-star after c rest (inr (inr (inr h))) = h.0 refl

-- what a match says, by how its pattern begins
pub GlobMatches-empty : {pattern text : List ℕ} → GlobMatches pattern text → pattern ≡ [] → text ≡ []
GlobMatches-empty nothing_left e = refl
GlobMatches-empty (skips skipped left cut m) e = cc
GlobMatches-empty (allows {pattern} {rest} {left} {c} a m) e = absurd (subst (λ (p : List ℕ). AllowsFirst p c rest) e a)

pub record Part (pattern text : List ℕ) : Type 0 where
  pub c : ℕ
  pub rest : List ℕ
  pub left : List ℕ
  pub cut : text ≡ c ∷ left
  pub allowed : AllowsFirst pattern c rest
  pub matches : GlobMatches rest left

pub GlobMatches-part : {pattern text : List ℕ} → GlobMatches pattern text → HasPart pattern → Part pattern text
GlobMatches-part nothing_left h = absurd h
GlobMatches-part (skips skipped left cut m) h = absurd (h refl)
GlobMatches-part (allows {pattern} {rest} {left} {c} a m) h =
    record { c = c; rest = rest; left = left; cut = refl; allowed = a; matches = m }

pub record Later (rest text : List ℕ) : Type 0 where
  pub skipped : ℕ
  pub matches : GlobMatches rest (drop skipped text)

pub GlobMatches-star : {pattern text : List ℕ} → GlobMatches pattern text → (rest : List ℕ) → pattern ≡ 42 ∷ rest → Later rest text
GlobMatches-star nothing_left rest e = absurd cc
GlobMatches-star (skips {rest = r} {text} skipped left cut m) rest e =
    let same : r ≡ rest = cc in
    let here : left ≡ drop (length skipped) text = sym (ap (drop (length skipped)) cut ∙ drop_at skipped left (length skipped) refl) in
    record { skipped = length skipped; matches = subst (λ (p : List ℕ). GlobMatches p (drop (length skipped) text)) same (subst (λ (t : List ℕ). GlobMatches r t) here m) }
GlobMatches-star (allows {pattern} {rest = r} {left} {c} a m) rest e =
    absurd (AllowsFirst-star rest c r (subst (λ (p : List ℕ). AllowsFirst p c r) e a))

pub star_skips : (rest text : List ℕ) (skipped : ℕ) → GlobMatches rest (drop skipped text) → GlobMatches (42 ∷ rest) text
star_skips rest text skipped m = skips (take skipped text) (drop skipped text) (sym (take-append-drop skipped text)) m

-- a run of parts
pub Runs-none : (pattern text : List ℕ) → Runs pattern text pattern text
Runs-none pattern text = record { count = 0; cut = refl; forth = λ any m. m; back = λ m. m }

pub Runs-here : (pattern text rest left : List ℕ) → Runs pattern text rest left → GlobMatches pattern text → GlobMatches rest left
Runs-here pattern text rest left r m = rw r.cut (r.forth text m)

pub drop_past : (text next : List ℕ) (count c : ℕ) → drop count text ≡ c ∷ next → next ≡ drop (count + 1) text
drop_past text next count c e = ap (drop 1) (sym e) ∙ drop-drop 1 count text

pub Runs-more : (pattern text rest left after : List ℕ) (c : ℕ) (next : List ℕ) → Runs pattern text rest left → HasPart rest → left ≡ c ∷ next → AllowsFirst rest c after → Runs pattern text after next
Runs-more pattern text rest left after c next r part is a = record {
  count = r.count + 1;
  cut = drop_past text next r.count c (sym r.cut ∙ is);
  forth = λ any m.
      let p = GlobMatches-part (r.forth any m) part in
      let to_rest : p.rest ≡ after = AllowsFirst-same rest p.c c p.rest after p.allowed a in
      let to_left : p.left ≡ drop (r.count + 1) any = drop_past any p.left r.count p.c p.cut in
      subst (λ (q : List ℕ). GlobMatches q (drop (r.count + 1) any)) to_rest (subst (λ (t : List ℕ). GlobMatches p.rest t) to_left p.matches);
  back = λ m. r.back (rw is (allows a m));
}

pub Stops-at_end : (rest left : List ℕ) → (HasPart rest → ⊥) → (rest ≡ [] → left ≡ []) → StopsAt rest left
Stops-at_end [] left h k = k refl
Stops-at_end (first ∷ after) left h k =
    elim (eqb_tells first 42) [ inl w ↦ w.1 | inr w ↦ absurd (h w.1) ]

-- what matches after more characters matches here, at a stop
pub left_matches : (rest left : List ℕ) → StopsAt rest left → (more : ℕ) → GlobMatches rest (drop more left) → GlobMatches rest left
left_matches [] left stops more m = rw stops nothing_left
left_matches (first ∷ after) left stops more m =
    let later = GlobMatches-star m after (ap (λ (x : ℕ). x ∷ after) stops) in
    rw stops (star_skips after left (more + later.skipped) (rw (← drop-drop) later.matches))

drop_later : (text : List ℕ) (count skipped later : ℕ) → skipped ≤ later → drop count (drop later text) ≡ drop (later - skipped) (drop count (drop skipped text))
drop_later text count skipped later h =
    let e : later + count ≡ (skipped + count) + (later - skipped) = omega arith in
    drop-drop count later text ∙ ap (λ (n : ℕ). drop n text) e ∙ sym (ap (drop (later - skipped)) (drop-drop count skipped text) ∙ drop-drop (later - skipped) (skipped + count) text)

-- a run that stops, at the first place where it matches, decides for `*` and the pattern
pub star_found : (pattern text rest left : List ℕ) (skipped : ℕ) → Runs pattern (drop skipped text) rest left → StopsAt rest left → ((k : ℕ) → k < skipped → GlobMatches pattern (drop k text) → ⊥) → GlobMatches (42 ∷ pattern) text → GlobMatches rest left
star_found pattern text rest left skipped r stops none m =
    let later = GlobMatches-star m pattern refl in
    elim (cases_lt later.skipped skipped) [
      | inl before ↦ absurd (none later.skipped before later.matches)
      | inr from ↦ left_matches rest left stops (later.skipped - skipped) (subst (λ (t : List ℕ). GlobMatches rest t) (drop_later text r.count skipped later.skipped from ∙ ap (drop (later.skipped - skipped)) (sym r.cut)) (r.forth (drop later.skipped text) later.matches))
    ]

-- a text without characters has no bytes
pub chars-empty : (bs : List ℕ) → IsUtf8 bs → chars bs ≡ [] → bs ≡ []
chars-empty bs utf8 e = sym (encodes-chars bs utf8) ∙ ap encode_utf8_all e

drop-nothing : (n : ℕ) → drop {A = ℕ} n [] ≡ []
drop-nothing zero = refl
drop-nothing (suc n) = refl

drop_end : (text : List ℕ) (more skipped : ℕ) → skipped ≤ more → drop skipped text ≡ [] → drop more text ≡ []
drop_end text more skipped h end =
    let e : more ≡ skipped + (more - skipped) = omega arith in
    ap (λ (n : ℕ). drop n text) e ∙ sym (drop-drop (more - skipped) skipped text) ∙ ap (drop (more - skipped)) end ∙ drop-nothing (more - skipped)

-- no place from the text's end on is left
pub star_none : (pattern text : List ℕ) (skipped : ℕ) → drop skipped text ≡ [] → ((k : ℕ) → k < skipped → GlobMatches pattern (drop k text) → ⊥) → (GlobMatches pattern (drop skipped text) → ⊥) → GlobMatches (42 ∷ pattern) text → ⊥
star_none pattern text skipped end none here m =
    let later = GlobMatches-star m pattern refl in
    elim (cases_lt later.skipped skipped) [
      | inl before ↦ none later.skipped before later.matches
      | inr from ↦ here (subst (λ (t : List ℕ). GlobMatches pattern t) (drop_end text later.skipped skipped from end ∙ sym end) later.matches)
    ]

-- a byte below 128 is a character by itself
pub chars-ascii_cons : (c : ℕ) (bs : List ℕ) → ltb c 128 ≡ true → chars (c ∷ bs) ≡ c ∷ chars bs
unfolding chars
chars-ascii_cons c [] h = rw h
chars-ascii_cons c (b ∷ bs) h = rw h

-- past a range, or past a character by itself, that isn't the wanted one
pub in_class-past_range : (low high c : ℕ) (text after next : List ℕ) → text ≡ low ∷ after → after ≡ 45 ∷ high ∷ next → ((low ≤ c) × (high < c)) ⊎ (c < low) → in_class next c ≡ in_class text c
in_class-past_range low high c text after next et ea h = rw (et, ea) (grind (arith, nat_tests))

pub in_class-past_one : (low c : ℕ) (text after : List ℕ) → text ≡ low ∷ after → ((high : ℕ) (rest : List ℕ) → after ≡ 45 ∷ high ∷ rest → ⊥) → (low ≡ c → ⊥) → in_class after c ≡ in_class text c
in_class-past_one low c text after et none other = rw (et, in_class-one low c after none, ne_eqb low c other) refl

-- what follows a `-` in front, and that none stands there
pub behind_dash : (text : List ℕ) → 0 < length text → get_or text 0 0 ≡ 45 → chars text ≡ 45 ∷ chars (drop 1 text)
behind_dash [] some is = absurd (omega arith)
behind_dash (c ∷ cs) some is = ap (λ (b : ℕ). chars (b ∷ cs)) is ∙ chars-ascii_cons 45 cs refl

pub no_dash : (text : List ℕ) → IsUtf8 text → (get_or text 0 0 ≡ 45 → ⊥) → (high : ℕ) (rest : List ℕ) → chars text ≡ 45 ∷ high ∷ rest → ⊥
no_dash text utf8 other high rest is =
    other (ap (λ (t : List ℕ). get_or t 0 0) (sym (encodes-chars text utf8) ∙ ap encode_utf8_all is ∙ ap (λ (front : List ℕ). front ++ encode_utf8_all (high ∷ rest)) (encode_ascii 45 (omega arith))))

pub no_front : (text : List ℕ) → length text ≡ 0 → get_or text 0 0 ≡ 45 → ⊥
no_front [] none is = omega arith
no_front (c ∷ cs) none is = omega arith

pub end_found : (text rest : List ℕ) (end : Option (ℕ × Bor (List ℕ))) → chars text ≡ 45 ∷ chars rest → MatchOption end (chars rest ≡ []) (λ parts. chars rest ≡ parts.0 ∷ chars parts.1.now) → IfSome end (λ parts. chars text ≡ 45 ∷ parts.0 ∷ chars parts.1.now)
end_found text rest None is cut = tt
end_found text rest (Some parts) is cut = is ∙ ap (λ (cs : List ℕ). 45 ∷ cs) cut

pub end_missing : (text rest : List ℕ) (end : Option (ℕ × Bor (List ℕ))) → chars text ≡ 45 ∷ chars rest → MatchOption end (chars rest ≡ []) (λ parts. chars rest ≡ parts.0 ∷ chars parts.1.now) → IfNone end ((high : ℕ) (others : List ℕ) → chars text ≡ 45 ∷ high ∷ others → ⊥)
end_missing text rest None is cut = λ high others more. let none : 45 ∷ [] ≡ 45 ∷ high ∷ others = ap (λ (cs : List ℕ). 45 ∷ cs) (sym cut) ∙ sym is ∙ more in absurd cc
end_missing text rest (Some parts) is cut = tt

-- a text in which no `]` stands holds no class
pub AllowsByClass-unclosed : (bs : List ℕ) → IsUtf8 bs → NoCharPasses (λ d. eqb d 93) bs → (c : ℕ) (rest : List ℕ) → AllowsByClass (chars bs) c rest → ⊥
AllowsByClass-unclosed bs utf8 none c rest h =
    let same : none.0 ≡ chars bs = chars_from_encodes none.0 bs utf8 none.1 in
    Lacks-cut 93 h.0 rest (subst (Lacks 93) (same ∙ h.2) (Lacks-from_NonePass 93 none.0 none.2))

-- the parts around the first `]`, by characters
pub class_split : (bs : List ℕ) (class rest : Bor (List ℕ)) → IsUtf8 class.now → IsSplitOnceResult 93 bs (Some (class, rest)) → (chars bs ≡ chars class.now ++ 93 ∷ chars rest.now) × Lacks 93 (chars class.now)
class_split bs class rest class_utf8 h =
    let parts = split_parts 93 bs (Some (class, rest)) h (omega arith) in
    let none : NoCharPasses (λ d. eqb d 93) class.now = subst (NoCharPasses (λ d. eqb d 93)) (sym h.3) h.2.0 in
    let same : none.0 ≡ chars class.now = chars_from_encodes none.0 class.now class_utf8 none.1 in (
      ap chars parts.0 ∙ chars-append class.now (93 ∷ rest.now) class_utf8 ∙ ap (λ (t : List ℕ). chars class.now ++ t) (chars-ascii_cons 93 rest.now refl),
      subst (Lacks 93) same (Lacks-from_NonePass 93 none.0 none.2),
    )

pub IfSome-then_some : {T : Type 0} (b : Bool) (x : T) (P : T → Type 0) → (b ≡ true → P x) → IfSome (then_some b x) P
IfSome-then_some true x P h = h refl
IfSome-then_some false x P h = tt

pub IfNone-then_some : {T : Type 0} (b : Bool) (x : T) (P : Type 0) → (b ≡ false → P) → IfNone (then_some b x) P
IfNone-then_some true x P h = tt
IfNone-then_some false x P h = h refl

pub IfNone-then : {T : Type 0} (o : Option T) (P Q : Type 0) → IfNone o P → (P → Q) → IfNone o Q
IfNone-then None P Q h f = f h
IfNone-then (Some x) P Q h f = tt

-- a class part is a class
pub AllowsFirst-class : (text after : List ℕ) (c : ℕ) (rest : List ℕ) → text ≡ 91 ∷ after → AllowsFirst text c rest → AllowsByClass after c rest
AllowsFirst-class [] after c rest e h = absurd h
AllowsFirst-class (first ∷ others) after c rest e (inl h) = let same : first ≡ 91 = cc in absurd (omega arith)
AllowsFirst-class (first ∷ others) after c rest e (inr (inl h)) = let same : first ≡ 91 = cc in absurd (omega arith)
AllowsFirst-class (first ∷ others) after c rest e (inr (inr (inl h))) = let same : others ≡ after = cc in subst (λ (t : List ℕ). AllowsByClass t c rest) same h.1
AllowsFirst-class (first ∷ others) after c rest e (inr (inr (inr h))) = let same : first ≡ 91 = cc in absurd (h.2 same)

-- the class that a text begins with has the character, if a class up to a first `]` does
pub AllowsByClass-first : (text class rest : List ℕ) (c : ℕ) (other : List ℕ) → text ≡ class ++ 93 ∷ rest → Lacks 93 class → AllowsByClass text c other → in_class class c ≡ true
AllowsByClass-first text class rest c other cut lacks h =
    let same = first_cut-same 93 h.0 class other rest h.1 lacks (sym h.2 ∙ cut) in
    subst (λ (t : List ℕ). in_class t c ≡ true) same.0 h.3

-- no bytes, no characters
pub chars-no_bytes : (bs : List ℕ) → length bs ≡ 0 → chars bs ≡ []
chars-no_bytes [] e = chars-nil
chars-no_bytes (b ∷ bs) e = absurd (omega arith)

-- a pattern that has ended doesn't match what is left of a text
pub GlobMatches-ended : (rest left : List ℕ) → IsUtf8 left → length rest ≡ 0 → (length left ≡ 0 → ⊥) → GlobMatches (chars rest) (chars left) → ⊥
GlobMatches-ended rest left utf8 no_rest some_left m =
    some_left (ap length (chars-empty left utf8 (GlobMatches-empty m (chars-no_bytes rest no_rest))))

-- a pattern that has ended where it may stop has matched
pub Stops-matched : (pattern text : List ℕ) → pattern ≡ [] → StopsAt pattern text → GlobMatches pattern text
Stops-matched [] text e stops = rw stops nothing_left
Stops-matched (first ∷ after) text e stops = absurd cc

-- a text with bytes has characters
pub bytes_left : (bs : List ℕ) → IsUtf8 bs → chars bs ≡ [] → (length bs ≡ 0 → ⊥) → ⊥
bytes_left bs utf8 none some = some (ap length (chars-empty bs utf8 none))
