-- Facts about masks of characters, whose bits tell which parts of a glob pattern allow them.
use Rattle.std.proofs.Common.{◌≡◌, ℕ, ◌+◌, ◌*◌, ◌%◌, ◌^◌, ◌<◌, ◌≤◌, inl, inr, Bool, true, false, ◌&&◌, ◌||◌, min, max, cond, eqb, leb, ltb, Option, Some, None, List, [], ◌∷◌, ◌++◌, length, drop, get_or, set, refl, sym, ap, subst, ◌∙◌, arith}
use mir.Val.{bits}
use Rattle.std.specs.Int.{bit_at, w64}
use Rattle.std.specs.Int.RustNames.{bit_or}
use Rattle.std.specs.Option.{IfSome}
use Rattle.std.proofs.lemmas.Bool.{cases_eq, cases_lt}
use Rattle.std.proofs.lemmas.Bool.Decides.{nat_tests}
use Rattle.std.proofs.lemmas.List.{get_or-set_same, get_or-set_other, get_or-drop, get_or_default}
use Rattle.std.proofs.lemmas.Nat.Bits.{bit_at_or, bit_at-lt, bit_at_set_same, bit_at_set_other}
use Rattle.tcl_text.specs.Glob.{in_class, Lacks, AllowsFirst, GlobMatches}
use Rattle.tcl_text.specs.GlobSteps.{Allows, HasPart, IsHigh, Marks, MarksAllowed, Spans}
use Rattle.tcl_text.proofs.GlobLemmas.{AllowsByClass-first, AllowsFirst-class, GlobMatches-part, in_class-one}
use Rattle.tcl_text.proofs.GlobPieces.{behind_escaped, class_rest}

cond_true : (t : Bool) (a b : ℕ) → t ≡ true → cond t a b ≡ a
cond_true t a b is = ap (λ (u : Bool). cond u a b) is

cond_false : (t : Bool) (a b : ℕ) → t ≡ false → cond t a b ≡ b
cond_false t a b is = ap (λ (u : Bool). cond u a b) is

-- the masks of a range's letters, as far as they were marked
pub record MarksTo (first bit : ℕ) (before now : List ℕ) (at : ℕ) : Type 0 where
  pub told : (letter part : ℕ) → bit_at (get_or now letter 0) part ≡ cond (eqb part bit && (leb first letter && ltb letter at)) 1 (bit_at (get_or before letter 0) part)

none_yet : (p : Bool) (first at letter : ℕ) → at ≤ first → (p && (leb first letter && ltb letter at)) ≡ false
none_yet true first at letter early = grind (arith, nat_tests)
none_yet false first at letter early = refl

pub marks_none : (first bit start : ℕ) (before : List ℕ) → start ≤ first → MarksTo first bit before before start
marks_none first bit start before early = record { told = λ letter part. sym (cond_false _ 1 (bit_at (get_or before letter 0) part) (none_yet (eqb part bit) first start letter early)) }

here_now : (first at letter bit part : ℕ) → first ≤ at → letter ≡ at → part ≡ bit → (eqb part bit && (leb first letter && ltb letter (at + 1))) ≡ true
here_now first at letter bit part from is same = grind (arith, nat_tests)

other_bit : (part bit : ℕ) (t : Bool) → (part ≡ bit → ⊥) → (eqb part bit && t) ≡ false
other_bit part bit t other =
    let apart : eqb part bit ≡ false = grind (arith, nat_tests) in
    ap (λ (b : Bool). b && t) apart

elsewhere : (first at letter : ℕ) → (letter ≡ at → ⊥) → (leb first letter && ltb letter at) ≡ (leb first letter && ltb letter (at + 1))
elsewhere first at letter other = grind (arith, nat_tests)

pub marks_more : (first bit at : ℕ) (before now : List ℕ) → bit < 64 → MarksTo first bit before now at → first ≤ at → at < length now → MarksTo first bit before (set now at (bit_or (get_or now at 0) (1 * 2 ^ bit % 2 ^ bits w64))) (at + 1)
marks_more first bit at before now fits marks from within =
    let v = bit_or (get_or now at 0) (1 * 2 ^ bit % 2 ^ bits w64) in
    record {
      told = λ letter part. elim (cases_eq letter at) [
        | inl same ↦
            let here : get_or (set now at v) letter 0 ≡ v = ap (λ (i : ℕ). get_or (set now at v) i 0) same ∙ get_or-set_same now at v 0 within in
            elim (cases_eq part bit) [
              | inl is ↦
                  ap (λ (n : ℕ). bit_at n part) here ∙ ap (λ (p : ℕ). bit_at v p) is ∙ bit_at_set_same w64 (get_or now at 0) bit fits
                  ∙ sym (cond_true _ 1 (bit_at (get_or before letter 0) part) (here_now first at letter bit part from same is))
              | inr other ↦
                  ap (λ (n : ℕ). bit_at n part) here ∙ bit_at_set_other w64 (get_or now at 0) bit fits part other
                  ∙ ap (λ (i : ℕ). bit_at (get_or now i 0) part) (sym same) ∙ marks.told letter part
                  ∙ cond_false _ 1 (bit_at (get_or before letter 0) part) (other_bit part bit (leb first letter && ltb letter at) other)
                  ∙ sym (cond_false _ 1 (bit_at (get_or before letter 0) part) (other_bit part bit (leb first letter && ltb letter (at + 1)) other))
            ]
        | inr other ↦
            ap (λ (n : ℕ). bit_at n part) (get_or-set_other now at letter v 0 other) ∙ marks.told letter part
            ∙ ap (λ (t : Bool). cond (eqb part bit && t) 1 (bit_at (get_or before letter 0) part)) (elsewhere first at letter other)
      ];
    }

up_to : (most first last end letter : ℕ) → letter < most → end ≡ min most (last + 1) → (leb first letter && ltb letter end) ≡ (leb first letter && leb letter last)
up_to most first last end letter below is = grind (arith, nat_tests)

-- the letters of a range
abbrev pub Ranges : (ℕ → Type 0) → (ℕ → ℕ) → ℕ → ℕ → ℕ → List ℕ → List ℕ → Type 0
Ranges Has letter first last bit before now = Marks Has letter (λ l. leb first l && leb l last) bit before now

pub marks_all : (most first last bit end at : ℕ) (before now : List ℕ) → MarksTo first bit before now at → at ≡ end → end ≡ min most (last + 1) → Ranges (λ l. l < most) (λ l. l) first last bit before now
marks_all most first last bit end at before now marks ended is = λ letter below part.
    marks.told letter part ∙ ap (λ (t : Bool). cond (eqb part bit && t) 1 (bit_at (get_or before letter 0) part)) (up_to most first last at letter below (ended ∙ is))

pub low_marked : (count most first last bit : ℕ) (before now : List ℕ) → count ≡ most → Ranges (λ l. l < count) (λ l. l) first last bit before now → Ranges (λ l. l < most) (λ l. l) first last bit before now
low_marked count most first last bit before now same marks = λ letter below part. marks letter (omega arith) part

-- the masks of letters by their places, as far as they were marked
pub record HighTo (letters : List ℕ) (first last bit : ℕ) (before now : List ℕ) (at : ℕ) : Type 0 where
  pub seen : (place : ℕ) → place < at → (part : ℕ)
      → bit_at (get_or now place 0) part ≡ cond (eqb part bit && (leb first (get_or letters place 0) && leb (get_or letters place 0) last)) 1 (bit_at (get_or before place 0) part)
  pub unseen : (place : ℕ) → at ≤ place → get_or now place 0 ≡ get_or before place 0

pub high_none : (letters : List ℕ) (first last bit : ℕ) (before : List ℕ) → HighTo letters first last bit before before 0
high_none letters first last bit before = record { seen = λ place below part. absurd (omega arith); unseen = λ place from. refl }

-- what a mask is made
abbrev pub IsMarked : ℕ → ℕ → ℕ → ℕ → ℕ → ℕ → Type 0
IsMarked first last bit letter mask v = (part : ℕ) → bit_at v part ≡ cond (eqb part bit && (leb first letter && leb letter last)) 1 (bit_at mask part)

pub high_more : (letters : List ℕ) (first last bit : ℕ) (before now : List ℕ) (at v : ℕ) → HighTo letters first last bit before now at → at < length now → IsMarked first last bit (get_or letters at 0) (get_or now at 0) v → HighTo letters first last bit before (set now at v) (at + 1)
high_more letters first last bit before now at v high within marked = record {
  seen = λ place below part. elim (cases_eq place at) [
    | inl same ↦
        let here : bit_at (get_or (set now at v) at 0) part ≡ cond (eqb part bit && (leb first (get_or letters at 0) && leb (get_or letters at 0) last)) 1 (bit_at (get_or before at 0) part) =
        ap (λ (n : ℕ). bit_at n part) (get_or-set_same now at v 0 within) ∙ marked part
        ∙ ap (λ (n : ℕ). cond (eqb part bit && (leb first (get_or letters at 0) && leb (get_or letters at 0) last)) 1 (bit_at n part)) (high.unseen at (omega arith))
        in
        subst (λ (i : ℕ). bit_at (get_or (set now at v) i 0) part ≡ cond (eqb part bit && (leb first (get_or letters i 0) && leb (get_or letters i 0) last)) 1 (bit_at (get_or before i 0) part)) (sym same) here
    | inr other ↦ ap (λ (n : ℕ). bit_at n part) (get_or-set_other now at place v 0 other) ∙ high.seen place (omega arith) part
  ];
  unseen = λ place from. get_or-set_other now at place v 0 (λ e. omega arith) ∙ high.unseen place (omega arith);
}

pub high_step : (letters : List ℕ) (first last bit : ℕ) (before now : List ℕ) (at letter v : ℕ) → HighTo letters first last bit before now at → at < length now → at < length letters → letter ≡ get_or letters at letter → IsMarked first last bit letter (get_or now at 0) v → HighTo letters first last bit before (set now at v) (at + 1)
high_step letters first last bit before now at letter v high within inside read marked =
    high_more letters first last bit before now at v high within (subst (λ (l : ℕ). IsMarked first last bit l (get_or now at 0) v) (read ∙ get_or_default letters at letter 0 inside) marked)

pub high_all : (letters : List ℕ) (first last bit : ℕ) (before now : List ℕ) (at : ℕ) → HighTo letters first last bit before now at → length letters ≤ at → Ranges (λ i. i < length letters) (λ i. get_or letters i 0) first last bit before now
high_all letters first last bit before now at high whole = λ place within part. high.seen place (omega arith) part

pub with_bit : (first last bit letter mask : ℕ) → bit < 64 → first ≤ letter → letter ≤ last → IsMarked first last bit letter mask (bit_or mask (1 * 2 ^ bit % 2 ^ bits w64))
with_bit first last bit letter mask fits from to = λ part. elim (cases_eq part bit) [
  | inl is ↦
      let yes : (eqb part bit && (leb first letter && leb letter last)) ≡ true = grind (arith, nat_tests) in
      ap (λ (p : ℕ). bit_at (bit_or mask (1 * 2 ^ bit % 2 ^ bits w64)) p) is ∙ bit_at_set_same w64 mask bit fits ∙ sym (cond_true _ 1 (bit_at mask part) yes)
  | inr other ↦ bit_at_set_other w64 mask bit fits part other ∙ sym (cond_false _ 1 (bit_at mask part) (other_bit part bit (leb first letter && leb letter last) other))
]

outside : (first last letter : ℕ) → (first ≤ letter → letter ≤ last → ⊥) → (leb first letter && leb letter last) ≡ false
outside first last letter none = grind (arith, nat_tests)

never : (p t : Bool) → t ≡ false → (p && t) ≡ false
never true t is = is
never false t is = refl

pub with_none : (first last bit letter mask : ℕ) → (first ≤ letter → letter ≤ last → ⊥) → IsMarked first last bit letter mask mask
with_none first last bit letter mask none = λ part. sym (cond_false _ 1 (bit_at mask part) (never (eqb part bit) (leb first letter && leb letter last) (outside first last letter none)))

-- a range of which no letter is high leaves their masks as they are
pub high_left : (low : ℕ) (letters : List ℕ) (first last bit : ℕ) (before : List ℕ) → last < low → Ranges (IsHigh low letters) (λ i. get_or letters i 0) first last bit before before
high_left low letters first last bit before below = λ place is part. with_none first last bit (get_or letters place 0) (get_or before place 0) (λ from to. let high = is.1 in omega arith) part

pub high_marked : (low : ℕ) (letters : List ℕ) (first last bit : ℕ) (before now : List ℕ) → Ranges (λ i. i < length letters) (λ i. get_or letters i 0) first last bit before now → Ranges (IsHigh low letters) (λ i. get_or letters i 0) first last bit before now
high_marked low letters first last bit before now marks = λ place is part. marks place is.0 part

-- a class, as far as it has been looked at: it has the letters that were marked, and those that the rest of it has
pub record MembersTo (Has : ℕ → Type 0) (letter : ℕ → ℕ) (class rest : List ℕ) (bit : ℕ) (before now : List ℕ) : Type 0 where
  pub told : (place : ℕ) → Has place → (part : ℕ)
      → cond (eqb part bit && in_class rest (letter place)) 1 (bit_at (get_or now place 0) part) ≡ cond (eqb part bit && in_class class (letter place)) 1 (bit_at (get_or before place 0) part)

pub members_none : (Has : ℕ → Type 0) (letter : ℕ → ℕ) (class : List ℕ) (bit : ℕ) (before : List ℕ) → MembersTo Has letter class class bit before before
members_none Has letter class bit before = record { told = λ place has part. refl }

either_of : (p a b : Bool) (x : ℕ) → cond (p && b) 1 (cond (p && a) 1 x) ≡ cond (p && (a || b)) 1 x
either_of false a b x = refl
either_of true true true x = refl
either_of true true false x = refl
either_of true false b x = refl

members_more : (Has : ℕ → Type 0) (letter : ℕ → ℕ) (class rest next : List ℕ) (first last bit : ℕ) (before now later : List ℕ) → MembersTo Has letter class rest bit before now → Ranges Has letter first last bit now later → ((c : ℕ) → in_class rest c ≡ ((leb first c && leb c last) || in_class next c)) → MembersTo Has letter class next bit before later
members_more Has letter class rest next first last bit before now later members adds step = record {
  told = λ place has part.
      ap (λ (n : ℕ). cond (eqb part bit && in_class next (letter place)) 1 n) (adds place has part)
      ∙ either_of (eqb part bit) (leb first (letter place) && leb (letter place) last) (in_class next (letter place)) (bit_at (get_or now place 0) part)
      ∙ ap (λ (t : Bool). cond (eqb part bit && t) 1 (bit_at (get_or now place 0) part)) (sym (step (letter place)))
      ∙ members.told place has part;
}

pub members_range : (Has : ℕ → Type 0) (letter : ℕ → ℕ) (class rest after next : List ℕ) (first last bit : ℕ) (before now later : List ℕ) → MembersTo Has letter class rest bit before now → Ranges Has letter first last bit now later → rest ≡ first ∷ after → after ≡ 45 ∷ last ∷ next → MembersTo Has letter class next bit before later
members_range Has letter class rest after next first last bit before now later members adds is range =
    members_more Has letter class rest next first last bit before now later members adds (λ c. ap (λ (r : List ℕ). in_class r c) (is ∙ ap (λ (r : List ℕ). first ∷ r) range))

same_range : (first c : ℕ) → eqb first c ≡ (leb first c && leb c first)
same_range first c = grind (arith, nat_tests)

pub members_one : (Has : ℕ → Type 0) (letter : ℕ → ℕ) (class rest after : List ℕ) (first bit : ℕ) (before now later : List ℕ) → MembersTo Has letter class rest bit before now → Ranges Has letter first first bit now later → rest ≡ first ∷ after → ((last : ℕ) (next : List ℕ) → after ≡ 45 ∷ last ∷ next → ⊥) → MembersTo Has letter class after bit before later
members_one Has letter class rest after first bit before now later members adds is none =
    members_more Has letter class rest after first first bit before now later members adds (λ c. ap (λ (r : List ℕ). in_class r c) is ∙ in_class-one first c after none ∙ ap (λ (b : Bool). b || in_class after c) (same_range first c))

no_more : (p : Bool) (x : ℕ) → cond (p && false) 1 x ≡ x
no_more true x = refl
no_more false x = refl

pub members_all : (Has : ℕ → Type 0) (letter : ℕ → ℕ) (class rest : List ℕ) (bit : ℕ) (before now : List ℕ) → MembersTo Has letter class rest bit before now → rest ≡ [] → Marks Has letter (in_class class) bit before now
members_all Has letter class rest bit before now to ended = λ place has part.
    sym (no_more (eqb part bit) (bit_at (get_or now place 0) part))
    ∙ ap (λ (r : List ℕ). cond (eqb part bit && in_class r (letter place)) 1 (bit_at (get_or now place 0) part)) (sym ended)
    ∙ to.told place has part

-- what the pattern's first part allows, by what it is
same_bit : (bit : ℕ) (t : Bool) → t ≡ true → (eqb bit bit && t) ≡ true
same_bit bit t is =
    let same : eqb bit bit ≡ true = grind (arith, nat_tests) in
    ap (λ (b : Bool). b && t) same ∙ is

allowed_by : (Has : ℕ → Type 0) (letter : ℕ → ℕ) (pattern : List ℕ) (test : ℕ → Bool) (bit : ℕ) (before now : List ℕ) → Marks Has letter test bit before now → ((c : ℕ) (rest : List ℕ) → AllowsFirst pattern c rest → test c ≡ true) → MarksAllowed pattern Has letter bit before now
allowed_by Has letter pattern test bit before now marks allowed = record {
  noted = λ place has rest allows. marks place has bit ∙ cond_true _ 1 (bit_at (get_or before place 0) bit) (same_bit bit (test (letter place)) (allowed (letter place) rest allows));
  others = λ place has part other. marks place has part ∙ cond_false _ 1 (bit_at (get_or before place 0) part) (other_bit part bit (test (letter place)) other);
}

in_range : (first c : ℕ) → first ≡ c → (leb first c && leb c first) ≡ true
in_range first c same = grind (arith, nat_tests)

first_is : (first : ℕ) (after : List ℕ) (c : ℕ) (rest : List ℕ) → (first ≡ 63 → ⊥) → (first ≡ 91 → ⊥) → (first ≡ 92 → ⊥) → AllowsFirst (first ∷ after) c rest → first ≡ c
first_is first after c rest any class escape (inl h) = absurd (any h.0)
first_is first after c rest any class escape (inr (inl h)) = absurd (escape h.0)
first_is first after c rest any class escape (inr (inr (inl h))) = absurd (class h.0)
first_is first after c rest any class escape (inr (inr (inr h))) = h.4

pub allowed_plain : (Has : ℕ → Type 0) (letter : ℕ → ℕ) (pattern : List ℕ) (first : ℕ) (after : List ℕ) (bit : ℕ) (before now : List ℕ) → pattern ≡ first ∷ after → ((rest : List ℕ) → pattern ≡ 63 ∷ rest → ⊥) → (first ≡ 91 → ⊥) → (first ≡ 92 → ⊥) → Ranges Has letter first first bit before now → MarksAllowed pattern Has letter bit before now
allowed_plain Has letter pattern first after bit before now is some class escape marks = allowed_by Has letter pattern _ bit before now marks (λ c rest allows.
    let any : first ≡ 63 → ⊥ = λ e. some after (is ∙ ap (λ (x : ℕ). x ∷ after) e) in
    in_range first c (first_is first after c rest any class escape (subst (λ (p : List ℕ). AllowsFirst p c rest) is allows)))

pub allowed_escaped : (Has : ℕ → Type 0) (letter : ℕ → ℕ) (pattern after : List ℕ) (escaped : ℕ) (others : List ℕ) (bit : ℕ) (before now : List ℕ) → pattern ≡ 92 ∷ after → after ≡ escaped ∷ others → Ranges Has letter escaped escaped bit before now → MarksAllowed pattern Has letter bit before now
allowed_escaped Has letter pattern after escaped others bit before now is next marks = allowed_by Has letter pattern _ bit before now marks (λ c rest allows.
    let same : after ≡ c ∷ rest = behind_escaped 92 after refl c rest (subst (λ (p : List ℕ). AllowsFirst p c rest) is allows) in
    let heads : c ≡ escaped = cc in
    in_range escaped c (sym heads))

pub allowed_class : (Has : ℕ → Type 0) (letter : ℕ → ℕ) (text class rest : List ℕ) (bit : ℕ) (before now : List ℕ) → text ≡ class ++ 93 ∷ rest → Lacks 93 class → Marks Has letter (in_class class) bit before now → MarksAllowed (91 ∷ text) Has letter bit before now
allowed_class Has letter text class rest bit before now cut lacks marks = allowed_by Has letter (91 ∷ text) _ bit before now marks (λ c other allows.
    AllowsByClass-first text class rest c other cut lacks (AllowsFirst-class (91 ∷ text) text c other refl allows))

pub behind_class_first : (text class rest : List ℕ) (c : ℕ) (other : List ℕ) → text ≡ class ++ 93 ∷ rest → Lacks 93 class → AllowsFirst (91 ∷ text) c other → other ≡ rest
behind_class_first text class rest c other cut lacks allows = class_rest text class rest c other cut lacks (AllowsFirst-class (91 ∷ text) text c other refl allows)

pub IfSome-any : {T : Type 0} (o : Option T) (P : Type 0) → P → IfSome o (λ x. P)
IfSome-any None P h = tt
IfSome-any (Some x) P h = h

pub first_part : (pattern : List ℕ) (first : ℕ) (after : List ℕ) → pattern ≡ first ∷ after → (first ≡ 42 → ⊥) → HasPart pattern
first_part pattern first after is star = rw is star

pub any_part : (pattern after : List ℕ) → pattern ≡ 63 ∷ after → HasPart pattern
any_part pattern after is = first_part pattern 63 after is (λ e. omega arith)

plain_rest : (first : ℕ) (after : List ℕ) (c : ℕ) (other : List ℕ) → (first ≡ 63 → ⊥) → (first ≡ 91 → ⊥) → (first ≡ 92 → ⊥) → AllowsFirst (first ∷ after) c other → other ≡ after
plain_rest first after c other any class escape (inl h) = absurd (any h.0)
plain_rest first after c other any class escape (inr (inl h)) = absurd (escape h.0)
plain_rest first after c other any class escape (inr (inr (inl h))) = absurd (class h.0)
plain_rest first after c other any class escape (inr (inr (inr h))) = sym h.5

pub plain_behind : (pattern : List ℕ) (first : ℕ) (after : List ℕ) → pattern ≡ first ∷ after → ((rest : List ℕ) → pattern ≡ 63 ∷ rest → ⊥) → (first ≡ 91 → ⊥) → (first ≡ 92 → ⊥) → (c : ℕ) (other : List ℕ) → AllowsFirst pattern c other → other ≡ after
plain_behind pattern first after is some class escape c other allows =
    let any : first ≡ 63 → ⊥ = λ e. some after (is ∙ ap (λ (x : ℕ). x ∷ after) e) in
    plain_rest first after c other any class escape (subst (λ (p : List ℕ). AllowsFirst p c other) is allows)

any_rest : (after : List ℕ) (c : ℕ) (other : List ℕ) → AllowsFirst (63 ∷ after) c other → other ≡ after
any_rest after c other (inl h) = sym h.1
any_rest after c other (inr (inl h)) = absurd (let no = h.0 in omega arith)
any_rest after c other (inr (inr (inl h))) = absurd (let no = h.0 in omega arith)
any_rest after c other (inr (inr (inr h))) = absurd (h.1 refl)

pub any_behind : (pattern after : List ℕ) → pattern ≡ 63 ∷ after → (c : ℕ) (other : List ℕ) → AllowsFirst pattern c other → other ≡ after
any_behind pattern after is c other allows = any_rest after c other (subst (λ (p : List ℕ). AllowsFirst p c other) is allows)

-- parts that are marked one after another, and those that allow any letter
abbrev pub AllowsOr : List ℕ → (ℕ → Type 0) → (ℕ → ℕ) → List ℕ → ℕ → ℕ → Type 0
AllowsOr pattern Has letter masks any count = Allows pattern Has letter (λ place. bit_or (get_or masks place 0) any) count

pub allows_none : (pattern : List ℕ) (Has : ℕ → Type 0) (letter mask : ℕ → ℕ) → Allows pattern Has letter mask 0
allows_none pattern Has letter mask = record { told = λ text m part below place has is. absurd (omega arith) }

or_first : (a b : ℕ) → a ≡ 1 → b < 2 → max a b ≡ 1
or_first a b is small = grind (arith, nat_tests)

or_last : (a b : ℕ) → a < 2 → b ≡ 1 → max a b ≡ 1
or_last a b small is = grind (arith, nat_tests)

pub allows_any : (pattern : List ℕ) (Has : ℕ → Type 0) (letter : ℕ → ℕ) (masks : List ℕ) (any count : ℕ) → count < 64 → AllowsOr pattern Has letter masks any count
    → AllowsOr pattern Has letter masks (bit_or any (1 * 2 ^ count % 2 ^ bits w64)) (count + 1)
allows_any pattern Has letter masks any count few allows = record {
  told = λ text m part below place has is.
      let mask = get_or masks place 0 in
      let grown = bit_or any (1 * 2 ^ count % 2 ^ bits w64) in
      elim (cases_lt part count) [
        | inl earlier ↦
            bit_at_or mask grown part ∙ ap (λ (n : ℕ). max (bit_at mask part) n) (bit_at_set_other w64 any count few part (λ e. omega arith))
            ∙ sym (bit_at_or mask any part) ∙ allows.told text m part earlier place has is
        | inr last ↦
            let same : part ≡ count = omega arith in
            let set_now : bit_at grown part ≡ 1 = ap (λ (n : ℕ). bit_at grown n) same ∙ bit_at_set_same w64 any count few in
            bit_at_or mask grown part ∙ or_last (bit_at mask part) (bit_at grown part) (bit_at-lt mask part) set_now
      ];
}

pub allows_more : (pattern rest : List ℕ) (Has : ℕ → Type 0) (letter : ℕ → ℕ) (before now : List ℕ) (any count : ℕ) → AllowsOr pattern Has letter before any count → Spans pattern rest count → HasPart rest → MarksAllowed rest Has letter count before now → AllowsOr pattern Has letter now any (count + 1)
allows_more pattern rest Has letter before now any count allows spans has marks = record {
  told = λ text m part below place here is.
      let mask = get_or now place 0 in
      elim (cases_lt part count) [
        | inl earlier ↦
            bit_at_or mask any part ∙ ap (λ (n : ℕ). max n (bit_at any part)) (marks.others place here part (λ e. omega arith))
            ∙ sym (bit_at_or (get_or before place 0) any part) ∙ allows.told text m part earlier place here is
        | inr last ↦
            let first = GlobMatches-part (spans.forth text m).1 has in
            let there : get_or (drop count text) 0 0 ≡ get_or text part 0 = get_or-drop count text 0 0 ∙ ap (λ (n : ℕ). get_or text n 0) (omega arith) in
            let character : first.c ≡ letter place = sym (ap (λ (t : List ℕ). get_or t 0 0) first.cut) ∙ there ∙ sym is in
            let same : part ≡ count = omega arith in
            let set_now : bit_at mask part ≡ 1 = ap (λ (n : ℕ). bit_at mask n) same ∙ marks.noted place here first.rest (subst (λ (c : ℕ). AllowsFirst rest c first.rest) character first.allowed) in
            bit_at_or mask any part ∙ or_first (bit_at mask part) (bit_at any part) set_now (bit_at-lt any part)
      ];
}

pub allows_all : (pattern : List ℕ) (Has : ℕ → Type 0) (letter before now : ℕ → ℕ) (count : ℕ) → Allows pattern Has letter before count → ((place : ℕ) → Has place → now place ≡ before place) → Allows pattern Has letter now count
allows_all pattern Has letter before now count allows made = record {
  told = λ text m part below place has is. ap (λ (n : ℕ). bit_at n part) (made place has) ∙ allows.told text m part below place has is;
}

-- masks that all get the same bits, as far as they have got them
pub record AllTo (bits_of : ℕ) (before now : List ℕ) (at : ℕ) : Type 0 where
  pub seen : (place : ℕ) → place < at → get_or now place 0 ≡ bit_or (get_or before place 0) bits_of
  pub unseen : (place : ℕ) → at ≤ place → get_or now place 0 ≡ get_or before place 0

pub all_none : (bits_of : ℕ) (before : List ℕ) → AllTo bits_of before before 0
all_none bits_of before = record { seen = λ place below. absurd (omega arith); unseen = λ place from. refl }

pub all_more : (bits_of : ℕ) (before now : List ℕ) (at : ℕ) → AllTo bits_of before now at → at < length now → AllTo bits_of before (set now at (bit_or (get_or now at 0) bits_of)) (at + 1)
all_more bits_of before now at all within =
    let v = bit_or (get_or now at 0) bits_of in
    record {
      seen = λ place below. elim (cases_eq place at) [
        | inl same ↦
            let here : get_or (set now at v) at 0 ≡ bit_or (get_or before at 0) bits_of = get_or-set_same now at v 0 within ∙ ap (λ (n : ℕ). bit_or n bits_of) (all.unseen at (omega arith)) in
            subst (λ (i : ℕ). get_or (set now at v) i 0 ≡ bit_or (get_or before i 0) bits_of) (sym same) here
        | inr other ↦ get_or-set_other now at place v 0 other ∙ all.seen place (omega arith)
      ];
      unseen = λ place from. get_or-set_other now at place v 0 (λ e. omega arith) ∙ all.unseen place (omega arith);
    }
