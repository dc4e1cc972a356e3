-- Facts about the commands of list(n) and its kin.
use Rattle.std.proofs.Common.{◌≡◌, ℕ, zero, suc, ◌+◌, ◌-◌, ◌<◌, min, Bool, true, false, List, [], ◌∷◌, ◌++◌, Some, None, length, take, drop, get_or, map, refl, sym, ap, subst, ◌∙◌, inl, inr, arith, add-one, eqb, ltb}
use Rattle.std.proofs.lemmas.Bool.{cases_lt, ne_eqb, false≢true}
use Rattle.std.proofs.lemmas.List.{append-nil, append_assoc, length-take, take_more, drop_all, drop-take, take-append-drop, get_or-take}
use Rattle.std.specs.Prelude.{if◌then◌else◌}
use Rattle.std.specs.Char.{encode_utf8}
use Rattle.tcl_text.specs.Glob.{Lacks}
use Rattle.std.proofs.lemmas.Str.{encode_ascii, IsCharBoundary-after_ascii, IsCharBoundary-before_ascii, IsUtf8-take, chars-append, chars-nil}
use Rattle.std.proofs.Math.Seq.{drop-cons}
use Rattle.std.specs.Str.{IsCharBoundary}
use Rattle.memchr.specs.Find.{IsFirstByte, is_byte}
use Rattle.tcl_text.proofs.GlobLemmas.{chars-ascii_cons}
use Rattle.std.proofs.lemmas.Bool.Decides.{eqb_tells, nat_tests}
use Rattle.tcl_text.specs.ListCommands.{joined, cut_at, with_first, is_one_of, characters_of, pieces_of, parts_of}
use Rattle.std.specs.Str.{chars, IsUtf8, encode_utf8_all}
use Rattle.std.proofs.lemmas.Str.{encodes-chars}
use Rattle.tcl_text.specs.ListSteps.{each_behind, onto_first}

-- join
pub joined-behind : (between x : List ℕ) (xs : List (List ℕ)) → joined between (x ∷ xs) ≡ x ++ each_behind between xs
joined-behind between x [] = sym (append-nil x)
joined-behind between x (y ∷ ys) =
    ap (λ (t : List ℕ). x ++ (between ++ t)) (joined-behind between y ys) ∙ ap (λ (t : List ℕ). x ++ t) (sym (append_assoc between y (each_behind between ys)))

pub behind-push : (between : List ℕ) (xs : List (List ℕ)) (x : List ℕ) → each_behind between (xs ++ x ∷ []) ≡ (each_behind between xs ++ between) ++ x
behind-push between [] x = append-nil (between ++ x)
behind-push between (y ∷ ys) x =
    ap (λ (t : List ℕ). (between ++ y) ++ t) (behind-push between ys x) ∙ sym (append_assoc (between ++ y) _ x ∙ ap (λ (t : List ℕ). (between ++ y) ++ t) refl) ∙ ap (λ (t : List ℕ). t ++ x) (sym (append_assoc (between ++ y) (each_behind between ys) between))

pub behind_step : (between : List ℕ) (xs : List (List ℕ)) (i : ℕ) (x : List ℕ) → i < length xs → x ≡ get_or xs i x → each_behind between (take (i + 1) xs) ≡ (each_behind between (take i xs) ++ between) ++ x
behind_step between xs i x within is =
    ap (each_behind between) (take_more xs i x within ∙ ap (λ (y : List ℕ). take i xs ++ y ∷ []) (sym is)) ∙ behind-push between (take i xs) x

-- a part of a row, cut from its start or from its end
pub part_cut : {X : Type 0} (start end : ℕ) (xs : List X) → take (end - min start end) (drop (min start end) xs) ≡ drop start (take end xs)
part_cut start end xs = elim (cases_lt start end) [
  | inl before ↦
      let m : min start end ≡ start = omega arith in
      let e : start + (end - start) ≡ end = omega arith in
      rw m (sym (drop-take start (end - start) xs) ∙ ap (λ (n : ℕ). drop start (take n xs)) e)
  | inr past ↦
      let m : end - min start end ≡ 0 = omega arith in
      rw m (sym (drop_all start (take end xs) (omega (arith, length-take end xs))))
]

pub regroup : (old before between item : List ℕ) → ((old ++ before) ++ between) ++ item ≡ old ++ ((before ++ between) ++ item)
regroup old before between item = simp append_assoc

-- split: what was passed stands in front of the first piece of what is left
nothing_cons : (c : ℕ) (rest : List ℕ) → [] ≡ c ∷ rest → ⊥
nothing_cons c rest e = cc

onto_nothing : (pieces : List (List ℕ)) (c : ℕ) (b : Bool) → onto_first [] (if b then [] ∷ pieces else with_first c pieces) ≡ (if b then [] ∷ pieces else with_first c pieces)
onto_nothing pieces c true = refl
onto_nothing [] c false = refl
onto_nothing (p ∷ ps) c false = refl

pub cut-nothing_passed : (test : ℕ → Bool) (cs : List ℕ) → cut_at test cs ≡ onto_first [] (cut_at test cs)
cut-nothing_passed test [] = refl
cut-nothing_passed test (c ∷ cs) = sym (onto_nothing (cut_at test cs) c (test c))

onto-with_first : (front : List ℕ) (c : ℕ) (pieces : List (List ℕ)) → onto_first front (with_first c pieces) ≡ onto_first (front ++ c ∷ []) pieces
onto-with_first front c [] = refl
onto-with_first front c (p ∷ ps) = ap (λ (t : List ℕ). t ∷ ps) (sym (append_assoc front (c ∷ []) p))

pub take_past : (passed : ℕ) (cs : List ℕ) (c : ℕ) (next : List ℕ) → drop passed cs ≡ c ∷ next → take (suc passed) cs ≡ take passed cs ++ c ∷ []
take_past zero [] c next e = absurd (nothing_cons c next e)
take_past zero (x ∷ xs) c next e = let same : x ≡ c = cc in ap (λ (y : ℕ). y ∷ []) same
take_past (suc passed) [] c next e = absurd (nothing_cons c next e)
take_past (suc passed) (x ∷ xs) c next e = ap (λ (t : List ℕ). x ∷ t) (take_past passed xs c next e)

pub cut-passed : (test : ℕ → Bool) (whole : List (List ℕ)) (cs rest : List ℕ) (passed c : ℕ) (next : List ℕ) → test c ≡ false → rest ≡ c ∷ next → rest ≡ drop passed cs → whole ≡ onto_first (take passed cs) (cut_at test rest) → whole ≡ onto_first (take (passed + 1) cs) (cut_at test next)
cut-passed test whole cs rest passed c next fails is at h =
    let front : take (passed + 1) cs ≡ take passed cs ++ c ∷ [] = rw add-one (take_past passed cs c next (sym at ∙ is)) in
    let cut : cut_at test rest ≡ with_first c (cut_at test next) = rw (is, fails) refl in
    h ∙ ap (onto_first (take passed cs)) cut ∙ onto-with_first (take passed cs) c (cut_at test next) ∙ ap (λ (t : List ℕ). onto_first t (cut_at test next)) (sym front)

pub cut-found : (test : ℕ → Bool) (whole : List (List ℕ)) (cs rest : List ℕ) (passed c : ℕ) (next piece : List ℕ) → test c ≡ true → rest ≡ c ∷ next → piece ≡ take passed cs → whole ≡ onto_first (take passed cs) (cut_at test rest) → whole ≡ piece ∷ cut_at test next
cut-found test whole cs rest passed c next piece passes is front h =
    let cut : cut_at test rest ≡ [] ∷ cut_at test next = rw (is, passes) refl in
    h ∙ ap (onto_first (take passed cs)) cut ∙ ap (λ (t : List ℕ). t ∷ cut_at test next) (append-nil (take passed cs) ∙ sym front)

-- split: a piece more, and the last
pub pieces-more : (items whole : List (List ℕ)) (rest piece after separators : List ℕ) → IsUtf8 piece → cut_at (is_one_of separators) (chars rest) ≡ chars piece ∷ cut_at (is_one_of separators) (chars after) → items ++ pieces_of rest separators ≡ whole → (items ++ piece ∷ []) ++ pieces_of after separators ≡ whole
pieces-more items whole rest piece after separators utf8 cut h =
    let first : pieces_of rest separators ≡ piece ∷ pieces_of after separators =
    ap (map encode_utf8_all) cut ∙ ap (λ (t : List ℕ). t ∷ pieces_of after separators) (encodes-chars piece utf8)
    in
    append_assoc items (piece ∷ []) (pieces_of after separators) ∙ ap (λ (t : List (List ℕ)). items ++ t) (sym first) ∙ h

pub pieces-last : (items whole : List (List ℕ)) (rest piece separators : List ℕ) → IsUtf8 piece → cut_at (is_one_of separators) (chars rest) ≡ chars piece ∷ [] → items ++ pieces_of rest separators ≡ whole → items ++ piece ∷ [] ≡ whole
pieces-last items whole rest piece separators utf8 cut h =
    let only : pieces_of rest separators ≡ piece ∷ [] = ap (map encode_utf8_all) cut ∙ ap (λ (t : List ℕ). t ∷ []) (encodes-chars piece utf8) in
    ap (λ (t : List (List ℕ)). items ++ t) (sym only) ∙ h

-- the parts of a text by what it has and the separators have
pub parts-none : (text separators : List ℕ) → length text ≡ 0 → parts_of text separators ≡ []
parts-none [] separators e = refl
parts-none (b ∷ bs) separators e = absurd (omega arith)

pub parts-characters : (text separators : List ℕ) → (length text ≡ 0 → ⊥) → separators ≡ [] → parts_of text separators ≡ characters_of text
parts-characters [] separators some e = absurd (some refl)
parts-characters (b ∷ bs) [] some e = refl
parts-characters (b ∷ bs) (s ∷ separators) some e = absurd (nothing_cons s separators (sym e))

pub parts-pieces : (text separators : List ℕ) → (length text ≡ 0 → ⊥) → (separators ≡ [] → ⊥) → parts_of text separators ≡ pieces_of text separators
parts-pieces [] separators some seps = absurd (some refl)
parts-pieces (b ∷ bs) [] some seps = absurd (seps refl)
parts-pieces (b ∷ bs) (s ∷ separators) some seps = refl

-- white space as separators
pub white_separators : chars (32 ∷ 9 ∷ 10 ∷ 11 ∷ 12 ∷ 13 ∷ []) ≡ 32 ∷ 9 ∷ 10 ∷ 11 ∷ 12 ∷ 13 ∷ []
unfolding chars
white_separators = refl

-- characters that are bytes: what a text's bytes lack its characters lack
Lacks-parts : (b : ℕ) (xs ys : List ℕ) → Lacks b (xs ++ ys) → Lacks b xs × Lacks b ys
Lacks-parts b [] ys h = (tt, h)
Lacks-parts b (x ∷ xs) ys h = let parts = Lacks-parts b xs ys h.1 in ((h.0, parts.0), parts.1)

chars-lack : (b : ℕ) (cs : List ℕ) → b < 128 → Lacks b (encode_utf8_all cs) → Lacks b cs
chars-lack b [] ascii h = tt
chars-lack b (c ∷ cs) ascii h =
    let parts = Lacks-parts b (encode_utf8 c) (encode_utf8_all cs) h in (
      λ same.
          let one : encode_utf8 c ≡ b ∷ [] = ap encode_utf8 same ∙ encode_ascii b ascii in
          let lacks : Lacks b (b ∷ []) = subst (Lacks b) one parts.0 in
          lacks.0 refl,
      chars-lack b cs ascii parts.1,
    )

Lacks-from_places : (b : ℕ) (xs : List ℕ) → ((k : ℕ) → k < length xs → get_or xs k 0 ≡ b → ⊥) → Lacks b xs
Lacks-from_places b [] h = tt
Lacks-from_places b (x ∷ xs) h = (h 0 (omega arith), Lacks-from_places b xs (λ k within. h (suc k) (omega arith)))

eqb_itself : (b : ℕ) → eqb b b ≡ true
eqb_itself b = elim (eqb_tells b b) [ inl w ↦ w.0 | inr w ↦ absurd (w.1 refl) ]

cut_at-lacking : (b : ℕ) (front rest : List ℕ) → Lacks b front → cut_at (is_one_of (b ∷ [])) (front ++ b ∷ rest) ≡ front ∷ cut_at (is_one_of (b ∷ [])) rest
cut_at-lacking b [] rest h = rw (eqb_itself b) refl
cut_at-lacking b (c ∷ cs) rest h = rw (ne_eqb b c (λ e. h.0 (sym e)), cut_at-lacking b cs rest h.1) refl

cut_at-none : (b : ℕ) (cs : List ℕ) → Lacks b cs → cut_at (is_one_of (b ∷ [])) cs ≡ cs ∷ []
cut_at-none b [] h = refl
cut_at-none b (c ∷ cs) h = rw (ne_eqb b c (λ e. h.0 (sym e)), cut_at-none b cs h.1) refl

byte_is : (b x : ℕ) → eqb x b ≡ true → x ≡ b
byte_is b x e = elim (eqb_tells x b) [ inl w ↦ w.1 | inr w ↦ absurd (false≢true (sym w.0 ∙ e)) ]

is_byte_at : (b x : ℕ) → x ≡ b → eqb x b ≡ true
is_byte_at b x e = elim (eqb_tells x b) [ inl w ↦ w.0 | inr w ↦ absurd (w.1 e) ]

-- one separator that is a byte, by its bytes
pub one_separator : (b : ℕ) (bytes : List ℕ) → b < 128 → bytes ≡ b ∷ [] → chars bytes ≡ b ∷ []
one_separator b bytes ascii is =
    let ascii_test : ltb b 128 ≡ true = grind (arith, nat_tests) in
    ap chars is ∙ chars-ascii_cons b [] ascii_test ∙ ap (λ (t : List ℕ). b ∷ t) chars-nil

-- the first byte that is the separator cuts the characters
pub byte-found : (b : ℕ) (text : List ℕ) (place : ℕ) (front rest : List ℕ) → b < 128 → IsUtf8 text → IsFirstByte (is_byte b) text (Some place) → front ≡ take place text → rest ≡ drop (place + 1) text → cut_at (is_one_of (b ∷ [])) (chars text) ≡ chars front ∷ cut_at (is_one_of (b ∷ [])) (chars rest)
byte-found b text place front rest ascii utf8 h is_front is_rest =
    let high = h.0.high in
    let here : get_or text place 0 ≡ b = byte_is b (get_or text place 0) h.1 in
    let low : get_or text place 0 < 128 = omega arith in
    let boundary = IsCharBoundary-before_ascii text place high low in
    let front_utf8 : IsUtf8 front = subst IsUtf8 (sym is_front) (IsUtf8-take text place utf8 boundary) in
    let next : drop place text ≡ b ∷ rest =
    drop-cons text place 0 high ∙ ap (λ (x : ℕ). x ∷ drop (suc place) text) here ∙ ap (λ (n : ℕ). b ∷ drop n text) (sym (add-one place)) ∙ ap (λ (t : List ℕ). b ∷ t) (sym is_rest)
    in
    let whole : text ≡ front ++ b ∷ rest =
    sym (take-append-drop place text) ∙ ap (λ (t : List ℕ). t ++ drop place text) (sym is_front) ∙ ap (λ (t : List ℕ). front ++ t) next
    in
    let ascii_test : ltb b 128 ≡ true = grind (arith, nat_tests) in
    let cut : chars text ≡ chars front ++ b ∷ chars rest =
    ap chars whole ∙ chars-append front (b ∷ rest) front_utf8 ∙ ap (λ (t : List ℕ). chars front ++ t) (chars-ascii_cons b rest ascii_test)
    in
    let front_lacks : Lacks b front =
    subst (Lacks b) (sym is_front) (Lacks-from_places b (take place text) (λ k within e.
    let below : k < place = omega (arith, length-take place text) in
    h.0.before k (omega arith) below (is_byte_at b (get_or text k 0) (sym (get_or-take place text k 0 below) ∙ e))))
    in
    let lacks = chars-lack b (chars front) ascii (subst (Lacks b) (sym (encodes-chars front front_utf8)) front_lacks) in
    ap (cut_at (is_one_of (b ∷ []))) cut ∙ cut_at-lacking b (chars front) (chars rest) lacks

pub byte-none : (b : ℕ) (text : List ℕ) → b < 128 → IsUtf8 text → IsFirstByte (is_byte b) text None → cut_at (is_one_of (b ∷ [])) (chars text) ≡ chars text ∷ []
byte-none b text ascii utf8 h = cut_at-none b (chars text) (chars-lack b (chars text) ascii (subst (Lacks b) (sym (encodes-chars text utf8)) (Lacks-from_places b text (λ k within e. h k (omega arith) within (is_byte_at b (get_or text k 0) e)))))

pub byte-after : (b : ℕ) (text : List ℕ) (place : ℕ) → b < 128 → IsUtf8 text → IsFirstByte (is_byte b) text (Some place) → IsCharBoundary text (place + 1)
byte-after b text place ascii utf8 h =
    let high = h.0.high in
    let here : get_or text place 0 ≡ b = byte_is b (get_or text place 0) h.1 in
    IsCharBoundary-after_ascii text place utf8 high (omega arith)

pub only_byte : (bytes : List ℕ) → length bytes ≡ 1 → bytes ≡ get_or bytes 0 0 ∷ []
only_byte [] e = absurd (omega arith)
only_byte (b ∷ []) e = refl
only_byte (b ∷ c ∷ cs) e = absurd (omega arith)
