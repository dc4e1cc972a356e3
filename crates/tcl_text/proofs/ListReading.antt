-- The relation of a text to the items of its list is the function, both ways.
use Rattle.std.proofs.Common.{◌≡◌, ◌≢◌, ℕ, zero, suc, Bool, true, false, not, List, [], ◌∷◌, ◌++◌, append_assoc, append-nil, subst, Option, Some, None, Ok, Err, Result, refl, ap, sym, ◌∙◌}
use Rattle.std.specs.List.{list_all}
use Rattle.std.specs.Option.{option_map_or}
use Rattle.std.proofs.lemmas.Bool.{and_parts, and_from, eqb-true}
use Rattle.tcl_text.specs.Backslash.{Mark, marks}
use Rattle.tcl_text.specs.Readings.{AreElements, IsElement, IsElementEnd, IsList, ListPlace, Reading, are_balanced, bare, between, braced, closed, depth_after, elements, in_bare, in_braces, in_quotes, is_quote_mark, is_white_mark, list_of, meant, onto, begun, place_after, quoted, reading, with_mark, written}
use Rattle.tcl_text.specs.declared.splitting.ByteKind.{ByteKind}
use Rattle.tcl_text.specs.declared.splitting.ByteKind.TheVariants.{White, OpenBrace, CloseBrace, Quote, Backslash, Other}
use Rattle.tcl_text.specs.Splitting.{Splits}
use Rattle.std.specs.Prelude.{IfOk}
use Rattle.tcl_text.specs.declared.fault.ListFault.{ListFault}
use Rattle.tcl_text.specs.declared.fault.SplitFault.{SplitFault}
use Rattle.tcl_text.specs.declared.fault.SplitFault.TheVariants.{BadList, NoMemory}

-- ── from the function to the relation ──

-- marks up to the one that closes an element, and the elements behind it
record ClosesBehind (inner : List Mark → Bool) (kind : ByteKind) (says : List Mark → List ℕ) (ms : List Mark) (item : List ℕ) (items : List (List ℕ)) : Type 0 where
  inside : List Mark
  last : Mark
  rest : List Mark
  cut : ms ≡ inside ++ last ∷ rest
  closes : last.kind ≡ kind
  fits : inner inside ≡ true
  is : item ≡ says inside
  end : IsElementEnd rest
  others : AreElements rest items

-- marks up to the end of a bare element, and the elements behind it
record BareBehind (ms : List Mark) (item : List ℕ) (items : List (List ℕ)) : Type 0 where
  inside : List Mark
  rest : List Mark
  cut : ms ≡ inside ++ rest
  fits : list_all (λ m. not (is_white_mark m)) inside ≡ true
  is : item ≡ meant inside
  end : IsElementEnd rest
  others : AreElements rest items

abbrev no_quote : List Mark → Bool
no_quote ms = list_all (λ m. not (is_quote_mark m)) ms

some_is : (a b : ℕ) → Some a ≡ Some b → a ≡ b
some_is a b e = cc

-- what a reading from a place says
abbrev Says : ListPlace → List Mark → List ℕ → List (List ℕ) → Type 0
Says between ms item items = (item ≡ []) × AreElements ms items
Says closed ms item items = (item ≡ []) × IsElementEnd ms × AreElements ms items
Says in_bare ms item items = BareBehind ms item items
Says in_quotes ms item items = ClosesBehind no_quote Quote meant ms item items
Says (in_braces depth) ms item items = ClosesBehind (are_balanced depth) CloseBrace written ms item items

white_more : (m : Mark) (ms : List Mark) (items : List (List ℕ)) → is_white_mark m ≡ true → AreElements ms items → AreElements (m ∷ ms) items
white_more m ms [] white h = and_from (is_white_mark m) (list_all is_white_mark ms) white h
white_more m ms (item ∷ items) white h = (m ∷ h.0, h.1, h.2, ap (λ xs. m ∷ xs) h.3, and_from (is_white_mark m) (list_all is_white_mark h.0) white h.4, h.5, h.6, h.7)

-- an element with nothing in front
element_first : (element rest : List Mark) (item : List ℕ) (items : List (List ℕ)) → IsElement element item → IsElementEnd rest → AreElements rest items → AreElements (element ++ rest) (item ∷ items)
element_first element rest item items h end others = ([], element, rest, refl, refl, h, end, others)

closed_first : (first : Mark) (inner : List Mark → Bool) (kind : ByteKind) (says : List Mark → List ℕ) (ms : List Mark) (item : List ℕ) (items : List (List ℕ)) →
    ((inside : List Mark) (last : Mark) → last.kind ≡ kind → inner inside ≡ true → IsElement (first ∷ (inside ++ last ∷ [])) (says inside)) →
    ClosesBehind inner kind says ms item items → AreElements (first ∷ ms) (item ∷ items)
closed_first first inner kind says ms item items makes h =
    let element = first ∷ (h.inside ++ h.last ∷ []) in
    let cut : element ++ h.rest ≡ first ∷ ms = ap (λ xs. first ∷ xs) (append_assoc h.inside (h.last ∷ []) h.rest ∙ sym h.cut) in
    subst (λ xs. AreElements xs (item ∷ items)) cut
    (element_first element h.rest item items (subst (IsElement element) (sym h.is) (makes h.inside h.last h.closes h.fits)) h.end h.others)

same_ok : (r s : List ℕ × List (List ℕ)) → ◌≡◌ {A = Reading} (Ok r) (Ok s) → r ≡ s
same_ok r s e = cc

not_err : (f : ListFault) (s : List ℕ × List (List ℕ)) → ◌≡◌ {A = Reading} (Err f) (Ok s) → ⊥
not_err f s e = cc

pub same_items : (xs ys : List (List ℕ)) → ◌≡◌ {A = Result (List (List ℕ)) ListFault} (Ok xs) (Ok ys) → xs ≡ ys
same_items xs ys e = cc

no_items : (f : ListFault) (ys : List (List ℕ)) → ◌≡◌ {A = Result (List (List ℕ)) ListFault} (Err f) (Ok ys) → ⊥
no_items f ys e = cc

-- bytes in front of the item
onto_parts : (bytes : List ℕ) (r : Reading) (item : List ℕ) (items : List (List ℕ)) → onto bytes r ≡ Ok (item, items) → (behind : List ℕ) × (r ≡ Ok (behind, items)) × (item ≡ bytes ++ behind)
onto_parts bytes (Ok r) item items e =
    let parts = same_ok (bytes ++ r.0, r.1) (item, items) e in
    (r.0, ap (λ (xs : List (List ℕ)). let read : Reading = Ok (r.0, xs) in read) (ap (λ p. p.1) parts), sym (ap (λ p. p.0) parts))
onto_parts bytes (Err f) item items e = absurd (not_err f (item, items) e)

-- an item that begins here
begun_parts : (r : Reading) (item : List ℕ) (items : List (List ℕ)) → begun r ≡ Ok (item, items) → (s : List ℕ × List (List ℕ)) × (r ≡ Ok s) × (item ≡ []) × (items ≡ s.0 ∷ s.1)
begun_parts (Ok r) item items e =
    let parts = same_ok ([], r.0 ∷ r.1) (item, items) e in
    (r, refl, sym (ap (λ p. p.0) parts), sym (ap (λ p. p.1) parts))
begun_parts (Err f) item items e = absurd (not_err f (item, items) e)

-- one mark more inside
inside_more : (inner inner_before : List Mark → Bool) (kind : ByteKind) (says : List Mark → List ℕ) (m : Mark) (ms : List Mark) (bytes item behind : List ℕ) (items : List (List ℕ)) →
    ((inside : List Mark) → inner inside ≡ true → inner_before (m ∷ inside) ≡ true) → ((inside : List Mark) → says (m ∷ inside) ≡ bytes ++ says inside) → item ≡ bytes ++ behind →
    ClosesBehind inner kind says ms behind items → ClosesBehind inner_before kind says (m ∷ ms) item items
inside_more inner inner_before kind says m ms bytes item behind items keeps spells is h =
    record {
      inside = m ∷ h.inside;
      last = h.last;
      rest = h.rest;
      cut = ap (λ xs. m ∷ xs) h.cut;
      closes = h.closes;
      fits = keeps h.inside h.fits;
      is = is ∙ ap (λ xs. bytes ++ xs) h.is ∙ sym (spells h.inside);
      end = h.end;
      others = h.others;
    }

bare_more : (m : Mark) (ms : List Mark) (item behind : List ℕ) (items : List (List ℕ)) → is_white_mark m ≡ false → item ≡ m.meant ++ behind → BareBehind ms behind items → BareBehind (m ∷ ms) item items
bare_more m ms item behind items black is h =
    record {
      inside = m ∷ h.inside;
      rest = h.rest;
      cut = ap (λ xs. m ∷ xs) h.cut;
      fits = rw black h.fits;
      is = is ∙ ap (λ xs. m.meant ++ xs) h.is;
      end = h.end;
      others = h.others;
    }

-- what the kind of a mark says of it
pub quote_test : (m : Mark) (k : ByteKind) → m.kind ≡ k → is_quote_mark m ≡ elim k [ Quote ↦ true | _ ↦ false ]
quote_test m k is = ap (λ (k : ByteKind). let b : Bool = elim k [ Quote ↦ true | _ ↦ false ] in b) is

pub white_test : (m : Mark) (k : ByteKind) → m.kind ≡ k → is_white_mark m ≡ elim k [ White ↦ true | _ ↦ false ]
white_test m k is = ap (λ (k : ByteKind). let b : Bool = elim k [ White ↦ true | _ ↦ false ] in b) is

pub balanced_more : (depth : ℕ) (m : Mark) (k : ByteKind) (next : ℕ) → m.kind ≡ k → depth_after depth k ≡ Some next → (inside : List Mark) → are_balanced next inside ≡ true → are_balanced depth (m ∷ inside) ≡ true
balanced_more depth m k next is to inside fits =
    ap (λ o. option_map_or (λ next. are_balanced next inside) o false) (ap (depth_after depth) is ∙ to) ∙ fits

no_quote_more : (m : Mark) → is_quote_mark m ≡ false → (inside : List Mark) → no_quote inside ≡ true → no_quote (m ∷ inside) ≡ true
no_quote_more m other inside fits = rw other fits

-- the same in each place, where the mark is of a kind
module _ (m : Mark) (ms : List Mark) (behind : (place : ListPlace) (item : List ℕ) (items : List (List ℕ)) → reading place ms ≡ Ok (item, items) → Says place ms item items) where
  closes_here : (inner : List Mark → Bool) (kind : ByteKind) (says : List Mark → List ℕ) → m.kind ≡ kind → inner [] ≡ true → says [] ≡ [] → (item : List ℕ) (items : List (List ℕ)) → reading closed ms ≡ Ok (item, items) → ClosesBehind inner kind says (m ∷ ms) item items
  closes_here inner kind says is fits none item items e =
      let h = behind closed item items e in record { inside = []; last = m; rest = ms; cut = refl; closes = is; fits = fits; is = h.0 ∙ sym none; end = h.1; others = h.2 }

  bare_element : (k : ByteKind) → m.kind ≡ k → k ≢ OpenBrace → k ≢ Quote → is_white_mark m ≡ false → (item : List ℕ) (items : List (List ℕ)) → begun (onto m.meant (reading in_bare ms)) ≡ Ok (item, items) → Says between (m ∷ ms) item items
  bare_element k is opening quote black item items e =
      let b = begun_parts (onto m.meant (reading in_bare ms)) item items e in
      let o = onto_parts m.meant (reading in_bare ms) b.0.0 b.0.1 b.1 in
      let h = behind in_bare o.0 b.0.1 o.1 in
      let element = m ∷ h.inside in
      let spelled : b.0.0 ≡ meant element = o.2 ∙ ap (λ xs. m.meant ++ xs) h.is in
      let first = element_first element h.rest b.0.0 b.0.1 (subst (IsElement element) (sym spelled) (bare m h.inside (λ f. opening (sym is ∙ f)) (λ f. quote (sym is ∙ f)) (rw black h.fits))) h.end h.others in
      (b.2, subst (AreElements (m ∷ ms)) (sym b.3) (subst (λ xs. AreElements xs (b.0.0 ∷ b.0.1)) (ap (λ xs. m ∷ xs) (sym h.cut)) first))

  closed_element : (place : ListPlace) (inner : List Mark → Bool) (kind : ByteKind) (says : List Mark → List ℕ) → ((inside : List Mark) (last : Mark) → last.kind ≡ kind → inner inside ≡ true → IsElement (m ∷ (inside ++ last ∷ [])) (says inside)) →
      ((item : List ℕ) (items : List (List ℕ)) → reading place ms ≡ Ok (item, items) → ClosesBehind inner kind says ms item items) → (item : List ℕ) (items : List (List ℕ)) → begun (reading place ms) ≡ Ok (item, items) → Says between (m ∷ ms) item items
  closed_element place inner kind says makes inside item items e =
      let b = begun_parts (reading place ms) item items e in
      (b.2, subst (AreElements (m ∷ ms)) (sym b.3) (closed_first m inner kind says ms b.0.0 b.0.1 makes (inside b.0.0 b.0.1 b.1)))

  at_between : (k : ByteKind) → m.kind ≡ k → (item : List ℕ) (items : List (List ℕ)) → with_mark between k m (reading (place_after between k) ms) ≡ Ok (item, items) → Says between (m ∷ ms) item items
  at_between White is item items e = let h = behind between item items e in (h.0, white_more m ms items (white_test m White is) h.1)
  at_between OpenBrace is item items e = closed_element (in_braces 0) (are_balanced 0) CloseBrace written (λ inside last closes fits. braced m last inside is closes fits) (behind (in_braces 0)) item items e
  at_between Quote is item items e = closed_element in_quotes no_quote Quote meant (λ inside last closes fits. quoted m last inside is closes fits) (behind in_quotes) item items e
  at_between CloseBrace is item items e = bare_element CloseBrace is (λ f. cc) (λ f. cc) (white_test m CloseBrace is) item items e
  at_between Backslash is item items e = bare_element Backslash is (λ f. cc) (λ f. cc) (white_test m Backslash is) item items e
  at_between Other is item items e = bare_element Other is (λ f. cc) (λ f. cc) (white_test m Other is) item items e

  at_closed : (k : ByteKind) → m.kind ≡ k → (item : List ℕ) (items : List (List ℕ)) → with_mark closed k m (reading (place_after closed k) ms) ≡ Ok (item, items) → Says closed (m ∷ ms) item items
  at_closed White is item items e = let h = behind between item items e in (h.0, white_test m White is, white_more m ms items (white_test m White is) h.1)
  at_closed k is item items e = absurd (not_err _ (item, items) e)

  in_bare_other : is_white_mark m ≡ false → (item : List ℕ) (items : List (List ℕ)) → onto m.meant (reading in_bare ms) ≡ Ok (item, items) → Says in_bare (m ∷ ms) item items
  in_bare_other black item items e = let o = onto_parts m.meant (reading in_bare ms) item items e in bare_more m ms item o.0 items black o.2 (behind in_bare o.0 items o.1)

  at_bare : (k : ByteKind) → m.kind ≡ k → (item : List ℕ) (items : List (List ℕ)) → with_mark in_bare k m (reading (place_after in_bare k) ms) ≡ Ok (item, items) → Says in_bare (m ∷ ms) item items
  at_bare White is item items e =
      let h = behind between item items e in
      record { inside = []; rest = m ∷ ms; cut = refl; fits = refl; is = h.0; end = white_test m White is; others = white_more m ms items (white_test m White is) h.1 }
  at_bare OpenBrace is item items e = in_bare_other (white_test m OpenBrace is) item items e
  at_bare CloseBrace is item items e = in_bare_other (white_test m CloseBrace is) item items e
  at_bare Quote is item items e = in_bare_other (white_test m Quote is) item items e
  at_bare Backslash is item items e = in_bare_other (white_test m Backslash is) item items e
  at_bare Other is item items e = in_bare_other (white_test m Other is) item items e

  in_quotes_other : is_quote_mark m ≡ false → (item : List ℕ) (items : List (List ℕ)) → onto m.meant (reading in_quotes ms) ≡ Ok (item, items) → Says in_quotes (m ∷ ms) item items
  in_quotes_other other item items e =
      let o = onto_parts m.meant (reading in_quotes ms) item items e in
      inside_more no_quote no_quote Quote meant m ms m.meant item o.0 items (no_quote_more m other) (λ inside. refl) o.2 (behind in_quotes o.0 items o.1)

  at_quotes : (k : ByteKind) → m.kind ≡ k → (item : List ℕ) (items : List (List ℕ)) → with_mark in_quotes k m (reading (place_after in_quotes k) ms) ≡ Ok (item, items) → Says in_quotes (m ∷ ms) item items
  at_quotes Quote is item items e = closes_here no_quote Quote meant is refl refl item items e
  at_quotes White is item items e = in_quotes_other (quote_test m White is) item items e
  at_quotes OpenBrace is item items e = in_quotes_other (quote_test m OpenBrace is) item items e
  at_quotes CloseBrace is item items e = in_quotes_other (quote_test m CloseBrace is) item items e
  at_quotes Backslash is item items e = in_quotes_other (quote_test m Backslash is) item items e
  at_quotes Other is item items e = in_quotes_other (quote_test m Other is) item items e

  in_braces_more : (depth next : ℕ) (k : ByteKind) → m.kind ≡ k → depth_after depth k ≡ Some next → (item : List ℕ) (items : List (List ℕ)) → onto m.written (reading (in_braces next) ms) ≡ Ok (item, items) → Says (in_braces depth) (m ∷ ms) item items
  in_braces_more depth next k is to item items e =
      let o = onto_parts m.written (reading (in_braces next) ms) item items e in
      inside_more (are_balanced next) (are_balanced depth) CloseBrace written m ms m.written item o.0 items (balanced_more depth m k next is to) (λ inside. refl) o.2 (behind (in_braces next) o.0 items o.1)

  at_braces : (depth : ℕ) (k : ByteKind) → m.kind ≡ k → (item : List ℕ) (items : List (List ℕ)) → with_mark (in_braces depth) k m (reading (place_after (in_braces depth) k) ms) ≡ Ok (item, items) → Says (in_braces depth) (m ∷ ms) item items
  at_braces zero CloseBrace is item items e = closes_here (are_balanced 0) CloseBrace written is refl refl item items e
  at_braces (suc depth) CloseBrace is item items e = in_braces_more (suc depth) depth CloseBrace is refl item items e
  at_braces zero OpenBrace is item items e = in_braces_more 0 1 OpenBrace is refl item items e
  at_braces (suc depth) OpenBrace is item items e = in_braces_more (suc depth) (suc (suc depth)) OpenBrace is refl item items e
  at_braces zero White is item items e = in_braces_more 0 0 White is refl item items e
  at_braces (suc depth) White is item items e = in_braces_more (suc depth) (suc depth) White is refl item items e
  at_braces zero Quote is item items e = in_braces_more 0 0 Quote is refl item items e
  at_braces (suc depth) Quote is item items e = in_braces_more (suc depth) (suc depth) Quote is refl item items e
  at_braces zero Backslash is item items e = in_braces_more 0 0 Backslash is refl item items e
  at_braces (suc depth) Backslash is item items e = in_braces_more (suc depth) (suc depth) Backslash is refl item items e
  at_braces zero Other is item items e = in_braces_more 0 0 Other is refl item items e
  at_braces (suc depth) Other is item items e = in_braces_more (suc depth) (suc depth) Other is refl item items e

  -- from any place
  at_mark : (place : ListPlace) (item : List ℕ) (items : List (List ℕ)) → reading place (m ∷ ms) ≡ Ok (item, items) → Says place (m ∷ ms) item items
  at_mark between item items e = at_between m.kind refl item items e
  at_mark (in_braces depth) item items e = at_braces depth m.kind refl item items e
  at_mark in_quotes item items e = at_quotes m.kind refl item items e
  at_mark in_bare item items e = at_bare m.kind refl item items e
  at_mark closed item items e = at_closed m.kind refl item items e

-- at the end
at_no_mark : (place : ListPlace) (item : List ℕ) (items : List (List ℕ)) → reading place [] ≡ Ok (item, items) → Says place [] item items
at_no_mark between item items e = let p = same_ok ([], []) (item, items) e in (sym (ap (λ p. p.0) p), subst (AreElements []) (ap (λ p. p.1) p) refl)
at_no_mark (in_braces depth) item items e = absurd (not_err _ (item, items) e)
at_no_mark in_quotes item items e = absurd (not_err _ (item, items) e)
at_no_mark in_bare item items e =
    let p = same_ok ([], []) (item, items) e in
    record { inside = []; rest = []; cut = refl; fits = refl; is = sym (ap (λ p. p.0) p); end = tt; others = subst (AreElements []) (ap (λ p. p.1) p) refl }
at_no_mark closed item items e = let p = same_ok ([], []) (item, items) e in (sym (ap (λ p. p.0) p), tt, subst (AreElements []) (ap (λ p. p.1) p) refl)

-- what a reading says is so
said : (ms : List Mark) (place : ListPlace) (item : List ℕ) (items : List (List ℕ)) → reading place ms ≡ Ok (item, items) → Says place ms item items
said [] place item items e = at_no_mark place item items e
said (m ∷ ms) place item items e = at_mark m ms (said ms) place item items e

-- what the function reads is related
pub IsList-from_list_of : (text : List ℕ) (items : List (List ℕ)) → list_of text ≡ Ok items → IsList text items
unfolding list_of
IsList-from_list_of text items e = at (reading between (marks text)) refl e
  where
    at : (r : Reading) → reading between (marks text) ≡ r → elements r ≡ Ok items → IsList text items
    at (Ok r) is f = subst (IsList text) (same_items r.1 items f) (said (marks text) between r.0 r.1 is).1
    at (Err f) is g = absurd (no_items f items g)

-- ── from the relation to the function ──

onto-onto_nil : (r : Reading) → onto [] r ≡ r
onto-onto_nil (Ok r) = refl
onto-onto_nil (Err f) = refl

onto-twice : (xs ys : List ℕ) (r : Reading) → onto xs (onto ys r) ≡ onto (xs ++ ys) r
onto-twice xs ys (Ok r) = ap (λ (bytes : List ℕ). let read : Reading = Ok (bytes, r.1) in read) (sym (append_assoc xs ys r.0))
onto-twice xs ys (Err f) = refl

-- white space in front changes no reading
pub reads_white : (white ms : List Mark) → list_all is_white_mark white ≡ true → reading between (white ++ ms) ≡ reading between ms
reads_white [] ms all = refl
reads_white (m ∷ white) ms all =
    let parts = and_parts (is_white_mark m) (list_all is_white_mark white) all in
    at m.kind parts.0 (λ place. reading place (white ++ ms)) ∙ reads_white white ms parts.1
  where
    at : (k : ByteKind) → elim k [ White ↦ true | _ ↦ false ] ≡ true → (r : ListPlace → Reading) → with_mark between k m (r (place_after between k)) ≡ r between
    at White w r = refl
    at k w r = absurd cc

white_kind_of : (m : Mark) → is_white_mark m ≡ true → m.kind ≡ White
white_kind_of m white = at m.kind white
  where
    at : (k : ByteKind) → elim k [ White ↦ true | _ ↦ false ] ≡ true → k ≡ White
    at White w = refl
    at k w = absurd cc

-- an element may end where white space or the end stands
reads_end : (rest : List Mark) → IsElementEnd rest → (reading closed rest ≡ reading between rest) × (reading in_bare rest ≡ reading between rest)
reads_end [] end = (refl, refl)
reads_end (m ∷ ms) end =
    let white = white_kind_of m end in (
      ap (λ k. with_mark closed k m (reading (place_after closed k) ms)) white ∙ sym (ap (λ k. with_mark between k m (reading (place_after between k) ms)) white),
      ap (λ k. with_mark in_bare k m (reading (place_after in_bare k) ms)) white ∙ sym (ap (λ k. with_mark between k m (reading (place_after between k) ms)) white),
    )

-- a bare element
reads_bare : (inside rest : List Mark) → list_all (λ m. not (is_white_mark m)) inside ≡ true → IsElementEnd rest → reading in_bare (inside ++ rest) ≡ onto (meant inside) (reading between rest)
reads_bare [] rest all end = (reads_end rest end).1 ∙ sym (onto-onto_nil (reading between rest))
reads_bare (m ∷ inside) rest all end =
    let parts = and_parts (not (is_white_mark m)) (list_all (λ m. not (is_white_mark m)) inside) all in
    at m.kind parts.0 (λ place. reading place (inside ++ rest)) ∙ ap (onto m.meant) (reads_bare inside rest parts.1 end) ∙ onto-twice m.meant (meant inside) (reading between rest)
  where
    at : (k : ByteKind) → not (elim k [ White ↦ true | _ ↦ false ]) ≡ true → (r : ListPlace → Reading) → with_mark in_bare k m (r (place_after in_bare k)) ≡ onto m.meant (r in_bare)
    at White w r = absurd cc
    at k w r = refl

-- an element in quotes
pub reads_quotes : (inside rest : List Mark) (last : Mark) → no_quote inside ≡ true → last.kind ≡ Quote → reading in_quotes (inside ++ last ∷ rest) ≡ onto (meant inside) (reading closed rest)
reads_quotes [] rest last all closes =
    ap (λ k. with_mark in_quotes k last (reading (place_after in_quotes k) rest)) closes ∙ sym (onto-onto_nil (reading closed rest))
reads_quotes (m ∷ inside) rest last all closes =
    let parts = and_parts (not (is_quote_mark m)) (no_quote inside) all in
    at m.kind parts.0 (λ place. reading place (inside ++ last ∷ rest)) ∙ ap (onto m.meant) (reads_quotes inside rest last parts.1 closes) ∙ onto-twice m.meant (meant inside) (reading closed rest)
  where
    at : (k : ByteKind) → not (elim k [ Quote ↦ true | _ ↦ false ]) ≡ true → (r : ListPlace → Reading) → with_mark in_quotes k m (r (place_after in_quotes k)) ≡ onto m.meant (r in_quotes)
    at Quote w r = absurd cc
    at k w r = refl

-- a mark in braces, by the depth behind it
pub braces_mark : (depth next : ℕ) (k : ByteKind) (m : Mark) (r : ListPlace → Reading) → depth_after depth k ≡ Some next → with_mark (in_braces depth) k m (r (place_after (in_braces depth) k)) ≡ onto m.written (r (in_braces next))
braces_mark zero next OpenBrace m r to = ap (λ d. onto m.written (r (in_braces d))) (some_is 1 next to)
braces_mark (suc depth) next OpenBrace m r to = ap (λ d. onto m.written (r (in_braces d))) (some_is (suc (suc depth)) next to)
braces_mark zero next CloseBrace m r to = absurd cc
braces_mark (suc depth) next CloseBrace m r to = ap (λ d. onto m.written (r (in_braces d))) (some_is depth next to)
braces_mark (suc depth) next White m r to = ap (λ d. onto m.written (r (in_braces d))) (some_is (suc depth) next to)
braces_mark (suc depth) next Quote m r to = ap (λ d. onto m.written (r (in_braces d))) (some_is (suc depth) next to)
braces_mark (suc depth) next Backslash m r to = ap (λ d. onto m.written (r (in_braces d))) (some_is (suc depth) next to)
braces_mark (suc depth) next Other m r to = ap (λ d. onto m.written (r (in_braces d))) (some_is (suc depth) next to)
braces_mark zero next k m r to = ap (λ d. onto m.written (r (in_braces d))) (some_is 0 next to)

-- an element in braces
pub reads_braces : (depth : ℕ) (inside rest : List Mark) (last : Mark) → are_balanced depth inside ≡ true → last.kind ≡ CloseBrace → reading (in_braces depth) (inside ++ last ∷ rest) ≡ onto (written inside) (reading closed rest)
reads_braces depth [] rest last all closes =
    ap (λ d. reading (in_braces d) (last ∷ rest)) (eqb-true depth 0 all) ∙ ap (λ k. with_mark (in_braces 0) k last (reading (place_after (in_braces 0) k) rest)) closes
    ∙ sym (onto-onto_nil (reading closed rest))
reads_braces depth (m ∷ inside) rest last all closes = at (depth_after depth m.kind) refl all (λ next. reads_braces next inside rest last)
  where
    at : (next : Option ℕ) → depth_after depth m.kind ≡ next → option_map_or (λ next. are_balanced next inside) next false ≡ true →
        ((next : ℕ) → are_balanced next inside ≡ true → last.kind ≡ CloseBrace → reading (in_braces next) (inside ++ last ∷ rest) ≡ onto (written inside) (reading closed rest)) →
        reading (in_braces depth) ((m ∷ inside) ++ last ∷ rest) ≡ onto (written (m ∷ inside)) (reading closed rest)
    at None is fits more = absurd cc
    at (Some next) is fits more =
        braces_mark depth next m.kind m (λ place. reading place (inside ++ last ∷ rest)) is ∙ ap (onto m.written) (more next fits closes) ∙ onto-twice m.written (written inside) (reading closed rest)

-- an element
pub reads_element : (element rest : List Mark) (item : List ℕ) → IsElement element item → IsElementEnd rest → reading between (element ++ rest) ≡ begun (onto item (reading between rest))
reads_element element rest item (braced first last inside opens closes fits) end =
    ap (λ k. with_mark between k first (reading (place_after between k) ((inside ++ last ∷ []) ++ rest))) opens
    ∙ ap (λ ms. begun (reading (in_braces 0) ms)) (append_assoc inside (last ∷ []) rest) ∙ ap begun (reads_braces 0 inside rest last fits closes ∙ ap (onto (written inside)) (reads_end rest end).0)
reads_element element rest item (quoted first last inside opens closes fits) end =
    ap (λ k. with_mark between k first (reading (place_after between k) ((inside ++ last ∷ []) ++ rest))) opens
    ∙ ap (λ ms. begun (reading in_quotes ms)) (append_assoc inside (last ∷ []) rest) ∙ ap begun (reads_quotes inside rest last fits closes ∙ ap (onto (meant inside)) (reads_end rest end).0)
reads_element element rest item (bare first others opening quote fits) end =
    at first.kind opening quote (and_parts (not (is_white_mark first)) (list_all (λ m. not (is_white_mark m)) others) fits).0 (λ place. reading place (others ++ rest)) ∙ ap begun (reads_bare (first ∷ others) rest fits end)
  where
    at : (k : ByteKind) → k ≢ OpenBrace → k ≢ Quote → not (elim k [ White ↦ true | _ ↦ false ]) ≡ true → (r : ListPlace → Reading) → with_mark between k first (r (place_after between k)) ≡ begun (with_mark in_bare k first (r (place_after in_bare k)))
    at White o q w r = absurd cc
    at OpenBrace o q w r = absurd (o refl)
    at Quote o q w r = absurd (q refl)
    at k o q w r = refl

-- the elements of a list
reads_elements : (ms : List Mark) (items : List (List ℕ)) → AreElements ms items → reading between ms ≡ Ok ([], items)
reads_elements ms [] h = ap (reading between) (sym (append-nil ms)) ∙ reads_white ms [] h
reads_elements ms (item ∷ items) h =
    ap (reading between) h.3 ∙ reads_white h.0 (h.1 ++ h.2) h.4 ∙ reads_element h.1 h.2 item h.5 h.6 ∙ ap (λ r. begun (onto item r)) (reads_elements h.2 items h.7)
    ∙ ap (λ (bytes : List ℕ). let read : Reading = Ok ([], bytes ∷ items) in read) (append-nil item)

-- what is related the function reads
pub list_of-from_IsList : (text : List ℕ) (items : List (List ℕ)) → IsList text items → list_of text ≡ Ok items
unfolding list_of
list_of-from_IsList text items h = ap elements (reads_elements (marks text) items h)

-- ── what a split answers ──

pub splits_read : (r : Result (List (List ℕ)) SplitFault) (text : List ℕ) → Splits r (list_of text) → IfOk r (λ items. IsList text items)
splits_read (Ok items) text h = IsList-from_list_of text items h
splits_read (Err (BadList fault)) text h = tt
splits_read (Err NoMemory) text h = tt

pub splits_only : (r : Result (List (List ℕ)) SplitFault) (text : List ℕ) → Splits r (list_of text) → (items : List (List ℕ)) → IsList text items → Splits r (Ok items)
splits_only r text h items is = subst (Splits r) (list_of-from_IsList text items is) h

pub splits_refused : (r : Result (List (List ℕ)) SplitFault) (text : List ℕ) → Splits r (list_of text) → (fault : ListFault) → r ≡ Err (BadList fault) → (items : List (List ℕ)) → IsList text items → ⊥
splits_refused r text h fault e items is =
    no_items fault items (sym (subst (λ r. Splits r (list_of text)) e h) ∙ list_of-from_IsList text items is)
