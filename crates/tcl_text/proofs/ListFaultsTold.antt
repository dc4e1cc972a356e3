-- Where the function tells a fault, the text is no list by the relation.
use Rattle.std.proofs.Common.{◌≡◌, ◌≢◌, ◌⊎◌, inl, inr, ℕ, zero, suc, Bool, true, false, not, List, [], ◌∷◌, ◌++◌, append_assoc, subst, Option, Some, None, Ok, Err, refl, ap, sym, ◌∙◌, arith}
use Rattle.std.specs.List.{list_all}
use Rattle.std.specs.Option.{option_map_or}
use Rattle.std.proofs.lemmas.Bool.{and_from, ne_eqb}
use Rattle.tcl_text.specs.Backslash.{Mark, marks}
use Rattle.tcl_text.specs.Readings.{IsElement, IsElementEnd, ListPlace, Reading, are_balanced, bare, between, braced, closed, depth_after, elements, in_bare, in_braces, in_quotes, is_quote_mark, is_white_mark, list_of, meant, onto, begun, place_after, quoted, reading, with_mark, written}
use Rattle.tcl_text.specs.ListFaults.{IsFaultyElement, unclosed_brace, unclosed_quote, followed_brace, followed_quote, AreItemsBeforeFault, IsListFault}
use Rattle.tcl_text.specs.declared.splitting.ByteKind.{ByteKind}
use Rattle.tcl_text.specs.declared.splitting.ByteKind.TheVariants.{White, OpenBrace, CloseBrace, Quote, Backslash, Other}
use Rattle.tcl_text.specs.declared.fault.ListFault.{ListFault}
use Rattle.tcl_text.specs.declared.fault.ListFault.TheVariants.{OpenBrace as UnmatchedBrace, OpenQuote as UnmatchedQuote, ExtraCharacters}
use Rattle.tcl_text.proofs.ListReading.{braces_mark, quote_test, white_test, balanced_more}
use Rattle.tcl_text.proofs.ListFaultsMeant.{IsUnclosedFrom, last_brace}

abbrev no_quote : List Mark → Bool
no_quote ms = list_all (λ m. not (is_quote_mark m)) ms

abbrev IsBeforeFault : List Mark → ListFault → Type 0
IsBeforeFault ms fault = (items : List (List ℕ)) × AreItemsBeforeFault ms items fault

-- behind a closing brace or quote something is too many, or the element ends and a later one is at fault
abbrev IsFaultBehind : List Mark → ListFault → Type 0
IsFaultBehind ms fault =
    ((next : Mark) × (rest : List Mark) × (ms ≡ next ∷ rest) × (is_white_mark next ≡ false) × (fault ≡ ExtraCharacters))
    ⊎ (IsElementEnd ms × IsBeforeFault ms fault)

-- marks up to the one that closes an element, and what is at fault behind it
record ClosesBefore (inner : List Mark → Bool) (kind : ByteKind) (ms : List Mark) (fault : ListFault) : Type 0 where
  inside : List Mark
  last : Mark
  rest : List Mark
  cut : ms ≡ inside ++ last ∷ rest
  closes : last.kind ≡ kind
  fits : inner inside ≡ true
  behind : IsFaultBehind rest fault

-- marks up to the end of a bare element, and what is at fault behind it
record BareBefore (ms : List Mark) (fault : ListFault) : Type 0 where
  inside : List Mark
  rest : List Mark
  cut : ms ≡ inside ++ rest
  fits : list_all (λ m. not (is_white_mark m)) inside ≡ true
  end : IsElementEnd rest
  behind : IsBeforeFault rest fault

-- what a fault from a place says
abbrev Told : ListPlace → List Mark → ListFault → Type 0
Told between ms fault = IsBeforeFault ms fault
Told closed ms fault = IsFaultBehind ms fault
Told in_bare ms fault = BareBefore ms fault
Told in_quotes ms fault = ((no_quote ms ≡ true) × (fault ≡ UnmatchedQuote)) ⊎ ClosesBefore no_quote Quote ms fault
Told (in_braces depth) ms fault = (IsUnclosedFrom depth ms × (fault ≡ UnmatchedBrace)) ⊎ ClosesBefore (are_balanced depth) CloseBrace ms fault

onto_fault : (bytes : List ℕ) (r : Reading) (fault : ListFault) → onto bytes r ≡ Err fault → r ≡ Err fault
onto_fault bytes (Ok r) fault e = absurd cc
onto_fault bytes (Err f) fault e = e

begun_fault : (r : Reading) (fault : ListFault) → begun r ≡ Err fault → r ≡ Err fault
begun_fault (Ok r) fault e = absurd cc
begun_fault (Err f) fault e = e

same_fault : (a b : ListFault) → ◌≡◌ {A = Reading} (Err a) (Err b) → a ≡ b
same_fault a b e = cc

white_before : (m : Mark) (ms : List Mark) (fault : ListFault) → is_white_mark m ≡ true → IsBeforeFault ms fault → IsBeforeFault (m ∷ ms) fault
white_before m ms fault white ([], (gap, rest, cut, all, is)) = ([], (m ∷ gap, rest, ap (λ xs. m ∷ xs) cut, and_from (is_white_mark m) (list_all is_white_mark gap) white all, is))
white_before m ms fault white (item ∷ items, (gap, element, rest, cut, all, is, end, more)) =
    (item ∷ items, (m ∷ gap, element, rest, ap (λ xs. m ∷ xs) cut, and_from (is_white_mark m) (list_all is_white_mark gap) white all, is, end, more))

-- an element in front, or a faulty one
element_before : (element rest : List Mark) (item : List ℕ) (fault : ListFault) → IsElement element item → IsElementEnd rest → IsBeforeFault rest fault → IsBeforeFault (element ++ rest) fault
element_before element rest item fault is end more = (item ∷ more.0, ([], element, rest, refl, refl, is, end, more.1))

faulty_here : (ms : List Mark) (fault other : ListFault) → fault ≡ other → IsFaultyElement ms other → IsBeforeFault ms fault
faulty_here ms fault other same is = ([], ([], ms, refl, refl, subst (IsFaultyElement ms) (sym same) is))

-- an element that a brace or a quote opens
closed_before : (m : Mark) (inner : List Mark → Bool) (kind : ByteKind) (says : List Mark → List ℕ) (ms : List Mark) (fault : ListFault) →
    ((inside : List Mark) (last : Mark) → last.kind ≡ kind → inner inside ≡ true → IsElement (m ∷ (inside ++ last ∷ [])) (says inside)) →
    ((inside rest : List Mark) (last next : Mark) → last.kind ≡ kind → inner inside ≡ true → is_white_mark next ≡ false → IsFaultyElement (m ∷ (inside ++ last ∷ next ∷ rest)) ExtraCharacters) →
    ClosesBefore inner kind ms fault → IsBeforeFault (m ∷ ms) fault
closed_before m inner kind says ms fault makes follows h = at h.behind
  where
    at : IsFaultBehind h.rest fault → IsBeforeFault (m ∷ ms) fault
    at (inl (next, rest, cut, black, same)) =
        let whole : m ∷ (h.inside ++ h.last ∷ next ∷ rest) ≡ m ∷ ms = ap (λ xs. m ∷ (h.inside ++ h.last ∷ xs)) (sym cut) ∙ ap (λ xs. m ∷ xs) (sym h.cut) in
        faulty_here (m ∷ ms) fault ExtraCharacters same (subst (λ xs. IsFaultyElement xs ExtraCharacters) whole (follows h.inside rest h.last next h.closes h.fits black))
    at (inr (end, more)) =
        let element = m ∷ (h.inside ++ h.last ∷ []) in
        let cut : element ++ h.rest ≡ m ∷ ms = ap (λ xs. m ∷ xs) (append_assoc h.inside (h.last ∷ []) h.rest ∙ sym h.cut) in
        subst (λ xs. IsBeforeFault xs fault) cut (element_before element h.rest (says h.inside) fault (makes h.inside h.last h.closes h.fits) end more)

-- one mark more inside
closes_more : (inner inner_before : List Mark → Bool) (kind : ByteKind) (m : Mark) (ms : List Mark) (fault : ListFault) → ((inside : List Mark) → inner inside ≡ true → inner_before (m ∷ inside) ≡ true) →
    ClosesBefore inner kind ms fault → ClosesBefore inner_before kind (m ∷ ms) fault
closes_more inner inner_before kind m ms fault keeps h =
    record { inside = m ∷ h.inside; last = h.last; rest = h.rest; cut = ap (λ xs. m ∷ xs) h.cut; closes = h.closes; fits = keeps h.inside h.fits; behind = h.behind }

bare_before_more : (m : Mark) (ms : List Mark) (fault : ListFault) → is_white_mark m ≡ false → BareBefore ms fault → BareBefore (m ∷ ms) fault
bare_before_more m ms fault black h =
    record { inside = m ∷ h.inside; rest = h.rest; cut = ap (λ xs. m ∷ xs) h.cut; fits = rw black h.fits; end = h.end; behind = h.behind }

-- a brace that a closing brace leaves open
not_closed : (depth next : ℕ) → depth_after depth CloseBrace ≡ Some next → are_balanced depth [] ≡ false
not_closed zero next to = absurd cc
not_closed (suc depth) next to = ne_eqb (suc depth) 0 (λ e. omega (arith, e))

same_next : (a b : ℕ) → Some a ≡ Some b → a ≡ b
same_next a b e = cc

unclosed_more : (depth next : ℕ) (m : Mark) (ms : List Mark) → depth_after depth m.kind ≡ Some next → IsUnclosedFrom next ms → IsUnclosedFrom depth (m ∷ ms)
unclosed_more depth next m ms to none [] rest last cut closes =
    let here : m ≡ last = cc in
    not_closed depth next (ap (depth_after depth) (sym closes ∙ ap (λ (n : Mark). n.kind) (sym here)) ∙ to)
unclosed_more depth next m ms to none (b ∷ before) rest last cut closes =
    let here : m ≡ b = cc in
    let behind : ms ≡ before ++ last ∷ rest = cc in
    ap (λ o. option_map_or (λ next. are_balanced next before) o false) (ap (λ (n : Mark). depth_after depth n.kind) (sym here) ∙ to) ∙ none before rest last behind closes

-- the same in each place, where the mark is of a kind
module _ (m : Mark) (ms : List Mark) (behind : (place : ListPlace) (fault : ListFault) → reading place ms ≡ Err fault → Told place ms fault) where
  bare_fault : (k : ByteKind) → m.kind ≡ k → k ≢ OpenBrace → k ≢ Quote → is_white_mark m ≡ false → (fault : ListFault) → begun (onto m.meant (reading in_bare ms)) ≡ Err fault → Told between (m ∷ ms) fault
  bare_fault k is opening quote black fault e =
      let h = behind in_bare fault (onto_fault m.meant (reading in_bare ms) fault (begun_fault (onto m.meant (reading in_bare ms)) fault e)) in
      let element = m ∷ h.inside in
      subst (λ xs. IsBeforeFault xs fault) (ap (λ xs. m ∷ xs) (sym h.cut))
      (element_before element h.rest (meant element) fault (bare m h.inside (λ f. opening (sym is ∙ f)) (λ f. quote (sym is ∙ f)) (rw black h.fits)) h.end h.behind)

  brace_fault : m.kind ≡ OpenBrace → (fault : ListFault) → Told (in_braces 0) ms fault → Told between (m ∷ ms) fault
  brace_fault is fault (inl (none, same)) = faulty_here (m ∷ ms) fault UnmatchedBrace same (unclosed_brace m ms is none)
  brace_fault is fault (inr h) =
      closed_before m (are_balanced 0) CloseBrace written ms fault (λ inside last closes fits. braced m last inside is closes fits)
      (λ inside rest last next closes fits black. followed_brace m last next inside rest is closes fits black) h

  quote_fault : m.kind ≡ Quote → (fault : ListFault) → Told in_quotes ms fault → Told between (m ∷ ms) fault
  quote_fault is fault (inl (none, same)) = faulty_here (m ∷ ms) fault UnmatchedQuote same (unclosed_quote m ms is none)
  quote_fault is fault (inr h) =
      closed_before m no_quote Quote meant ms fault (λ inside last closes fits. quoted m last inside is closes fits)
      (λ inside rest last next closes fits black. followed_quote m last next inside rest is closes fits black) h

  between_fault : (k : ByteKind) → m.kind ≡ k → (fault : ListFault) → with_mark between k m (reading (place_after between k) ms) ≡ Err fault → Told between (m ∷ ms) fault
  between_fault White is fault e = white_before m ms fault (white_test m White is) (behind between fault e)
  between_fault OpenBrace is fault e = brace_fault is fault (behind (in_braces 0) fault (begun_fault (reading (in_braces 0) ms) fault e))
  between_fault Quote is fault e = quote_fault is fault (behind in_quotes fault (begun_fault (reading in_quotes ms) fault e))
  between_fault CloseBrace is fault e = bare_fault CloseBrace is (λ f. cc) (λ f. cc) (white_test m CloseBrace is) fault e
  between_fault Backslash is fault e = bare_fault Backslash is (λ f. cc) (λ f. cc) (white_test m Backslash is) fault e
  between_fault Other is fault e = bare_fault Other is (λ f. cc) (λ f. cc) (white_test m Other is) fault e

  extra_fault : is_white_mark m ≡ false → (fault : ListFault) → ◌≡◌ {A = Reading} (Err ExtraCharacters) (Err fault) → Told closed (m ∷ ms) fault
  extra_fault black fault e = inl (m, ms, refl, black, sym (same_fault ExtraCharacters fault e))

  closed_fault : (k : ByteKind) → m.kind ≡ k → (fault : ListFault) → with_mark closed k m (reading (place_after closed k) ms) ≡ Err fault → Told closed (m ∷ ms) fault
  closed_fault White is fault e = inr (white_test m White is, white_before m ms fault (white_test m White is) (behind between fault e))
  closed_fault OpenBrace is fault e = extra_fault (white_test m OpenBrace is) fault e
  closed_fault CloseBrace is fault e = extra_fault (white_test m CloseBrace is) fault e
  closed_fault Quote is fault e = extra_fault (white_test m Quote is) fault e
  closed_fault Backslash is fault e = extra_fault (white_test m Backslash is) fault e
  closed_fault Other is fault e = extra_fault (white_test m Other is) fault e

  bare_other : is_white_mark m ≡ false → (fault : ListFault) → onto m.meant (reading in_bare ms) ≡ Err fault → Told in_bare (m ∷ ms) fault
  bare_other black fault e = bare_before_more m ms fault black (behind in_bare fault (onto_fault m.meant (reading in_bare ms) fault e))

  in_bare_fault : (k : ByteKind) → m.kind ≡ k → (fault : ListFault) → with_mark in_bare k m (reading (place_after in_bare k) ms) ≡ Err fault → Told in_bare (m ∷ ms) fault
  in_bare_fault White is fault e =
      record { inside = []; rest = m ∷ ms; cut = refl; fits = refl; end = white_test m White is; behind = white_before m ms fault (white_test m White is) (behind between fault e) }
  in_bare_fault OpenBrace is fault e = bare_other (white_test m OpenBrace is) fault e
  in_bare_fault CloseBrace is fault e = bare_other (white_test m CloseBrace is) fault e
  in_bare_fault Quote is fault e = bare_other (white_test m Quote is) fault e
  in_bare_fault Backslash is fault e = bare_other (white_test m Backslash is) fault e
  in_bare_fault Other is fault e = bare_other (white_test m Other is) fault e

  quotes_other : is_quote_mark m ≡ false → (fault : ListFault) → onto m.meant (reading in_quotes ms) ≡ Err fault → Told in_quotes (m ∷ ms) fault
  quotes_other other fault e = at (behind in_quotes fault (onto_fault m.meant (reading in_quotes ms) fault e))
    where
      at : Told in_quotes ms fault → Told in_quotes (m ∷ ms) fault
      at (inl (none, same)) = inl (rw other none, same)
      at (inr h) = inr (closes_more no_quote no_quote Quote m ms fault (λ inside fits. rw other fits) h)

  in_quotes_fault : (k : ByteKind) → m.kind ≡ k → (fault : ListFault) → with_mark in_quotes k m (reading (place_after in_quotes k) ms) ≡ Err fault → Told in_quotes (m ∷ ms) fault
  in_quotes_fault Quote is fault e = inr (record { inside = []; last = m; rest = ms; cut = refl; closes = is; fits = refl; behind = behind closed fault e })
  in_quotes_fault White is fault e = quotes_other (quote_test m White is) fault e
  in_quotes_fault OpenBrace is fault e = quotes_other (quote_test m OpenBrace is) fault e
  in_quotes_fault CloseBrace is fault e = quotes_other (quote_test m CloseBrace is) fault e
  in_quotes_fault Backslash is fault e = quotes_other (quote_test m Backslash is) fault e
  in_quotes_fault Other is fault e = quotes_other (quote_test m Other is) fault e

  in_braces_fault : (depth : ℕ) (next : Option ℕ) → depth_after depth m.kind ≡ next → (fault : ListFault) → reading (in_braces depth) (m ∷ ms) ≡ Err fault → Told (in_braces depth) (m ∷ ms) fault
  in_braces_fault depth None is fault e =
      let here = last_brace depth m.kind is in
      let read : reading closed ms ≡ Err fault =
      ap (λ k. with_mark (in_braces 0) k m (reading (place_after (in_braces 0) k) ms)) (sym here.0) ∙ ap (λ d. reading (in_braces d) (m ∷ ms)) (sym here.1) ∙ e in
      inr (record { inside = []; last = m; rest = ms; cut = refl; closes = here.0; fits = ap (λ d. are_balanced d []) here.1; behind = behind closed fault read })
  in_braces_fault depth (Some next) is fault e =
      at (behind (in_braces next) fault (onto_fault m.written (reading (in_braces next) ms) fault (sym (braces_mark depth next m.kind m (λ place. reading place ms) is) ∙ e)))
    where
      at : Told (in_braces next) ms fault → Told (in_braces depth) (m ∷ ms) fault
      at (inl (none, same)) = inl (unclosed_more depth next m ms is none, same)
      at (inr h) = inr (closes_more (are_balanced next) (are_balanced depth) CloseBrace m ms fault (balanced_more depth m m.kind next refl is) h)

  -- from any place
  fault_at : (place : ListPlace) (fault : ListFault) → reading place (m ∷ ms) ≡ Err fault → Told place (m ∷ ms) fault
  fault_at between fault e = between_fault m.kind refl fault e
  fault_at (in_braces depth) fault e = in_braces_fault depth (depth_after depth m.kind) refl fault e
  fault_at in_quotes fault e = in_quotes_fault m.kind refl fault e
  fault_at in_bare fault e = in_bare_fault m.kind refl fault e
  fault_at closed fault e = closed_fault m.kind refl fault e

-- at the end
fault_at_end : (place : ListPlace) (fault : ListFault) → reading place [] ≡ Err fault → Told place [] fault
fault_at_end between fault e = absurd cc
fault_at_end (in_braces depth) fault e = inl ((λ before rest last cut closes. at before rest last cut), sym (same_fault UnmatchedBrace fault e))
  where
    at : (before rest : List Mark) (last : Mark) → [] ≡ before ++ last ∷ rest → are_balanced depth before ≡ false
    at [] rest last cut = absurd cc
    at (b ∷ before) rest last cut = absurd cc
fault_at_end in_quotes fault e = inl (refl, sym (same_fault UnmatchedQuote fault e))
fault_at_end in_bare fault e = absurd cc
fault_at_end closed fault e = absurd cc

told : (ms : List Mark) (place : ListPlace) (fault : ListFault) → reading place ms ≡ Err fault → Told place ms fault
told [] place fault e = fault_at_end place fault e
told (m ∷ ms) place fault e = fault_at m ms (told ms) place fault e

-- what the function tells is related
pub IsListFault-from_list_of : (text : List ℕ) (fault : ListFault) → list_of text ≡ Err fault → IsListFault text fault
unfolding list_of
IsListFault-from_list_of text fault e = told (marks text) between fault (at (reading between (marks text)) e)
  where
    at : (r : Reading) → elements r ≡ Err fault → r ≡ Err fault
    at (Ok r) f = absurd cc
    at (Err f) g = let same : f ≡ fault = cc in ap (λ (x : ListFault). let read : Reading = Err x in read) same
