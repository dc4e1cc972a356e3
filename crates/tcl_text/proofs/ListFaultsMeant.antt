-- Where a text is no list by the relation, the function tells the fault.
use Rattle.std.proofs.Common.{◌≡◌, ℕ, zero, suc, true, false, not, List, [], ◌∷◌, ◌++◌, Option, Some, None, Err, refl, ap, sym, ◌∙◌}
use Rattle.std.specs.List.{list_all}
use Rattle.std.specs.Option.{option_map_or}
use Rattle.std.proofs.lemmas.Bool.{and_parts}
use Rattle.tcl_text.specs.Backslash.{Mark, marks}
use Rattle.tcl_text.specs.Readings.{ListPlace, Reading, are_balanced, between, closed, depth_after, elements, in_braces, in_quotes, is_quote_mark, is_white_mark, list_of, meant, onto, begun, place_after, reading, with_mark, written}
use Rattle.tcl_text.specs.ListFaults.{IsFaultyElement, unclosed_brace, unclosed_quote, followed_brace, followed_quote, AreItemsBeforeFault, IsListFault}
use Rattle.tcl_text.specs.declared.splitting.ByteKind.{ByteKind}
use Rattle.tcl_text.specs.declared.splitting.ByteKind.TheVariants.{White, OpenBrace, CloseBrace, Quote, Backslash, Other}
use Rattle.tcl_text.specs.declared.fault.ListFault.{ListFault}
use Rattle.tcl_text.specs.declared.fault.ListFault.TheVariants.{OpenBrace as UnmatchedBrace, OpenQuote as UnmatchedQuote, ExtraCharacters}
use Rattle.tcl_text.proofs.ListReading.{reads_white, reads_element, reads_quotes, reads_braces, braces_mark}

-- only a closing brace closes, where none is opened inside
pub last_brace : (depth : ℕ) (k : ByteKind) → depth_after depth k ≡ None → (k ≡ CloseBrace) × (depth ≡ 0)
last_brace zero CloseBrace none = (refl, refl)
last_brace zero OpenBrace none = absurd cc
last_brace zero White none = absurd cc
last_brace zero Quote none = absurd cc
last_brace zero Backslash none = absurd cc
last_brace zero Other none = absurd cc
last_brace (suc depth) CloseBrace none = absurd cc
last_brace (suc depth) k none = absurd cc

-- the same where so many more braces are open
abbrev pub IsUnclosedFrom : ℕ → List Mark → Type 0
IsUnclosedFrom depth ms = (before rest : List Mark) (last : Mark) → ms ≡ before ++ last ∷ rest → last.kind ≡ CloseBrace → are_balanced depth before ≡ false

reads_unclosed : (depth : ℕ) (ms : List Mark) → IsUnclosedFrom depth ms → reading (in_braces depth) ms ≡ Err UnmatchedBrace
reads_unclosed depth [] opened = refl
reads_unclosed depth (m ∷ ms) opened = at (depth_after depth m.kind) refl (λ next. reads_unclosed next ms)
  where
    at : (next : Option ℕ) → depth_after depth m.kind ≡ next → ((next : ℕ) → IsUnclosedFrom next ms → reading (in_braces next) ms ≡ Err UnmatchedBrace) → reading (in_braces depth) (m ∷ ms) ≡ Err UnmatchedBrace
    at None is more =
        let here = last_brace depth m.kind is in
        let fails : are_balanced depth [] ≡ false = opened [] ms m refl here.0 in
        let none : are_balanced 0 [] ≡ false = ap (λ d. are_balanced d []) (sym here.1) ∙ fails in
        absurd cc
    at (Some next) is more =
        braces_mark depth next m.kind m (λ place. reading place ms) is
        ∙ ap (onto m.written) (more next (λ before rest last cut closes.
        sym (ap (λ o. option_map_or (λ next. are_balanced next before) o false) is) ∙ opened (m ∷ before) rest last (ap (λ xs. m ∷ xs) cut) closes))

reads_unquoted : (ms : List Mark) → list_all (λ m. not (is_quote_mark m)) ms ≡ true → reading in_quotes ms ≡ Err UnmatchedQuote
reads_unquoted [] all = refl
reads_unquoted (m ∷ ms) all =
    let parts = and_parts (not (is_quote_mark m)) (list_all (λ m. not (is_quote_mark m)) ms) all in
    at m.kind parts.0 (λ place. reading place ms) ∙ ap (onto m.meant) (reads_unquoted ms parts.1)
  where
    at : (k : ByteKind) → not (elim k [ Quote ↦ true | _ ↦ false ]) ≡ true → (r : ListPlace → Reading) → with_mark in_quotes k m (r (place_after in_quotes k)) ≡ onto m.meant (r in_quotes)
    at Quote w r = absurd cc
    at k w r = refl

reads_extra : (next : Mark) (rest : List Mark) → is_white_mark next ≡ false → reading closed (next ∷ rest) ≡ Err ExtraCharacters
reads_extra next rest black = at next.kind black (λ place. reading place rest)
  where
    at : (k : ByteKind) → elim k [ White ↦ true | _ ↦ false ] ≡ false → (r : ListPlace → Reading) → with_mark closed k next (r (place_after closed k)) ≡ Err ExtraCharacters
    at White b r = absurd cc
    at k b r = refl

reads_faulty : (ms : List Mark) (fault : ListFault) → IsFaultyElement ms fault → reading between ms ≡ Err fault
reads_faulty ms fault (unclosed_brace first inside opens opened) =
    ap (λ k. with_mark between k first (reading (place_after between k) inside)) opens ∙ ap begun (reads_unclosed 0 inside opened)
reads_faulty ms fault (unclosed_quote first inside opens none) =
    ap (λ k. with_mark between k first (reading (place_after between k) inside)) opens ∙ ap begun (reads_unquoted inside none)
reads_faulty ms fault (followed_brace first last next inside rest opens closes fits black) =
    ap (λ k. with_mark between k first (reading (place_after between k) (inside ++ last ∷ next ∷ rest))) opens
    ∙ ap begun (reads_braces 0 inside (next ∷ rest) last fits closes ∙ ap (onto (written inside)) (reads_extra next rest black))
reads_faulty ms fault (followed_quote first last next inside rest opens closes fits black) =
    ap (λ k. with_mark between k first (reading (place_after between k) (inside ++ last ∷ next ∷ rest))) opens
    ∙ ap begun (reads_quotes inside (next ∷ rest) last fits closes ∙ ap (onto (meant inside)) (reads_extra next rest black))

reads_before_fault : (ms : List Mark) (items : List (List ℕ)) (fault : ListFault) → AreItemsBeforeFault ms items fault → reading between ms ≡ Err fault
reads_before_fault ms [] fault (white, rest, cut, all, is) = ap (reading between) cut ∙ reads_white white rest all ∙ reads_faulty rest fault is
reads_before_fault ms (item ∷ items) fault (white, element, rest, cut, all, is, end, more) =
    ap (reading between) cut ∙ reads_white white (element ++ rest) all ∙ reads_element element rest item is end ∙ ap (λ r. begun (onto item r)) (reads_before_fault rest items fault more)

-- what is related the function tells
pub list_of-from_IsListFault : (text : List ℕ) (fault : ListFault) → IsListFault text fault → list_of text ≡ Err fault
unfolding list_of
list_of-from_IsListFault text fault is = ap elements (reads_before_fault (marks text) is.0 fault is.1)
