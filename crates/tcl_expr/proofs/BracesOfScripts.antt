-- A text in braces is read as the grammar of scripts relates it.
use Rattle.std.proofs.Common.{◌≡◌, ◌≢◌, ℕ, suc, ◌+◌, ◌==◌, ◌⊎◌, inl, inr, true, false, List, [], ◌∷◌, ◌++◌, length, length-append, append_assoc, append-nil, Result, Ok, Err, refl, sym, ap, ◌∙◌, arith, subst}
use Rattle.std.proofs.lemmas.Bool.{ne_eqb, or_cases, eqb-true}
use Rattle.tcl_words.specs.Grammar.{begins_space, AreSpaces, IsBraced, IsUnclosed}
use Rattle.tcl_words.specs.Grammar.IsBraced.{none, byte, pair, continuation, braces}
use Rattle.tcl_words.specs.Grammar.IsUnclosed.{ends, backslash, opens}
use Rattle.tcl_expr.specs.Braces.{with_byte, braced}
use Rattle.tcl_expr.specs.declared.braces.BracePlace.TheVariants.{Plain, Escaped, Indented}
use Rattle.tcl_expr.specs.declared.fault.ExprFault.{ExprFault}
use Rattle.tcl_expr.specs.Faults.{missing_brace}
use Rattle.tcl_expr.proofs.BraceLemmas.{joined}

abbrev Found : Type 0
Found = Result (List ℕ × ℕ) ExprFault

joined_none : (found : Found) → joined [] 0 found ≡ found
joined_none (Ok found) = ap (λ n. let read : Found = Ok (found.0, n) in read) (omega arith)
joined_none (Err fault) = refl

joined_both : (a b : List ℕ) (m n : ℕ) (found : Found) → joined a m (joined b n found) ≡ joined (a ++ b) (m + n) found
joined_both a b m n (Ok found) =
    ap (λ bytes. let read : Found = Ok (bytes, m + (n + found.1)) in read) (sym (append_assoc a b found.0))
    ∙ ap (λ count. let read : Found = Ok ((a ++ b) ++ found.0, count) in read) (omega arith)
joined_both a b m n (Err fault) = refl

with_byte_joined : (own : List ℕ) (found : Found) → with_byte own found ≡ joined own 1 found
with_byte_joined own (Ok found) = ap (λ n. let read : Found = Ok (own ++ found.0, n) in read) (omega arith)
with_byte_joined own (Err fault) = refl

same_count : (bytes : List ℕ) (m n : ℕ) (found : Found) → m ≡ n → joined bytes m found ≡ joined bytes n found
same_count bytes m n found same = ap (λ count. joined bytes count found) same

-- a byte that stands for itself
byte_read : (depth b : ℕ) (text : List ℕ) → b ≢ 123 → b ≢ 125 → b ≢ 92 → braced Plain depth (b ∷ text) ≡ joined (b ∷ []) 1 (braced Plain depth text)
byte_read depth b text opening closing back =
    rw (ne_eqb b 123 opening) (rw (ne_eqb b 125 closing) (rw (ne_eqb b 92 back) (with_byte_joined (b ∷ []) (braced Plain depth text))))

-- behind a newline that a backslash joins, what isn't a blank or a tab is read as elsewhere
indented_read : (depth : ℕ) (text : List ℕ) → begins_space text ≡ false → braced Indented depth text ≡ braced Plain depth text
indented_read depth [] apart = refl
indented_read depth (b ∷ text) apart = rw apart refl

-- a blank or a tab there is none
skipped : (depth : ℕ) (text : List ℕ) (count : ℕ) (found : Found) → braced Indented depth text ≡ joined [] count found → with_byte [] (braced Indented depth text) ≡ joined [] (suc count) found
skipped depth text count found more =
    with_byte_joined [] (braced Indented depth text) ∙ ap (joined [] 1) more ∙ joined_both [] [] 1 count found ∙ same_count [] (1 + count) (suc count) found (omega arith)

spaces_read : (depth : ℕ) (spaces text : List ℕ) → AreSpaces spaces → begins_space text ≡ false → braced Indented depth (spaces ++ text) ≡ joined [] (length spaces) (braced Plain depth text)
spaces_read depth [] text are apart = indented_read depth text apart ∙ sym (joined_none (braced Plain depth text))
spaces_read depth (b ∷ spaces) text are apart = at (or_cases (b == 32) (b == 9) are.0) (spaces_read depth spaces text are.1 apart)
  where
    at : (b == 32 ≡ true) ⊎ (b == 9 ≡ true) → braced Indented depth (spaces ++ text) ≡ joined [] (length spaces) (braced Plain depth text)
        → braced Indented depth (b ∷ (spaces ++ text)) ≡ joined [] (suc (length spaces)) (braced Plain depth text)
    at (inl e) more = subst (λ c. braced Indented depth (c ∷ (spaces ++ text)) ≡ joined [] (suc (length spaces)) (braced Plain depth text)) (sym (eqb-true b 32 e)) (skipped depth (spaces ++ text) (length spaces) (braced Plain depth text) more)
    at (inr e) more = subst (λ c. braced Indented depth (c ∷ (spaces ++ text)) ≡ joined [] (suc (length spaces)) (braced Plain depth text)) (sym (eqb-true b 9 e)) (skipped depth (spaces ++ text) (length spaces) (braced Plain depth text) more)

-- a backslash with the byte behind it
pair_read : (depth b : ℕ) (text : List ℕ) → b ≢ 10 → braced Plain depth (92 ∷ b ∷ text) ≡ joined (92 ∷ b ∷ []) 2 (braced Plain depth text)
pair_read depth b text other =
    with_byte_joined [] (braced Escaped depth (b ∷ text))
    ∙ ap (joined [] 1) (rw (ne_eqb b 10 other) (with_byte_joined (92 ∷ b ∷ []) (braced Plain depth text)))
    ∙ joined_both [] (92 ∷ b ∷ []) 1 1 (braced Plain depth text)

-- a backslash before a newline, with the blanks and tabs behind that
line_read : (depth : ℕ) (spaces text : List ℕ) → AreSpaces spaces → begins_space text ≡ false
    → braced Plain depth (92 ∷ 10 ∷ (spaces ++ text)) ≡ joined (32 ∷ []) (2 + length spaces) (braced Plain depth text)
line_read depth spaces text are apart =
    with_byte_joined [] (braced Escaped depth (10 ∷ (spaces ++ text)))
    ∙ ap (joined [] 1) (with_byte_joined (32 ∷ []) (braced Indented depth (spaces ++ text)) ∙ ap (joined (32 ∷ []) 1) (spaces_read depth spaces text are apart) ∙ joined_both (32 ∷ []) [] 1 (length spaces) (braced Plain depth text))
    ∙ joined_both [] (32 ∷ []) 1 (1 + length spaces) (braced Plain depth text)
    ∙ same_count (32 ∷ []) (1 + (1 + length spaces)) (2 + length spaces) (braced Plain depth text) (omega arith)

-- a brace that closes another
close_read : (depth : ℕ) (text : List ℕ) → braced Plain (suc depth) (125 ∷ text) ≡ joined (125 ∷ []) 1 (braced Plain depth text)
close_read depth text =
    rw (ne_eqb (suc depth) 0 (λ e. omega (arith, e)))
    (ap (λ d. with_byte (125 ∷ []) (braced Plain d text)) (omega arith) ∙ with_byte_joined (125 ∷ []) (braced Plain depth text))

space_follows : (text follow : List ℕ) → begins_space text ≡ false → begins_space follow ≡ false → begins_space (text ++ follow) ≡ false
space_follows [] follow h k = k
space_follows (b ∷ text) follow h k = h

-- what stands between braces, in front of any text that doesn't begin with a blank or a tab
front_read : {own value : List ℕ} → IsBraced own value → (depth : ℕ) (follow : List ℕ) → begins_space follow ≡ false → braced Plain depth (own ++ follow) ≡ joined value (length own) (braced Plain depth follow)
front_read none depth follow h = sym (joined_none (braced Plain depth follow))
front_read (byte {b} {text} {value} h1 h2 h3 more) depth follow h =
    byte_read depth b (text ++ follow) h1 h2 h3
    ∙ ap (joined (b ∷ []) 1) (front_read more depth follow h)
    ∙ joined_both (b ∷ []) value 1 (length text) (braced Plain depth follow)
    ∙ same_count (b ∷ value) (1 + length text) (suc (length text)) (braced Plain depth follow) (omega arith)
front_read (pair {b} {text} {value} h1 more) depth follow h =
    pair_read depth b (text ++ follow) h1
    ∙ ap (joined (92 ∷ b ∷ []) 2) (front_read more depth follow h)
    ∙ joined_both (92 ∷ b ∷ []) value 2 (length text) (braced Plain depth follow)
    ∙ same_count (92 ∷ b ∷ value) (2 + length text) (suc (suc (length text))) (braced Plain depth follow) (omega arith)
front_read (continuation spaces {text} {value} are stop more) depth follow h =
    ap (λ t. braced Plain depth (92 ∷ 10 ∷ t)) (append_assoc spaces text follow)
    ∙ line_read depth spaces (text ++ follow) are (space_follows text follow stop h)
    ∙ ap (joined (32 ∷ []) (2 + length spaces)) (front_read more depth follow h)
    ∙ joined_both (32 ∷ []) value (2 + length spaces) (length text) (braced Plain depth follow)
    ∙ same_count (32 ∷ value) (2 + length spaces + length text) (suc (suc (length (spaces ++ text)))) (braced Plain depth follow) (omega (arith, length-append spaces text))
front_read (braces own text {inner} {value} first more) depth follow h =
    ap (λ t. braced Plain depth (123 ∷ t)) (append_assoc own (125 ∷ text) follow)
    ∙ with_byte_joined (123 ∷ []) (braced Plain (suc depth) (own ++ 125 ∷ (text ++ follow)))
    ∙ ap (joined (123 ∷ []) 1)
    (front_read first (suc depth) (125 ∷ (text ++ follow)) refl
    ∙ ap (joined inner (length own)) (close_read depth (text ++ follow) ∙ ap (joined (125 ∷ []) 1) (front_read more depth follow h) ∙ joined_both (125 ∷ []) value 1 (length text) (braced Plain depth follow))
    ∙ joined_both inner (125 ∷ value) (length own) (1 + length text) (braced Plain depth follow))
    ∙ joined_both (123 ∷ []) (inner ++ 125 ∷ value) 1 (length own + (1 + length text)) (braced Plain depth follow)
    ∙ same_count (123 ∷ (inner ++ 125 ∷ value)) (1 + (length own + (1 + length text))) (suc (length (own ++ 125 ∷ text))) (braced Plain depth follow) (omega (arith, length-append own (125 ∷ text)))

pub braces_read : (own value rest : List ℕ) → IsBraced own value → braced Plain 0 (own ++ 125 ∷ rest) ≡ Ok (value, length own)
braces_read own value rest is =
    front_read is 0 (125 ∷ rest) refl
    ∙ ap (λ bytes. let read : Found = Ok (bytes, length own + 0) in read) (append-nil value)
    ∙ ap (λ n. let read : Found = Ok (value, n) in read) (omega arith)

-- where so many braces are open
deep_unclosed : {text : List ℕ} → IsUnclosed text → (depth : ℕ) → braced Plain depth text ≡ Err missing_brace
deep_unclosed (ends {text} {value} h) depth = ap (braced Plain depth) (sym (append-nil text)) ∙ front_read h depth [] refl
deep_unclosed (backslash before {value} h) depth = front_read h depth (92 ∷ []) refl
deep_unclosed (opens before text {value} h more) depth =
    front_read h depth (123 ∷ text) refl ∙ ap (λ found. joined value (length before) (with_byte (123 ∷ []) found)) (deep_unclosed more (suc depth))

pub unclosed_read : (text : List ℕ) → IsUnclosed text → braced Plain 0 text ≡ Err missing_brace
unclosed_read text is = deep_unclosed is 0

-- each text is cut at the brace that closes it, or has none
abbrev Cuts : Type 0
Cuts = (text : List ℕ) → ((own : List ℕ) × (value : List ℕ) × (rest : List ℕ) × (text ≡ own ++ 125 ∷ rest) × IsBraced own value) ⊎ IsUnclosed text

module _ (cuts : Cuts) where
  pub braces_cut : (text value : List ℕ) (n : ℕ) → braced Plain 0 text ≡ Ok (value, n) → (own : List ℕ) × (rest : List ℕ) × (text ≡ own ++ 125 ∷ rest) × IsBraced own value × (n ≡ length own)
  braces_cut text value n found = at (cuts text)
    where
      at : ((own : List ℕ) × (meant : List ℕ) × (rest : List ℕ) × (text ≡ own ++ 125 ∷ rest) × IsBraced own meant) ⊎ IsUnclosed text
          → (own : List ℕ) × (rest : List ℕ) × (text ≡ own ++ 125 ∷ rest) × IsBraced own value × (n ≡ length own)
      at (inl (own, meant, rest, cut, is)) =
          let same : ◌≡◌ {A = Found} (Ok (meant, length own)) (Ok (value, n)) = sym (braces_read own meant rest is) ∙ ap (braced Plain 0) (sym cut) ∙ found in
          let parts : ◌≡◌ {A = List ℕ × ℕ} (meant, length own) (value, n) = cc in
          (own, rest, cut, subst (IsBraced own) (ap (λ p. p.0) parts) is, sym (ap (λ p. p.1) parts))
      at (inr is) = let same : ◌≡◌ {A = Found} (Err missing_brace) (Ok (value, n)) = sym (unclosed_read text is) ∙ found in absurd cc

  pub unclosed_cut : (text : List ℕ) (fault : ExprFault) → braced Plain 0 text ≡ Err fault → IsUnclosed text × (fault ≡ missing_brace)
  unclosed_cut text fault told = at (cuts text)
    where
      at : ((own : List ℕ) × (meant : List ℕ) × (rest : List ℕ) × (text ≡ own ++ 125 ∷ rest) × IsBraced own meant) ⊎ IsUnclosed text → IsUnclosed text × (fault ≡ missing_brace)
      at (inl (own, meant, rest, cut, is)) = let same : ◌≡◌ {A = Found} (Ok (meant, length own)) (Err fault) = sym (braces_read own meant rest is) ∙ ap (braced Plain 0) (sym cut) ∙ told in absurd cc
      at (inr is) = let same : ◌≡◌ {A = Found} (Err missing_brace) (Err fault) = sym (unclosed_read text is) ∙ told in (is, cc)
