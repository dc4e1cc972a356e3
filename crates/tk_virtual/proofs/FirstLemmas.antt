-- Which pairs are the first of their names.
use Rattle.std.proofs.Common.{◌≡◌, ◌≢◌, ℕ, Bool, true, false, true≢false, cond, not, ◌||◌, ◌&&◌, ◌==◌, List, [], ◌∷◌, ◌++◌, append_assoc, append-nil, length, map, refl, sym, ap, subst, ◌∙◌, arith}
use Rattle.std.specs.Prelude.{filter, fold}
use Rattle.std.specs.List.{list_any}
use Rattle.std.specs.Map.{keys_of, remove_entry, set_value}
use Rattle.std.specs.Str.{bytes_eq}
use Rattle.std.proofs.lemmas.Bool.Decides.{nat_tests}
use Rattle.std.proofs.lemmas.List.{map-append}
use Rattle.std.proofs.lemmas.Slice.Eq.{bytes_eq-Decides}
use Rattle.indexmap.specs.IndexSet.{remove_key}
use Rattle.tk_sequences.specs.Words.{in_brackets}
use Rattle.tk_virtual.specs.First.{Marked, first_names, marked, marked_behind, marking_first}
use Rattle.tk_virtual.specs.Virtual.{has_name, is_same, names_of, with_name, without_name, written_names}
use Rattle.tk_virtual.specs.declared.pair.Pair.{Pair}
use Rattle.tk_virtual.proofs.NamedLemmas.{of_name, differs}
use Rattle.tk_virtual.proofs.PairLemmas.{but_last}
use Rattle.tk_virtual.proofs.SameLemmas.{same_parts, same_itself}

abbrev pub Before : Type 0
Before = List ℕ → Bool

or_false : (a : Bool) → (a || false) ≡ a
or_false true = refl
or_false false = refl

or_assoc : (a b c : Bool) → ((a || b) || c) ≡ (a || (b || c))
or_assoc true b c = refl
or_assoc false b c = refl

or_swap : (a b c : Bool) → ((a || b) || c) ≡ ((a || c) || b)
or_swap true b c = refl
or_swap false true true = refl
or_swap false true false = refl
or_swap false false true = refl
or_swap false false false = refl

or_twice : (a b : Bool) → ((a || b) || b) ≡ (a || b)
or_twice true b = refl
or_twice false true = refl
or_twice false false = refl

apart_back : (x y : List ℕ) → bytes_eq x y ≡ false → bytes_eq y x ≡ false
apart_back x y apart = differs y x (λ is. true≢false (sym ((bytes_eq-Decides x y).1 (sym is)) ∙ apart))

-- a name that is among those before is no news
no_news : (before : Before) (known : List ℕ) → before known ≡ true → (name : List ℕ) → (before name || bytes_eq known name) ≡ before name
no_news before known is name = by (bytes_eq known name) refl
  where
    by : (t : Bool) → bytes_eq known name ≡ t → (before name || t) ≡ before name
    by true same =
        let there : before name ≡ true = ap before (sym ((bytes_eq-Decides known name).0 same)) ∙ is in
        ap (λ s. s || true) there ∙ sym there
    by false apart = or_false (before name)

-- ---- what the marks depend on

pub pairs_marked : (before : Before) (pairs : List Pair) → keys_of (marked_behind before pairs) ≡ pairs
pairs_marked before [] = refl
pairs_marked before (pair ∷ pairs) = ap (λ (l : List Pair). pair ∷ l) (pairs_marked (λ name. before name || has_name name pair) pairs)

same_marks : (before other : Before) → ((name : List ℕ) → before name ≡ other name) → (pairs : List Pair) → marked_behind before pairs ≡ marked_behind other pairs
same_marks before other same [] = refl
same_marks before other same (pair ∷ pairs) =
    ap (λ t. (pair, not t) ∷ marked_behind (λ name. before name || has_name name pair) pairs) (same pair.name)
    ∙ ap (λ (l : List Marked). (pair, not (other pair.name)) ∷ l)
    (same_marks (λ name. before name || has_name name pair) (λ name. other name || has_name name pair) (λ name. ap (λ t. t || has_name name pair) (same name)) pairs)

-- ---- a pair behind the others

marked_more : (before : Before) (pairs : List Pair) (pair : Pair) → marked_behind before (pairs ++ pair ∷ []) ≡ marked_behind before pairs ++ (pair, not (before pair.name || list_any (has_name pair.name) pairs)) ∷ []
marked_more before [] pair = ap (λ t. (pair, not t) ∷ []) (sym (or_false (before pair.name)))
marked_more before (first ∷ pairs) pair =
    let marks = marked_behind (λ name. before name || has_name name first) pairs in
    ap (λ (l : List Marked). (first, not (before first.name)) ∷ l)
    (marked_more (λ name. before name || has_name name first) pairs pair
    ∙ ap (λ t. marks ++ (pair, not t) ∷ []) (or_assoc (before pair.name) (has_name pair.name first) (list_any (has_name pair.name) pairs)))

none_found : (test : Pair → Bool) (pairs : List Pair) → (length (filter test pairs) == 0) ≡ not (list_any test pairs)
none_found test [] = refl
none_found test (pair ∷ pairs) = by (test pair) (none_found test pairs)
  where
    by : (t : Bool) → (length (filter test pairs) == 0) ≡ not (list_any test pairs) → (length (cond t (pair ∷ filter test pairs) (filter test pairs)) == 0) ≡ not (t || list_any test pairs)
    by true rest = grind (arith, nat_tests)
    by false rest = rest

-- it is the first of its name where none has it
pub marked_last : (pairs : List Pair) (pair : Pair) (first : Bool) → first ≡ (length (filter (has_name pair.name) pairs) == 0) → marked (pairs ++ pair ∷ []) ≡ marked pairs ++ (pair, first) ∷ []
marked_last pairs pair first is =
    marked_more (λ name. false) pairs pair ∙ ap (λ t. marked pairs ++ (pair, t) ∷ []) (sym (is ∙ none_found (has_name pair.name) pairs))

-- and goes again
pub unmarked_last : (whole rest : List Marked) (last : Marked) → whole ≡ marked (keys_of whole) → whole ≡ rest ++ last ∷ [] → rest ≡ marked (keys_of rest)
unmarked_last whole rest last marks cut =
    let pairs = keys_of rest in
    let there : whole ≡ marked pairs ++ (last.0, not (list_any (has_name last.0.name) pairs)) ∷ [] =
    marks ∙ ap (λ l. marked (keys_of l)) cut ∙ ap marked (map-append (λ (e : Marked). e.0) rest (last ∷ [])) ∙ marked_more (λ name. false) pairs last.0 in
    but_last last whole rest cut ∙ sym (but_last (last.0, not (list_any (has_name last.0.name) pairs)) whole (marked pairs) there)

-- ---- all of a name are taken out

unnamed_marks : (gone : List ℕ) (before other : Before) → ((name : List ℕ) → bytes_eq name gone ≡ false → before name ≡ other name) → (pairs : List Pair)
    → filter (λ (entry : Marked). not (has_name gone entry.0)) (marked_behind before pairs) ≡ marked_behind other (without_name gone pairs)
unnamed_marks gone before other same [] = refl
unnamed_marks gone before other same (pair ∷ pairs) =
    by (has_name gone pair) refl (λ later. unnamed_marks gone (λ name. before name || has_name name pair) other later pairs)
    (λ later. unnamed_marks gone (λ name. before name || has_name name pair) (λ name. other name || has_name name pair) later pairs)
  where
    left : List Marked
    left = filter (λ (entry : Marked). not (has_name gone entry.0)) (marked_behind (λ name. before name || has_name name pair) pairs)

    by : (t : Bool) → has_name gone pair ≡ t
        → (((name : List ℕ) → bytes_eq name gone ≡ false → (before name || has_name name pair) ≡ other name) → left ≡ marked_behind other (without_name gone pairs))
        → (((name : List ℕ) → bytes_eq name gone ≡ false → (before name || has_name name pair) ≡ (other name || has_name name pair)) → left ≡ marked_behind (λ name. other name || has_name name pair) (without_name gone pairs))
        → cond (not t) ((pair, not (before pair.name)) ∷ left) left ≡ marked_behind other (cond (not t) (pair ∷ without_name gone pairs) (without_name gone pairs))
    by true is goes stays =
        goes (λ name apart. ap (λ t. before name || t) (ap (λ n. bytes_eq n name) (of_name gone pair is) ∙ apart_back name gone apart) ∙ or_false (before name) ∙ same name apart)
    by false is goes stays =
        ap (λ t. (pair, not t) ∷ left) (same pair.name is)
        ∙ ap (λ (l : List Marked). (pair, not (other pair.name)) ∷ l) (stays (λ name apart. ap (λ t. t || has_name name pair) (same name apart)))

pub marked_unnamed : (gone : List ℕ) (pairs : List Pair) → filter (λ (entry : Marked). not (has_name gone entry.0)) (marked pairs) ≡ marked (without_name gone pairs)
marked_unnamed gone pairs = unnamed_marks gone (λ name. false) (λ name. false) (λ name apart. refl) pairs

-- ---- one is taken out, and the next of its name is marked

-- a pair of another name keeps its mark
marking_past : (name : List ℕ) (pair : Pair) (first : Bool) → has_name name pair ≡ false → (pairs : List Pair) (entries : List Marked)
    → marking_first (filter (has_name name) pairs) ((pair, first) ∷ entries) ≡ (pair, first) ∷ marking_first (filter (has_name name) pairs) entries
marking_past name pair first apart [] entries = refl
marking_past name pair first apart (other ∷ pairs) entries = by (has_name name other) refl (marking_past name pair first apart pairs entries)
  where
    by : (t : Bool) → has_name name other ≡ t
        → marking_first (filter (has_name name) pairs) ((pair, first) ∷ entries) ≡ (pair, first) ∷ marking_first (filter (has_name name) pairs) entries
        → marking_first (cond t (other ∷ filter (has_name name) pairs) (filter (has_name name) pairs)) ((pair, first) ∷ entries)
        ≡ (pair, first) ∷ marking_first (cond t (other ∷ filter (has_name name) pairs) (filter (has_name name) pairs)) entries
    by true is rest =
        let names : bytes_eq pair.name other.name ≡ false = ap (λ n. bytes_eq pair.name n) (of_name name other is) ∙ apart in
        let differ : is_same other pair ≡ false = rw names refl in
        ap (λ t. cond t ((pair, true) ∷ entries) ((pair, first) ∷ set_value (is_same other) entries true)) differ
    by false is rest = rest

-- where no pair of a name stands before, and one did, its next is the first now
next_marked : (gone : List ℕ) (before : Before) → before gone ≡ false → (pairs : List Pair)
    → marking_first (filter (has_name gone) pairs) (marked_behind (λ name. before name || bytes_eq gone name) pairs) ≡ marked_behind before pairs
next_marked gone before none [] = refl
next_marked gone before none (pair ∷ pairs) = by (has_name gone pair) refl (λ none. next_marked gone (λ name. before name || has_name name pair) none pairs)
  where
    marks : List Marked
    marks = marked_behind (λ name. (before name || bytes_eq gone name) || has_name name pair) pairs

    by : (t : Bool) → has_name gone pair ≡ t
        → ((before gone || has_name gone pair) ≡ false → marking_first (filter (has_name gone) pairs) (marked_behind (λ name. (before name || has_name name pair) || bytes_eq gone name) pairs) ≡ marked_behind (λ name. before name || has_name name pair) pairs)
        → marking_first (cond t (pair ∷ filter (has_name gone) pairs) (filter (has_name gone) pairs)) ((pair, not (before pair.name || bytes_eq gone pair.name)) ∷ marks)
        ≡ (pair, not (before pair.name)) ∷ marked_behind (λ name. before name || has_name name pair) pairs
    by true is rest =
        let same : pair.name ≡ gone = of_name gone pair is in
        ap (λ t. cond t ((pair, true) ∷ marks) ((pair, not (before pair.name || bytes_eq gone pair.name)) ∷ set_value (is_same pair) marks true)) (same_itself pair)
        ∙ ap (λ (l : List Marked). (pair, true) ∷ l)
        (same_marks (λ name. (before name || bytes_eq gone name) || has_name name pair) (λ name. before name || has_name name pair)
        (λ name. ap (λ n. (before name || bytes_eq n name) || has_name name pair) (sym same) ∙ or_twice (before name) (has_name name pair)) pairs)
        ∙ ap (λ t. (pair, not t) ∷ marked_behind (λ name. before name || has_name name pair) pairs) (sym (ap before same ∙ none))
    by false apart rest =
        marking_past gone pair (not (before pair.name || bytes_eq gone pair.name)) apart pairs marks
        ∙ ap (λ t. (pair, not t) ∷ marking_first (filter (has_name gone) pairs) marks) (ap (λ t. before pair.name || t) (apart_back pair.name gone apart) ∙ or_false (before pair.name))
        ∙ ap (λ (l : List Marked). (pair, not (before pair.name)) ∷ l)
        (ap (marking_first (filter (has_name gone) pairs))
        (same_marks (λ name. (before name || bytes_eq gone name) || has_name name pair) (λ name. (before name || has_name name pair) || bytes_eq gone name) (λ name. or_swap (before name) (bytes_eq gone name) (has_name name pair)) pairs)
        ∙ rest (ap (λ t. t || has_name gone pair) none ∙ apart))

-- a pair that isn't the first of its name leaves the marks of the others
later_out : (wanted : Pair) (before : Before) → before wanted.name ≡ true → (pairs : List Pair) → remove_entry (is_same wanted) (marked_behind before pairs) ≡ marked_behind before (remove_key (is_same wanted) pairs)
later_out wanted before known [] = refl
later_out wanted before known (pair ∷ pairs) = by (is_same wanted pair) refl (λ known. later_out wanted (λ name. before name || has_name name pair) known pairs)
  where
    marks : List Marked
    marks = marked_behind (λ name. before name || has_name name pair) pairs

    by : (t : Bool) → is_same wanted pair ≡ t
        → ((before wanted.name || has_name wanted.name pair) ≡ true → remove_entry (is_same wanted) marks ≡ marked_behind (λ name. before name || has_name name pair) (remove_key (is_same wanted) pairs))
        → cond t marks ((pair, not (before pair.name)) ∷ remove_entry (is_same wanted) marks) ≡ marked_behind before (cond t pairs (pair ∷ remove_key (is_same wanted) pairs))
    by true is rest =
        same_marks (λ name. before name || has_name name pair) before (no_news before pair.name (ap before (same_parts wanted pair is).0 ∙ known)) pairs
    by false is rest = ap (λ (l : List Marked). (pair, not (before pair.name)) ∷ l) (rest (ap (λ t. t || has_name wanted.name pair) known))

one_out : (wanted : Pair) (before : Before) → before wanted.name ≡ false → (pairs : List Pair)
    → marking_first (filter (has_name wanted.name) (remove_key (is_same wanted) pairs)) (remove_entry (is_same wanted) (marked_behind before pairs)) ≡ marked_behind before (remove_key (is_same wanted) pairs)
one_out wanted before none [] = refl
one_out wanted before none (pair ∷ pairs) = by (is_same wanted pair) refl (λ none. one_out wanted (λ name. before name || has_name name pair) none pairs)
  where
    name : List ℕ
    name = wanted.name

    marks : List Marked
    marks = marked_behind (λ name. before name || has_name name pair) pairs

    left : List Pair
    left = remove_key (is_same wanted) pairs

    stays : (t : Bool) → has_name name pair ≡ t
        → ((before name || has_name name pair) ≡ false → marking_first (filter (has_name name) left) (remove_entry (is_same wanted) marks) ≡ marked_behind (λ name. before name || has_name name pair) left)
        → marking_first (cond t (pair ∷ filter (has_name name) left) (filter (has_name name) left)) ((pair, not (before pair.name)) ∷ remove_entry (is_same wanted) marks)
        ≡ (pair, not (before pair.name)) ∷ marked_behind (λ name. before name || has_name name pair) left
    stays true is rest =
        ap (λ t. cond t ((pair, true) ∷ remove_entry (is_same wanted) marks) ((pair, not (before pair.name)) ∷ set_value (is_same pair) (remove_entry (is_same wanted) marks) true)) (same_itself pair)
        ∙ ap (λ (l : List Marked). (pair, true) ∷ l) (later_out wanted (λ name. before name || has_name name pair) (ap (λ t. before name || t) is ∙ ap (λ t. t || true) none) pairs)
        ∙ ap (λ t. (pair, not t) ∷ marked_behind (λ name. before name || has_name name pair) left) (sym (ap before (of_name name pair is) ∙ none))
    stays false apart rest =
        marking_past name pair (not (before pair.name)) apart left (remove_entry (is_same wanted) marks)
        ∙ ap (λ (l : List Marked). (pair, not (before pair.name)) ∷ l) (rest (ap (λ t. t || has_name name pair) none ∙ apart))

    by : (t : Bool) → is_same wanted pair ≡ t
        → ((before name || has_name name pair) ≡ false → marking_first (filter (has_name name) left) (remove_entry (is_same wanted) marks) ≡ marked_behind (λ name. before name || has_name name pair) left)
        → marking_first (filter (has_name name) (cond t pairs (pair ∷ left))) (cond t marks ((pair, not (before pair.name)) ∷ remove_entry (is_same wanted) marks)) ≡ marked_behind before (cond t pairs (pair ∷ left))
    by true is rest =
        subst (λ n. marking_first (filter (has_name name) pairs) (marked_behind (λ (other : List ℕ). before other || bytes_eq n other) pairs) ≡ marked_behind before pairs)
        (sym (same_parts wanted pair is).0) (next_marked name before none pairs)
    by false is rest = stays (has_name name pair) refl rest

pub marked_without : (wanted : Pair) (pairs : List Pair)
    → marking_first (filter (has_name wanted.name) (remove_key (is_same wanted) pairs)) (remove_entry (is_same wanted) (marked pairs)) ≡ marked (remove_key (is_same wanted) pairs)
marked_without wanted pairs = one_out wanted (λ name. false) refl pairs

-- ---- several of a name are taken out, and the first of those that are left is marked

module _ (gone : List ℕ) (stays : Pair → Bool) (spared : (pair : Pair) → has_name gone pair ≡ false → stays pair ≡ true) where
  of_gone : (pair : Pair) → stays pair ≡ false → pair.name ≡ gone
  of_gone pair out = by (has_name gone pair) refl
    where
      by : (t : Bool) → has_name gone pair ≡ t → pair.name ≡ gone
      by true has = of_name gone pair has
      by false apart = absurd (true≢false (sym (spared pair apart) ∙ out))

  abbrev left : List Marked → List Marked
  left entries = filter (λ (entry : Marked). stays entry.0) entries

  -- where one of the name stands before, the others keep their marks
  later_left : (before : Before) → before gone ≡ true → (pairs : List Pair) → left (marked_behind before pairs) ≡ marked_behind before (filter stays pairs)
  later_left before known [] = refl
  later_left before known (pair ∷ pairs) = by (stays pair) refl (later_left (λ name. before name || has_name name pair) (ap (λ t. t || has_name gone pair) known) pairs)
    where
      by : (t : Bool) → stays pair ≡ t
          → left (marked_behind (λ name. before name || has_name name pair) pairs) ≡ marked_behind (λ name. before name || has_name name pair) (filter stays pairs)
          → cond t ((pair, not (before pair.name)) ∷ left (marked_behind (λ name. before name || has_name name pair) pairs)) (left (marked_behind (λ name. before name || has_name name pair) pairs))
          ≡ marked_behind before (cond t (pair ∷ filter stays pairs) (filter stays pairs))
      by true is rest = ap (λ (l : List Marked). (pair, not (before pair.name)) ∷ l) rest
      by false is rest =
          rest ∙ same_marks (λ name. before name || has_name name pair) before (no_news before pair.name (ap before (of_gone pair is) ∙ known)) (filter stays pairs)

  some_out : (before : Before) → before gone ≡ false → (pairs : List Pair) → marking_first (filter (has_name gone) (filter stays pairs)) (left (marked_behind before pairs)) ≡ marked_behind before (filter stays pairs)
  some_out before none [] = refl
  some_out before none (pair ∷ pairs) = by (stays pair) refl (λ none. some_out (λ name. before name || has_name name pair) none pairs)
    where
      marks : List Marked
      marks = left (marked_behind (λ name. before name || has_name name pair) pairs)

      kept : List Pair
      kept = filter stays pairs

      stands : (t : Bool) → has_name gone pair ≡ t
          → ((before gone || has_name gone pair) ≡ false → marking_first (filter (has_name gone) kept) marks ≡ marked_behind (λ name. before name || has_name name pair) kept)
          → marking_first (cond t (pair ∷ filter (has_name gone) kept) (filter (has_name gone) kept)) ((pair, not (before pair.name)) ∷ marks)
          ≡ (pair, not (before pair.name)) ∷ marked_behind (λ name. before name || has_name name pair) kept
      stands true is rest =
          ap (λ t. cond t ((pair, true) ∷ marks) ((pair, not (before pair.name)) ∷ set_value (is_same pair) marks true)) (same_itself pair)
          ∙ ap (λ (l : List Marked). (pair, true) ∷ l) (later_left (λ name. before name || has_name name pair) (ap (λ t. before gone || t) is ∙ ap (λ t. t || true) none) pairs)
          ∙ ap (λ t. (pair, not t) ∷ marked_behind (λ name. before name || has_name name pair) kept) (sym (ap before (of_name gone pair is) ∙ none))
      stands false apart rest =
          marking_past gone pair (not (before pair.name)) apart kept marks
          ∙ ap (λ (l : List Marked). (pair, not (before pair.name)) ∷ l) (rest (ap (λ t. t || has_name gone pair) none ∙ apart))

      goes : pair.name ≡ gone → marking_first (filter (has_name gone) kept) marks ≡ marked_behind before kept
      goes same =
          let known : (before gone || has_name gone pair) ≡ true =
          ap (λ name. before gone || bytes_eq name gone) same ∙ ap (λ t. before gone || t) ((bytes_eq-Decides gone gone).1 refl) ∙ ap (λ t. t || true) none in
          ap (marking_first (filter (has_name gone) kept)) (later_left (λ name. before name || has_name name pair) known pairs)
          ∙ ap (λ known. marking_first (filter (has_name gone) kept) (marked_behind (λ name. before name || bytes_eq known name) kept)) same
          ∙ next_marked gone before none kept

      by : (t : Bool) → stays pair ≡ t
          → ((before gone || has_name gone pair) ≡ false → marking_first (filter (has_name gone) kept) marks ≡ marked_behind (λ name. before name || has_name name pair) kept)
          → marking_first (filter (has_name gone) (cond t (pair ∷ kept) kept)) (cond t ((pair, not (before pair.name)) ∷ marks) marks) ≡ marked_behind before (cond t (pair ∷ kept) kept)
      by true is rest = stands (has_name gone pair) refl rest
      by false is rest = goes (of_gone pair is)

  pub marked_left : (pairs : List Pair) → marking_first (filter (has_name gone) (filter stays pairs)) (left (marked pairs)) ≡ marked (filter stays pairs)
  marked_left pairs = some_out (λ name. false) refl pairs

-- ---- the names

any_last : (name one : List ℕ) (names : List (List ℕ)) → list_any (λ other. bytes_eq other name) (names ++ one ∷ []) ≡ (list_any (λ other. bytes_eq other name) names || bytes_eq one name)
any_last name one [] = or_false (bytes_eq one name)
any_last name one (first ∷ names) =
    ap (λ t. bytes_eq first name || t) (any_last name one names) ∙ sym (or_assoc (bytes_eq first name) (list_any (λ other. bytes_eq other name) names) (bytes_eq one name))

names_behind : (names : List (List ℕ)) (pairs : List Pair) → fold with_name names pairs ≡ names ++ first_names (marked_behind (λ name. list_any (λ other. bytes_eq other name) names) pairs)
names_behind names [] = sym (append-nil names)
names_behind names (pair ∷ pairs) =
    by (list_any (λ other. bytes_eq other pair.name) names) refl (names_behind names pairs) (names_behind (names ++ pair.name ∷ []) pairs)
  where
    told : Before
    told name = list_any (λ other. bytes_eq other name) names

    more : List (List ℕ)
    more = names ++ pair.name ∷ []

    by : (t : Bool) → told pair.name ≡ t → fold with_name names pairs ≡ names ++ first_names (marked_behind told pairs)
        → fold with_name more pairs ≡ more ++ first_names (marked_behind (λ name. list_any (λ other. bytes_eq other name) more) pairs)
        → fold with_name (cond t names more) pairs ≡ names ++ first_names ((pair, not t) ∷ marked_behind (λ name. told name || has_name name pair) pairs)
    by true is without with =
        without ∙ ap (λ (l : List Marked). names ++ first_names l) (same_marks told (λ name. told name || has_name name pair) (λ name. sym (no_news told pair.name is name)) pairs)
    by false is without with =
        with ∙ append_assoc names (pair.name ∷ []) (first_names (marked_behind (λ name. list_any (λ other. bytes_eq other name) more) pairs))
        ∙ ap (λ (l : List Marked). names ++ pair.name ∷ first_names l)
        (same_marks (λ name. list_any (λ other. bytes_eq other name) more) (λ name. told name || has_name name pair) (λ name. any_last name pair.name names) pairs)

-- those that are marked have the names, each once
pub names_marked : (entries : List Marked) (pairs : List Pair) → entries ≡ marked pairs → map in_brackets (first_names entries) ≡ written_names pairs
names_marked entries pairs is = ap (λ (l : List Marked). map in_brackets (first_names l)) is ∙ ap (map in_brackets) (sym (names_behind [] pairs))
