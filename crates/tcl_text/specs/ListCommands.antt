-- Meaning. The commands of list(n), llength(n), lindex(n), lrange(n), linsert(n), lreplace(n), lsearch(n), lsort(n), join(n) and split(n).
use Rattle.std.specs.Prelude.{ℕ, max, ℤ, Bool, true, false, ◌==◌, if◌then◌else◌, List, [], ◌∷◌, ◌++◌, length, take, drop, map, position, Result, Ok, codes}
use Rattle.std.specs.Str.{chars, encode_utf8_all, bytes_eq}
use Rattle.std.specs.Char.{encode_utf8}
use Rattle.std.specs.Fmt.{decimal}
use Rattle.std.specs.Ordering.{nat_cmp, int_cmp, is_lt}
use Rattle.std.specs.List.{list_any}
use Rattle.std.specs.Cmp.Lexicographic.{slice_cmp}
use Rattle.tcl_text.specs.declared.commands.sorting.Order.{Order}
use Rattle.tcl_text.specs.Bytes.{tab, line_feed, vertical_tab, form_feed, carriage_return, space}
use Rattle.tcl_text.specs.Readings.{list_form}
use Rattle.tcl_text.specs.Glob.{glob_matches}
use Rattle.tcl_text.specs.Answers.{Answer, ◌>>=◌, answers, wrong_args, bad_option, integer_in, items_in, place}
use Rattle.tcl_text.specs.Indices.{index_in, before, through, before_inserted, part}

abbrev pub list_words : List (List ℕ) → Answer
list_words words = answers (list_form words)

-- what is made of the items of the list that a word is
abbrev pub of_items : {T : Type 0} → (List (List ℕ) → Result T (List ℕ)) → List ℕ → Result T (List ℕ)
of_items rest list = items_in list >>= rest

abbrev pub count_in : List ℕ → Result ℕ (List ℕ)
count_in list = of_items (λ items. Ok (length items)) list

abbrev pub llength_words : List (List ℕ) → Answer
llength_words (list ∷ []) = do
  count ← count_in list
  answers (decimal count)
llength_words _ = wrong_args (codes "llength list")

-- the only item, or the empty text where there is none
abbrev pub item_or_empty : List (List ℕ) → List ℕ
item_or_empty [] = []
item_or_empty (item ∷ _) = item

abbrev pub item_at : List ℕ → List (List ℕ) → Answer
item_at index items = do
  i ← index_in index
  answers (item_or_empty (part i i items))

abbrev pub lindex_words : List (List ℕ) → Answer
lindex_words (list ∷ []) = answers list
lindex_words (list ∷ index ∷ []) = of_items (item_at index) list
lindex_words _ = wrong_args (codes "lindex list ?index?")

abbrev pub range_of : List ℕ → List ℕ → List (List ℕ) → Answer
range_of first last items = do
  i ← index_in first
  j ← index_in last
  answers (list_form (part i j items))

abbrev pub lrange_words : List (List ℕ) → Answer
lrange_words (list ∷ first ∷ last ∷ []) = of_items (range_of first last) list
lrange_words _ = wrong_args (codes "lrange list first last")

-- the items with others put in after the first few, in place of those up to a second place
abbrev pub spliced : {X : Type 0} → List X → ℕ → ℕ → List X → List X
spliced items from to values = take from items ++ (values ++ drop to items)

abbrev pub inserted : List ℕ → List (List ℕ) → List (List ℕ) → Answer
inserted index values items = do
  i ← index_in index
  answers (list_form (spliced items (before_inserted i (length items)) (before_inserted i (length items)) values))

abbrev pub linsert_words : List (List ℕ) → Answer
linsert_words (list ∷ index ∷ values) = of_items (inserted index values) list
linsert_words _ = wrong_args (codes "linsert list index ?value ..?")

abbrev pub replaced : List ℕ → List ℕ → List (List ℕ) → List (List ℕ) → Answer
replaced first last values items = do
  i ← index_in first
  j ← index_in last
  answers (list_form (spliced items (before i (length items)) (max (before i (length items)) (through j (length items))) values))

abbrev pub lreplace_words : List (List ℕ) → Answer
lreplace_words (list ∷ first ∷ last ∷ values) = of_items (replaced first last values) list
lreplace_words _ = wrong_args (codes "lreplace list first last ?value ..?")

-- how lsearch tests an item
abbrev pub is_exactly : List ℕ → List ℕ → Bool
is_exactly pattern item = bytes_eq item pattern

abbrev pub is_like : List ℕ → List ℕ → Bool
is_like pattern item = glob_matches (chars pattern) (chars item)

-- the place of the first item that passes
abbrev pub search_in : (List ℕ → Bool) → List ℕ → Answer
search_in test list = do
  items ← items_in list
  place (position test items)

unfoldable pub search_by : List ℕ → List ℕ → List ℕ → Answer
search_by option pattern list =
    if bytes_eq option (codes "-exact") then search_in (is_exactly pattern) list
    else (if bytes_eq option (codes "-glob") then search_in (is_like pattern) list
    else bad_option option)

abbrev pub lsearch_words : List (List ℕ) → Answer
lsearch_words (list ∷ pattern ∷ []) = search_in (is_like pattern) list
lsearch_words (option ∷ list ∷ pattern ∷ []) = search_by option pattern list
lsearch_words _ = wrong_args (codes "lsearch ?-exact|-glob? list pattern")

-- the items in order: each goes before the first that isn't less, so that equal items keep their order
abbrev pub put_in_order : {X : Type 0} → (X → X → Bool) → X → List X → List X
put_in_order less x [] = x ∷ []
put_in_order less x (y ∷ ys) = if less y x then y ∷ put_in_order less x ys else x ∷ y ∷ ys

abbrev pub sorted : {X : Type 0} → (X → X → Bool) → List X → List X
sorted less [] = []
sorted less (x ∷ xs) = put_in_order less x (sorted less xs)

-- how lsort compares: as integers or as bytes, up or down
abbrev pub plain_order : Order
plain_order = record { as_integers = false; decreasing = false }

unfoldable pub with_option : List ℕ → Order → Result Order (List ℕ)
with_option option order =
    if bytes_eq option (codes "-integer") then Ok (record order { as_integers = true })
    else (if bytes_eq option (codes "-decreasing") then Ok (record order { decreasing = true })
    else bad_option option)

-- each item with the integer that it is
abbrev pub keyed : List (List ℕ) → Result (List (ℤ × List ℕ)) (List ℕ)
keyed [] = Ok []
keyed (item ∷ items) = do
  key ← integer_in item
  others ← keyed items
  Ok ((key, item) ∷ others)

abbrev pub turned : {X : Type 0} → Bool → (X → X → Bool) → X → X → Bool
turned false less x y = less x y
turned true less x y = less y x

abbrev pub bytes_less : List ℕ → List ℕ → Bool
bytes_less x y = is_lt (slice_cmp nat_cmp x y)

abbrev pub key_less : ℤ × List ℕ → ℤ × List ℕ → Bool
key_less x y = is_lt (int_cmp x.0 y.0)

abbrev pub in_order : Order → List (List ℕ) → Result (List (List ℕ)) (List ℕ)
in_order order items =
    if order.as_integers then (keyed items >>= λ pairs. Ok (map (λ p. p.1) (sorted (turned order.decreasing key_less) pairs)))
    else Ok (sorted (turned order.decreasing bytes_less) items)

abbrev pub sort_list : Order → List ℕ → Answer
sort_list order list = do
  items ← items_in list
  ordered ← in_order order items
  answers (list_form ordered)

abbrev pub lsort_words : List (List ℕ) → Answer
lsort_words (list ∷ []) = sort_list plain_order list
lsort_words (option ∷ list ∷ []) = do
  order ← with_option option plain_order
  sort_list order list
lsort_words (option ∷ second ∷ list ∷ []) = do
  order ← with_option option plain_order
  both ← with_option second order
  sort_list both list
lsort_words _ = wrong_args (codes "lsort ?-integer? ?-decreasing? list")

-- the texts with another between each two
abbrev pub joined : List ℕ → List (List ℕ) → List ℕ
joined between [] = []
joined between (x ∷ []) = x
joined between (x ∷ y ∷ ys) = x ++ (between ++ joined between (y ∷ ys))

abbrev pub join_list_by : List ℕ → List ℕ → Answer
join_list_by list between = do
  items ← items_in list
  answers (joined between items)

abbrev pub join_words : List (List ℕ) → Answer
join_words (list ∷ []) = join_list_by list (codes " ")
join_words (list ∷ between ∷ []) = join_list_by list between
join_words _ = wrong_args (codes "join list ?text?")

-- the characters cut at each that passes
abbrev pub with_first : ℕ → List (List ℕ) → List (List ℕ)
with_first c [] = (c ∷ []) ∷ []
with_first c (piece ∷ pieces) = (c ∷ piece) ∷ pieces

abbrev pub cut_at : (ℕ → Bool) → List ℕ → List (List ℕ)
cut_at test [] = [] ∷ []
cut_at test (c ∷ cs) = if test c then [] ∷ cut_at test cs else with_first c (cut_at test cs)

-- whether a character is one of the separators
abbrev pub is_one_of : List ℕ → ℕ → Bool
is_one_of separators c = list_any (λ s. s == c) separators

-- each character of a text, and its parts between separators
abbrev pub characters_of : List ℕ → List (List ℕ)
characters_of text = map encode_utf8 (chars text)

abbrev pub pieces_of : List ℕ → List ℕ → List (List ℕ)
pieces_of text separators = map encode_utf8_all (cut_at (is_one_of separators) (chars text))

-- the parts of a text, or each of its characters where there are no separators
abbrev pub parts_of : List ℕ → List ℕ → List (List ℕ)
parts_of [] separators = []
parts_of (b ∷ bs) [] = characters_of (b ∷ bs)
parts_of (b ∷ bs) (s ∷ separators) = pieces_of (b ∷ bs) (s ∷ separators)

abbrev pub split_text : List ℕ → List ℕ → Answer
split_text text separators = answers (list_form (parts_of text separators))

-- blank, tab, newline, vertical tab, form feed and carriage return
abbrev pub white_characters : List ℕ
white_characters = space ∷ tab ∷ line_feed ∷ vertical_tab ∷ form_feed ∷ carriage_return ∷ []

abbrev pub split_words : List (List ℕ) → Answer
split_words (text ∷ []) = split_text text white_characters
split_words (text ∷ separators ∷ []) = split_text text (chars separators)
split_words _ = wrong_args (codes "split text ?chars?")
