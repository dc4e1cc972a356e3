-- Items that are kept by their bytes alone.
use Rattle.std.proofs.Common.{◌≡◌, ℕ, ◌+◌, ◌<◌, ◌≤◌, Bool, true, false, ◌||◌, List, [], ◌∷◌, ◌++◌, append-nil, append_assoc, take, drop, length, map, get_or, sum, bytes_eq, refl, arith, ap, sym, ◌∙◌, length-append}
use Rattle.std.specs.List.{concat, list_any}
use Rattle.std.proofs.Math.Seq.{take-append_seam, drop-append_seam}
use Rattle.std.proofs.lemmas.List.{drop_all, drop_more}
use Rattle.std.proofs.lemmas.List.Sums.{sum_by-cons, sum_by-drop_more}
use Rattle.tcl_text.specs.ItemBytes.{items_cut}

-- ── written ──

next_of : (items : List (List ℕ)) (i : ℕ) (x : List ℕ) → i < length items → x ≡ get_or items i x → drop i items ≡ x ∷ drop (i + 1) items
next_of items i x inside is = drop_more items i x inside ∙ ap (λ (y : List ℕ). y ∷ drop (i + 1) items) (sym is)

pub bytes_more : (bytes pushed shown whole : List ℕ) (items : List (List ℕ)) (i : ℕ) (x : List ℕ) → i < length items → x ≡ get_or items i x
    → bytes ++ concat (drop i items) ≡ whole → shown ≡ x → pushed ≡ bytes ++ shown → pushed ++ concat (drop (i + 1) items) ≡ whole
bytes_more bytes pushed shown whole items i x inside is so_far same is_pushed =
    let rest = concat (drop (i + 1) items) in
    ap (λ (t : List ℕ). t ++ rest) (is_pushed ∙ ap (λ (t : List ℕ). bytes ++ t) same) ∙ append_assoc bytes x rest
    ∙ ap (λ (xs : List (List ℕ)). bytes ++ concat xs) (sym (next_of items i x inside is)) ∙ so_far

pub bytes_done : (bytes whole : List ℕ) (items : List (List ℕ)) (i : ℕ) → length items ≤ i → bytes ++ concat (drop i items) ≡ whole → bytes ≡ whole
bytes_done bytes whole items i past all = sym (append-nil bytes) ∙ ap (λ (xs : List (List ℕ)). bytes ++ concat xs) (sym (drop_all i items past)) ∙ all

pub lengths_more : (lengths pushed whole : List ℕ) (count : ℕ) (items : List (List ℕ)) (i : ℕ) (x : List ℕ) → i < length items → x ≡ get_or items i x
    → lengths ++ map (λ (item : List ℕ). length item) (drop i items) ≡ whole → count ≡ length x → pushed ≡ lengths ++ count ∷ [] → pushed ++ map (λ (item : List ℕ). length item) (drop (i + 1) items) ≡ whole
lengths_more lengths pushed whole count items i x inside is so_far same is_pushed =
    let rest = map (λ (item : List ℕ). length item) (drop (i + 1) items) in
    ap (λ (t : List ℕ). t ++ rest) (is_pushed ∙ ap (λ (n : ℕ). lengths ++ n ∷ []) same) ∙ append_assoc lengths (length x ∷ []) rest
    ∙ ap (λ (xs : List (List ℕ)). lengths ++ map (λ (item : List ℕ). length item) xs) (sym (next_of items i x inside is)) ∙ so_far

pub lengths_done : (lengths whole : List ℕ) (items : List (List ℕ)) (i : ℕ) → length items ≤ i → lengths ++ map (λ (item : List ℕ). length item) (drop i items) ≡ whole → lengths ≡ whole
lengths_done lengths whole items i past all =
    sym (append-nil lengths) ∙ ap (λ (xs : List (List ℕ)). lengths ++ map (λ (item : List ℕ). length item) xs) (sym (drop_all i items past)) ∙ all

-- what was written is cut into the items again
pub cut_again : (items : List (List ℕ)) → items_cut (map (λ (item : List ℕ). length item) items) (concat items) ≡ items
cut_again [] = refl
cut_again (x ∷ xs) =
    let lengths = map (λ (item : List ℕ). length item) xs in
    ap (λ (t : List ℕ). t ∷ items_cut lengths (drop (length x) (x ++ concat xs))) (take-append_seam x (concat xs))
    ∙ ap (λ (t : List ℕ). x ∷ items_cut lengths t) (drop-append_seam x (concat xs)) ∙ ap (λ (ys : List (List ℕ)). x ∷ ys) (cut_again xs)

pub cut_as : (lengths bytes : List ℕ) (items : List (List ℕ)) → lengths ≡ map (λ (item : List ℕ). length item) items → bytes ≡ concat items → items_cut lengths bytes ≡ items
cut_as lengths bytes items a b = ap (λ (ns : List ℕ). items_cut ns bytes) a ∙ ap (items_cut (map (λ (item : List ℕ). length item) items)) b ∙ cut_again items

-- and no byte is left
all_bytes : (items : List (List ℕ)) → sum (map (λ (item : List ℕ). length item) items) ≡ length (concat items)
all_bytes [] = refl
all_bytes (x ∷ xs) =
    let lengths = map (λ (item : List ℕ). length item) xs in
    let first : sum (map (λ (item : List ℕ). length item) (x ∷ xs)) ≡ length x + sum lengths = sum_by-cons (λ (n : ℕ). n) (length x) lengths in
    let both : length (concat (x ∷ xs)) ≡ length x + length (concat xs) = length-append x (concat xs) in
    omega (arith, first, all_bytes xs, both)

pub bytes_of_all : (lengths bytes : List ℕ) (items : List (List ℕ)) → lengths ≡ map (λ (item : List ℕ). length item) items → bytes ≡ concat items → sum lengths ≡ length bytes
bytes_of_all lengths bytes items a b = ap sum a ∙ all_bytes items ∙ ap length (sym b)

-- ── searched ──

-- of the items in front none is sought, and these are left
pub record Searched (item lengths bytes : List ℕ) (i : ℕ) (rest : List ℕ) : Type 0 where
  pub same : list_any (λ one. bytes_eq one item) (items_cut lengths bytes) ≡ list_any (λ one. bytes_eq one item) (items_cut (drop i lengths) rest)
  pub left : sum (drop i lengths) ≡ length rest

pub Searched-start : (item lengths bytes rest : List ℕ) → rest ≡ bytes → sum lengths ≡ length bytes → Searched item lengths bytes 0 rest
Searched-start item lengths bytes rest is all = record {
  same = ap (λ (t : List ℕ). list_any (λ one. bytes_eq one item) (items_cut lengths t)) (sym is);
  left = all ∙ ap length (sym is);
}

-- the next item is there
pub next_there : (item lengths bytes rest : List ℕ) (i : ℕ) → i < length lengths → Searched item lengths bytes i rest → get_or lengths i 0 ≤ length rest
next_there item lengths bytes rest i inside h =
    let next : sum (drop i lengths) ≡ get_or lengths i 0 + sum (drop (i + 1) lengths) = sum_by-drop_more (λ (n : ℕ). n) lengths i 0 inside in
    let left = h.left in
    omega (arith, next, left)

-- what a look at it tells
next_told : (item lengths bytes rest : List ℕ) (i : ℕ) → i < length lengths → Searched item lengths bytes i rest
    → list_any (λ one. bytes_eq one item) (items_cut lengths bytes)
    ≡ (bytes_eq (take (get_or lengths i 0) rest) item || list_any (λ one. bytes_eq one item) (items_cut (drop (i + 1) lengths) (drop (get_or lengths i 0) rest)))
next_told item lengths bytes rest i inside h =
    h.same ∙ ap (λ (ns : List ℕ). list_any (λ one. bytes_eq one item) (items_cut ns rest)) (drop_more lengths i 0 inside)

pub found_next : (item lengths bytes rest front : List ℕ) (i : ℕ) → i < length lengths → Searched item lengths bytes i rest → front ≡ take (get_or lengths i 0) rest → bytes_eq front item ≡ true
    → list_any (λ one. bytes_eq one item) (items_cut lengths bytes) ≡ true
found_next item lengths bytes rest front i inside h is same =
    next_told item lengths bytes rest i inside h
    ∙ ap (λ (b : Bool). b || list_any (λ one. bytes_eq one item) (items_cut (drop (i + 1) lengths) (drop (get_or lengths i 0) rest))) (ap (λ (t : List ℕ). bytes_eq t item) (sym is) ∙ same)

pub Searched-next : (item lengths bytes rest front behind : List ℕ) (i : ℕ) → i < length lengths → Searched item lengths bytes i rest → front ≡ take (get_or lengths i 0) rest
    → behind ≡ drop (get_or lengths i 0) rest → length behind + get_or lengths i 0 ≡ length rest → bytes_eq front item ≡ false → Searched item lengths bytes (i + 1) behind
Searched-next item lengths bytes rest front behind i inside h is is_behind both other = record {
  same =
      next_told item lengths bytes rest i inside h
      ∙ ap (λ (b : Bool). b || list_any (λ one. bytes_eq one item) (items_cut (drop (i + 1) lengths) (drop (get_or lengths i 0) rest))) (ap (λ (t : List ℕ). bytes_eq t item) (sym is) ∙ other)
      ∙ ap (λ (t : List ℕ). list_any (λ one. bytes_eq one item) (items_cut (drop (i + 1) lengths) t)) (sym is_behind);
  left = let next : sum (drop i lengths) ≡ get_or lengths i 0 + sum (drop (i + 1) lengths) = sum_by-drop_more (λ (n : ℕ). n) lengths i 0 inside in let left = h.left in omega (arith, next, left, both);
}

pub found_none : (item lengths bytes rest : List ℕ) (i : ℕ) → length lengths ≤ i → Searched item lengths bytes i rest → list_any (λ one. bytes_eq one item) (items_cut lengths bytes) ≡ false
found_none item lengths bytes rest i past h = h.same ∙ ap (λ (ns : List ℕ). list_any (λ one. bytes_eq one item) (items_cut ns rest)) (drop_all i lengths past)
