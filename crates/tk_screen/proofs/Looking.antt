-- Windows that are looked at again are seen as they look now.
use Rattle.std.proofs.Common.{◌≡◌, ◌≢◌, ◌⊎◌, inl, inr, ℕ, zero, suc, ◌+◌, ◌<◌, ◌≤◌, Bool, true, false, List, [], ◌∷◌, ◌++◌, append-nil, append_assoc, length, Option, None, Some, refl, sym, ap, ◌∙◌, subst, arith}
use Rattle.std.specs.Prelude.{◌==◌, ◌&&◌, if◌then◌else◌, map, nat_eq, option_map, option_and_then, slice_get}
use Rattle.std.specs.BTreeSet.{BTreeSet, UpdatesBy, contains}
use Rattle.std.specs.List.{cons_option, filter_map}
use Rattle.std.specs.Map.{lookup}
use Rattle.std.specs.Ordering.{nat_cmp}
use Rattle.std.specs.Result.{result_ok}
use Rattle.std.proofs.lemmas.Bool.{eqb-true}
use Rattle.std.proofs.lemmas.Bool.Decides.{eqb_tells}
use Rattle.std.proofs.lemmas.Slice.Eq.{bytes_eq-Decides}
use Rattle.tcl_vars.specs.Store.{Store, variable_in}
use Rattle.tk_packer.specs.declared.packed.Packed.{Packed}
use Rattle.tk_packer.specs.declared.shape.Shape.{Shape}
use Rattle.tk_packer.specs.Packs.{slaves_of}
use Rattle.tk_packer.specs.Standing.{Inputs}
use Rattle.tk_packer.proofs.Sets.{has, inserted, removed}
use Rattle.tk_tree.proofs.Lists.{find_passes, some_same}
use Rattle.tk_tree.specs.declared.window.Window.{Window}
use Rattle.tk_tree.specs.Own.{window_at}
use Rattle.tk_widgets.specs.Commands.{variable_of}
use Rattle.tk_widgets.specs.declared.widget.Widget.{Widget}
use Rattle.tk_widgets.specs.Sizes.{requested}
use Rattle.tk_screen.specs.declared.reads.TextRead.{TextRead}
use Rattle.tk_screen.specs.Own.{Windowing}
use Rattle.tk_screen.specs.Reads.{IsKept, IsOneOf, PutsRead, Reads, StillHolds, holds, read_at, read_named, read_of, same_text}
use Rattle.tk_screen.specs.Seen.{AreAlike, IsSeen, with_seen}
use Rattle.tk_screen.specs.Shapes.{pre_order, shape_at, shape_by, shape_of, shapes, variable_text}
use Rattle.tk_screen.specs.Widgets.{widget_at}
use Rattle.tk_screen.proofs.Alike.{Moves, all_at, all_moved, seen_numbers, seen_set}

-- ── one window ──

pub seen_again : (own : Windowing) (packed : List Packed) (store : Store) (touched after : ℕ → Bool) (reads new_reads : Reads) (layout new : Inputs) (n : ℕ)
    → ((m : ℕ) → after m ≡ false → (m ≡ n) ⊎ ((m ≢ n) × (touched m ≡ false)))
    → new ≡ record layout { shapes = with_seen (shape_at own store n) layout.shapes } → PutsRead n (read_at own store n) reads new_reads
    → IsSeen own packed store touched reads layout → IsSeen own packed store after new_reads new
unfolding shapes
seen_again own packed store touched after reads new_reads layout new n fewer is puts seen = record {
  size = ap (λ (i : Inputs). i.size) is ∙ seen.size;
  packs =
      ap (λ (i : Inputs). i.packs) is ∙ seen.packs ∙ sym (seen_numbers (λ m. slaves_of m packed) (shape_at own store n) layout.shapes)
      ∙ sym (ap (λ (i : Inputs). map (λ s. slaves_of s.number packed) i.shapes) is);
  alike = subst (λ (i : Inputs). AreAlike after (IsKept own store new_reads) i.shapes (shapes own store)) (sym is)
      (seen_set own store touched after (IsKept own store reads) (IsKept own store new_reads) n fewer (λ read told. puts.own ∙ told)
      (λ m differ kept read told. puts.others m differ ∙ kept read told) (shape_at own store n) refl layout.shapes (shapes own store) (all_at own store (pre_order own.tree)) seen.alike);
}

-- ── with other variables ──

text_is : (read now : Option (List ℕ)) → same_text read now ≡ true → read ≡ now
text_is None None same = refl
text_is None (Some now) same = absurd (cc)
text_is (Some text) None same = absurd (cc)
text_is (Some text) (Some now) same = ap Some ((bytes_eq-Decides text now).0 same)

module _ (own : Windowing) (packed : List Packed) (before now : Store) (touched after : ℕ → Bool) (reads : Reads) (tested : (n : ℕ) → after n ≡ false → (touched n ≡ false) × StillHolds now reads n) where
  text_in : (store : Store) (widget : Widget) (named : Option (List ℕ)) → variable_of widget ≡ named
      → variable_text widget store ≡ option_and_then (λ name. result_ok (variable_in store 0 name)) named
  text_in store widget named is = ap (option_and_then (λ name. result_ok (variable_in store 0 name))) is

  -- a window as the layout sees it, with the text of its variable
  abbrev shape_with : Window → Widget → Option (List ℕ) → Shape
  shape_with window widget text = record (shape_of own.packs now window widget) { width = (requested widget text).0; height = (requested widget text).1 }

  read_told : (store : Store) (n : ℕ) (widget : Widget) (named : Option (List ℕ)) → variable_of widget ≡ named → widget_at n own.widgets ≡ Some widget
      → read_at own store n ≡ option_map (read_named store) named
  read_told store n widget named is there = ap (option_and_then (read_of store)) there ∙ ap (option_map (read_named store)) is

  abbrev read_with : List ℕ → Option (List ℕ) → TextRead
  read_with name text = record { name = name; text = text }

  same_by : (n : ℕ) (window : Window) (widget : Widget) (named : Option (List ℕ)) → variable_of widget ≡ named → widget_at n own.widgets ≡ Some widget → StillHolds now reads n → IsKept own before reads n
      → (shape_of own.packs before window widget ≡ shape_of own.packs now window widget) × IsKept own now reads n
  unfolding shape_of
  same_by n window widget None is there test kept = (
    ap (shape_with window widget) (text_in before widget None is ∙ sym (text_in now widget None is)),
    (λ read told. let none : read_at own now n ≡ None = read_told now n widget None is there in absurd (cc)),
  )
  same_by n window widget (Some name) is there test kept = (
    ap (shape_with window widget) (text_in before widget (Some name) is ∙ text ∙ sym (text_in now widget (Some name) is)),
    (λ read told. found ∙ ap (λ (t : Option (List ℕ)). Some (read_with name t)) text ∙ sym (read_told now n widget (Some name) is there) ∙ told),
  )
    where
      found : lookup (nat_eq n) reads ≡ Some (read_named before name)
      found = kept (read_named before name) (read_told before n widget (Some name) is there)

      text : result_ok (variable_in before 0 name) ≡ result_ok (variable_in now 0 name)
      text = text_is (result_ok (variable_in before 0 name)) (result_ok (variable_in now 0 name)) (test (read_named before name) found)

  moves : (n : ℕ) (window : Option Window) (widget : Option Widget) → window_at n own.tree ≡ window → widget_at n own.widgets ≡ widget
      → Moves touched after (IsKept own before reads) (IsKept own now reads) n (shape_by own.packs before window widget) (shape_by own.packs now window widget)
  unfolding shape_of
  moves n None widget is its = tt
  moves n (Some window) None is its = tt
  moves n (Some window) (Some widget) is its =
      let number : window.number ≡ n = eqb-true window.number n (find_passes (λ w. w.number == n) window own.tree.windows is) in
      (number, number, (λ fresh. let test = tested n fresh in (test.0, (λ kept. same_by n window widget (variable_of widget) refl its test.1 kept))))

  pub seen_now : (layout : Inputs) → IsSeen own packed before touched reads layout → IsSeen own packed now after reads layout
  unfolding shapes
  seen_now layout seen = record {
    size = seen.size;
    packs = seen.packs;
    alike = all_moved touched after (IsKept own before reads) (IsKept own now reads) (shape_at own before) (shape_at own now)
        (λ n. moves n (window_at n own.tree) (widget_at n own.widgets) refl refl) (pre_order own.tree) layout.shapes seen.alike;
  }

-- ── the loop over what was read ──

-- what is found by a number stands at a place
pub listed : (number : ℕ) (reads : Reads) (read : TextRead) → lookup (nat_eq number) reads ≡ Some read
    → (i : ℕ) × ((i < length reads) × (slice_get reads i ≡ Some (number, read)))
listed number [] read is = absurd (cc)
listed number (entry ∷ reads) read is = by (nat_eq number entry.0) refl is (listed number reads read)
  where
    by : (b : Bool) → nat_eq number entry.0 ≡ b → (if b then Some entry.1 else lookup (nat_eq number) reads) ≡ Some read
        → (lookup (nat_eq number) reads ≡ Some read → (i : ℕ) × ((i < length reads) × (slice_get reads i ≡ Some (number, read))))
        → (i : ℕ) × ((i < length (entry ∷ reads)) × (slice_get (entry ∷ reads) i ≡ Some (number, read)))
    by true same is rest =
        let key : entry.0 ≡ number = sym (eqb-true number entry.0 same) in
        let value : entry.1 ≡ read = some_same entry.1 read is in
        (zero, (omega arith, ap Some (λ i. (key i, value i))))
    by false differ is rest = let later = rest is in let lt = later.1.0 in (suc later.0, (omega (arith, lt), later.1.1))

-- each of what was looked up so far holds, unless its window is touched
abbrev pub IsTested : Store → Reads → (ℕ → Bool) → ℕ → Type 0
IsTested store reads touched count = (i number : ℕ) (read : TextRead) → i < count → slice_get reads i ≡ Some (number, read) → touched number ≡ false → holds store read ≡ true

pub tested_more : (store : Store) (reads : Reads) (touched after : ℕ → Bool) (count number : ℕ) (read : TextRead) → slice_get reads count ≡ Some (number, read)
    → ((m : ℕ) → after m ≡ false → touched m ≡ false) → (after number ≡ false → holds store read ≡ true) → IsTested store reads touched count → IsTested store reads after (count + 1)
tested_more store reads touched after count number read at more here tested i m other lt at_i fresh = by (eqb_tells i count)
  where
    by : ((nat_eq i count ≡ true) × (i ≡ count)) ⊎ ((nat_eq i count ≡ false) × (i ≢ count)) → holds store other ≡ true
    by (inl same) =
        let pair : (number, read) ≡ (m, other) = some_same (number, read) (m, other) (sym at ∙ ap (slice_get reads) (sym same.1) ∙ at_i) in
        ap (holds store) (sym (ap (λ (p : ℕ × TextRead). p.1) pair)) ∙ here (ap after (ap (λ (p : ℕ × TextRead). p.0) pair) ∙ fresh)
    by (inr differ) = let apart = differ.1 in tested i m other (omega (arith, lt, apart)) at_i (more m fresh)

pub all_tested : (store : Store) (reads : Reads) (touched : ℕ → Bool) (count : ℕ) → length reads ≤ count → IsTested store reads touched count
    → (number : ℕ) → touched number ≡ false → StillHolds store reads number
all_tested store reads touched count all tested number fresh read told =
    let place = listed number reads read told in
    tested place.0 number read (let lt = place.1.0 in omega (arith, lt, all)) place.1.1 fresh

-- ── what is put ──

pub puts : (number : ℕ) (read : Option TextRead) (old new : Reads) → lookup (nat_eq number) new ≡ read → ((other : ℕ) → nat_eq number other ≡ false → lookup (nat_eq other) new ≡ lookup (nat_eq other) old)
    → PutsRead number read old new
puts number read old new here others = record { own = here; others = λ other differ. by other differ (eqb_tells number other) }
  where
    by : (other : ℕ) → other ≢ number → ((nat_eq number other ≡ true) × (number ≡ other)) ⊎ ((nat_eq number other ≡ false) × (number ≢ other)) → lookup (nat_eq other) new ≡ lookup (nat_eq other) old
    by other differ (inl same) = absurd (differ (sym same.1))
    by other differ (inr apart) = others other apart.0

-- what the windows show whose numbers were gone through is kept
pub reads_more : (own : Windowing) (store : Store) (numbers rest later : List ℕ) (number : ℕ) (reads new : Reads) → rest ≡ number ∷ later → PutsRead number (read_at own store number) reads new
    → ((n : ℕ) → IsOneOf n numbers → IsOneOf n rest ⊎ IsKept own store reads n) → (n : ℕ) → IsOneOf n numbers → IsOneOf n later ⊎ IsKept own store new n
reads_more own store numbers rest later number reads new is put known n among = by (known n among)
  where
    here : n ≡ number → IsKept own store new n
    here same read told = ap (λ m. lookup (nat_eq m) new) same ∙ put.own ∙ ap (read_at own store) (sym same) ∙ told

    first : IsOneOf n (number ∷ later) → IsOneOf n later ⊎ IsKept own store new n
    first (inl same) = inr (here same)
    first (inr behind) = inl behind

    still : IsKept own store reads n → ((nat_eq n number ≡ true) × (n ≡ number)) ⊎ ((nat_eq n number ≡ false) × (n ≢ number)) → IsKept own store new n
    still kept (inl same) = here same.1
    still kept (inr apart) = λ read told. put.others n apart.1 ∙ kept read told

    by : IsOneOf n rest ⊎ IsKept own store reads n → IsOneOf n later ⊎ IsKept own store new n
    by (inl left) = first (subst (IsOneOf n) is left)
    by (inr kept) = inr (still kept (eqb_tells n number))

pub all_kept : (own : Windowing) (store : Store) (numbers rest : List ℕ) (reads : Reads) → length rest ≡ 0 → ((n : ℕ) → IsOneOf n numbers → IsOneOf n rest ⊎ IsKept own store reads n)
    → (n : ℕ) → IsOneOf n numbers → IsKept own store reads n
all_kept own store numbers (m ∷ rest) reads none known n among = absurd (omega arith)
all_kept own store numbers [] reads none known n among = by (known n among)
  where
    by : ⊥ ⊎ IsKept own store reads n → IsKept own store reads n
    by (inl never) = absurd never
    by (inr kept) = kept

-- nothing was gone through yet
pub none_yet : (own : Windowing) (store : Store) (numbers : List ℕ) (reads : Reads) (n : ℕ) → IsOneOf n numbers → IsOneOf n numbers ⊎ IsKept own store reads n
none_yet own store numbers reads n among = inl among

-- windows that were gone through stand before those that are left
pub seen_more : (own : Windowing) (store : Store) (numbers rest later : List ℕ) (number : ℕ) (seen new : List Shape) → rest ≡ number ∷ later → new ≡ seen ++ cons_option (shape_at own store number) []
    → seen ++ filter_map (shape_at own store) rest ≡ filter_map (shape_at own store) numbers → new ++ filter_map (shape_at own store) later ≡ filter_map (shape_at own store) numbers
seen_more own store numbers rest later number seen new is pushed known =
    ap (λ (ss : List Shape). ss ++ filter_map (shape_at own store) later) pushed
    ∙ append_assoc seen (cons_option (shape_at own store number) []) (filter_map (shape_at own store) later)
    ∙ ap (λ (ss : List Shape). seen ++ ss) (by (shape_at own store number)) ∙ ap (λ (ns : List ℕ). seen ++ filter_map (shape_at own store) ns) (sym is) ∙ known
  where
    by : (o : Option Shape) → cons_option o [] ++ filter_map (shape_at own store) later ≡ cons_option o (filter_map (shape_at own store) later)
    by None = refl
    by (Some shape) = refl

pub all_seen : (own : Windowing) (store : Store) (numbers rest : List ℕ) (seen : List Shape) → length rest ≡ 0
    → seen ++ filter_map (shape_at own store) rest ≡ filter_map (shape_at own store) numbers → seen ≡ filter_map (shape_at own store) numbers
all_seen own store numbers [] seen none known = sym (append-nil seen) ∙ known
all_seen own store numbers (m ∷ rest) seen none known = absurd (omega arith)

-- a window less is touched
pub popped : (old new : BTreeSet ℕ) (k : ℕ) → UpdatesBy nat_cmp (nat_cmp k) old new false → (m : ℕ) → contains nat_cmp new m ≡ false → (m ≡ k) ⊎ ((m ≢ k) × (contains nat_cmp old m ≡ false))
popped old new k updates m fresh = by (eqb_tells m k)
  where
    by : ((nat_eq m k ≡ true) × (m ≡ k)) ⊎ ((nat_eq m k ≡ false) × (m ≢ k)) → (m ≡ k) ⊎ ((m ≢ k) × (contains nat_cmp old m ≡ false))
    by (inl same) = inl same.1
    by (inr apart) = inr (apart.1, (removed old new k updates).others m apart.1 fresh)

pub pushed : (old new : BTreeSet ℕ) (k : ℕ) → UpdatesBy nat_cmp (nat_cmp k) old new true → (m : ℕ) → contains nat_cmp new m ≡ false → (m ≢ k) × (contains nat_cmp old m ≡ false)
pushed old new k updates m fresh = ((λ same. (let now : contains nat_cmp new m ≡ true = ap (contains nat_cmp new) same ∙ updates.1 in absurd (cc))), by (contains nat_cmp old m) refl)
  where
    by : (b : Bool) → contains nat_cmp old m ≡ b → contains nat_cmp old m ≡ false
    by false is = is
    by true is = let now : contains nat_cmp new m ≡ true = (inserted old new k updates).more m is in absurd (cc)
