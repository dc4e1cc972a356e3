-- What holds of the arena, its index and the counters holds with a window more.
use Rattle.std.proofs.Common.{◌≡◌, ◌≢◌, ◌⊎◌, inl, inr, ℕ, ◌+◌, ◌<◌, Bool, true, false, List, [], ◌∷◌, ◌++◌, length, Option, Some, None, option_map, refl, sym, ap, ◌∙◌, subst, arith, length-append}
use Rattle.std.specs.Prelude.{◌==◌, ◌||◌, nat_le}
use Rattle.std.specs.Str.{bytes_eq}
use Rattle.std.proofs.lemmas.Option.{none-some}
use Rattle.std.proofs.lemmas.Bool.{cases_eq, leb-false}
use Rattle.tk_base.specs.Bag.{listed}
use Rattle.tk_base.specs.Numbered.{AllBelow}
use Rattle.tk_base.proofs.Owners.{listed_new, listed_other}
use Rattle.tk_base.specs.declared.kind.Kind.{Kind}
use Rattle.tk_base.specs.declared.counter.Counter.{Counter}
use Rattle.tk_tree.specs.declared.index.PathIndex.{PathIndex}
use Rattle.tk_tree.specs.declared.window.Window.{Window}
use Rattle.tk_tree.specs.declared.windows.Node.{Node}
use Rattle.tk_tree.specs.Arena.{at, held_by, IsKept, HoldsNumber, HoldsPath}
use Rattle.tk_tree.specs.Create.{with_window}
use Rattle.tk_tree.specs.Index.{key_at, number_at, children_at, added_child, left_children, Adds, Removes, SameIndex}
use Rattle.tk_tree.specs.Own.{Tree, HasOlderParent, IsSound, at_path, is_full, child_numbers}
use Rattle.tk_tree.specs.Shared.{own_of, LeavesOthers}
use Rattle.tk_tree.specs.Window.{number_of, new_window}
use Rattle.tk_tree.proofs.Children.{Differ, differ_below, one_child, children-append, left_new, no_children}
use Rattle.tk_tree.proofs.IndexLemmas.{text_is, text_same}
use Rattle.tk_tree.proofs.Lists.{some_same, rising_more, below_more, parents_more}
use Rattle.tk_tree.proofs.Looks.{next_unused, number_is}
use Rattle.tk_tree.proofs.Slots.{Slots, own_list, one_more}
use Rattle.tk_base.specs.Counters.{next_of, count_of, Counts}

pub own_same : (n m : ℕ) (xs ys : List Window) → n ≡ m → xs ≡ ys → ◌≡◌ {A = Tree} (record { next_number = n; windows = xs }) (record { next_number = m; windows = ys })
own_same n m xs ys same list = ap (λ k. record { next_number = k; windows = xs }) same ∙ ap (λ zs. record { next_number = m; windows = zs }) list

pub cases_text : (p q : List ℕ) → (p ≡ q) ⊎ (p ≢ q)
cases_text p q = by (bytes_eq p q) refl
  where
    by : (b : Bool) → bytes_eq p q ≡ b → (p ≡ q) ⊎ (p ≢ q)
    by true is = inl (text_is p q is)
    by false is = inr (λ same. absurd (cc (sym is ∙ ap (bytes_eq p) (sym same) ∙ text_same p)))

pub record Added (index : PathIndex) (old new : Slots) (counters later : List (ℕ × Counter)) (owner : ℕ) (window : Window) : Type 0 where
  pub kept : IsKept index new later
  pub own : own_of owner (held_by new later) ≡ record { next_number = window.number + 1; windows = own_list owner old ++ window ∷ [] }
  pub others : LeavesOthers owner (held_by old counters) (held_by new later)

module _ (index after : PathIndex) (slots new : Slots) (counters later : List (ℕ × Counter)) (owner key count : ℕ) (window : Window)
    (kept : IsKept index slots counters)
    (adds : Adds index after owner window.path window.number key window.parent)
    (vacant : at slots key ≡ None)
    (there : at new key ≡ Some (record { owner = owner; window = window }))
    (rest : (other : ℕ) → other ≢ key → at new other ≡ at slots other)
    (counts : Counts owner (record { next = window.number + 1; count = count + 1 }) counters later)
    (next : next_of owner counters ≡ window.number)
    (counted : count_of owner counters ≡ count)
    (few : count < 512)
    (older : HasOlderParent window)
    (no_key : key_at index owner window.number ≡ None)
    (no_path : number_at index owner window.path ≡ None) where
  abbrev node : Node
  node = record { owner = owner; window = window }

  -- ── the lists ──
  own_more : own_list owner new ≡ own_list owner slots ++ window ∷ []
  own_more =
      let more = one_more key node slots new vacant there rest in
      let was : own_list owner slots ≡ listed number_of owner (more.front ++ more.back) = ap (listed number_of owner) more.was in
      let below : AllBelow number_of window.number (own_list owner slots) = subst (λ n. AllBelow number_of n (own_list owner slots)) next (kept.sound owner).below in
      ap (listed number_of owner) more.is ∙ listed_new number_of owner window more.front more.back (subst (AllBelow number_of window.number) was below) ∙ ap (λ list. list ++ window ∷ []) (sym was)

  other_same : (other : ℕ) → other ≢ owner → own_list other new ≡ own_list other slots
  other_same other differ =
      let more = one_more key node slots new vacant there rest in
      ap (listed number_of other) more.is ∙ listed_other number_of owner other window more.front more.back differ ∙ sym (ap (listed number_of other) more.was)

  own_is : own_of owner (held_by new later) ≡ record { next_number = window.number + 1; windows = own_list owner slots ++ window ∷ [] }
  own_is = own_same (next_of owner later) (window.number + 1) (own_list owner new) (own_list owner slots ++ window ∷ []) counts.next_is own_more

  others_are : LeavesOthers owner (held_by slots counters) (held_by new later)
  others_are other differ = own_same (next_of other later) (next_of other counters) (own_list other new) (own_list other slots) (counts.nexts other differ) (other_same other differ)

  few_more : length (own_list owner slots ++ window ∷ []) ≡ count + 1
  few_more = omega (arith, length-append (own_list owner slots) (window ∷ []), kept.counted owner, counted)

  sound_own : IsSound (record { next_number = window.number + 1; windows = own_list owner slots ++ window ∷ [] })
  sound_own =
      let below : AllBelow number_of window.number (own_list owner slots) = subst (λ n. AllBelow number_of n (own_list owner slots)) next (kept.sound owner).below in
      record {
        rising = rising_more number_of (own_list owner slots) window (kept.sound owner).rising below;
        below = below_more number_of window.number (own_list owner slots) window below refl;
        parents = parents_more (own_list owner slots) window (kept.sound owner).parents older;
        few = omega (arith, few_more, few);
      }

  sound_of : (o : ℕ) → (o ≡ owner) ⊎ (o ≢ owner) → IsSound (own_of o (held_by new later))
  sound_of o (inl same) = subst (λ p. IsSound (own_of p (held_by new later))) (sym same) (subst IsSound (sym own_is) sound_own)
  sound_of o (inr differ) = subst IsSound (sym (others_are o differ)) (kept.sound o)

  counted_of : (o : ℕ) → (o ≡ owner) ⊎ (o ≢ owner) → count_of o later ≡ length (own_list o new)
  counted_of o (inl same) = subst (λ p. count_of p later ≡ length (own_list p new)) (sym same) (counts.count_is ∙ sym few_more ∙ ap length (sym own_more))
  counted_of o (inr differ) = counts.counts o differ ∙ kept.counted o ∙ ap length (sym (other_same o differ))

  -- ── the index ──
  still : (k : ℕ) (n : Node) → at slots k ≡ Some n → at new k ≡ Some n
  still k n held = rest k (λ same. none-some n (sym vacant ∙ sym (ap (at slots) same) ∙ held)) ∙ held

  found_old : (o n k : ℕ) → (o ≡ owner → n ≢ window.number) → key_at after o n ≡ Some k → HoldsNumber new o n k
  found_old o n k apart is =
      let h = kept.indexed.keys_found o n k (sym (adds.keys o n apart) ∙ is) in
      record { node = h.node; there = still k h.node h.there; its_owner = h.its_owner; its_number = h.its_number }

  found_by : (o n k : ℕ) → key_at after o n ≡ Some k → (o ≡ owner) ⊎ (o ≢ owner) → (n ≡ window.number) ⊎ (n ≢ window.number) → HoldsNumber new o n k
  found_by o n k is (inr differ) any = found_old o n k (λ same. absurd (differ same)) is
  found_by o n k is (inl same) (inr differ) = found_old o n k (λ _. differ) is
  found_by o n k is (inl same) (inl alike) =
      let here : key ≡ k = some_same key k (sym adds.key_is ∙ sym (ap (λ p. key_at after p window.number) same) ∙ sym (ap (λ m. key_at after o m) alike) ∙ is) in
      record { node = node; there = sym (ap (at new) here) ∙ there; its_owner = sym same; its_number = sym alike }

  all_by : (k : ℕ) (n : Node) → at new k ≡ Some n → (k ≡ key) ⊎ (k ≢ key) → key_at after n.owner n.window.number ≡ Some k
  all_by k n is (inl here) =
      let same : node ≡ n = some_same node n (sym there ∙ sym (ap (at new) here) ∙ is) in
      ap (λ m. key_at after m.owner m.window.number) (sym same) ∙ adds.key_is ∙ ap (λ j. Some j) (sym here)
  all_by k n is (inr differ) =
      let old = kept.indexed.keys_all k n (sym (rest k differ) ∙ is) in
      adds.keys n.owner n.window.number (λ same alike. none-some k (sym no_key ∙ sym (ap (λ p. key_at index p window.number) same) ∙ sym (ap (λ m. key_at index n.owner m) alike) ∙ old)) ∙ old

  path_old : (o : ℕ) (p : List ℕ) (n : ℕ) → (o ≡ owner → p ≢ window.path) → number_at after o p ≡ Some n → HoldsPath new o p n
  path_old o p n apart is =
      let h = kept.indexed.numbers_found o p n (sym (adds.numbers o p apart) ∙ is) in
      record { key = h.key; node = h.node; there = still h.key h.node h.there; its_owner = h.its_owner; its_path = h.its_path; its_number = h.its_number }

  path_by : (o : ℕ) (p : List ℕ) (n : ℕ) → number_at after o p ≡ Some n → (o ≡ owner) ⊎ (o ≢ owner) → (p ≡ window.path) ⊎ (p ≢ window.path) → HoldsPath new o p n
  path_by o p n is (inr differ) any = path_old o p n (λ same. absurd (differ same)) is
  path_by o p n is (inl same) (inr differ) = path_old o p n (λ _. differ) is
  path_by o p n is (inl same) (inl alike) =
      let here : window.number ≡ n = some_same window.number n (sym adds.number_is ∙ sym (ap (λ q. number_at after q window.path) same) ∙ sym (ap (λ q. number_at after o q) alike) ∙ is) in
      record { key = key; node = node; there = there; its_owner = sym same; its_path = sym alike; its_number = here }

  numbers_by : (k : ℕ) (n : Node) → at new k ≡ Some n → (k ≡ key) ⊎ (k ≢ key) → number_at after n.owner n.window.path ≡ Some n.window.number
  numbers_by k n is (inl here) =
      let same : node ≡ n = some_same node n (sym there ∙ sym (ap (at new) here) ∙ is) in
      ap (λ m. number_at after m.owner m.window.path) (sym same) ∙ adds.number_is ∙ ap (λ m. Some m.window.number) same
  numbers_by k n is (inr differ) =
      let old = kept.indexed.numbers_all k n (sym (rest k differ) ∙ is) in
      adds.numbers n.owner n.window.path (λ same alike. none-some n.window.number (sym no_path ∙ sym (ap (λ q. number_at index q window.path) same) ∙ sym (ap (λ q. number_at index n.owner q) alike) ∙ old)) ∙ old

  -- ── the children ──
  children_by : (o n : ℕ) → (o ≡ owner) ⊎ (o ≢ owner) → children_at after o n ≡ child_numbers n (own_list o new)
  children_by o n (inl same) =
      subst (λ p. children_at after p n ≡ child_numbers n (own_list p new)) (sym same)
      (adds.children n ∙ ap (λ l. l ++ added_child window.parent window.number n) (kept.indexed.children_are owner n)
      ∙ ap (λ l. child_numbers n (own_list owner slots) ++ l) (sym (one_child n window))
      ∙ sym (children-append n (own_list owner slots) (window ∷ [])) ∙ ap (child_numbers n) (sym own_more))
  children_by o n (inr differ) = adds.other_children o n differ ∙ kept.indexed.children_are o n ∙ ap (child_numbers n) (sym (other_same o differ))

  pub added : Added after slots new counters later owner window
  added = record {
    kept = record {
      indexed = record {
        keys_found = λ o n k is. found_by o n k is (cases_eq o owner) (cases_eq n window.number);
        keys_all = λ k n is. all_by k n is (cases_eq k key);
        numbers_found = λ o p n is. path_by o p n is (cases_eq o owner) (cases_text p window.path);
        numbers_all = λ k n is. numbers_by k n is (cases_eq k key);
        children_are = λ o n. children_by o n (cases_eq o owner);
      };
      sound = λ o. sound_of o (cases_eq o owner);
      counted = λ o. counted_of o (cases_eq o owner);
    };
    own = own_is;
    others = others_are;
  }

-- ── the index with a window more that is taken out again ──
pub restored : (index with_one after : PathIndex) (owner : ℕ) (path : List ℕ) (number key : ℕ) (parent : Option ℕ) (ws : List Window) → Adds index with_one owner path number key parent → Removes with_one after owner path number parent → ((n : ℕ) → children_at index owner n ≡ child_numbers n ws) → Differ number ws → child_numbers number ws ≡ [] → key_at index owner number ≡ None → number_at index owner path ≡ None → SameIndex index after
restored index with_one after owner path number key parent ws adds removes were apart_all none no_key no_path = record {
  keys = λ o n. keys_by o n (cases_eq o owner) (cases_eq n number);
  numbers = λ o p. numbers_by o p (cases_eq o owner) (cases_text p path);
  children = λ o n. children_by o n (cases_eq o owner) (cases_eq n number);
}
  where
    keys_old : (o n : ℕ) → (o ≡ owner → n ≢ number) → key_at after o n ≡ key_at index o n
    keys_old o n apart = removes.keys o n apart ∙ adds.keys o n apart

    keys_by : (o n : ℕ) → (o ≡ owner) ⊎ (o ≢ owner) → (n ≡ number) ⊎ (n ≢ number) → key_at after o n ≡ key_at index o n
    keys_by o n (inr differ) any = keys_old o n (λ same. absurd (differ same))
    keys_by o n (inl same) (inr differ) = keys_old o n (λ _. differ)
    keys_by o n (inl same) (inl alike) = ap (λ p. key_at after p n) same ∙ ap (key_at after owner) alike ∙ removes.key_is ∙ sym no_key ∙ sym (ap (key_at index owner) alike) ∙ sym (ap (λ p. key_at index p n) same)

    numbers_old : (o : ℕ) (p : List ℕ) → (o ≡ owner → p ≢ path) → number_at after o p ≡ number_at index o p
    numbers_old o p apart = removes.numbers o p apart ∙ adds.numbers o p apart

    numbers_by : (o : ℕ) (p : List ℕ) → (o ≡ owner) ⊎ (o ≢ owner) → (p ≡ path) ⊎ (p ≢ path) → number_at after o p ≡ number_at index o p
    numbers_by o p (inr differ) any = numbers_old o p (λ same. absurd (differ same))
    numbers_by o p (inl same) (inr differ) = numbers_old o p (λ _. differ)
    numbers_by o p (inl same) (inl alike) = ap (λ q. number_at after q p) same ∙ ap (number_at after owner) alike ∙ removes.number_is ∙ sym no_path ∙ sym (ap (number_at index owner) alike) ∙ sym (ap (λ q. number_at index q p) same)

    children_by : (o n : ℕ) → (o ≡ owner) ⊎ (o ≢ owner) → (n ≡ number) ⊎ (n ≢ number) → children_at after o n ≡ children_at index o n
    children_by o n (inr differ) any = removes.other_children o n differ ∙ adds.other_children o n differ
    children_by o n (inl same) (inl alike) =
        ap (λ p. children_at after p n) same ∙ ap (children_at after owner) alike ∙ removes.none_below ∙ sym none ∙ sym (were number) ∙ sym (ap (children_at index owner) alike) ∙ sym (ap (λ p. children_at index p n) same)
    children_by o n (inl same) (inr apart) =
        ap (λ p. children_at after p n) same ∙ removes.children n apart ∙ ap (left_children parent number n) (adds.children n ∙ ap (λ l. l ++ added_child parent number n) (were n))
        ∙ left_new n parent number ws apart_all ∙ sym (were n) ∙ sym (ap (λ p. children_at index p n) same)

pub same_kept : (index after : PathIndex) (slots : Slots) (counters : List (ℕ × Counter)) → SameIndex index after → IsKept index slots counters → IsKept after slots counters
same_kept index after slots counters same kept = record {
  indexed = record {
    keys_found = λ o n k is. kept.indexed.keys_found o n k (sym (same.keys o n) ∙ is);
    keys_all = λ k n is. same.keys n.owner n.window.number ∙ kept.indexed.keys_all k n is;
    numbers_found = λ o p n is. kept.indexed.numbers_found o p n (sym (same.numbers o p) ∙ is);
    numbers_all = λ k n is. same.numbers n.owner n.window.path ∙ kept.indexed.numbers_all k n is;
    children_are = λ o n. same.children o n ∙ kept.indexed.children_are o n;
  };
  sound = kept.sound;
  counted = kept.counted;
}

left_false : (a b : Bool) → (a || b) ≡ false → a ≡ false
left_false true b is = is
left_false false b is = refl

-- ── what `insert` did, as its calls say it ──
pub record Inserted (after : PathIndex) (slots new : Slots) (counters later : List (ℕ × Counter)) (owner : ℕ) (path : List ℕ) (kind : Kind) (parent : Option ℕ) : Type 0 where
  pub kept : IsKept after new later
  pub own : own_of owner (held_by new later) ≡ with_window path kind parent (own_of owner (held_by slots counters))
  pub others : LeavesOthers owner (held_by slots counters) (held_by new later)

inserted_own : (slots new : Slots) (counters later : List (ℕ × Counter)) (owner number : ℕ) (path : List ℕ) (kind : Kind) (parent : Option ℕ)
    → own_of owner (held_by new later) ≡ record { next_number = number + 1; windows = own_list owner slots ++ new_window number path kind parent ∷ [] } → number ≡ next_of owner counters
    → own_of owner (held_by new later) ≡ with_window path kind parent (own_of owner (held_by slots counters))
inserted_own slots new counters later owner number path kind parent own next =
    own
    ∙ own_same (number + 1) (next_of owner counters + 1) (own_list owner slots ++ new_window number path kind parent ∷ []) (own_list owner slots ++ new_window (next_of owner counters) path kind parent ∷ []) (ap (λ n. n + 1) next)
    (ap (λ n. own_list owner slots ++ new_window n path kind parent ∷ []) next)

pub inserted : (index after : PathIndex) (slots reserved new : Slots) (counters later : List (ℕ × Counter)) (owner key vacant_key new_key number count : ℕ) (path name : List ℕ) (kind : Kind) (parent : Option ℕ) (window : Window)
    → IsKept index slots counters → reserved ≡ slots → Adds index after owner name number key parent → name ≡ path → window ≡ new_window number path kind parent
    → key ≡ vacant_key → new_key ≡ vacant_key → at reserved key ≡ None → at new new_key ≡ Some (record { owner = owner; window = window }) → ((other : ℕ) → other ≢ new_key → at new other ≡ at reserved other)
    → Counts owner (record { next = number + 1; count = count + 1 }) counters later → number ≡ next_of owner counters → count ≡ count_of owner counters
    → is_full (own_of owner (held_by slots counters)) ≡ false → HasOlderParent (new_window (next_of owner counters) path kind parent) → at_path path (own_of owner (held_by slots counters)) ≡ None
    → Inserted after slots new counters later owner path kind parent
inserted index after slots reserved new counters later owner key vacant_key new_key number count path name kind parent window kept room adds name_is window_is key_is new_key_is vacant there rest counts next counted room_left older no_path =
    let keys : new_key ≡ key = new_key_is ∙ sym key_is in
    let adds_path : Adds index after owner path number key parent = subst (λ p. Adds index after owner p number key parent) name_is adds in
    let few : length (own_list owner slots) < 512 = leb-false 512 (length (own_list owner slots)) (left_false (nat_le 512 (length (own_list owner slots))) (next_of owner counters == 18446744073709551615) room_left) in
    let done =
    added index after slots new counters later owner key count (new_window number path kind parent) kept adds_path
    (sym (ap (λ s. at s key) room) ∙ vacant)
    (sym (ap (at new) keys) ∙ there ∙ ap (λ w. Some (record { owner = owner; window = w })) window_is)
    (λ other differ. rest other (λ same. differ (same ∙ keys)) ∙ ap (λ s. at s other) room)
    counts
    (sym next)
    (sym counted)
    (omega (arith, few, counted, kept.counted owner))
    (subst (λ n. HasOlderParent (new_window n path kind parent)) (sym next) older)
    (next_unused index slots counters kept owner number next)
    (number_is index slots counters kept owner path ∙ ap (option_map number_of) no_path)
    in record { kept = done.kept; own = inserted_own slots new counters later owner number path kind parent done.own next; others = done.others }

-- the index after a window was put in and taken out again
pub undone : (index with_one after : PathIndex) (slots reserved : Slots) (counters later : List (ℕ × Counter)) (owner key number : ℕ) (path name again : List ℕ) (parent : Option ℕ)
    → IsKept index slots counters → reserved ≡ slots → later ≡ counters → Adds index with_one owner name number key parent → name ≡ path → Removes with_one after owner again number parent → again ≡ path
    → number ≡ next_of owner counters → at_path path (own_of owner (held_by slots counters)) ≡ None → IsKept after reserved later
undone index with_one after slots reserved counters later owner key number path name again parent kept room same_counters adds name_is removes again_is next no_path =
    let adds_path : Adds index with_one owner path number key parent = subst (λ p. Adds index with_one owner p number key parent) name_is adds in
    let removes_path : Removes with_one after owner path number parent = subst (λ p. Removes with_one after owner p number parent) again_is removes in
    let below : AllBelow number_of number (own_list owner slots) = subst (λ m. AllBelow number_of m (own_list owner slots)) (sym next) (kept.sound owner).below in
    let same = restored index with_one after owner path number key parent (own_list owner slots) adds_path removes_path (kept.indexed.children_are owner) (differ_below number (own_list owner slots) below) (no_children number (own_list owner slots) (kept.sound owner).parents below) (next_unused index slots counters kept owner number next) (number_is index slots counters kept owner path ∙ ap (option_map number_of) no_path) in
    subst (λ s. IsKept after s later) (sym room) (subst (λ e. IsKept after slots e) (sym same_counters) (same_kept index after slots counters same kept))
