-- What holds of the arena, its index and the counters holds with a window changed, or gone.
use Rattle.std.proofs.Common.{◌≡◌, ◌≢◌, ◌⊎◌, inl, inr, ℕ, ◌+◌, ◌-◌, ◌<◌, List, [], ◌∷◌, ◌++◌, length, MatchOption, Some, None, refl, sym, ap, ◌∙◌, subst, arith}
use Rattle.std.specs.Prelude.{slice_set}
use Rattle.std.proofs.lemmas.Option.{none-some}
use Rattle.std.proofs.lemmas.Bool.{cases_eq}
use Rattle.tk_base.specs.Bag.{listed}
use Rattle.tk_base.specs.Numbered.{changed_at, without, IsRising}
use Rattle.tk_base.proofs.Owners.{own_stands, listed_changed, listed_gone, listed_other}
use Rattle.tk_base.specs.declared.counter.Counter.{Counter}
use Rattle.tk_tree.specs.declared.index.PathIndex.{PathIndex}
use Rattle.tk_tree.specs.declared.window.Window.{Window}
use Rattle.tk_tree.specs.declared.windows.Node.{Node}
use Rattle.tk_tree.specs.Arena.{at, item_of, held_by, IsKept, HoldsPath}
use Rattle.tk_tree.specs.Changing.{changed as change_of}
use Rattle.tk_tree.specs.declared.change.WindowChange.{WindowChange}
use Rattle.tk_tree.specs.declared.change.WindowChange.TheVariants.{Dying, Tags, Place}
use Rattle.tk_tree.specs.Index.{key_at, number_at, children_at, left_children, Removes}
use Rattle.tk_tree.specs.Own.{Tree, HasOlderParent, HaveOlderParents, IsSound, with_change, without_window, child_numbers}
use Rattle.tk_tree.specs.Shared.{own_of, LeavesOthers}
use Rattle.tk_tree.specs.Window.{number_of}
use Rattle.tk_tree.proofs.Added.{own_same, cases_text}
use Rattle.tk_tree.proofs.Children.{differ_front, differ_back, children-append, children_with, children_swap, children_less, still_none}
use Rattle.tk_tree.proofs.Lists.{some_same, rising_less, below_less, rising_swap, below_swap, length_less, length_swap, parents_less, parents_swap, parent_at}
use Rattle.tk_tree.proofs.Slots.{Slots, own_list, opens, set_here, set_there}
use Rattle.tk_base.specs.Counters.{next_of, count_of, Counts}

-- ── a change ──

-- at a place stands what has the owner, the path and the number of another
record Stands (slots : Slots) (k : ℕ) (other : Node) : Type 0 where
  node : Node
  there : at slots k ≡ Some node
  its_owner : node.owner ≡ other.owner
  its_path : node.window.path ≡ other.window.path
  its_number : node.window.number ≡ other.window.number

pub record Changed (index : PathIndex) (old new : Slots) (counters : List (ℕ × Counter)) (owner number : ℕ) (change : Window → Window) : Type 0 where
  pub kept : IsKept index new counters
  pub own : own_of owner (held_by new counters) ≡ with_change number change (own_of owner (held_by old counters))
  pub others : LeavesOthers owner (held_by old counters) (held_by new counters)

module _ (index : PathIndex) (slots : Slots) (counters : List (ℕ × Counter)) (key : ℕ) (node : Node) (change : Window → Window)
    (kept : IsKept index slots counters)
    (there : at slots key ≡ Some node)
    (same_number : (change node.window).number ≡ node.window.number)
    (same_path : (change node.window).path ≡ node.window.path)
    (same_parent : (change node.window).parent ≡ node.window.parent) where
  abbrev other_node : Node
  other_node = record { owner = node.owner; window = change node.window }

  abbrev written : Slots
  written = slice_set slots key (Some other_node)

  change_own : own_list node.owner written ≡ changed_at number_of node.window.number change (own_list node.owner slots)
  change_own =
      let o = opens slots key node there in
      let was : own_list node.owner slots ≡ listed number_of node.owner (o.front ++ item_of node ∷ o.back) = ap (listed number_of node.owner) o.was in
      ap (listed number_of node.owner) (o.changed other_node)
      ∙ listed_changed number_of node.owner node.window change o.front o.back same_number (subst (IsRising number_of) was (kept.sound node.owner).rising)
      ∙ ap (changed_at number_of node.window.number change) (sym was)

  change_other : (other : ℕ) → other ≢ node.owner → own_list other written ≡ own_list other slots
  change_other other differ =
      let o = opens slots key node there in
      ap (listed number_of other) (o.changed other_node) ∙ listed_other number_of node.owner other (change node.window) o.front o.back differ
      ∙ sym (listed_other number_of node.owner other node.window o.front o.back differ) ∙ sym (ap (listed number_of other) o.was)

  change_others : LeavesOthers node.owner (held_by slots counters) (held_by written counters)
  change_others other differ = own_same (next_of other counters) (next_of other counters) (own_list other written) (own_list other slots) refl (change_other other differ)

  change_sound_own : IsSound (own_of node.owner (held_by written counters))
  change_sound_own =
      let o = opens slots key node there in
      let s = own_stands number_of node.owner node.window.number o.front o.back in
      let was : own_list node.owner slots ≡ s.front ++ node.window ∷ s.back = ap (listed number_of node.owner) o.was ∙ s.whole_is node.window refl in
      let is : own_list node.owner written ≡ s.front ++ change node.window ∷ s.back = ap (listed number_of node.owner) (o.changed other_node) ∙ s.whole_is (change node.window) same_number in
      let sound = kept.sound node.owner in
      let parents : HaveOlderParents (s.front ++ node.window ∷ s.back) = subst HaveOlderParents was sound.parents in
      let older : HasOlderParent (change node.window) =
      subst (λ n. MatchOption (change node.window).parent (Unit {0}) (λ p. p < n)) (sym same_number)
      (subst (λ q. MatchOption q (Unit {0}) (λ p. p < node.window.number)) (sym same_parent) (parent_at s.front node.window s.back parents)) in
      record {
        rising = subst (IsRising number_of) (sym is) (rising_swap number_of s.front node.window (change node.window) s.back same_number (subst (IsRising number_of) was sound.rising));
        below = rw is (below_swap number_of (next_of node.owner counters) s.front node.window (change node.window) s.back same_number (rw was at sound.below));
        parents = subst HaveOlderParents (sym is) (parents_swap s.front node.window (change node.window) s.back older parents);
        few = omega (arith, ap length is, ap length was, length_swap s.front node.window (change node.window) s.back, sound.few);
      }

  change_length : length (own_list node.owner written) ≡ length (own_list node.owner slots)
  change_length =
      let o = opens slots key node there in
      let s = own_stands number_of node.owner node.window.number o.front o.back in
      let was : own_list node.owner slots ≡ s.front ++ node.window ∷ s.back = ap (listed number_of node.owner) o.was ∙ s.whole_is node.window refl in
      let is : own_list node.owner written ≡ s.front ++ change node.window ∷ s.back = ap (listed number_of node.owner) (o.changed other_node) ∙ s.whole_is (change node.window) same_number in
      ap length is ∙ length_swap s.front node.window (change node.window) s.back ∙ ap length (sym was)

  change_sound : (o : ℕ) → (o ≡ node.owner) ⊎ (o ≢ node.owner) → IsSound (own_of o (held_by written counters))
  change_sound o (inl same) = subst (λ p. IsSound (own_of p (held_by written counters))) (sym same) change_sound_own
  change_sound o (inr differ) = subst IsSound (sym (change_others o differ)) (kept.sound o)

  change_counted : (o : ℕ) → (o ≡ node.owner) ⊎ (o ≢ node.owner) → count_of o counters ≡ length (own_list o written)
  change_counted o (inl same) = subst (λ p. count_of p counters ≡ length (own_list p written)) (sym same) (kept.counted node.owner ∙ sym change_length)
  change_counted o (inr differ) = kept.counted o ∙ ap length (sym (change_other o differ))

  change_children : (o n : ℕ) → (o ≡ node.owner) ⊎ (o ≢ node.owner) → children_at index o n ≡ child_numbers n (own_list o written)
  change_children o n (inl same) =
      let o_at = opens slots key node there in
      let s = own_stands number_of node.owner node.window.number o_at.front o_at.back in
      let was : own_list node.owner slots ≡ s.front ++ node.window ∷ s.back = ap (listed number_of node.owner) o_at.was ∙ s.whole_is node.window refl in
      let is : own_list node.owner written ≡ s.front ++ change node.window ∷ s.back = ap (listed number_of node.owner) (o_at.changed other_node) ∙ s.whole_is (change node.window) same_number in
      subst (λ p. children_at index p n ≡ child_numbers n (own_list p written)) (sym same)
      (kept.indexed.children_are node.owner n ∙ ap (child_numbers n) was ∙ sym (children_swap n s.front node.window (change node.window) s.back same_parent same_number) ∙ ap (child_numbers n) (sym is))
  change_children o n (inr differ) = kept.indexed.children_are o n ∙ ap (child_numbers n) (sym (change_other o differ))

  -- what is at a place before the change has the owner, the path and the number of what is there behind it
  alike : (k : ℕ) (n : Node) → at written k ≡ Some n → (k ≡ key) ⊎ (k ≢ key) → Stands slots k n
  alike k n is (inl here) =
      let same : other_node ≡ n = some_same other_node n (sym (set_here slots key node (Some other_node) there) ∙ sym (ap (at written) here) ∙ is) in
      record {
        node = node;
        there = ap (at slots) here ∙ there;
        its_owner = ap (λ m. m.owner) same;
        its_path = sym same_path ∙ ap (λ m. m.window.path) same;
        its_number = sym same_number ∙ ap (λ m. m.window.number) same;
      }
  alike k n is (inr differ) = record { node = n; there = sym (set_there slots key k (Some other_node) differ) ∙ is; its_owner = refl; its_path = refl; its_number = refl }

  -- and the other way round
  afterwards : (k : ℕ) (n : Node) → at slots k ≡ Some n → (k ≡ key) ⊎ (k ≢ key) → Stands written k n
  afterwards k n is (inl here) =
      let same : node ≡ n = some_same node n (sym there ∙ sym (ap (at slots) here) ∙ is) in
      record {
        node = other_node;
        there = ap (at written) here ∙ set_here slots key node (Some other_node) there;
        its_owner = ap (λ m. m.owner) same;
        its_path = same_path ∙ ap (λ m. m.window.path) same;
        its_number = same_number ∙ ap (λ m. m.window.number) same;
      }
  afterwards k n is (inr differ) = record { node = n; there = set_there slots key k (Some other_node) differ ∙ is; its_owner = refl; its_path = refl; its_number = refl }

  pub changed : Changed index slots written counters node.owner node.window.number change
  changed = record {
    kept = record {
      indexed = record {
        keys_found = λ o n k is.
            let h = kept.indexed.keys_found o n k is in
            let a = afterwards k h.node h.there (cases_eq k key) in
            record { node = a.node; there = a.there; its_owner = a.its_owner ∙ h.its_owner; its_number = a.its_number ∙ h.its_number };
        keys_all = λ k n is.
            let a = alike k n is (cases_eq k key) in
            sym (ap (λ o. key_at index o n.window.number) a.its_owner) ∙ sym (ap (key_at index a.node.owner) a.its_number) ∙ kept.indexed.keys_all k a.node a.there;
        numbers_found = λ o p n is.
            let h = kept.indexed.numbers_found o p n is in
            let a = afterwards h.key h.node h.there (cases_eq h.key key) in
            record { key = h.key; node = a.node; there = a.there; its_owner = a.its_owner ∙ h.its_owner; its_path = a.its_path ∙ h.its_path; its_number = a.its_number ∙ h.its_number };
        numbers_all = λ k n is.
            let a = alike k n is (cases_eq k key) in
            sym (ap (λ o. number_at index o n.window.path) a.its_owner) ∙ sym (ap (number_at index a.node.owner) a.its_path) ∙ kept.indexed.numbers_all k a.node a.there ∙ ap (λ m. Some m) a.its_number;
        children_are = λ o n. change_children o n (cases_eq o node.owner);
      };
      sound = λ o. change_sound o (cases_eq o node.owner);
      counted = λ o. change_counted o (cases_eq o node.owner);
    };
    own = own_same (next_of node.owner counters) (next_of node.owner counters) (own_list node.owner written) (changed_at number_of node.window.number change (own_list node.owner slots)) refl change_own;
    others = change_others;
  }

-- ── a removal ──
pub record Removed (after : PathIndex) (old new : Slots) (counters later : List (ℕ × Counter)) (owner number : ℕ) : Type 0 where
  pub kept : IsKept after new later
  pub own : own_of owner (held_by new later) ≡ without_window number (own_of owner (held_by old counters))
  pub others : LeavesOthers owner (held_by old counters) (held_by new later)

module _ (index after : PathIndex) (slots : Slots) (counters later : List (ℕ × Counter)) (key : ℕ) (node : Node)
    (kept : IsKept index slots counters)
    (there : at slots key ≡ Some node)
    (removes : Removes index after node.owner node.window.path node.window.number node.window.parent)
    (leaf : child_numbers node.window.number (own_list node.owner slots) ≡ [])
    (counts : Counts node.owner (record { next = next_of node.owner counters; count = count_of node.owner counters - 1 }) counters later) where
  abbrev emptied : Slots
  emptied = slice_set slots key None

  gone_own : own_list node.owner emptied ≡ without number_of node.window.number (own_list node.owner slots)
  gone_own =
      let o = opens slots key node there in
      let was : own_list node.owner slots ≡ listed number_of node.owner (o.front ++ item_of node ∷ o.back) = ap (listed number_of node.owner) o.was in
      ap (listed number_of node.owner) o.gone
      ∙ listed_gone number_of node.owner node.window o.front o.back (subst (IsRising number_of) was (kept.sound node.owner).rising)
      ∙ ap (without number_of node.window.number) (sym was)

  gone_other : (other : ℕ) → other ≢ node.owner → own_list other emptied ≡ own_list other slots
  gone_other other differ =
      let o = opens slots key node there in
      ap (listed number_of other) o.gone ∙ sym (listed_other number_of node.owner other node.window o.front o.back differ) ∙ sym (ap (listed number_of other) o.was)

  gone_others : LeavesOthers node.owner (held_by slots counters) (held_by emptied later)
  gone_others other differ = own_same (next_of other later) (next_of other counters) (own_list other emptied) (own_list other slots) (counts.nexts other differ) (gone_other other differ)

  gone_own_is : own_of node.owner (held_by emptied later) ≡ without_window node.window.number (own_of node.owner (held_by slots counters))
  gone_own_is = own_same (next_of node.owner later) (next_of node.owner counters) (own_list node.owner emptied) (without number_of node.window.number (own_list node.owner slots)) counts.next_is gone_own

  gone_sound_own : IsSound (own_of node.owner (held_by emptied later))
  gone_sound_own =
      let o = opens slots key node there in
      let s = own_stands number_of node.owner node.window.number o.front o.back in
      let was : own_list node.owner slots ≡ s.front ++ node.window ∷ s.back = ap (listed number_of node.owner) o.was ∙ s.whole_is node.window refl in
      let is : own_list node.owner emptied ≡ s.front ++ s.back = ap (listed number_of node.owner) o.gone ∙ s.rest_is in
      let sound = kept.sound node.owner in
      record {
        rising = subst (IsRising number_of) (sym is) (rising_less number_of s.front node.window s.back (subst (IsRising number_of) was sound.rising));
        below = rw (counts.next_is, is) (below_less number_of (next_of node.owner counters) s.front node.window s.back (rw was at sound.below));
        parents = subst HaveOlderParents (sym is) (parents_less s.front node.window s.back (subst HaveOlderParents was sound.parents));
        few = omega (arith, ap length is, ap length was, length_less s.front node.window s.back, sound.few);
      }

  gone_length : length (own_list node.owner slots) ≡ length (own_list node.owner emptied) + 1
  gone_length =
      let o = opens slots key node there in
      let s = own_stands number_of node.owner node.window.number o.front o.back in
      let was : own_list node.owner slots ≡ s.front ++ node.window ∷ s.back = ap (listed number_of node.owner) o.was ∙ s.whole_is node.window refl in
      let is : own_list node.owner emptied ≡ s.front ++ s.back = ap (listed number_of node.owner) o.gone ∙ s.rest_is in
      ap length was ∙ length_less s.front node.window s.back ∙ ap (λ l. l + 1) (ap length (sym is))

  gone_sound : (o : ℕ) → (o ≡ node.owner) ⊎ (o ≢ node.owner) → IsSound (own_of o (held_by emptied later))
  gone_sound o (inl same) = subst (λ p. IsSound (own_of p (held_by emptied later))) (sym same) gone_sound_own
  gone_sound o (inr differ) = subst IsSound (sym (gone_others o differ)) (kept.sound o)

  gone_counted_own : count_of node.owner later ≡ length (own_list node.owner emptied)
  gone_counted_own = omega (arith, counts.count_is, kept.counted node.owner, gone_length)

  gone_counted : (o : ℕ) → (o ≡ node.owner) ⊎ (o ≢ node.owner) → count_of o later ≡ length (own_list o emptied)
  gone_counted o (inl same) = subst (λ p. count_of p later ≡ length (own_list p emptied)) (sym same) gone_counted_own
  gone_counted o (inr differ) = counts.counts o differ ∙ kept.counted o ∙ ap length (sym (gone_other o differ))

  -- ── the children ──
  gone_children_own : (n : ℕ) → (n ≡ node.window.number) ⊎ (n ≢ node.window.number) → children_at after node.owner n ≡ child_numbers n (own_list node.owner emptied)
  gone_children_own n which =
      let o = opens slots key node there in
      let s = own_stands number_of node.owner node.window.number o.front o.back in
      let was : own_list node.owner slots ≡ s.front ++ node.window ∷ s.back = ap (listed number_of node.owner) o.was ∙ s.whole_is node.window refl in
      let is : own_list node.owner emptied ≡ s.front ++ s.back = ap (listed number_of node.owner) o.gone ∙ s.rest_is in
      let rising : IsRising number_of (s.front ++ node.window ∷ s.back) = subst (IsRising number_of) was (kept.sound node.owner).rising in
      by which s.front s.back was is rising
    where
      by : (n ≡ node.window.number) ⊎ (n ≢ node.window.number) → (front back : List Window) → own_list node.owner slots ≡ front ++ node.window ∷ back → own_list node.owner emptied ≡ front ++ back → IsRising number_of (front ++ node.window ∷ back)
          → children_at after node.owner n ≡ child_numbers n (own_list node.owner emptied)
      by (inl alike) front back was is rising =
          subst (λ m. children_at after node.owner m ≡ child_numbers m (own_list node.owner emptied)) (sym alike)
          (removes.none_below ∙ sym (still_none node.window.number front node.window back (sym (ap (child_numbers node.window.number) was) ∙ leaf)) ∙ ap (child_numbers node.window.number) (sym is))
      by (inr apart) front back was is rising =
          removes.children n apart ∙ ap (left_children node.window.parent node.window.number n) (kept.indexed.children_are node.owner n ∙ ap (child_numbers n) was ∙ children_with n front node.window back)
          ∙ children_less n node.window.parent node.window.number front back (differ_front front node.window back rising) (differ_back front node.window back rising) ∙ sym (children-append n front back) ∙ ap (child_numbers n) (sym is)

  gone_children : (o n : ℕ) → (o ≡ node.owner) ⊎ (o ≢ node.owner) → children_at after o n ≡ child_numbers n (own_list o emptied)
  gone_children o n (inl same) = subst (λ p. children_at after p n ≡ child_numbers n (own_list p emptied)) (sym same) (gone_children_own n (cases_eq n node.window.number))
  gone_children o n (inr differ) = removes.other_children o n differ ∙ kept.indexed.children_are o n ∙ ap (child_numbers n) (sym (gone_other o differ))

  -- ── the index ──
  key_elsewhere : (k : ℕ) (n : Node) → at emptied k ≡ Some n → k ≢ key
  key_elsewhere k n is same = none-some n (sym (set_here slots key node None there) ∙ sym (ap (at emptied) same) ∙ is)

  was_there : (k : ℕ) (n : Node) → at emptied k ≡ Some n → at slots k ≡ Some n
  was_there k n is = sym (set_there slots key k None (key_elsewhere k n is)) ∙ is

  -- a window that is still there has another number, and another path
  number_apart : (k : ℕ) (n : Node) → at emptied k ≡ Some n → n.owner ≡ node.owner → n.window.number ≢ node.window.number
  number_apart k n is same alike =
      key_elsewhere k n is (some_same k key (sym (kept.indexed.keys_all k n (was_there k n is)) ∙ ap (λ o. key_at index o n.window.number) same ∙ ap (key_at index node.owner) alike ∙ kept.indexed.keys_all key node there))

  path_apart : (k : ℕ) (n : Node) → at emptied k ≡ Some n → n.owner ≡ node.owner → n.window.path ≢ node.window.path
  path_apart k n is same alike =
      number_apart k n is same (some_same n.window.number node.window.number (sym (kept.indexed.numbers_all k n (was_there k n is)) ∙ ap (λ o. number_at index o n.window.path) same ∙ ap (number_at index node.owner) alike ∙ kept.indexed.numbers_all key node there))

  gone_keys : (o n k : ℕ) → key_at after o n ≡ Some k → (o ≡ node.owner) ⊎ (o ≢ node.owner) → (n ≡ node.window.number) ⊎ (n ≢ node.window.number) → key_at index o n ≡ Some k
  gone_keys o n k is (inr differ) any = sym (removes.keys o n (λ same. absurd (differ same))) ∙ is
  gone_keys o n k is (inl same) (inr differ) = sym (removes.keys o n (λ _. differ)) ∙ is
  gone_keys o n k is (inl same) (inl alike) = absurd (none-some k (sym removes.key_is ∙ sym (ap (key_at after node.owner) alike) ∙ sym (ap (λ p. key_at after p n) same) ∙ is))

  gone_key_apart : (o n k : ℕ) → key_at after o n ≡ Some k → key_at index o n ≡ Some k → k ≢ key
  gone_key_apart o n k is was same =
      let h = kept.indexed.keys_found o n k was in
      let here : h.node ≡ node = some_same h.node node (sym h.there ∙ ap (at slots) same ∙ there) in
      none-some k (sym removes.key_is ∙ ap (λ m. key_at after m.owner m.window.number) (sym here) ∙ ap (λ p. key_at after p h.node.window.number) h.its_owner ∙ ap (key_at after o) h.its_number ∙ is)

  gone_numbers : (o : ℕ) (p : List ℕ) (n : ℕ) → number_at after o p ≡ Some n → (o ≡ node.owner) ⊎ (o ≢ node.owner) → (p ≡ node.window.path) ⊎ (p ≢ node.window.path) → number_at index o p ≡ Some n
  gone_numbers o p n is (inr differ) any = sym (removes.numbers o p (λ same. absurd (differ same))) ∙ is
  gone_numbers o p n is (inl same) (inr differ) = sym (removes.numbers o p (λ _. differ)) ∙ is
  gone_numbers o p n is (inl same) (inl alike) = absurd (none-some n (sym removes.number_is ∙ sym (ap (number_at after node.owner) alike) ∙ sym (ap (λ q. number_at after q p) same) ∙ is))

  gone_path_apart : (o : ℕ) (p : List ℕ) (n : ℕ) → number_at after o p ≡ Some n → (h : HoldsPath slots o p n) → h.key ≢ key
  gone_path_apart o p n is h same =
      let here : h.node ≡ node = some_same h.node node (sym h.there ∙ ap (at slots) same ∙ there) in
      none-some n (sym removes.number_is ∙ ap (λ m. number_at after m.owner m.window.path) (sym here) ∙ ap (λ q. number_at after q h.node.window.path) h.its_owner ∙ ap (number_at after o) h.its_path ∙ is)

  pub removed : Removed after slots emptied counters later node.owner node.window.number
  removed = record {
    kept = record {
      indexed = record {
        keys_found = λ o n k is.
            let was = gone_keys o n k is (cases_eq o node.owner) (cases_eq n node.window.number) in
            let h = kept.indexed.keys_found o n k was in
            record { node = h.node; there = set_there slots key k None (gone_key_apart o n k is was) ∙ h.there; its_owner = h.its_owner; its_number = h.its_number };
        keys_all = λ k n is. removes.keys n.owner n.window.number (number_apart k n is) ∙ kept.indexed.keys_all k n (was_there k n is);
        numbers_found = λ o p n is.
            let h = kept.indexed.numbers_found o p n (gone_numbers o p n is (cases_eq o node.owner) (cases_text p node.window.path)) in
            record { key = h.key; node = h.node; there = set_there slots key h.key None (gone_path_apart o p n is h) ∙ h.there; its_owner = h.its_owner; its_path = h.its_path; its_number = h.its_number };
        numbers_all = λ k n is. removes.numbers n.owner n.window.path (path_apart k n is) ∙ kept.indexed.numbers_all k n (was_there k n is);
        children_are = λ o n. gone_children o n (cases_eq o node.owner);
      };
      sound = λ o. gone_sound o (cases_eq o node.owner);
      counted = λ o. gone_counted o (cases_eq o node.owner);
    };
    own = gone_own_is;
    others = gone_others;
  }

pub own_windows : (own : Tree) (xs ys : List Window) → xs ≡ ys → ◌≡◌ {A = Tree} (record own { windows = xs }) (record own { windows = ys })
own_windows own xs ys same = ap (λ zs. record own { windows = zs }) same

-- ── what `change` and `remove` did, as their calls say it ──
pub made : (index : PathIndex) (slots : Slots) (counters : List (ℕ × Counter)) (owner number key : ℕ) (node : Node) (change : WindowChange) (window : Window)
    → IsKept index slots counters → key_at index owner number ≡ Some key → at slots key ≡ Some node → window ≡ change_of change node.window
    → Changed index slots (slice_set slots key (Some (record { owner = node.owner; window = window }))) counters owner number (change_of change)
made index slots counters owner number key node change window kept key_is there window_is =
    let h = kept.indexed.keys_found owner number key key_is in
    let same : h.node ≡ node = some_same h.node node (sym h.there ∙ there) in
    let its_owner : node.owner ≡ owner = ap (λ n. n.owner) (sym same) ∙ h.its_owner in
    let its_number : node.window.number ≡ number = ap (λ n. n.window.number) (sym same) ∙ h.its_number in
    let done = changed index slots counters key node (change_of change) kept there (keeps_number change node.window) (keeps_path change node.window) (keeps_parent change node.window) in
    subst (λ w. Changed index slots (slice_set slots key (Some (record { owner = node.owner; window = w }))) counters owner number (change_of change)) (sym window_is)
    (subst (λ o. Changed index slots (slice_set slots key (Some (record { owner = node.owner; window = change_of change node.window }))) counters o number (change_of change)) its_owner
    (subst (λ n. Changed index slots (slice_set slots key (Some (record { owner = node.owner; window = change_of change node.window }))) counters node.owner n (change_of change)) its_number done))
  where
    keeps_number : (c : WindowChange) (w : Window) → (change_of c w).number ≡ w.number
    keeps_number Dying w = refl
    keeps_number (Tags tags) w = refl
    keeps_number (Place place mapped) w = refl

    keeps_path : (c : WindowChange) (w : Window) → (change_of c w).path ≡ w.path
    keeps_path Dying w = refl
    keeps_path (Tags tags) w = refl
    keeps_path (Place place mapped) w = refl

    keeps_parent : (c : WindowChange) (w : Window) → (change_of c w).parent ≡ w.parent
    keeps_parent Dying w = refl
    keeps_parent (Tags tags) w = refl
    keeps_parent (Place place mapped) w = refl

pub gone : (index after : PathIndex) (slots new : Slots) (counters later : List (ℕ × Counter)) (owner number key : ℕ) (node : Node) (name : List ℕ)
    → IsKept index slots counters → key_at index owner number ≡ Some key → at slots key ≡ Some node → new ≡ slice_set slots key None → name ≡ node.window.path
    → Removes index after owner name number node.window.parent → child_numbers number (own_list owner slots) ≡ [] → Counts owner (record { next = next_of owner counters; count = count_of owner counters - 1 }) counters later
    → Removed after slots new counters later owner number
gone index after slots new counters later owner number key node name kept key_is there new_is name_is removes leaf counts =
    let h = kept.indexed.keys_found owner number key key_is in
    let same : h.node ≡ node = some_same h.node node (sym h.there ∙ there) in
    let its_owner : node.owner ≡ owner = ap (λ n. n.owner) (sym same) ∙ h.its_owner in
    let its_number : node.window.number ≡ number = ap (λ n. n.window.number) (sym same) ∙ h.its_number in
    let removes_name : Removes index after owner node.window.path number node.window.parent = subst (λ p. Removes index after owner p number node.window.parent) name_is removes in
    let removes_number : Removes index after owner node.window.path node.window.number node.window.parent = subst (λ n. Removes index after owner node.window.path n node.window.parent) (sym its_number) removes_name in
    let removes_node : Removes index after node.owner node.window.path node.window.number node.window.parent = subst (λ o. Removes index after o node.window.path node.window.number node.window.parent) (sym its_owner) removes_number in
    let counts_node : Counts node.owner (record { next = next_of node.owner counters; count = count_of node.owner counters - 1 }) counters later =
    subst (λ o. Counts o (record { next = next_of o counters; count = count_of o counters - 1 }) counters later) (sym its_owner) counts in
    let leaf_node : child_numbers node.window.number (own_list node.owner slots) ≡ [] = subst (λ o. child_numbers node.window.number (own_list o slots) ≡ []) (sym its_owner) (subst (λ n. child_numbers n (own_list owner slots) ≡ []) (sym its_number) leaf) in
    let done = removed index after slots counters later key node kept there removes_node leaf_node counts_node in
    subst (λ s. Removed after slots s counters later owner number) (sym new_is)
    (subst (λ o. Removed after slots (slice_set slots key None) counters later o number) its_owner
    (subst (λ n. Removed after slots (slice_set slots key None) counters later node.owner n) its_number done))
