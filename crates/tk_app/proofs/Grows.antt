-- How the windows of an application change: none comes back, none lives again, and none is made below one that is dying.
use Rattle.std.proofs.Common.{◌≡◌, ◌⊎◌, inl, inr, ℕ, ◌<◌, ◌≤◌, Bool, true, false, cond, List, [], ◌∷◌, Option, Some, None, refl, sym, ap, ◌∙◌, arith}
use Rattle.std.specs.Prelude.{◌==◌, not, map, nat_le, codes}
use Rattle.std.specs.Option.{option_map, option_and_then, option_or}
use Rattle.std.specs.Str.{bytes_eq}
use Rattle.std.proofs.lemmas.Bool.{eqb-true, leb-false, leb-true}
use Rattle.std.proofs.lemmas.List.Folds.{find-append}
use Rattle.tk_base.specs.Numbered.{numbered}
use Rattle.tk_base.specs.declared.kind.Kind.{Kind}
use Rattle.tk_tree.specs.Create.{below_refusal, child_refusal, parent_number, place_refusal, refusal, taken_refusal, with_window}
use Rattle.tk_tree.specs.declared.fault.WindowFault.TheVariants.{BadName, Dying}
use Rattle.tk_tree.specs.declared.window.Window.{Window}
use Rattle.tk_tree.specs.Own.{IsSound, Tree, at_path, window_at, with_change, without_window}
use Rattle.tk_tree.specs.Path.{begins_upper, parent_and_name}
use Rattle.tk_tree.specs.Window.{new_window, number_of}
use Rattle.tk_tree.proofs.Lists.{find_below, find_numbered, find_passes, some_same}
use Rattle.tk_app.proofs.Sound.{at, neither, others, passes_last, same_number, same_parent, sound_acts}
use Rattle.tk_app.proofs.Trees.{HoldsOfActs, HoldsOnScene, KeepsPlace, OnTrees, on_trees}

-- the window that it was
pub record Was (n : ℕ) (later : Window) (old : Tree) : Type 0 where
  pub before : Window
  pub there : window_at n old ≡ Some before
  pub parent : later.parent ≡ before.parent
  pub dying : before.dying ≡ true → later.dying ≡ true

pub record LivesIn (n : ℕ) (old : Tree) : Type 0 where
  pub window : Window
  pub there : window_at n old ≡ Some window
  pub lives : window.dying ≡ false

pub record Grows (old new : Tree) : Type 0 where
  pub numbers : old.next_number ≤ new.next_number
  pub kept : (n : ℕ) (window : Window) → window_at n new ≡ Some window → n < old.next_number → Was n window old
  -- a new window's parent is new too, or lived
  pub born : (n : ℕ) (window : Window) (parent : ℕ) → window_at n new ≡ Some window → old.next_number ≤ n → window.parent ≡ Some parent
      → (old.next_number ≤ parent) ⊎ LivesIn parent old

-- ── what is found ──

pub found_number : (n : ℕ) (tree : Tree) (window : Window) → window_at n tree ≡ Some window → window.number ≡ n
found_number n tree window is = eqb-true window.number n (find_passes (λ w. w.number == n) window tree.windows is)

pub found_given : (n : ℕ) (tree : Tree) (window : Window) → IsSound tree → window_at n tree ≡ Some window → n < tree.next_number
found_given n tree window sound is =
    let below : window.number < tree.next_number = find_below number_of tree.next_number (λ w. w.number == n) window tree.windows sound.below is in
    omega (arith, below, found_number n tree window is)

none_new : {X : Type 0} (n : ℕ) (tree : Tree) (window : Window) → IsSound tree → window_at n tree ≡ Some window → tree.next_number ≤ n → X
none_new n tree window sound is le = absurd (omega (arith, found_given n tree window sound is, le))

itself : (n : ℕ) (tree : Tree) (window : Window) → window_at n tree ≡ Some window → Was n window tree
itself n tree window is = record { before = window; there = is; parent = refl; dying = λ d. d }

-- ── one after another ──

once : (n : ℕ) (window : Window) (first mid : Tree) → Grows first mid → Was n window mid → n < first.next_number → Was n window first
once n window first mid one was lt =
    let before = one.kept n was.before was.there lt in
    record { before = before.before; there = before.there; parent = was.parent ∙ before.parent; dying = λ d. was.dying (before.dying d) }

lived : (n : ℕ) (first mid : Tree) → Grows first mid → LivesIn n mid → (first.next_number ≤ n) ⊎ LivesIn n first
lived n first mid one lives = by (nat_le first.next_number n) refl
  where
    was_living : (was : Was n lives.window first) → LivesIn n first
    was_living was = record { window = was.before; there = was.there; lives = by was.before.dying refl }
      where
        by : (b : Bool) → was.before.dying ≡ b → was.before.dying ≡ false
        by true dead = absurd (cc (sym lives.lives ∙ was.dying dead))
        by false alive = alive

    by : (b : Bool) → nat_le first.next_number n ≡ b → (first.next_number ≤ n) ⊎ LivesIn n first
    by true le = inl (leb-true first.next_number n le)
    by false lt = inr (was_living (one.kept n lives.window lives.there (leb-false first.next_number n lt)))

grow_after : (first mid last : Tree) → Grows first mid → Grows mid last → Grows first last
grow_after first mid last one other = record {
  numbers = omega (arith, one.numbers, other.numbers);
  kept = λ n window is lt. once n window first mid one (other.kept n window is (omega (arith, lt, one.numbers))) lt;
  born = λ n window parent is le its. by n window parent is le its (nat_le mid.next_number n) refl;
}
  where
    later : (parent : ℕ) → (mid.next_number ≤ parent) ⊎ LivesIn parent mid → (first.next_number ≤ parent) ⊎ LivesIn parent first
    later parent (inl le) = inl (omega (arith, le, one.numbers))
    later parent (inr lives) = lived parent first mid one lives

    earlier : (n : ℕ) (window : Window) (parent : ℕ) → first.next_number ≤ n → window.parent ≡ Some parent → Was n window mid → (first.next_number ≤ parent) ⊎ LivesIn parent first
    earlier n window parent le its was = one.born n was.before parent was.there le (sym was.parent ∙ its)

    by : (n : ℕ) (window : Window) (parent : ℕ) → window_at n last ≡ Some window → first.next_number ≤ n → window.parent ≡ Some parent → (b : Bool) → nat_le mid.next_number n ≡ b
        → (first.next_number ≤ parent) ⊎ LivesIn parent first
    by n window parent is le its true ge = later parent (other.born n window parent is (leb-true mid.next_number n ge) its)
    by n window parent is le its false lt = earlier n window parent le its (other.kept n window is (leb-false mid.next_number n lt))

-- ── a change ──

module _ (change : Window → Window) (keeps_place : KeepsPlace change) (m : ℕ) where
  record Came (n : ℕ) (later : Window) (windows : List Window) : Type 0 where
    before : Window
    there : numbered number_of n windows ≡ Some before
    is : at change keeps_place m before ≡ later

  changed_found : (n : ℕ) (windows : List Window) (later : Window) → numbered number_of n (map (at change keeps_place m) windows) ≡ Some later → Came n later windows
  changed_found n [] later is = absurd (cc)
  changed_found n (window ∷ windows) later is =
      by (window.number == n) refl (changed_found n windows later)
      (ap (λ k. cond (k == n) (Some (at change keeps_place m window)) (numbered number_of n (map (at change keeps_place m) windows))) (sym (same_number change keeps_place m window)) ∙ is)
    where
      by : (b : Bool) → (window.number == n) ≡ b → (numbered number_of n (map (at change keeps_place m) windows) ≡ Some later → Came n later windows)
          → cond (window.number == n) (Some (at change keeps_place m window)) (numbered number_of n (map (at change keeps_place m) windows)) ≡ Some later
          → Came n later (window ∷ windows)
      by true same rest found =
          record { before = window; there = rw same refl; is = some_same (at change keeps_place m window) later (rw same at found) }
      by false differs rest found =
          let came = rest (rw differs at found) in record { before = came.before; there = rw differs came.there; is = came.is }

  stays_dying : (window : Window) → window.dying ≡ true → (at change keeps_place m window).dying ≡ true
  stays_dying window dead = by (window.number == m)
    where
      by : (b : Bool) → (cond b (change window) window).dying ≡ true
      by true = keeps_place.dying window dead
      by false = dead

  grow_changed : (tree : Tree) → IsSound tree → Grows tree (with_change m change tree)
  grow_changed tree sound = record {
    numbers = omega arith;
    kept = λ n window is lt. (let came = changed_found n tree.windows window is in record {
      before = came.before;
      there = came.there;
      parent = ap (λ (w : Window). w.parent) (sym came.is) ∙ same_parent change keeps_place m came.before;
      dying = λ dead. ap (λ (w : Window). w.dying) (sym came.is) ∙ stays_dying came.before dead;
    });
    born = λ n window parent is le its. (let came = changed_found n tree.windows window is in none_new n tree came.before sound came.there le);
  }

-- ── a window less ──

pub none_left : (n : ℕ) (windows : List Window) → numbered number_of n (others n windows) ≡ None
none_left n [] = refl
none_left n (window ∷ windows) = by (window.number == n) refl (none_left n windows)
  where
    by : (b : Bool) → (window.number == n) ≡ b → numbered number_of n (others n windows) ≡ None
        → numbered number_of n (cond (not b) (window ∷ others n windows) (others n windows)) ≡ None
    by true same rest = rest
    by false differs rest = rw differs rest

gone_found : (n m : ℕ) (windows : List Window) (later : Window) → numbered number_of n (others m windows) ≡ Some later → numbered number_of n windows ≡ Some later
gone_found n m [] later is = is
gone_found n m (window ∷ windows) later is = by (window.number == m) refl (window.number == n) refl (gone_found n m windows later) is
  where
    by : (b : Bool) → (window.number == m) ≡ b → (c : Bool) → (window.number == n) ≡ c
        → (numbered number_of n (others m windows) ≡ Some later → numbered number_of n windows ≡ Some later)
        → numbered number_of n (cond (not b) (window ∷ others m windows) (others m windows)) ≡ Some later → numbered number_of n (window ∷ windows) ≡ Some later
    by true out true it rest found =
        let same : n ≡ m = sym (eqb-true window.number n it) ∙ eqb-true window.number m out in
        absurd (cc (sym (none_left n windows) ∙ ap (λ k. numbered number_of n (others k windows)) same ∙ found))
    by true out false it rest found = rw it (rest found)
    by false out true it rest found = rw it (rw it at found)
    by false out false it rest found = rw it (rest (rw it at found))

grow_gone : (m : ℕ) (tree : Tree) → IsSound tree → Grows tree (without_window m tree)
grow_gone m tree sound = record {
  numbers = omega arith;
  kept = λ n window is lt. itself n tree window (gone_found n m tree.windows window is);
  born = λ n window parent is le its. none_new n tree window sound (gone_found n m tree.windows window is) le;
}

-- ── a window more ──

module _ (path : List ℕ) (kind : Kind) (tree : Tree) (sound : IsSound tree) (named : bytes_eq path (codes ".") ≡ false) (may : refusal path tree ≡ None) where
  abbrev fresh : Window
  fresh = new_window tree.next_number path kind (parent_number path tree)

  more_found : (n : ℕ) (later : Window) → window_at n (with_window path kind (parent_number path tree) tree) ≡ Some later → (window_at n tree ≡ Some later) ⊎ (fresh ≡ later)
  more_found n later is = by (numbered number_of n tree.windows) refl
    where
      last : (b : Bool) → cond b (Some fresh) None ≡ Some later → fresh ≡ later
      last true is = some_same fresh later is
      last false is = absurd (cc)

      by : (o : Option Window) → numbered number_of n tree.windows ≡ o → (window_at n tree ≡ Some later) ⊎ (fresh ≡ later)
      by None none = inr (last (tree.next_number == n) (sym (find-append (λ w. w.number == n) tree.windows (fresh ∷ []) ∙ ap (λ (o : Option Window). option_or o (cond (tree.next_number == n) (Some fresh) None)) none) ∙ is))
      by (Some window) some = inl (some ∙ (sym (find-append (λ w. w.number == n) tree.windows (fresh ∷ []) ∙ ap (λ (o : Option Window). option_or o (cond (tree.next_number == n) (Some fresh) None)) some) ∙ is))

  place : below_refusal tree (parent_and_name path) ≡ None
  place = rw named at (neither (place_refusal path tree) (taken_refusal path tree) may).0

  parent_lives : (parent : ℕ) → parent_number path tree ≡ Some parent → LivesIn parent tree
  parent_lives parent its = by (parent_and_name path) place its
    where
      of_path : (parts : List ℕ × List ℕ) (found : Option Window) → at_path parts.0 tree ≡ found → child_refusal parts.1 found ≡ None → option_map (λ (w : Window). w.number) found ≡ Some parent → LivesIn parent tree
      of_path parts None is refused same = absurd (cc)
      of_path parts (Some window) is refused same =
          let number : window.number ≡ parent = cc in
          record {
            window = window;
            there = ap (λ k. window_at k tree) (sym number) ∙ find_numbered number_of (λ w. bytes_eq parts.0 w.path) window tree.windows sound.rising is;
            lives = passes_last (begins_upper parts.1) window.dying BadName Dying refused;
          }

      by : (names : Option (List ℕ × List ℕ)) → below_refusal tree names ≡ None → option_map (λ (w : Window). w.number) (option_and_then (λ (parts : List ℕ × List ℕ). at_path parts.0 tree) names) ≡ Some parent → LivesIn parent tree
      by None refused same = absurd (cc)
      by (Some parts) refused same = of_path parts (at_path parts.0 tree) refl refused same

  grow_made : Grows tree (with_window path kind (parent_number path tree) tree)
  grow_made = record {
    numbers = omega arith;
    kept = λ n window is lt. by n window lt is (more_found n window is);
    born = λ n window parent is le its. new n window parent le its (more_found n window is);
  }
    where
      by : (n : ℕ) (window : Window) → n < tree.next_number → window_at n (with_window path kind (parent_number path tree) tree) ≡ Some window → (window_at n tree ≡ Some window) ⊎ (fresh ≡ window) → Was n window tree
      by n window lt is (inl there) = itself n tree window there
      by n window lt is (inr same) =
          let number : window.number ≡ n = found_number n (with_window path kind (parent_number path tree) tree) window is in
          absurd (omega (arith, lt, number, ap (λ (w : Window). w.number) same))

      new : (n : ℕ) (window : Window) (parent : ℕ) → tree.next_number ≤ n → window.parent ≡ Some parent → (window_at n tree ≡ Some window) ⊎ (fresh ≡ window) → (tree.next_number ≤ parent) ⊎ LivesIn parent tree
      new n window parent le its (inl there) = none_new n tree window sound there le
      new n window parent le its (inr same) = inr (parent_lives parent (ap (λ (w : Window). w.parent) same ∙ its))

-- ── all acts ──

abbrev pub StaysAndGrows : Tree → Tree → Type 0
StaysAndGrows old new = IsSound old → IsSound new × Grows old new

pub grow_acts : HoldsOfActs StaysAndGrows
grow_acts = record {
  same = λ tree sound. (
    sound,
    record {
      numbers = omega arith;
      kept = λ n window is lt. itself n tree window is;
      born = λ n window parent is le its. none_new n tree window sound is le;
    },
  );
  after = λ first mid last one other sound. (let to = one sound in let on = other to.0 in (on.0, grow_after first mid last to.1 on.1));
  changed = λ number change tree keeps_place sound. (sound_acts.changed number change tree keeps_place sound, grow_changed change keeps_place number tree sound);
  gone = λ number tree sound. (sound_acts.gone number tree sound, grow_gone number tree sound);
  made = λ path kind tree named may sound. (sound_acts.made path kind tree named may sound, grow_made path kind tree sound named may);
}

pub grow_on_scene : HoldsOnScene (OnTrees StaysAndGrows)
grow_on_scene = on_trees StaysAndGrows grow_acts
