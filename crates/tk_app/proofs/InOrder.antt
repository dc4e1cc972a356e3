-- In an application each window that is packed is packed in its parent, and once, whatever it does; so its layout is by masters.
use Rattle.std.proofs.Common.{◌≡◌, ◌≢◌, ℕ, Bool, true, false, cond, List, [], ◌∷◌, ◌++◌, not, Option, Some, refl, sym, ap, ◌∙◌, subst, arith}
use Rattle.std.specs.Prelude.{◌==◌, map, option_and_then, slice_get}
use Rattle.std.proofs.lemmas.Bool.{eqb-false, eqb-true, ne_eqb}
use Rattle.tcl_vars.specs.Store.{Store}
use Rattle.tk_base.specs.Numbered.{numbered}
use Rattle.tk_packer.specs.declared.packed.Packed.{Packed}
use Rattle.tk_packer.specs.declared.shape.Shape.{Shape}
use Rattle.tk_packer.specs.Packs.{slaves_of, without}
use Rattle.tk_screen.specs.Own.{Windowing}
use Rattle.tk_screen.specs.Layout.{size_of}
use Rattle.tk_screen.specs.Shapes.{shapes}
use Rattle.tk_screen.proofs.Twice.{apart as shapes_apart}
use Rattle.tk_tree.specs.Change.{with_place}
use Rattle.tk_tree.specs.Create.{parent_number, with_window}
use Rattle.tk_tree.specs.declared.window.Window.{Window}
use Rattle.tk_tree.specs.Own.{Tree, with_change, without_window}
use Rattle.tk_tree.specs.Window.{new_window, number_of}
use Rattle.tk_tree.proofs.Lists.{some_same}
use Rattle.tk_panel.specs.Fresh.{fresh as fresh_panel}
use Rattle.tk_app.specs.InOrder.{AreInOrder, ArePackedInParents, IsInOrder, ItemsKeepOrder, LiesInOrder, ScriptsKeepOrder, StaysInOrder, parent_of}
use Rattle.tk_app.specs.Places.{StandInOrder}
use Rattle.tk_app.specs.Seen.{Meaning}
use Rattle.tk_app.specs.SettleJob.{update_meaning}
use Rattle.tk_app.proofs.ByEquations.{updates}
use Rattle.tk_app.proofs.Items.{items_keep, scripts_keep}
use Rattle.tk_app.proofs.Packed.{pack_fine, pack_place, slave_parent, times_filter}
use Rattle.tk_app.proofs.Places.{lies_by_masters}
use Rattle.tk_app.proofs.PreOrder.{parent_in, place_behind, shape_place, shapes_behind}
use Rattle.tk_app.proofs.Sound.{at, jobs_so, others, same_number, same_parent, sound_acts}
use Rattle.tk_app.proofs.SoundBySettle.{stays_by}
use Rattle.tk_app.proofs.SoundParts.{first_sound, stays_so, takes_any}
use Rattle.tk_app.proofs.Trees.{HoldsOnScene, KeepsPlace, Scene, placing_keeps}

-- ── parents, as windows change ──

module _ (change : Window → Window) (keeps_place : KeepsPlace change) (m n : ℕ) where
  parent_changed : (windows : List Window) → parent_in n (map (at change keeps_place m) windows) ≡ parent_in n windows
  parent_changed [] = refl
  parent_changed (window ∷ windows) = ap (λ k. parent_if (k == n)) (same_number change keeps_place m window) ∙ by (window.number == n) (parent_changed windows)
    where
      parent_if : Bool → Option ℕ
      parent_if b =
          option_and_then (λ (w : Window). w.parent) (cond b (Some (at change keeps_place m window)) (numbered number_of n (map (at change keeps_place m) windows)))

      by : (b : Bool) → parent_in n (map (at change keeps_place m) windows) ≡ parent_in n windows
          → parent_if b ≡ option_and_then (λ (w : Window). w.parent) (cond b (Some window) (numbered number_of n windows))
      by true rest = same_parent change keeps_place m window
      by false rest = rest

parent_gone : (n m : ℕ) (windows : List Window) → n ≢ m → parent_in n (others m windows) ≡ parent_in n windows
parent_gone n m [] differ = refl
parent_gone n m (window ∷ windows) differ = by (window.number == m) refl (parent_gone n m windows differ)
  where
    either : (c : Bool) → parent_in n (others m windows) ≡ parent_in n windows
        → option_and_then (λ (w : Window). w.parent) (cond c (Some window) (numbered number_of n (others m windows)))
        ≡ option_and_then (λ (w : Window). w.parent) (cond c (Some window) (numbered number_of n windows))
    either true rest = refl
    either false rest = rest

    by : (b : Bool) → (window.number == m) ≡ b → parent_in n (others m windows) ≡ parent_in n windows
        → parent_in n (cond (not b) (window ∷ others m windows) (others m windows)) ≡ parent_in n (window ∷ windows)
    by true out rest = rw (ne_eqb window.number n (λ it. differ (sym it ∙ eqb-true window.number m out))) rest
    by false stays rest = either (window.number == n) rest

parent_more : (n p : ℕ) (windows : List Window) (new : Window) → parent_in n windows ≡ Some p → parent_in n (windows ++ new ∷ []) ≡ Some p
parent_more n p [] new is = absurd (cc)
parent_more n p (window ∷ windows) new is = by (window.number == n) (parent_more n p windows new) is
  where
    by : (b : Bool) → (parent_in n windows ≡ Some p → parent_in n (windows ++ new ∷ []) ≡ Some p)
        → option_and_then (λ (w : Window). w.parent) (cond b (Some window) (numbered number_of n windows)) ≡ Some p
        → option_and_then (λ (w : Window). w.parent) (cond b (Some window) (numbered number_of n (windows ++ new ∷ []))) ≡ Some p
    by true later its = its
    by false later its = later its

-- ── what is packed, as windows change ──

parents_kept : (old new : Tree) (packs : List Packed) → ((n p : ℕ) → parent_of n old ≡ Some p → parent_of n new ≡ Some p) → ArePackedInParents old packs → ArePackedInParents new packs
parents_kept old new [] same held = tt
parents_kept old new (packed ∷ packs) same held = (same packed.number packed.master held.0, parents_kept old new packs same held.1)

parents_left : (m : ℕ) (tree : Tree) (packs : List Packed) → ArePackedInParents tree packs → ArePackedInParents (without_window m tree) (without m packs)
parents_left m tree [] held = tt
parents_left m tree (packed ∷ packs) held = by (packed.number == m) refl (parents_left m tree packs held.1)
  where
    by : (b : Bool) → (packed.number == m) ≡ b → ArePackedInParents (without_window m tree) (without m packs)
        → ArePackedInParents (without_window m tree) (cond (not b) (packed ∷ without m packs) (without m packs))
    by true out rest = rest
    by false stays rest = (parent_gone packed.number m tree.windows (eqb-false packed.number m stays) ∙ held.0, rest)

-- ── order stays ──

abbrev pub Ordered : Scene → Type 0
Ordered scene = IsInOrder scene.0 scene.1.0.packs

abbrev pub StaysOrdered : Scene → Scene → Type 0
StaysOrdered old new = Ordered old → Ordered new

ordered_changed : (number : ℕ) (change : Window → Window) (scene : Scene) → KeepsPlace change → Ordered scene → Ordered (with_change number change scene.0, scene.1)
ordered_changed number change scene keeps_place held = record {
  sound = sound_acts.changed number change scene.0 keeps_place held.sound;
  parents = parents_kept scene.0 (with_change number change scene.0) scene.1.0.packs (λ n p is. parent_changed change keeps_place number n scene.0.windows ∙ is) held.parents;
  once = held.once;
}

pub order_acts : HoldsOnScene StaysOrdered
order_acts = record {
  same = λ scene held. held;
  after = λ first mid last one other held. other (one held);
  changed = λ number change scene keeps_place keeps_rectangle held. ordered_changed number change scene keeps_place held;
  placed = λ number place is_mapped scene may held. ordered_changed number (with_place place is_mapped) scene (placing_keeps place is_mapped) held;
  gone = λ number scene held. record {
    sound = sound_acts.gone number scene.0 held.sound;
    parents = parents_left number scene.0 scene.1.0.packs held.parents;
    once = λ n.
        (let fewer = times_filter n (λ (p : Packed). not (p.number == number)) scene.1.0.packs in
        let few = held.once n in
        omega (arith, fewer, few));
  };
  made = λ path kind scene named may held. record {
    sound = sound_acts.made path kind scene.0 named may held.sound;
    parents = parents_kept scene.0 (with_window path kind (parent_number path scene.0) scene.0) scene.1.0.packs
        (λ n p is. parent_more n p scene.0.windows (new_window scene.0.next_number path kind (parent_number path scene.0)) is) held.parents;
    once = held.once;
  };
  packed = λ words scene held.
      (let fine = pack_fine scene.0 held.sound words scene.1.0 (record { parents = held.parents; once = held.once }) in
      record { sound = held.sound; parents = fine.parents; once = fine.once });
}

-- ── whatever an application does ──

pub scripts_keep_order : ScriptsKeepOrder
scripts_keep_order = scripts_keep Ordered order_acts (λ scene held. held.sound)

pub items_keep_order : ItemsKeepOrder
items_keep_order = items_keep Ordered order_acts (λ scene held. held.sound)

first_ordered : (name : List ℕ) (size : ℕ × ℕ) → AreInOrder (fresh_panel name size 0).windowing
unfolding fresh_panel
first_ordered name size = record { sound = first_sound name size; parents = tt; once = λ n. omega arith }

pub stays_in_order : {M : Type 0} (answer : M → Meaning) → StaysInOrder answer
stays_in_order answer =
    stays_by answer AreInOrder (λ own held. held.sound)
    (stays_so Ordered (record { script = λ state held script. scripts_keep_order update_meaning updates 200 script state held; job = jobs_so Ordered order_acts 200 }) first_ordered
    (takes_any Ordered (λ size own held. held)) answer)

-- ── where windows lie ──

module _ (own : Windowing) (store : Store) (held : AreInOrder own) where
  abbrev packs : List Packed
  packs = own.packs.packs

  one_at : (i j : ℕ) (one other : Shape) → slice_get (shapes own store) i ≡ Some one → slice_get (shapes own store) j ≡ Some other → one.number ≡ other.number → i ≡ j
  one_at i j one other at_i at_j same = shape_place (shapes own store) (shapes_apart own store held.sound) i j one other at_i at_j same

  parent_at : (master k : ℕ) (packed : Packed) → slice_get (slaves_of master packs) k ≡ Some packed → parent_of packed.number own.tree ≡ Some master
  parent_at master k packed at_k = slave_parent own.tree master packs held.parents k packed at_k

  one_master : (one other k l : ℕ) (packed again : Packed) → slice_get (slaves_of one packs) k ≡ Some packed → slice_get (slaves_of other packs) l ≡ Some again
      → packed.number ≡ again.number → one ≡ other
  one_master one other k l packed again at_k at_l same =
      some_same one other (sym (parent_at one k packed at_k) ∙ ap (λ n. parent_of n own.tree) same ∙ parent_at other l again at_l)

  one_slave : (master k l : ℕ) (packed again : Packed) → slice_get (slaves_of master packs) k ≡ Some packed → slice_get (slaves_of master packs) l ≡ Some again
      → packed.number ≡ again.number → k ≡ l
  one_slave master k l packed again at_k at_l same =
      pack_place packed.number (slaves_of master packs)
      (let fewer = times_filter packed.number (λ (p : Packed). p.master == master) packs in
      let few = held.once packed.number in
      omega (arith, fewer, few))
      k l packed again at_k at_l refl (sym same)

  stands : StandInOrder (λ master. slaves_of master packs) (shapes own store)
  stands = record {
    apart = one_at;
    behind = λ i j k master slave packed at_i at_j at_k same.
        place_behind own.tree (shapes own store) (shapes_behind own store held.sound) i j master slave at_i at_j
        (ap (λ n. parent_of n own.tree) (sym same) ∙ parent_at master.number k packed at_k);
    once = λ i j k l one other packed again at_i at_j at_k at_l same.
        (let there : one.number ≡ other.number = one_master one.number other.number k l packed again at_k at_l same in (
          one_at i j one other at_i at_j there,
          one_slave one.number k l packed again at_k (subst (λ master. slice_get (slaves_of master packs) l ≡ Some again) (sym there) at_l) same,
        ));
  }

pub lies_in_order : LiesInOrder
lies_in_order = record {
  stand = stands;
  lies = λ own store held. lies_by_masters (size_of own) own.packs.packs (shapes own store) (stands own store held);
}
