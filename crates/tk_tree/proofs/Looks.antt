-- What a look into the index and the arena says of an application's part.
use Rattle.std.proofs.Common.{◌≡◌, ℕ, ◌<◌, Bool, true, List, Option, Some, None, option_map, Bor, IfSome, IsSome, refl, sym, ap, ◌∙◌, arith}
use Rattle.std.specs.Prelude.{◌==◌, find, is_some}
use Rattle.std.specs.Str.{bytes_eq}
use Rattle.std.proofs.lemmas.Option.{none-some}
use Rattle.std.proofs.lemmas.Bool.{eqb-true}
use Rattle.tk_base.specs.Numbered.{numbered}
use Rattle.tk_base.specs.declared.counter.Counter.{Counter}
use Rattle.tk_tree.specs.declared.index.PathIndex.{PathIndex}
use Rattle.tk_tree.specs.declared.window.Window.{Window}
use Rattle.tk_tree.specs.declared.windows.Node.{Node}
use Rattle.tk_tree.specs.Arena.{at, held_by, IsKept}
use Rattle.tk_tree.specs.Index.{key_at, number_at}
use Rattle.std.specs.Option.{option_copied}
use Rattle.tk_tree.specs.Own.{Tree, window_at, at_path}
use Rattle.tk_tree.specs.Shared.{own_of}
use Rattle.tk_tree.specs.Window.{number_of}
use Rattle.tk_tree.proofs.IndexLemmas.{text_is, text_same}
use Rattle.tk_tree.proofs.Lists.{some_same, find_passes, find_below, find_numbered}
use Rattle.tk_tree.proofs.Slots.{Slots, own_list, placed, numbered_there, fails_there}
use Rattle.tk_base.specs.Counters.{next_of}

nothing_there : {X : Type 0} (o : Option X) → IsSome o → o ≡ None → ⊥
nothing_there None some none = cc
nothing_there (Some x) some none = cc

-- an option that gives something is something
some_mapped : {X : Type 0} (f : X → ℕ) (n : ℕ) (o : Option X) → Some n ≡ option_map f o → IsSome o
some_mapped f n None is = absurd (cc)
some_mapped f n (Some x) is = refl

some_by : {X : Type 0} (o other : Option X) → o ≡ other → IsSome other → IsSome o
some_by o other same some = ap is_some same ∙ some

module _ (index : PathIndex) (slots : Slots) (counters : List (ℕ × Counter)) (kept : IsKept index slots counters) where
  -- the index has the key of each window of an application's part
  placed_key : (owner number : ℕ) (window : Window) → window_at number (own_of owner (held_by slots counters)) ≡ Some window → (key : ℕ) × (key_at index owner number ≡ Some key)
  placed_key owner number window is =
      let p = placed owner (λ w. w.number == number) window slots (kept.sound owner).rising is in
      let numbered_so : p.node.window.number ≡ number = ap number_of p.its_window ∙ eqb-true window.number number (find_passes (λ w. w.number == number) window (own_list owner slots) is) in
      (p.key, sym (ap (λ o. key_at index o number) p.its_owner) ∙ sym (ap (λ n. key_at index p.node.owner n) numbered_so) ∙ kept.indexed.keys_all p.key p.node p.there)

  pub key_none : (owner number : ℕ) → key_at index owner number ≡ None → window_at number (own_of owner (held_by slots counters)) ≡ None
  key_none owner number none = by (window_at number (own_of owner (held_by slots counters))) refl
    where
      by : (found : Option Window) → window_at number (own_of owner (held_by slots counters)) ≡ found → window_at number (own_of owner (held_by slots counters)) ≡ None
      by None is = is
      by (Some window) is = let k = placed_key owner number window is in absurd (none-some k.0 (sym none ∙ k.1))

  pub key_some : (owner number key : ℕ) (node : Node) → key_at index owner number ≡ Some key → at slots key ≡ Some node → window_at number (own_of owner (held_by slots counters)) ≡ Some node.window
  key_some owner number key node is there =
      let h = kept.indexed.keys_found owner number key is in
      let same : h.node ≡ node = some_same h.node node (sym h.there ∙ there) in
      let its_owner : node.owner ≡ owner = ap (λ n. n.owner) (sym same) ∙ h.its_owner in
      let its_number : node.window.number ≡ number = ap (λ n. n.window.number) (sym same) ∙ h.its_number in
      let found = numbered_there slots key node there (kept.sound node.owner).rising in
      sym (ap (λ n. numbered number_of n (own_list owner slots)) its_number ∙ refl) ∙ sym (ap (λ o. numbered number_of node.window.number (own_list o slots)) its_owner) ∙ found

  pub key_held : (owner number key : ℕ) → key_at index owner number ≡ Some key → at slots key ≡ None → ⊥
  key_held owner number key is none =
      let h = kept.indexed.keys_found owner number key is in
      none-some h.node (sym none ∙ h.there)

  pub number_is : (owner : ℕ) (path : List ℕ) → number_at index owner path ≡ option_map number_of (at_path path (own_of owner (held_by slots counters)))
  number_is owner path = by (at_path path (own_of owner (held_by slots counters))) refl (number_at index owner path) refl
    where
      by : (found : Option Window) → at_path path (own_of owner (held_by slots counters)) ≡ found → (number : Option ℕ) → number_at index owner path ≡ number
          → number_at index owner path ≡ option_map number_of (at_path path (own_of owner (held_by slots counters)))
      by None is None none = none ∙ sym (ap (option_map number_of) is)
      by None is (Some number) some =
          let h = kept.indexed.numbers_found owner path number some in
          let fails = fails_there slots h.key h.node (λ w. bytes_eq path w.path) h.there (ap (λ o. find (λ w. bytes_eq path w.path) (own_list o slots)) h.its_owner ∙ is) in
          let passes : bytes_eq path h.node.window.path ≡ true = ap (bytes_eq path) h.its_path ∙ text_same path in
          absurd (cc (sym passes ∙ fails))
      by (Some window) is number told =
          let p = placed owner (λ w. bytes_eq path w.path) window slots (kept.sound owner).rising is in
          let its_path : p.node.window.path ≡ path = ap (λ w. w.path) p.its_window ∙ sym (text_is path window.path (find_passes (λ w. bytes_eq path w.path) window (own_list owner slots) is)) in
          sym (ap (λ o. number_at index o path) p.its_owner) ∙ sym (ap (λ t. number_at index p.node.owner t) its_path) ∙ kept.indexed.numbers_all p.key p.node p.there
          ∙ ap (λ w. Some w.number) p.its_window ∙ sym (ap (option_map number_of) is)

  -- what a search of an application's part finds has a number that was given
  pub given : (owner : ℕ) (test : Window → Bool) (window : Window) → find test (own_list owner slots) ≡ Some window → window.number < (own_of owner (held_by slots counters)).next_number
  given owner test window is = find_below number_of (own_of owner (held_by slots counters)).next_number test window (own_list owner slots) (kept.sound owner).below is

  pub window_given : (owner number : ℕ) (window : Window) → window_at number (own_of owner (held_by slots counters)) ≡ Some window → window.number < (own_of owner (held_by slots counters)).next_number
  window_given owner number window is = given owner (λ w. w.number == number) window is

  -- the next number is no window's
  pub next_unused : (owner number : ℕ) → number ≡ next_of owner counters → key_at index owner number ≡ None
  next_unused owner number next = by (key_at index owner number) refl
    where
      by : (found : Option ℕ) → key_at index owner number ≡ found → key_at index owner number ≡ None
      by None is = is
      by (Some key) is =
          let h = kept.indexed.keys_found owner number key is in
          let below = window_given owner number h.node.window (key_some owner number key h.node is h.there) in
          absurd (omega (arith, below, h.its_number, next))

  -- a look by path is one by the number that it finds
  pub path_window : (owner : ℕ) (path : List ℕ) (number : ℕ) → number_at index owner path ≡ Some number → window_at number (own_of owner (held_by slots counters)) ≡ at_path path (own_of owner (held_by slots counters))
  path_window owner path number is = by (at_path path (own_of owner (held_by slots counters))) refl
    where
      by : (found : Option Window) → at_path path (own_of owner (held_by slots counters)) ≡ found → window_at number (own_of owner (held_by slots counters)) ≡ at_path path (own_of owner (held_by slots counters))
      by None none = absurd (none-some number (sym (number_is owner path ∙ ap (option_map number_of) none) ∙ is))
      by (Some window) some =
          let same : window.number ≡ number = some_same window.number number (sym (number_is owner path ∙ ap (option_map number_of) some) ∙ is) in
          sym (ap (λ n. window_at n (own_of owner (held_by slots counters))) same) ∙ find_numbered number_of (λ w. bytes_eq path w.path) window (own_list owner slots) (kept.sound owner).rising some ∙ sym some

  -- the number that a path has is that of a window that is there
  pub path_there : (owner : ℕ) (path : List ℕ) (number : ℕ) → number_at index owner path ≡ Some number → IsSome (window_at number (own_of owner (held_by slots counters)))
  path_there owner path number is =
      some_by (window_at number (own_of owner (held_by slots counters))) (at_path path (own_of owner (held_by slots counters))) (path_window owner path number is) (some_mapped number_of number (at_path path (own_of owner (held_by slots counters))) (sym is ∙ number_is owner path))

  -- the index has a key for each window that is there
  pub key_there : (owner number : ℕ) → IsSome (window_at number (own_of owner (held_by slots counters))) → key_at index owner number ≡ None → ⊥
  key_there owner number some none = nothing_there (window_at number (own_of owner (held_by slots counters))) some (key_none owner number none)

-- ── options ──
pub mapped_none : {X Y : Type 0} (f : X → Y) (o : Option X) → None ≡ option_map f o → o ≡ None
mapped_none f None is = refl
mapped_none f (Some x) is = absurd (cc)

pub mapped_some : {X Y : Type 0} (f : X → ℕ) (g : ℕ → Y) (n : ℕ) (o : Option X) → Some n ≡ option_map f o → Some (g n) ≡ option_map (λ x. g (f x)) o
mapped_some f g n None is = absurd (cc)
mapped_some f g n (Some x) is = ap (λ m. Some (g m)) (some_same n (f x) is)

pub lent_given : (n : ℕ) (result : Option (Bor Window)) (own : Tree) (number : ℕ) → option_copied result ≡ window_at number own → ((window : Window) → window_at number own ≡ Some window → window.number < n) → IfSome result (λ window. window.now.number < n)
lent_given n None own number is given_so = tt
lent_given n (Some window) own number is given_so = given_so window.now (sym is)
