-- The arena's places as a bag.
use Rattle.std.proofs.Common.{◌≡◌, ◌≢◌, ◌⊎◌, inl, inr, ℕ, zero, suc, Bool, true, false, List, [], ◌∷◌, ◌++◌, Option, Some, None, refl, sym, ap, ◌∙◌, subst, arith}
use Rattle.std.specs.Prelude.{slice_set, ◌==◌, find}
use Rattle.std.proofs.lemmas.Option.{none-some}
use Rattle.std.proofs.lemmas.Bool.{eqb-true, eqb-false}
use Rattle.tk_base.specs.Bag.{Item, listed, NonePasses}
use Rattle.tk_base.specs.Numbered.{numbered, IsRising}
use Rattle.tk_base.proofs.Owners.{own_stands, listed_found, listed_none}
use Rattle.tk_tree.specs.declared.window.Window.{Window}
use Rattle.tk_tree.specs.declared.windows.Node.{Node}
use Rattle.tk_tree.specs.Arena.{item_of, bag_of, at}
use Rattle.tk_tree.specs.Window.{number_of}
use Rattle.tk_tree.proofs.Lists.{some_same, find_numbered, find_fails}

abbrev pub Slots : Type 0
Slots = List (Option Node)

abbrev pub Bag : Type 0
Bag = List (Item Window)

-- ── places that answer alike hold the same ──
nothing_in : (slots : Slots) → ((key : ℕ) → at slots key ≡ None) → bag_of slots ≡ []
nothing_in [] same = refl
nothing_in (None ∷ slots) same = nothing_in slots (λ key. same (suc key))
nothing_in (Some node ∷ slots) same = absurd (none-some node (sym (same zero)))

cons_rest : (x : Option Node) (xs ys : Slots) → bag_of xs ≡ bag_of ys → bag_of (x ∷ xs) ≡ bag_of (x ∷ ys)
cons_rest None xs ys h = h
cons_rest (Some a) xs ys h = ap (λ zs. item_of a ∷ zs) h

cons_same : (x y : Option Node) (xs ys : Slots) → x ≡ y → bag_of xs ≡ bag_of ys → bag_of (x ∷ xs) ≡ bag_of (y ∷ ys)
cons_same x y xs ys same h = cons_rest x xs ys h ∙ ap (λ z. bag_of (z ∷ ys)) same

same_in : (xs ys : Slots) → ((key : ℕ) → at xs key ≡ at ys key) → bag_of xs ≡ bag_of ys
same_in [] ys same = sym (nothing_in ys (λ key. sym (same key)))
same_in (x ∷ xs) [] same = nothing_in (x ∷ xs) same
same_in (x ∷ xs) (y ∷ ys) same = cons_same x y xs ys (same zero) (same_in xs ys (λ key. same (suc key)))

-- ── a place more ──
pub record OneMore (old new : Bag) (x : Item Window) : Type 0 where
  pub front : Bag
  pub back : Bag
  pub was : old ≡ front ++ back
  pub is : new ≡ front ++ x ∷ back

behind : (slot : Option Node) (old new : Slots) (x : Item Window) → OneMore (bag_of old) (bag_of new) x → OneMore (bag_of (slot ∷ old)) (bag_of (slot ∷ new)) x
behind None old new x more = more
behind (Some node) old new x more = record { front = item_of node ∷ more.front; back = more.back; was = ap (λ zs. item_of node ∷ zs) more.was; is = ap (λ zs. item_of node ∷ zs) more.is }

pub one_more : (key : ℕ) (node : Node) (old new : Slots) → at old key ≡ None → at new key ≡ Some node → ((other : ℕ) → other ≢ key → at new other ≡ at old other)
    → OneMore (bag_of old) (bag_of new) (item_of node)
one_more key node old [] was is others = absurd (none-some node is)
one_more zero node [] (y ∷ ys) was is others =
    record { front = []; back = []; was = refl; is = rw is (ap (λ zs. item_of node ∷ zs) (nothing_in ys (λ key. others (suc key) (λ e. omega (arith, e))))) }
one_more (suc key) node [] (y ∷ ys) was is others =
    let more = one_more key node [] ys refl is (λ other differ. others (suc other) (λ e. differ (omega (arith, e)))) in
    let head : y ≡ None = others zero (λ e. omega (arith, e)) in
    record { front = more.front; back = more.back; was = more.was; is = rw head more.is }
one_more zero node (x ∷ xs) (y ∷ ys) was is others =
    record { front = []; back = bag_of xs; was = rw was refl; is = rw is (ap (λ zs. item_of node ∷ zs) (same_in ys xs (λ key. others (suc key) (λ e. omega (arith, e))))) }
one_more (suc key) node (x ∷ xs) (y ∷ ys) was is others =
    let head : y ≡ x = others zero (λ e. omega (arith, e)) in
    rw head (behind x xs ys (item_of node) (one_more key node xs ys was is (λ other differ. others (suc other) (λ e. differ (omega (arith, e))))))

-- ── a place that holds a window ──
pub record Opens (slots : Slots) (key : ℕ) (node : Node) : Type 0 where
  pub front : Bag
  pub back : Bag
  pub was : bag_of slots ≡ front ++ item_of node ∷ back
  pub gone : bag_of (slice_set slots key None) ≡ front ++ back
  pub changed : (other : Node) → bag_of (slice_set slots key (Some other)) ≡ front ++ item_of other ∷ back

opens_behind : (slot : Option Node) (slots : Slots) (key : ℕ) (node : Node) → Opens slots key node → Opens (slot ∷ slots) (suc key) node
opens_behind None slots key node opens = record { front = opens.front; back = opens.back; was = opens.was; gone = opens.gone; changed = opens.changed }
opens_behind (Some first) slots key node opens = record {
  front = item_of first ∷ opens.front;
  back = opens.back;
  was = ap (λ zs. item_of first ∷ zs) opens.was;
  gone = ap (λ zs. item_of first ∷ zs) opens.gone;
  changed = λ other. ap (λ zs. item_of first ∷ zs) (opens.changed other);
}

opens_here : (slot : Option Node) (slots : Slots) (node : Node) → slot ≡ Some node → Opens (slot ∷ slots) zero node
opens_here slot slots node is = record {
  front = [];
  back = bag_of slots;
  was = ap (λ s. bag_of (s ∷ slots)) is;
  gone = refl;
  changed = λ other. refl;
}

pub opens : (slots : Slots) (key : ℕ) (node : Node) → at slots key ≡ Some node → Opens slots key node
opens [] key node there = absurd (none-some node there)
opens (slot ∷ slots) zero node there = opens_here slot slots node there
opens (slot ∷ slots) (suc key) node there = opens_behind slot slots key node (opens slots key node there)

-- ── a search of the places ──
pub record Found (owner : ℕ) (test : Window → Bool) (slots : Slots) : Type 0 where
  pub key : ℕ
  pub node : Node
  pub there : at slots key ≡ Some node
  pub its_owner : node.owner ≡ owner
  pub passes : test node.window ≡ true

module _ (owner : ℕ) (test : Window → Bool) where
  abbrev Searched : Slots → Type 0
  Searched slots = Found owner test slots ⊎ NonePasses owner test (bag_of slots)

  later : (slot : Option Node) (slots : Slots) → Found owner test slots → Found owner test (slot ∷ slots)
  later slot slots found = record { key = suc found.key; node = found.node; there = found.there; its_owner = found.its_owner; passes = found.passes }

  searched_by : (node : Node) (slots : Slots) (b c : Bool) → (node.owner == owner) ≡ b → test node.window ≡ c → Searched slots → Searched (Some node ∷ slots)
  searched_by node slots b c mine passes (inl found) = inl (later (Some node) slots found)
  searched_by node slots true true mine passes (inr none) = inl (record { key = zero; node = node; there = refl; its_owner = eqb-true node.owner owner mine; passes = passes })
  searched_by node slots true false mine passes (inr none) = inr ((λ same. passes), none)
  searched_by node slots false c mine passes (inr none) = inr ((λ same. absurd (eqb-false node.owner owner mine same)), none)

  searched_none : (slots : Slots) → Searched slots → Searched (None ∷ slots)
  searched_none slots (inl found) = inl (later None slots found)
  searched_none slots (inr none) = inr none

  searched : (slots : Slots) → Searched slots
  searched [] = inr tt
  searched (None ∷ slots) = searched_none slots (searched slots)
  searched (Some node ∷ slots) = searched_by node slots (node.owner == owner) (test node.window) refl refl (searched slots)

-- ── places and lists ──
abbrev pub own_list : ℕ → Slots → List Window
own_list owner slots = listed number_of owner (bag_of slots)

-- what stands at a place is in its owner's list
pub numbered_there : (slots : Slots) (key : ℕ) (node : Node) → at slots key ≡ Some node → IsRising number_of (own_list node.owner slots) → numbered number_of node.window.number (own_list node.owner slots) ≡ Some node.window
numbered_there slots key node there rising =
    let open_at = opens slots key node there in
    let list : own_list node.owner slots ≡ listed number_of node.owner (open_at.front ++ item_of node ∷ open_at.back) = ap (listed number_of node.owner) open_at.was in
    ap (numbered number_of node.window.number) list
    ∙ listed_found number_of node.owner node.window open_at.front open_at.back (subst (IsRising number_of) list rising)

-- a window that a search of the list finds stands at a place
pub record Placed (owner : ℕ) (window : Window) (slots : Slots) : Type 0 where
  pub key : ℕ
  pub node : Node
  pub there : at slots key ≡ Some node
  pub its_owner : node.owner ≡ owner
  pub its_window : node.window ≡ window

placed_by : (owner : ℕ) (window : Window) (slots : Slots) → IsRising number_of (own_list owner slots) → numbered number_of window.number (own_list owner slots) ≡ Some window
    → Found owner (λ w. w.number == window.number) slots ⊎ NonePasses owner (λ w. w.number == window.number) (bag_of slots) → Placed owner window slots
placed_by owner window slots rising is (inl found) =
    let rising_there : IsRising number_of (own_list found.node.owner slots) = subst (λ o. IsRising number_of (own_list o slots)) (sym found.its_owner) rising in
    let there = numbered_there slots found.key found.node found.there rising_there in
    let same : numbered number_of found.node.window.number (own_list found.node.owner slots) ≡ numbered number_of window.number (own_list owner slots) =
    ap (λ n. numbered number_of n (own_list found.node.owner slots)) (eqb-true found.node.window.number window.number found.passes) ∙ ap (λ o. numbered number_of window.number (own_list o slots)) found.its_owner in
    record {
      key = found.key;
      node = found.node;
      there = found.there;
      its_owner = found.its_owner;
      its_window = some_same found.node.window window (sym there ∙ same ∙ is);
    }
placed_by owner window slots rising is (inr none) = absurd (none-some window (sym (listed_none number_of owner (λ w. w.number == window.number) (bag_of slots) none) ∙ is))

pub placed : (owner : ℕ) (test : Window → Bool) (window : Window) (slots : Slots) → IsRising number_of (own_list owner slots) → find test (own_list owner slots) ≡ Some window → Placed owner window slots
placed owner test window slots rising is =
    placed_by owner window slots rising (find_numbered number_of test window (own_list owner slots) rising is) (searched owner (λ w. w.number == window.number) slots)

-- what stands at a place fails a test by which a search of the list finds nothing
pub fails_there : (slots : Slots) (key : ℕ) (node : Node) (test : Window → Bool) → at slots key ≡ Some node → find test (own_list node.owner slots) ≡ None → test node.window ≡ false
fails_there slots key node test there none =
    let open_at = opens slots key node there in
    let stand = own_stands number_of node.owner node.window.number open_at.front open_at.back in
    let list : own_list node.owner slots ≡ stand.front ++ node.window ∷ stand.back = ap (listed number_of node.owner) open_at.was ∙ stand.whole_is node.window refl in
    find_fails test stand.front node.window stand.back (sym (ap (find test) list) ∙ none)

-- ── a write at a place ──
pub set_here : (slots : Slots) (key : ℕ) (node : Node) (slot : Option Node) → at slots key ≡ Some node → at (slice_set slots key slot) key ≡ slot
set_here [] key node slot there = absurd (none-some node there)
set_here (s ∷ slots) zero node slot there = refl
set_here (s ∷ slots) (suc key) node slot there = set_here slots key node slot there

pub set_there : (slots : Slots) (key other : ℕ) (slot : Option Node) → other ≢ key → at (slice_set slots key slot) other ≡ at slots other
set_there [] key other slot differ = refl
set_there (s ∷ slots) zero zero slot differ = absurd (differ refl)
set_there (s ∷ slots) zero (suc other) slot differ = refl
set_there (s ∷ slots) (suc key) zero slot differ = refl
set_there (s ∷ slots) (suc key) (suc other) slot differ = set_there slots key other slot (λ same. differ (ap suc same))
