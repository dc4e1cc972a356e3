-- How far the candidates of an event have been gone through: from a place on, all that is sought is still to come.
use Rattle.std.proofs.Common.{◌≡◌, ℕ, zero, suc, ◌+◌, ◌||◌, Bool, true, false, List, [], ◌∷◌, length, drop, map, Option, Some, None, slice_get, refl, sym, ap, ◌∙◌, subst, arith}
use Rattle.std.proofs.lemmas.List.Sums.{fold-append}
use Rattle.tk_patterns.proofs.RestLemmas.{NoneSought, step, earlier_is, none_left}
use Rattle.tk_patterns.specs.declared.filed.Filed.{Filed}
use Rattle.tk_patterns.specs.declared.filed.Numbers.{Numbers}
use Rattle.tk_patterns.specs.Filed.{numbers_of, stamps_of, HasStampAt, IsRising}
use Rattle.tk_patterns.specs.Rests.{first_of, past, earlier}
use Rattle.tk_sequences.specs.declared.event.Event.{Event}
use Rattle.tk_sequences.specs.declared.event.EventKind.TheVariants as kinds
use Rattle.tk_patterns.proofs.FilingLemmas.{none_at_all, not_fourth, passed_over}
use Rattle.tk_patterns.specs.declared.binding.Binding.{Binding}
use Rattle.tk_patterns.specs.Filing.{filed_under, is_for_key, is_for_button, is_for_any, is_for_virtuals, is_sought}
use Rattle.tk_patterns.specs.Specific.{Candidate}
use Rattle.tk_patterns.specs.Winner.{Pairs, of_binding, candidates, replaced, held_at_last}
use Rattle.tk_sequences.specs.declared.event_type.EventType.{EventType}
use Rattle.tk_virtual.specs.declared.pair.Pair.{Pair}
use Rattle.tk_virtual.specs.Virtual.{meanings_of}

pub rising_drop : (n : ℕ) (list : List Filed) → IsRising list → IsRising (drop n list)
rising_drop zero list rising = rising
rising_drop (suc n) [] rising = tt
rising_drop (suc n) (filed ∷ list) rising = rising_drop n list rising.1

pub numbers_drop : (n : ℕ) (list : List Filed) (own : List Binding) → numbers_of list ≡ map filed_under own → numbers_of (drop n list) ≡ map filed_under (drop n own)
numbers_drop zero list own h = h
numbers_drop (suc n) [] [] h = refl
numbers_drop (suc n) [] (binding ∷ own) h = absurd (cc)
numbers_drop (suc n) (filed ∷ list) [] h = absurd (cc)
numbers_drop (suc n) (filed ∷ list) (binding ∷ own) h = let rest : numbers_of list ≡ map filed_under own = cc in numbers_drop n list own rest

pub there_drop : (n place stamp : ℕ) (list : List Filed) → HasStampAt place stamp (drop n list) → HasStampAt (n + place) stamp list
there_drop zero place stamp list there = let same : place ≡ 0 + place = omega arith in subst (λ n. HasStampAt n stamp list) same there
there_drop (suc n) place stamp [] there = absurd there
there_drop (suc n) place stamp (filed ∷ list) there =
    let same : suc (n + place) ≡ suc n + place = omega arith in
    subst (λ n. HasStampAt n stamp (filed ∷ list)) same (there_drop n place stamp list there)

pub drop_drop : {X : Type 0} (n m : ℕ) (xs : List X) → drop m (drop n xs) ≡ drop (n + m) xs
drop_drop zero m xs = let same : m ≡ 0 + m = omega arith in ap (λ k. drop k xs) same
drop_drop (suc n) zero [] = let same : suc n ≡ suc n + 0 = omega arith in ap (λ k. drop k []) same
drop_drop (suc n) (suc m) [] = let same : suc (n + suc m) ≡ suc n + suc m = omega arith in ap (λ k. drop k []) same
drop_drop (suc n) m (x ∷ xs) = let same : suc (n + m) ≡ suc n + m = omega arith in drop_drop n m xs ∙ ap (λ k. drop k (x ∷ xs)) same

pub same_length : (list : List Filed) (own : List Binding) → numbers_of list ≡ map filed_under own → length list ≡ length own
same_length [] [] h = refl
same_length [] (binding ∷ own) h = absurd (cc)
same_length (filed ∷ list) [] h = absurd (cc)
same_length (filed ∷ list) (binding ∷ own) h = let rest : numbers_of list ≡ map filed_under own = cc in ap suc (same_length list own rest)

-- the binding at a place whose stamp is there, and those behind it
pub record At (own : List Binding) (place : ℕ) : Type 0 where
  pub binding : Binding
  pub is : slice_get own place ≡ Some binding
  pub rest : drop place own ≡ binding ∷ drop (suc place) own

pub at_stamp : (place stamp : ℕ) (list : List Filed) (own : List Binding) → numbers_of list ≡ map filed_under own → HasStampAt place stamp list → At own place
at_stamp place stamp [] own h there = absurd there
at_stamp place stamp (filed ∷ list) [] h there = absurd (cc)
at_stamp zero stamp (filed ∷ list) (binding ∷ own) h there = record { binding = binding; is = refl; rest = refl }
at_stamp (suc place) stamp (filed ∷ list) (binding ∷ own) h there =
    let rest : numbers_of list ≡ map filed_under own = cc in
    let found = at_stamp place stamp list own rest there in
    record { binding = found.binding; is = found.is; rest = found.rest }

module _ (event : Event) (history : List Event) (virtuals : List Pair) (tag : List ℕ) (type : EventType) (few : Bool) (own : List Binding) (list : List Filed) where
  abbrev sought : Numbers → Bool
  sought = is_sought few tag type event virtuals

  abbrev pairs : Pairs
  pairs = meanings_of virtuals

  pub record Reached (by_key by_button any named : List ℕ) (holder : Option Candidate) : Type 0 where
    pub from : ℕ
    pub keys : by_key ≡ stamps_of (is_for_key tag type event.key) (drop from list)
    pub buttons : by_button ≡ stamps_of (is_for_button tag type event.button) (drop from list)
    pub alls : any ≡ stamps_of (is_for_any tag type) (drop from list)
    pub names : named ≡ stamps_of (is_for_virtuals few tag type event virtuals) (drop from list)
    pub held : held_at_last holder (candidates event history pairs tag (drop from own)) ≡ held_at_last None (candidates event history pairs tag own)

  module _ (kind : event.kind ≡ kinds.Physical type) (rising : IsRising list) (numbers : numbers_of list ≡ map filed_under own) where
    -- the first of all that are left is the first that is sought
    first_sought : (by_key by_button any named : List ℕ) (holder : Option Candidate) (reached : Reached by_key by_button any named holder)
        → earlier (earlier (first_of by_key) (first_of by_button)) (earlier (first_of any) (first_of named)) ≡ first_of (stamps_of sought (drop reached.from list))
    first_sought by_key by_button any named holder reached =
        let left = drop reached.from list in
        let up = rising_drop reached.from list rising in
        ap (λ xs. earlier (earlier (first_of xs) (first_of by_button)) (earlier (first_of any) (first_of named))) reached.keys
        ∙ ap (λ xs. earlier (earlier (first_of (stamps_of (is_for_key tag type event.key) left)) (first_of xs)) (earlier (first_of any) (first_of named))) reached.buttons
        ∙ ap (λ xs. earlier (earlier (first_of (stamps_of (is_for_key tag type event.key) left)) (first_of (stamps_of (is_for_button tag type event.button) left))) (earlier (first_of xs) (first_of named))) reached.alls
        ∙ ap (λ xs. earlier (earlier (first_of (stamps_of (is_for_key tag type event.key) left)) (first_of (stamps_of (is_for_button tag type event.button) left))) (earlier (first_of (stamps_of (is_for_any tag type) left)) (first_of xs))) reached.names
        ∙ ap (λ first. earlier first (earlier (first_of (stamps_of (is_for_any tag type) left)) (first_of (stamps_of (is_for_virtuals few tag type event virtuals) left)))) (earlier_is (is_for_key tag type event.key) (is_for_button tag type event.button) left up)
        ∙ ap (λ first. earlier (first_of (stamps_of (λ n. is_for_key tag type event.key n || is_for_button tag type event.button n) left)) first) (earlier_is (is_for_any tag type) (is_for_virtuals few tag type event virtuals) left up)
        ∙ earlier_is (λ n. is_for_key tag type event.key n || is_for_button tag type event.button n) (λ n. is_for_any tag type n || is_for_virtuals few tag type event virtuals n) left up

    not_first : (a b c d : Bool) → ((a || b) || (c || d)) ≡ false → a ≡ false
    not_first false b c d h = refl
    not_first true b c d h = absurd (cc)

    not_second : (a b c d : Bool) → ((a || b) || (c || d)) ≡ false → b ≡ false
    not_second a false c d h = refl
    not_second false true c d h = absurd (cc)
    not_second true true c d h = absurd (cc)

    not_third : (a b c d : Bool) → ((a || b) || (c || d)) ≡ false → c ≡ false
    not_third a b false d h = refl
    not_third false false true d h = absurd (cc)
    not_third false true true d h = absurd (cc)
    not_third true b true d h = absurd (cc)

    -- the binding that comes next
    pub record Next (by_key by_button any named : List ℕ) (holder : Option Candidate) (stamp : ℕ) : Type 0 where
      pub place : ℕ
      pub there : HasStampAt place stamp list
      pub binding : Binding
      pub is : slice_get own place ≡ Some binding
      pub after : Reached (past stamp by_key) (past stamp by_button) (past stamp any) (past stamp named) (held_at_last holder (of_binding event history pairs tag binding))

    pub next : (by_key by_button any named : List ℕ) (holder : Option Candidate) (stamp : ℕ) → Reached by_key by_button any named holder
        → earlier (earlier (first_of by_key) (first_of by_button)) (earlier (first_of any) (first_of named)) ≡ Some stamp → Next by_key by_button any named holder stamp
    next by_key by_button any named holder stamp reached h =
        let from = reached.from in
        let left = drop from list in
        let found = step sought stamp left (rising_drop from list rising) (sym (first_sought by_key by_button any named holder reached) ∙ h) in
        let place = from + found.place in
        let there : HasStampAt place stamp list = there_drop from found.place stamp list found.there in
        let at = at_stamp place stamp list own numbers there in
        let behind : drop (suc found.place) left ≡ drop (suc place) list = (let same : from + suc found.place ≡ suc place = omega arith in drop_drop from (suc found.place) list ∙ ap (λ n. drop n list) same) in
        let passed = passed_over event history virtuals tag type few kind found.place (drop from own) (subst (NoneSought sought found.place) (numbers_drop from list own numbers) found.before) in
        record {
          place = place;
          there = there;
          binding = at.binding;
          is = at.is;
          after = record {
            from = suc place;
            keys = ap (past stamp) reached.keys ∙ found.left (is_for_key tag type event.key) (λ n. not_first (is_for_key tag type event.key n) (is_for_button tag type event.button n) (is_for_any tag type n) (is_for_virtuals few tag type event virtuals n)) ∙ ap (stamps_of (is_for_key tag type event.key)) behind;
            buttons = ap (past stamp) reached.buttons ∙ found.left (is_for_button tag type event.button) (λ n. not_second (is_for_key tag type event.key n) (is_for_button tag type event.button n) (is_for_any tag type n) (is_for_virtuals few tag type event virtuals n)) ∙ ap (stamps_of (is_for_button tag type event.button)) behind;
            alls = ap (past stamp) reached.alls ∙ found.left (is_for_any tag type) (λ n. not_third (is_for_key tag type event.key n) (is_for_button tag type event.button n) (is_for_any tag type n) (is_for_virtuals few tag type event virtuals n)) ∙ ap (stamps_of (is_for_any tag type)) behind;
            names = ap (past stamp) reached.names ∙ found.left (is_for_virtuals few tag type event virtuals) (λ n. not_fourth (is_for_key tag type event.key n) (is_for_button tag type event.button n) (is_for_any tag type n) (is_for_virtuals few tag type event virtuals n)) ∙ ap (stamps_of (is_for_virtuals few tag type event virtuals)) behind;
            held =
                sym (ap (held_at_last holder) (passed ∙ ap (candidates event history pairs tag) (drop_drop from found.place own ∙ at.rest)) ∙ fold-append replaced holder (of_binding event history pairs tag at.binding) (candidates event history pairs tag (drop (suc place) own)))
                ∙ reached.held;
          };
        }

    -- nothing is left
    pub all_done : (by_key by_button any named : List ℕ) (holder : Option Candidate) → Reached by_key by_button any named holder
        → earlier (earlier (first_of by_key) (first_of by_button)) (earlier (first_of any) (first_of named)) ≡ None → holder ≡ held_at_last None (candidates event history pairs tag own)
    all_done by_key by_button any named holder reached h =
        let from = reached.from in
        let none = none_left sought (drop from list) (sym (first_sought by_key by_button any named holder reached) ∙ h) in
        let many : length (drop from list) ≡ length (drop from own) = same_length (drop from list) (drop from own) (numbers_drop from list own numbers) in
        sym (ap (held_at_last holder) (none_at_all event history virtuals tag type few kind (drop from own) (subst (λ n. NoneSought sought n (map filed_under (drop from own))) many (subst (NoneSought sought (length (drop from list))) (numbers_drop from list own numbers) none))))
        ∙ reached.held
