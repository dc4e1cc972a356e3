-- The items of `switch` and the words of `foreach`, as they are read and as they are cut, and the iterations of `foreach`.
use Rattle.std.proofs.Common.{◌≡◌, ◌≢◌, ◌↔◌, ℕ, zero, suc, ◌+◌, ◌-◌, ◌*◌, ◌%◌, ◌==◌, ◌<◌, ◌≤◌, ◌⊎◌, nat_lt, true, List, [], ◌∷◌, ◌++◌, length, drop, option_map, Option, Some, None, Result, Ok, Err, refl, ap, sym, subst, ◌∙◌, inl, inr, arith}
use native.Mathlib.Nat.{mul-zero, mul-suc, mul-add-mod_self_left}
use Rattle.std.proofs.lemmas.Bool.{lt-ltb, le-ltb, cases_lt}
use Rattle.std.proofs.lemmas.List.{drop-drop, length-drop}
use Rattle.tcl_text.specs.Readings.{list_of, IsList}
use Rattle.tcl_text.specs.ListFaults.{IsListFault}
use Rattle.tcl_text.specs.declared.fault.ListFault.{ListFault}
use Rattle.tcl_commands.specs.declared.branches.Branch.{Branch}
use Rattle.tcl_commands.specs.declared.groups.Group.{Group}
use Rattle.tcl_commands.specs.Branches.{branch_of, arms_from, arms_of}
use Rattle.tcl_commands.specs.Groups.{group_named, group_of, groups_from, groups_of, behind_group, has_body, has_more}
use Rattle.tcl_commands.specs.Shapes.{arm_words, IsGroup, IsNoGroup, AreGroups, AreGroupsBeforeFault, AreFaulty, after_iterations}

pairs_read : (arms : List Branch) → arms_from None (arm_words arms) ≡ Some arms
pairs_read [] = refl
pairs_read (arm ∷ arms) = ap (option_map (λ more. arm ∷ more)) (pairs_read arms)

pub arms_read : (items : List (List ℕ)) (arms : List Branch) → items ≡ arm_words arms → arms_of items ≡ Some arms
unfolding arms_of
arms_read items arms same = ap (arms_from None) same ∙ pairs_read arms

-- the items behind a pattern, or in front of one
abbrev held_pairs : Option (List ℕ) → List (List ℕ) → List (List ℕ)
held_pairs None items = items
held_pairs (Some pattern) items = pattern ∷ items

arms_from_cut : (held : Option (List ℕ)) (items : List (List ℕ)) (arms : List Branch) → arms_from held items ≡ Some arms → held_pairs held items ≡ arm_words arms
arms_from_cut None [] arms same = let is : [] ≡ arms = cc in ap arm_words is
arms_from_cut None (pattern ∷ items) arms same = arms_from_cut (Some pattern) items arms same
arms_from_cut (Some pattern) [] arms same = absurd (cc)
arms_from_cut (Some pattern) (body ∷ items) arms same = by (arms_from None items) refl same (arms_from_cut None items)
  where
    by : (more : Option (List Branch)) → arms_from None items ≡ more → option_map (λ more. branch_of pattern body ∷ more) more ≡ Some arms
        → ((behind : List Branch) → arms_from None items ≡ Some behind → items ≡ arm_words behind) → pattern ∷ body ∷ items ≡ arm_words arms
    by None read found cut = absurd (cc)
    by (Some behind) read found cut = let is : branch_of pattern body ∷ behind ≡ arms = cc in ap (λ i. pattern ∷ body ∷ i) (cut behind read) ∙ ap arm_words is

pub arms_cut : (items : List (List ℕ)) (arms : List Branch) → arms_of items ≡ Some arms → items ≡ arm_words arms
unfolding arms_of
arms_cut items arms same = arms_from_cut None items arms same

-- what is known of lists
module _ (lists : (text : List ℕ) (items : List (List ℕ)) → (list_of text ≡ Ok items) ↔ IsList text items) (faults : (text : List ℕ) (fault : ListFault) → (list_of text ≡ Err fault) ↔ IsListFault text fault) where
  group_read : (names items : List ℕ) (group : Group) → IsGroup names items group → group_of (list_of names) (list_of items) ≡ Ok group
  group_read names items group is = by group.names is.0 is.1 refl
    where
      by : (own : List (List ℕ)) → IsList names own → own ≢ [] → own ≡ group.names → group_of (list_of names) (list_of items) ≡ Ok group
      by [] read some same = absurd (some refl)
      by (name ∷ more) read some same =
          ap (λ n. group_of n (list_of items)) ((lists names (name ∷ more)).1 read)
          ∙ ap (group_named (name ∷ more)) ((lists items group.items).1 is.2)
          ∙ ap (λ n. Ok (record { names = n; items = group.items })) same

  fault_read : (names items text : List ℕ) → IsNoGroup names items text → group_of (list_of names) (list_of items) ≡ Err text
  fault_read names items text (inl (fault, is, told)) = ap (λ n. group_of n (list_of items)) ((faults names fault).1 is) ∙ ap (λ t. Err t) (sym told)
  fault_read names items text (inr (inl (none, told))) = ap (λ n. group_of n (list_of items)) ((lists names []).1 none) ∙ ap (λ t. Err t) (sym told)
  fault_read names items text (inr (inr ([], read, some, bad))) = absurd (some refl)
  fault_read names items text (inr (inr (name ∷ more, read, some, (fault, is, told)))) =
      ap (λ n. group_of n (list_of items)) ((lists names (name ∷ more)).1 read) ∙ ap (group_named (name ∷ more)) ((faults items fault).1 is) ∙ ap (λ t. Err t) (sym told)

  abbrev Cut : List ℕ → List ℕ → Result Group (List ℕ) → Type 0
  Cut names items (Ok group) = IsGroup names items group
  Cut names items (Err text) = IsNoGroup names items text

  group_cut : (names items : List ℕ) → Cut names items (group_of (list_of names) (list_of items))
  group_cut names items = by (list_of names) (list_of items) refl refl
    where
      by : (own : Result (List (List ℕ)) ListFault) (taken : Result (List (List ℕ)) ListFault) → list_of names ≡ own → list_of items ≡ taken → Cut names items (group_of own taken)
      by (Err fault) taken named has = inl (fault, (faults names fault).0 named, refl)
      by (Ok []) taken named has = inr (inl ((lists names []).0 named, refl))
      by (Ok (name ∷ more)) (Err fault) named has = inr (inr (name ∷ more, (lists names (name ∷ more)).0 named, (λ none. absurd (cc)), (fault, (faults items fault).0 has, refl)))
      by (Ok (name ∷ more)) (Ok all) named has = ((lists names (name ∷ more)).0 named, (λ none. absurd (cc)), (lists items all).0 has)

  groups_from_read : (words : List (List ℕ)) (body : List ℕ) (groups : List Group) → AreGroups words groups → groups_from None (words ++ body ∷ []) ≡ Ok groups
  groups_from_read words body [] none = ap (λ w. groups_from None (w ++ body ∷ [])) none
  groups_from_read words body (group ∷ groups) (names, items, rest, cut, is, more) =
      ap (λ w. groups_from None (w ++ body ∷ [])) cut
      ∙ ap (λ g. behind_group g (groups_from None (rest ++ body ∷ []))) (group_read names items group is)
      ∙ ap (behind_group (Ok group)) (groups_from_read rest body groups more)

  fault_from_read : (words : List (List ℕ)) (body text : List ℕ) (groups : List Group) → AreGroupsBeforeFault words groups text → groups_from None (words ++ body ∷ []) ≡ Err text
  fault_from_read words body text [] (names, items, rest, cut, is) =
      ap (λ w. groups_from None (w ++ body ∷ [])) cut ∙ ap (λ g. behind_group g (groups_from None (rest ++ body ∷ []))) (fault_read names items text is)
  fault_from_read words body text (group ∷ groups) (names, items, rest, cut, is, more) =
      ap (λ w. groups_from None (w ++ body ∷ [])) cut
      ∙ ap (λ g. behind_group g (groups_from None (rest ++ body ∷ []))) (group_read names items group is)
      ∙ ap (behind_group (Ok group)) (fault_from_read rest body text groups more)

  pub groups_read : (words : List (List ℕ)) (body : List ℕ) (groups : List Group) → AreGroups words groups → groups_of (words ++ body ∷ []) ≡ Ok groups
  unfolding groups_of
  groups_read words body groups is = groups_from_read words body groups is

  pub faults_read : (words : List (List ℕ)) (body text : List ℕ) → AreFaulty words text → groups_of (words ++ body ∷ []) ≡ Err text
  unfolding groups_of
  faults_read words body text is = fault_from_read words body text is.0 is.1

  abbrev AllCut : List (List ℕ) → Result (List Group) (List ℕ) → Type 0
  AllCut words (Ok groups) = AreGroups words groups
  AllCut words (Err text) = AreFaulty words text

  -- two words less
  body_behind : (names items : List ℕ) (words : List (List ℕ)) → has_body (names ∷ items ∷ words) ≡ true → has_body words ≡ true
  body_behind names items words has =
      let two : 2 * 1 + length words ≡ suc (suc (length words)) = omega arith in
      ap (λ k. k == 1) (sym (mul-add-mod_self_left 2 1 (length words))) ∙ ap (λ k. k % 2 == 1) two ∙ has

  groups_from_cut : (words : List (List ℕ)) (body : List ℕ) → has_body (words ++ body ∷ []) ≡ true → AllCut words (groups_from None (words ++ body ∷ []))
  groups_from_cut [] body has = refl
  groups_from_cut (names ∷ []) body has = absurd (cc)
  groups_from_cut (names ∷ items ∷ words) body has =
      by (group_of (list_of names) (list_of items)) (groups_from None (words ++ body ∷ [])) (group_cut names items) (groups_from_cut words body (body_behind names items (words ++ body ∷ []) has))
    where
      by : (own : Result Group (List ℕ)) (more : Result (List Group) (List ℕ)) → Cut names items own → AllCut words more → AllCut (names ∷ items ∷ words) (behind_group own more)
      by (Err text) more is cut = ([], (names, items, words, refl, is))
      by (Ok group) (Err text) is cut = (group ∷ cut.0, (names, items, words, refl, is, cut.1))
      by (Ok group) (Ok groups) is cut = (names, items, words, refl, is, cut)

  pub groups_cut : (words : List (List ℕ)) (body : List ℕ) (groups : List Group) → has_body (words ++ body ∷ []) ≡ true → groups_of (words ++ body ∷ []) ≡ Ok groups → AreGroups words groups
  unfolding groups_of
  groups_cut words body groups has same = subst (AllCut words) same (groups_from_cut words body has)

  pub faults_cut : (words : List (List ℕ)) (body text : List ℕ) → has_body (words ++ body ∷ []) ≡ true → groups_of (words ++ body ∷ []) ≡ Err text → AreFaulty words text
  unfolding groups_of
  faults_cut words body text has same = subst (AllCut words) same (groups_from_cut words body has)

same_names : (iterations : ℕ) (group : Group) → (after_iterations iterations group).names ≡ group.names
same_names zero group = refl
same_names (suc iterations) group = same_names iterations group

pub items_behind : (iterations : ℕ) (group : Group) → (after_iterations iterations group).items ≡ drop (length group.names * iterations) group.items
items_behind zero group = ap (λ n. drop n group.items) (sym (mul-zero (length group.names)))
items_behind (suc iterations) group =
    ap (λ (names : List (List ℕ)). drop (length names) (after_iterations iterations group).items) (same_names iterations group)
    ∙ ap (drop (length group.names)) (items_behind iterations group)
    ∙ drop-drop (length group.names) (length group.names * iterations) group.items
    ∙ ap (λ n. drop n group.items) (sym (mul-suc (length group.names) iterations))

-- some are left behind so many where there are more
some_left : {X : Type 0} (xs : List X) (n : ℕ) → nat_lt 0 (length (drop n xs)) ≡ nat_lt n (length xs)
some_left xs n = ap (nat_lt 0) (length-drop n xs) ∙ by (cases_lt n (length xs))
  where
    by : (n < length xs) ⊎ (length xs ≤ n) → nat_lt 0 (length xs - n) ≡ nat_lt n (length xs)
    by (inl more) = lt-ltb 0 (length xs - n) (omega (arith, more)) ∙ sym (lt-ltb n (length xs) more)
    by (inr none) = le-ltb 0 (length xs - n) (omega (arith, none)) ∙ sym (le-ltb n (length xs) none)

pub more_iterations : (iterations : ℕ) (group : Group) → has_more (after_iterations iterations group) ≡ nat_lt (length group.names * iterations) (length group.items)
more_iterations iterations group =
    ap (λ (items : List (List ℕ)). nat_lt 0 (length items)) (items_behind iterations group) ∙ some_left group.items (length group.names * iterations)
