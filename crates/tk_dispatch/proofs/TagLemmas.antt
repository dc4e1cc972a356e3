-- What the tags that are left add to the scripts so far.
use Rattle.std.proofs.Common.{◌≡◌, ◌+◌, ℕ, Bool, true, false, cond, option_map, List, [], ◌∷◌, ◌++◌, drop, Option, Some, None, Ok, Err, refl, sym, ap, ◌∙◌}
use Rattle.std.proofs.lemmas.List.{append_assoc}
use Rattle.std.specs.List.{cons_option, filter_map}
use Rattle.tcl_text.specs.Answers.{Answer}
use Rattle.tk_dispatch.specs.Dispatch.{Chosen, all_of, before, is_live, script_of, scripts_of, with_fields}
use Rattle.tk_patterns.specs.declared.binding.Binding.{Binding}
use Rattle.tk_patterns.specs.Marks.{RunsNone}
use Rattle.tk_patterns.specs.Winner.{Pairs, winner}
use Rattle.tk_sequences.specs.declared.event.Event.{Event}
use Rattle.tk_tree.specs.Own.{Tree}

-- a script behind others
behind : (scripts : List (List ℕ)) (script : List ℕ) (others : Chosen) → before (scripts ++ script ∷ []) others ≡ before scripts (before (script ∷ []) others)
behind scripts script (Ok others) = ap (λ (all : List (List ℕ)). let chosen : Chosen = Ok all in chosen) (append_assoc scripts (script ∷ []) others)
behind scripts script (Err text) = refl

module _ (runs : List ℕ → Option Answer) (tags : List (List ℕ)) (place : ℕ) (tag : List ℕ) (cut : drop place tags ≡ tag ∷ drop (place + 1) tags) where
  -- what is left is what the next tag runs, and what is left behind it
  next : filter_map runs (drop place tags) ≡ cons_option (runs tag) (filter_map runs (drop (place + 1) tags))
  next = ap (filter_map runs) cut

  -- the next tag runs a script
  pub tag_runs : (scripts : List (List ℕ)) (script : List ℕ) → Some (Ok script) ≡ runs tag
      → before (scripts ++ script ∷ []) (all_of (filter_map runs (drop (place + 1) tags))) ≡ before scripts (all_of (filter_map runs (drop place tags)))
  tag_runs scripts script its =
      behind scripts script (all_of (filter_map runs (drop (place + 1) tags)))
      ∙ ap (λ (answer : Option Answer). before scripts (all_of (cons_option answer (filter_map runs (drop (place + 1) tags))))) its
      ∙ ap (λ (answers : List Answer). before scripts (all_of answers)) (sym next)

  -- the next tag runs nothing
  pub tag_passes : (scripts : List (List ℕ)) → None ≡ runs tag
      → before scripts (all_of (filter_map runs (drop (place + 1) tags))) ≡ before scripts (all_of (filter_map runs (drop place tags)))
  tag_passes scripts its =
      ap (λ (answer : Option Answer). before scripts (all_of (cons_option answer (filter_map runs (drop (place + 1) tags))))) its
      ∙ ap (λ (answers : List Answer). before scripts (all_of answers)) (sym next)

-- where no tag has a winner nothing runs
module _ (windows : Tree) (pairs : Pairs) (own : List Binding) (history : List Event) (event : Event) where
  either_way : (live : Bool) (script : Option (List ℕ)) → script ≡ None → cond live (option_map (with_fields event) script) None ≡ None
  either_way true None none = refl
  either_way false script none = refl
  either_way true (Some script) none = cc

  pub nothing_runs : (tags : List (List ℕ)) → RunsNone tags event own → scripts_of windows pairs own history event tags ≡ Ok []
  nothing_runs [] none = refl
  nothing_runs (tag ∷ tags) none =
      ap (λ (answer : Option Answer). all_of (cons_option answer (filter_map (script_of windows pairs own history event) tags)))
      (either_way (is_live windows tag) (winner pairs tag event history own) (none.0 history pairs))
      ∙ nothing_runs tags none.1
