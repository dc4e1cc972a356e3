-- Cases, and the problems of a panel, one after another.
use Rattle.std.proofs.Common.{◌≡◌, ℕ, ◌+◌, Bool, true, List, [], ◌∷◌, ◌++◌, Option, None, Some, option_map, Bor, Vec, refl, ap, sym, subst, ◌∙◌, append_assoc}
use Rattle.std.specs.Prelude.{slice_get}
use Rattle.panels.specs.declared.playing.Played.{Played}
use Rattle.panels_bench.specs.declared.reading.Read.{Read}
use Rattle.panels_bench.specs.declared.sides.Side.{Side}
use Rattle.panels_film.specs.Scenes.{section_in}
use Rattle.panels_text.specs.Lines.{name_at}
use Rattle.panels_text.specs.Texts.{text_of}
use Rattle.tk_base.specs.declared.budget.Budget.{Budget}
use Rattle.tk_session.specs.declared.session.AppBlock.{AppBlock}
use Rattle.panels_report.specs.Cases.{AreCases, AreEnds, AreProblems, IsCase, IsError, IsSpent, Told, found_words, last_case, placed, text_in}
use Rattle.panels_report.specs.Ends.{error_words, has_run_out, spent_words, unwanted_error}
use Rattle.panels_report.specs.Expected.{unexpected}

-- a case by its parts
pub case_is : (file : List ℕ) (read : Read) (played : Played) (slot : ℕ) (side : Side) (wanted own : Option (List ℕ)) (case : Told) (problems : List (List ℕ)) → case.bench ≡ file
    → case.panel ≡ name_at read.bench.panels.items slot → case.problems ≡ problems → own ≡ wanted → AreProblems read played slot side own (slice_get read.bench.panels.items slot) problems
    → IsCase file read played slot side wanted case
case_is file read played slot side wanted own case problems bench panel same texts are =
    let P : List (List ℕ) → Type 0 = λ ps. AreProblems read played slot side own (slice_get read.bench.panels.items slot) ps in
    let Q : Option (List ℕ) → Type 0 = λ o. AreProblems read played slot side o (slice_get read.bench.panels.items slot) case.problems in
    (bench, panel, subst Q texts (subst P (sym same) are))

module _ {Z : Type 0} (file : List ℕ) (read : Read) (played : Played) (wanted : List (Option (Vec ℕ Z))) where
  -- the cases that were made, and whatever are those of the panels that are left, are those of all
  abbrev pub AreMade : List Side → ℕ → List Side → List Told → Type 0
  AreMade all slot left made = (rest : List Told) → AreCases file read played wanted slot left rest → AreCases file read played wanted 0 all (made ++ rest)

  pub made_more : (all : List Side) (slot : ℕ) (left next : List Side) (side : Side) (made later : List Told) (case : Told) → left ≡ side ∷ next
      → IsCase file read played slot side (text_in (slice_get wanted slot)) case → later ≡ made ++ case ∷ [] → AreMade all slot left made → AreMade all (slot + 1) next later
  made_more all slot left next side made later case here is pushed before rest are =
      let P : List Side → Type 0 = λ ss. AreCases file read played wanted slot ss (case ∷ rest) in
      let Q : List Told → Type 0 = λ cs. AreCases file read played wanted 0 all cs in
      subst Q (sym (ap (λ front. front ++ rest) pushed ∙ append_assoc made (case ∷ []) rest)) (before (case ∷ rest) (subst P (sym here) (is, are)))

  pub made_all : (all : List Side) (slot : ℕ) (left : List Side) (made later : List Told) → left ≡ [] → later ≡ made ++ last_case file (found_words read played None)
      → AreMade all slot left made → AreCases file read played wanted 0 all later
  made_all all slot left made later none pushed before =
      let last = last_case file (found_words read played None) in
      let P : List Side → Type 0 = λ ss. AreCases file read played wanted slot ss last in
      let Q : List Told → Type 0 = λ cs. AreCases file read played wanted 0 all cs in
      subst Q (sym pushed) (before last (subst P (sym none) refl))

-- ---- how a panel ended

-- an error that is told, and steps that ran out
pub error_told : (error : Option (Bor (List ℕ))) (line : Bor (List ℕ)) (words text : List ℕ) (place : Option (List ℕ)) → error ≡ Some line → words ≡ error_words line.now → text ≡ placed words place
    → IsError (option_map (λ (own : Bor (List ℕ)). own.now) error) (text ∷ [])
error_told error line words text place is said same =
    let P : Option (Bor (List ℕ)) → Type 0 = λ e. IsError (option_map (λ (own : Bor (List ℕ)). own.now) e) (text ∷ []) in
    subst P (sym is) (place, ap (λ (t : List ℕ). t ∷ []) (same ∙ ap (λ (w : List ℕ). placed w place) said))

pub spent_told : (budget : Budget) (is_spent : Bool) (words text : List ℕ) (place : Option (List ℕ)) → is_spent ≡ true → words ≡ spent_words budget → text ≡ placed words place
    → IsSpent budget is_spent (text ∷ [])
spent_told budget is_spent words text place is said same =
    let P : Bool → Type 0 = λ b. IsSpent budget b (text ∷ []) in
    subst P (sym is) (place, ap (λ (t : List ℕ). t ∷ []) (same ∙ ap (λ (w : List ℕ). placed w place) said))

-- what was told of both
pub ends_are : (side : Side) (budget : Budget) (section : List ℕ) (error : Option (List ℕ)) (spent : Bool) (first second : List (List ℕ)) → error ≡ unwanted_error side section
    → spent ≡ has_run_out side section → IsError error first → IsSpent budget spent second → AreEnds side budget section (first ++ second)
ends_are side budget section error spent first second wanted out one two =
    let P : Option (List ℕ) → Type 0 = λ e. IsError e first in
    let Q : Bool → Type 0 = λ b. IsSpent budget b second in
    (first, second, subst P wanted one, subst Q out two, refl)

-- all problems of a panel that is there
pub problems_are : (read : Read) (played : Played) (slot : ℕ) (side : Side) (wanted : Option (List ℕ)) (own : Option AppBlock) (panel : AppBlock) (ends problems : List (List ℕ)) → own ≡ Some panel
    → AreEnds side panel.budget (text_of (section_in played.sections.items slot)) ends
    → problems ≡ ends ++ (found_words read played (Some slot) ++ unexpected side wanted (section_in played.sections.items slot)) → AreProblems read played slot side wanted own problems
problems_are read played slot side wanted own panel ends problems here are same =
    let P : Option AppBlock → Type 0 = λ o. AreProblems read played slot side wanted o problems in
    subst P (sym here) (ends, are, same)

-- parts behind one another, where nothing was in front of them
pub three_more : {A : Type 0} (start one two all ends found last : List A) → start ≡ [] → one ≡ start ++ ends → two ≡ one ++ found → all ≡ two ++ last → all ≡ ends ++ (found ++ last)
three_more start one two all ends found last none p q r = rw (r, q, p, none) (append_assoc ends found last)
