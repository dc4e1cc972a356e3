-- Questions with other words, and what is told of questions.
use Rattle.std.proofs.Common.{◌≡◌, ℕ, ◌+◌, List, [], ◌∷◌, ◌++◌, map, Option, Some, string_bytes, refl, ap, sym, subst, ◌∙◌, append_assoc}
use Rattle.std.proofs.lemmas.List.{append-nil}
use Rattle.panels_report.specs.Lint.{AreOthers, AreOthersOf, AreTried, AreWrong, answer_at, questions_told}
use Rattle.panels_report.specs.Trials.{answers_of}
use Rattle.panels_report.specs.declared.linting.Replacement.{Replacement}
use Rattle.panels_text.specs.Meant.{AreLikely}
use Rattle.panels_text.specs.Refusals.{Refused, refused_word, words_asked}
use Rattle.panels_text.specs.declared.questions.Question.{Question}
use Rattle.panels_text.specs.declared.questions.Questions.{Questions}

module _ (number : ℕ) (words : List (List ℕ)) (refused : Refused) where
  -- those that were tried, and whatever is tried of the words that are left, are those of all
  abbrev pub AreTriedSoFar : List (List ℕ) → List (List ℕ) → List Replacement → Type 0
  AreTriedSoFar all left found = (rest : List Replacement) → AreTried number words refused left rest → AreTried number words refused all (found ++ rest)

  pub tried_all : (all left : List (List ℕ)) (found : List Replacement) → left ≡ [] → AreTriedSoFar all left found → AreTried number words refused all found
  tried_all all left found none before =
      let P : List (List ℕ) → Type 0 = λ ls. AreTried number words refused ls [] in
      let Q : List Replacement → Type 0 = λ rs. AreTried number words refused all rs in
      subst Q (append-nil found) (before [] (subst P (sym none) refl))

module _ (own answers : List (List ℕ)) where
  -- the same of questions and those in their place
  abbrev pub AreOthersSoFar : List Question → ℕ → List Question → List Replacement → Type 0
  AreOthersSoFar all number left found = (rest : List Replacement) → AreOthers own answers number left rest → AreOthers own answers 0 all (found ++ rest)

  pub others_more : (all : List Question) (number : ℕ) (left next : List Question) (question : Question) (answer : List ℕ) (found here later : List Replacement) → left ≡ question ∷ next
      → answer ≡ answer_at answers number → AreOthersOf own number (words_asked question) (refused_word question answer) here → later ≡ found ++ here
      → AreOthersSoFar all number left found → AreOthersSoFar all (number + 1) next later
  others_more all number left next question answer found here later first answered of pushed before rest are =
      let P : List Question → Type 0 = λ qs. AreOthers own answers number qs (here ++ rest) in
      let Q : List Replacement → Type 0 = λ rs. AreOthers own answers 0 all rs in
      let R : List ℕ → Type 0 = λ a. AreOthersOf own number (words_asked question) (refused_word question a) here in
      subst Q (sym (ap (λ front. front ++ rest) pushed ∙ append_assoc found here rest)) (before (here ++ rest) (subst P (sym first) (here, rest, subst R answered of, are, refl)))

  pub others_all : (all : List Question) (number : ℕ) (left : List Question) (found : List Replacement) → left ≡ [] → AreOthersSoFar all number left found → AreOthers own answers 0 all found
  others_all all number left found none before =
      let P : List Question → Type 0 = λ qs. AreOthers own answers number qs [] in
      let Q : List Replacement → Type 0 = λ rs. AreOthers own answers 0 all rs in
      subst Q (append-nil found) (before [] (subst P (sym none) refl))

-- the questions in the place of one by what its answer refuses
pub others_some : (own : List (List ℕ)) (number : ℕ) (words : List (List ℕ)) (refused : Option Refused) (one : Refused) (likely : List (List ℕ)) (others : List Replacement) → Some one ≡ refused
    → AreLikely one.0 own likely → AreTried number words one likely others → AreOthersOf own number words refused others
others_some own number words refused one likely others here are tried =
    let P : Option Refused → Type 0 = λ r. AreOthersOf own number words r others in
    subst P here (likely, are, tried)

-- what is told of questions, by the answers to them and to those in their place
pub are_wrong : (found : Questions) (own answers tried : List (List ℕ)) (questions : List Question) (others : List Replacement) → own ≡ map string_bytes found.procedures.items
    → questions ≡ found.questions.items → answers ≡ answers_of (map words_asked questions) → tried ≡ answers_of (map (λ (other : Replacement). words_asked other.question) others)
    → AreOthers own answers 0 questions others → AreWrong found (questions_told own answers others tried 0 questions)
are_wrong found own answers tried questions others named all answered asked are =
    let names = map string_bytes found.procedures.items in
    let given = answers_of (map words_asked found.questions.items) in
    let said : answers ≡ given = answered ∙ ap (λ (qs : List Question). answers_of (map words_asked qs)) all in (
      others,
      subst (λ (qs : List Question). AreOthers names given 0 qs others) all
          (subst (λ (texts : List (List ℕ)). AreOthers names texts 0 questions others) said (subst (λ (ns : List (List ℕ)). AreOthers ns answers 0 questions others) named are)),
      ap (λ (ns : List (List ℕ)). questions_told ns answers others tried 0 questions) named ∙ ap (λ (texts : List (List ℕ)). questions_told names texts others tried 0 questions) said
          ∙ ap (λ (ts : List (List ℕ)). questions_told names given others ts 0 questions) asked
          ∙ ap (λ (qs : List Question). questions_told names given others (answers_of (map (λ (other : Replacement). words_asked other.question) others)) 0 qs) all,
    )
