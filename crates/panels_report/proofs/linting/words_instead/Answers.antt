use Rattle.std.proofs.Common.{◌≡◌, ℕ, List, None, Some, String, Global, Option, map, option_map, set, slice_get, ap, string_bytes, subst, sym, ◌∙◌}
use Rattle.std.proofs.lemmas.List.{map-set}
use Rattle.std.proofs.lemmas.Option.{slice_get-map}
use Rattle.std.specs.Option.{option_copied}
use Rattle.panels_report.specs.Lint.{IsInstead, IsInsteadAt}
use Rattle.panels_report.proofs.Getting.{got}
use Rattle.panels_report.proofs.linting.words_instead.Goals as goal

pub returns-in_ok-new-in-Some : goal.returns-in_ok-new-in-Some
returns-in_ok-new-in-Some c =
    let words = map string_bytes c.args.words.now in
    let own = string_bytes c.in-Some.own.now in
    let new = string_bytes c.in_ok-new-in-Some.new in
    let P : Option (List ℕ) → Type 0 = λ word. IsInsteadAt words c.args.index c.args.part.now c.args.other.now word (map string_bytes c.put.new.texts.items) in
    let here : Some own ≡ slice_get words c.args.index =
    ap (λ (word : Option (String Global)). option_map string_bytes word) (sym (ap option_copied c.in-Some.is) ∙ got c.args.words.now c.args.index c.get.result c.get.ensures.lookup)
    ∙ sym (slice_get-map string_bytes c.args.words.now c.args.index) in
    subst P here (
      new,
      subst (λ (text : List ℕ). IsInstead c.args.part.now c.args.other.now text new) c.as_str.ensures.value c.in_ok-new-in-Some.ensures,
      ap (map string_bytes) c.put.ensures ∙ map-set string_bytes c.in_ok-news.news.items c.args.index c.in_ok-new-in-Some.new
          ∙ ap (λ (all : List (List ℕ)). set all c.args.index new) c.in_ok-news.ensures,
    )

pub returns-in-None : goal.returns-in-None
returns-in-None c =
    let words = map string_bytes c.args.words.now in
    let P : Option (List ℕ) → Type 0 = λ word. IsInsteadAt words c.args.index c.args.part.now c.args.other.now word (map string_bytes c.in_ok-news.news.items) in
    let here : None ≡ slice_get words c.args.index =
    ap (λ (word : Option (String Global)). option_map string_bytes word) (sym (ap option_copied c.in-None.is) ∙ got c.args.words.now c.args.index c.get.result c.get.ensures.lookup)
    ∙ sym (slice_get-map string_bytes c.args.words.now c.args.index) in
    subst P here c.in_ok-news.ensures
