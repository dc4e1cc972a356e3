use Rattle.std.proofs.Common.{◌≡◌, ◌<◌, ◌-◌, ◌+◌, true, get_or, length, sym, ◌∙◌, arith}
use Rattle.std.proofs.lemmas.Bool.{false≢true}
use Rattle.tcl_text.specs.Backslash.{is_white}
use Rattle.tcl_text.proofs.WordPlaces.{is_there}
use Rattle.tcl_text.proofs.word_places.is_word.Goals as goal
use Rattle.tcl_text.proofs.word_places.is_word.Goals.{then-at-eq0, else-at-eq0, then-is_white, else-is_white}

pub returns-then-is_white-2 : goal.returns-then-is_white-2
returns-then-is_white-2 c =
    let words = c.args.words.now in
    let item = c.args.item.now in
    let at = c.args.at in
    elim c.if-is_white.branch [
      | then-is_white w ↦
          let behind : is_white (get_or words (at + length item) 0) ≡ true = sym w.is_white-then-is_white.ensures ∙ sym w.value-is ∙ c.if-is_white-2.true in
          let before : 0 < at → is_white (get_or words (at - 1) 0) ≡ true = λ some. elim c.if-at-eq0.branch [
            | then-at-eq0 v ↦ absurd (omega arith)
            | else-at-eq0 v ↦ sym v.is_white.ensures ∙ sym v.value-is ∙ w.if-is_white.true
          ] in
          is_there words item at _ c.eq.result c.requires (omega arith) c.eq.ensures behind before
      | else-is_white w ↦ absurd (false≢true (sym w.if-is_white.false ∙ sym w.value-is ∙ c.if-is_white-2.true))
    ]
