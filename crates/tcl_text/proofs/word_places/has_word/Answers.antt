use Rattle.std.proofs.Common.{◌≡◌, ◌<◌, false, length, sym, refl, ◌∙◌, arith}
use Rattle.std.specs.List.{list_any}
use Rattle.std.proofs.lemmas.Bool.{true_from_ne_false}
use Rattle.std.proofs.lemmas.Bool.Decides.{nat_tests}
use Rattle.tcl_text.specs.Backslash.{is_white}
use Rattle.tcl_text.proofs.WordPlaces.{none_at, none_more}
use Rattle.tcl_text.proofs.word_places.has_word.Goals as goal

pub returns-then-is_word : goal.returns-then-is_word
returns-then-is_word c = (
  λ e. record { some = grind (arith, nat_tests); black = sym c.has_white.ensures ∙ c.if-has_white.false; at = 0; stands = c.is_word.ensures.0 c.if-is_word.true },
  λ h. refl,
)

pub returns-then-has_word_near : goal.returns-then-has_word_near
returns-then-has_word_near c =
    let found = c.has_word_near.ensures.found c.if-has_word_near.true in (
      λ e. record { some = grind (arith, nat_tests); black = sym c.has_white.ensures ∙ c.if-has_white.false; at = found.0; stands = found.1 },
      λ h. refl,
    )

pub loop-from-preserved : goal.loop-from-preserved
loop-from-preserved c =
    (omega arith, omega arith, none_more c.args.words.now c.args.item.now c.loop-from.from c.loop-from.invariant.2 (c.has_word_near.ensures.none c.if-has_word_near.false))

pub returns : goal.returns
returns c = (
  λ e.
      let found = c.has_word_behind.ensures.found e in
      record { some = grind (arith, nat_tests); black = sym c.has_white.ensures ∙ c.if-has_white.false; at = found.0; stands = found.1 },
  λ h. true_from_ne_false c.has_word_behind.result (λ no. none_at c.args.words.now c.args.item.now c.loop-from.from c.loop-from.invariant.2 (c.has_word_behind.ensures.none no) h),
)
