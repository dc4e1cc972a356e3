use Rattle.std.proofs.Common.{◌≡◌, ◌+◌, ◌<◌, ℕ, Bool, false, cond, List, length, take, get_or, Option, None, Some, refl, sym, ◌∙◌}
use Rattle.std.specs.Prelude.{is_some, nat_eq}
use Rattle.std.specs.Map.{lookup}
use Rattle.std.proofs.lemmas.Option.{slice_get-get_or}
use Rattle.tk_packer.specs.Standing.{IsIndex}
use Rattle.tk_packer.specs.declared.shape.Shape.{Shape}
use Rattle.tk_packer.proofs.Adding.{index_more}
use Rattle.tk_packer.proofs.building.index_of.Goals as goal

is_none : (found : Option ℕ) (b : Bool) → b ≡ is_some found → b ≡ false → found ≡ None
is_none None b is isnt = refl
is_none (Some i) b is isnt = absurd (cc)

one_more : (old new : List (ℕ × ℕ)) (shapes : List Shape) (i : ℕ) (d : Shape) (found : Option ℕ) → i < length shapes → found ≡ lookup (nat_eq (get_or shapes i d).number) old → found ≡ None
    → ((q : ℕ) → lookup (nat_eq q) new ≡ cond (nat_eq (get_or shapes i d).number q) (Some i) (lookup (nat_eq q) old)) → IsIndex old (take i shapes) → IsIndex new (take (i + 1) shapes)
one_more old new shapes i d found lt was none updates =
    index_more old new shapes i (get_or shapes i d) (slice_get-get_or shapes i d lt) (sym was ∙ none) updates

pub loop-place-preserved : goal.loop-place-preserved
loop-place-preserved c =
    one_more c.loop-place.index.entries c.insert.new.self.entries c.args.shapes.now c.loop-place.place _ c.in_ok-insert.field-0 c.loop-place-test.true c.in_ok-insert.ensures.old
    (is_none c.in_ok-insert.field-0 c.is_some.result c.is_some.ensures c.if-is_some.false) c.in_ok-insert.ensures.updates.0 c.loop-place.invariant
