use Rattle.std.proofs.Common.{◌≡◌, true, false, List, ℕ, Option, Some, ap, subst, sym, ◌∙◌}
use Rattle.std.proofs.lemmas.Iterator.Consumers.{YieldsList-from_rest}
use Rattle.std.specs.Map.Iter.{deref_pair}
use Rattle.panels_text.specs.Tables.{IsUnknown}
use Rattle.panels_text.specs.Words.{is_known, words_of}
use Rattle.panels_text.proofs.TableLemmas.{key_found, key_step}
use Rattle.panels_text.proofs.Turns.{road_more}
use Rattle.panels_text.proofs.table.Part.check_keys.Goals as goal

pub loop-key-preserved : goal.loop-key-preserved
loop-key-preserved c =
    let road = YieldsList-from_rest {shows = deref_pair} c.args.self.now.table.now.entries (c.into_iter-key-iterator.ensures.into_iter_gives ∙ c.iter-key-items.ensures.rest) in
    let here = road_more c.args.self.now.table.now.entries road c.loop-key.yielded c.loop-key.yielded_by (c.in-Some.key, c.in-Some.field-0-1) c.in-Some.is c.next.ensures.steps in
    let P : List ℕ → Type 0 = λ word. is_known word c.args.known.now ≡ true in
    key_step c.args.known.now _ _ (c.in-Some.key.now, c.in-Some.field-0-1.now) _ here (subst P c.as_str-word.ensures.value (sym c.is_known.ensures ∙ c.if-not-is_known.false)) c.loop-key.invariant

pub returns-then-not-is_known-clause-unknown : goal.returns-then-not-is_known-clause-unknown
returns-then-not-is_known-clause-unknown c =
    let road = YieldsList-from_rest {shows = deref_pair} c.args.self.now.table.now.entries (c.into_iter-key-iterator.ensures.into_iter_gives ∙ c.iter-key-items.ensures.rest) in
    let here = road_more c.args.self.now.table.now.entries road c.loop-key.yielded c.loop-key.yielded_by (c.in-Some.key, c.in-Some.field-0-1) c.in-Some.is c.next.ensures.steps in
    let P : List ℕ → Type 0 = λ word. is_known word c.args.known.now ≡ false in
    let found = key_found c.args.known.now _ _ (c.in-Some.key.now, c.in-Some.field-0-1.now) _ here (subst P c.as_str-word.ensures.value (sym c.is_known.ensures ∙ c.if-not-is_known.true)) c.loop-key.invariant in
    let Q : Option (List ℕ) → Type 0 = λ key. IsUnknown c.args.self.now (words_of c.args.known.now) key c.unknown.result in
    subst Q (ap Some c.as_str-word.ensures.value ∙ sym found) c.unknown.ensures
