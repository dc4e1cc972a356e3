-- What a change of one entry of a map says of its look-ups.
use Rattle.std.proofs.Common.{◌≡◌, ◌≢◌, ℕ, Bool, true, false, cond, List, [], Option, None, Some, String, Global, bytes_eq, string_bytes, nat_eq, refl, sym, ap, ◌∙◌}
use Rattle.std.specs.Prelude.{is_some, option_and_then}
use Rattle.std.specs.Option.{option_map_or}
use Rattle.std.specs.declared.hash.FoldHasher.{FoldHasher}
use Rattle.std.specs.declared.hash.BuildHasherDefault.{BuildHasherDefault}
use Rattle.tk_tree.specs.declared.index.PathRow.{PathRow}
use Rattle.tk_tree.specs.declared.index.PathIndex.{PathIndex}
use Rattle.tk_tree.specs.Index.{row_key, row_number, row_children, IsEmptyRow, SameIndex}
use Rattle.std.specs.HashMap as hash
use Rattle.std.specs.HashMap.{HashMap}
use Rattle.std.specs.String.{string_eq}
use Rattle.std.proofs.lemmas.Bool.{eqb-true}
use Rattle.std.proofs.lemmas.Map.Text.{hash_map_updates_text}
use Rattle.std.proofs.lemmas.Slice.Eq.{bytes_eq-Decides}

pub text_same : (p : List ℕ) → bytes_eq p p ≡ true
text_same p = (bytes_eq-Decides p p).1 refl

pub text_is : (p q : List ℕ) → bytes_eq p q ≡ true → p ≡ q
text_is p q same = (bytes_eq-Decides p q).0 same

pub text_other : (p q : List ℕ) → q ≢ p → bytes_eq p q ≡ false
text_other p q differ = by (bytes_eq p q) refl
  where
    by : (b : Bool) → bytes_eq p q ≡ b → bytes_eq p q ≡ false
    by true is = absurd (differ (sym (text_is p q is)))
    by false is = is

module _ {X S : Type 0} (p : List ℕ) (old new : HashMap (String Global) X S) (w : Option X) (updates : hash.UpdatesBy string_eq (λ k. bytes_eq p (string_bytes k)) old new w) where
  pub text_set : hash.get_by_text new p ≡ w
  text_set = hash_map_updates_text p old new w updates p ∙ ap (λ b. cond b w (hash.get_by_text old p)) (text_same p)

  pub text_kept : (q : List ℕ) → q ≢ p → hash.get_by_text new q ≡ hash.get_by_text old q
  text_kept q differ = hash_map_updates_text p old new w updates q ∙ ap (λ b. cond b w (hash.get_by_text old q)) (text_other p q differ)

-- an index with an empty row more, of an application that had none, answers as before
pub opened : (old : PathIndex) (rows : HashMap ℕ PathRow (BuildHasherDefault FoldHasher)) (owner : ℕ) (row : PathRow) → is_some (hash.get nat_eq old.rows owner) ≡ false → hash.get nat_eq rows owner ≡ Some row → ((o : ℕ) → nat_eq owner o ≡ false → hash.get nat_eq rows o ≡ hash.get nat_eq old.rows o) → IsEmptyRow row
    → SameIndex old (record old { rows = rows })
opened old rows owner row lacks here rest empty = record {
  keys = λ o n. by (λ r. row_key r n) None (empty.keys n) o (nat_eq owner o) refl;
  numbers = λ o p. by (λ r. row_number r p) None (empty.numbers p) o (nat_eq owner o) refl;
  children = λ o n. by_list (λ r. row_children r n) (empty.children n) o (nat_eq owner o) refl;
}
  where
    none : (found : Option PathRow) → is_some found ≡ false → found ≡ None
    none None is = refl
    none (Some r) is = absurd (cc)

    by : {X : Type 0} (look : PathRow → Option X) (nothing : Option X) → look row ≡ None → (o : ℕ) (b : Bool) → nat_eq owner o ≡ b → option_and_then look (hash.get nat_eq rows o) ≡ option_and_then look (hash.get nat_eq old.rows o)
    by look nothing at_row o true same =
        let alike : owner ≡ o = eqb-true owner o same in
        ap (λ q. option_and_then look (hash.get nat_eq rows q)) (sym alike) ∙ ap (option_and_then look) here ∙ at_row
        ∙ sym (ap (option_and_then look) (none (hash.get nat_eq old.rows owner) lacks)) ∙ ap (λ q. option_and_then look (hash.get nat_eq old.rows q)) alike
    by look nothing at_row o false differs = ap (option_and_then look) (rest o differs)

    by_list : (look : PathRow → List ℕ) → look row ≡ [] → (o : ℕ) (b : Bool) → nat_eq owner o ≡ b → option_map_or look (hash.get nat_eq rows o) [] ≡ option_map_or look (hash.get nat_eq old.rows o) []
    by_list look at_row o true same =
        let alike : owner ≡ o = eqb-true owner o same in
        ap (λ q. option_map_or look (hash.get nat_eq rows q) []) (sym alike) ∙ ap (λ r. option_map_or look r []) here ∙ at_row
        ∙ sym (ap (λ r. option_map_or look r []) (none (hash.get nat_eq old.rows owner) lacks)) ∙ ap (λ q. option_map_or look (hash.get nat_eq old.rows q) []) alike
    by_list look at_row o false differs = ap (λ r. option_map_or look r []) (rest o differs)
