-- A row more in a map of rows.
use Rattle.std.proofs.Common.{◌≡◌, ℕ, Bool, true, false, List, [], Option, None, Some, nat_eq, refl, sym, ap, ◌∙◌}
use Rattle.std.specs.HashMap as hash
use Rattle.std.specs.HashMap.{HashMap}
use Rattle.std.specs.Option.{option_map_or}
use Rattle.std.specs.Prelude.{is_some, Result, Ok, Err, OnErr}
use Rattle.std.specs.Map.{set_value}
use Rattle.std.proofs.lemmas.Map.Steps.{set_value_same}
use Rattle.std.proofs.lemmas.Bool.{eqb-true}

none : {R : Type 0} (found : Option R) → is_some found ≡ false → found ≡ None
none None is = refl
none (Some r) is = absurd (cc)

-- rows with an empty one more, of an owner that had none, show what they did
pub opened : {R S X : Type 0} (look : R → List X) (old new : HashMap ℕ R S) (owner : ℕ) (row : R) → is_some (hash.get nat_eq old owner) ≡ false → hash.get nat_eq new owner ≡ Some row
    → ((o : ℕ) → nat_eq owner o ≡ false → hash.get nat_eq new o ≡ hash.get nat_eq old o) → look row ≡ []
    → (o : ℕ) → option_map_or look (hash.get nat_eq new o) [] ≡ option_map_or look (hash.get nat_eq old o) []
opened look old new owner row lacks here rest empty o = by (nat_eq owner o) refl
  where
    by : (b : Bool) → nat_eq owner o ≡ b → option_map_or look (hash.get nat_eq new o) [] ≡ option_map_or look (hash.get nat_eq old o) []
    by true same =
        let alike : owner ≡ o = eqb-true owner o same in
        ap (λ q. option_map_or look (hash.get nat_eq new q) []) (sym alike) ∙ ap (λ r. option_map_or look r []) here ∙ empty
        ∙ sym (ap (λ r. option_map_or look r []) (none (hash.get nat_eq old owner) lacks)) ∙ ap (λ q. option_map_or look (hash.get nat_eq old q) []) alike
    by false differs = ap (λ r. option_map_or look r []) (rest o differs)

-- an error's clause, from the fact itself
pub on_err : {T E : Type 0} (result : Result T E) (fact : Type 0) → fact → OnErr result fact
on_err (Ok value) fact holds = tt
on_err (Err error) fact holds = holds

-- what was found under a key of an owner's row, written back, changes nothing that is shown
pub written_back : {X S T : Type 0} (rows new : HashMap ℕ (HashMap ℕ X S) T) (owner number : ℕ) (row put : HashMap ℕ X S) (x y : X) → Some row ≡ hash.get nat_eq rows owner → hash.get nat_eq new owner ≡ Some put
    → Some x ≡ hash.get nat_eq row number → put.entries ≡ set_value (nat_eq number) row.entries y → y ≡ x
    → option_map_or (λ r. r.entries) (hash.get nat_eq new owner) [] ≡ option_map_or (λ r. r.entries) (hash.get nat_eq rows owner) []
written_back rows new owner number row put x y there here found entries same =
    ap (λ o. option_map_or (λ r. r.entries) o []) here ∙ entries ∙ ap (set_value (nat_eq number) row.entries) same
    ∙ set_value_same (nat_eq number) row.entries x (sym found) ∙ ap (λ o. option_map_or (λ r. r.entries) o []) there
