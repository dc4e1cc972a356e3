-- Lemmas on what the values of a table say, and on what is gathered of many.
use Rattle.std.proofs.Common.{◌≡◌, ◌≢◌, ℕ, suc, ◌+◌, ◌<◌, ◌≤◌, Bool, true, false, List, [], ◌∷◌, ◌++◌, length, get_or, drop, map, Option, Some, None, option_map, Result, Ok, Err, Bor, IfOk, OnErr, MatchOption, MatchResult, String, Global, string_bytes, refl, ap, subst, sym, append_assoc, ◌∙◌}
use Rattle.std.proofs.lemmas.List.{append-nil, drop_more}
use Rattle.std.specs.Prelude.{is_some}
use Rattle.toml.proofs.Views.{items_view-drop}
use Rattle.toml.specs.Data.{Data, Items, item, Members, member, boolean, string}
use Rattle.toml.specs.View.{items_view, members_view, view}
use Rattle.toml.specs.declared.value.Value.{Value}
use Rattle.panels_bench.specs.Values.{Says, all_said, flag_if, number_if, onto, text_if, text_in}
use Rattle.panels_text.specs.Tables.{IsSaid, keys_of, may_be_boolean, may_be_text, number_in}
use Rattle.panels_text.specs.declared.failure.Failure.{Failure}

-- ---- values

no_text : (value : Option Data) → may_be_text value ≡ false → text_if value ≡ None
no_text None is = cc
no_text (Some (string text)) is = cc
no_text value is = refl

pub text_said : (result : Result (Option (Bor (List ℕ))) Failure) (value : Option Data) → IfOk result (λ text. option_map (λ own. string own.now) text ≡ value) → OnErr result (may_be_text value ≡ false)
    → Says (option_map (λ text. text.now)) result (text_if value)
text_said (Ok None) value ok other = ap text_if (sym ok)
text_said (Ok (Some text)) value ok other = ap text_if (sym ok)
text_said (Err failure) value ok other = λ said. no_text value other

no_flag : (value : Option Data) → may_be_boolean value ≡ false → flag_if value ≡ None
no_flag None is = cc
no_flag (Some (boolean flag)) is = cc
no_flag value is = refl

pub flag_said : (result : Result (Option Bool) Failure) (value : Option Data) → IfOk result (λ found. option_map boolean found ≡ value) → OnErr result (may_be_boolean value ≡ false) → Says (λ flag. flag) result (flag_if value)
flag_said (Ok None) value ok other = ap flag_if (sym ok)
flag_said (Ok (Some flag)) value ok other = ap flag_if (sym ok)
flag_said (Err failure) value ok other = λ said. no_flag value other

number_there : (most : ℕ) (value : Option Data) (found : Option ℕ) → is_some value ≡ true → number_in most value ≡ found → number_if most value ≡ option_map (λ number. Some number) found
number_there most None found there is = cc
number_there most (Some value) found there is = ap (option_map (λ number. Some number)) is

some_number : (most : ℕ) (value : Option Data) (number : ℕ) → number_in most value ≡ Some number → is_some value ≡ true
some_number most None number is = cc
some_number most (Some value) number is = refl

pub number_said : (most : ℕ) (result : Result (Option ℕ) Failure) (value : Option Data) → IfOk result (λ number. MatchOption number (value ≡ None) (λ own. number_in most value ≡ Some own)) → OnErr result (number_in most value ≡ None)
    → OnErr result (is_some value ≡ true) → Says (λ number. number) result (number_if most value)
number_said most (Ok None) value ok other there = ap (number_if most) ok
number_said most (Ok (Some number)) value ok other there = number_there most value (Some number) (some_number most value number ok) ok
number_said most (Err failure) value ok other there = λ said. number_there most value None there other

-- a text that has to be there, by one that may be missing
pub text_there : (value : Option Data) (text : List ℕ) → text_if value ≡ Some (Some text) → text_in value ≡ Some text
text_there None text is = cc
text_there (Some (string own)) text is = cc
text_there value text is = cc

pub text_missing : (value : Option Data) → text_if value ≡ Some None → text_in value ≡ None
text_missing (Some (string own)) is = cc
text_missing value is = refl

pub text_wrong : (value : Option Data) → text_if value ≡ None → text_in value ≡ None
text_wrong (Some (string own)) is = cc
text_wrong value is = refl

-- a refusal that is handed on
pub says_err : {T A : Type 0} (view : T → A) (result : Result T Failure) (said : Option A) (failure : Failure) → result ≡ Err failure → (IsSaid failure → said ≡ None) → Says view result said
says_err {T} view result said failure same none = let P : Result T Failure → Type 0 = λ own. Says view own said in subst P (sym same) none

pub match_err : {T : Type 0} (P : T → Type 0) (Q : Type 0) (result : Result T Failure) (failure : Failure) → result ≡ Err failure → (IsSaid failure → Q) → MatchResult result P (λ own. IsSaid own → Q)
match_err {T} P Q result failure same none = let R : Result T Failure → Type 0 = λ own. MatchResult own P (λ other. IsSaid other → Q) in subst R (sym same) none

-- ---- what is gathered

-- what was gathered, and what is left, is all behind what stood there first
pub record Left {A : Type 0} (before : List A) (left : Option (List A)) (first : List A) (whole : Option (List A)) : Type 0 where
  pub same : option_map (λ more. before ++ more) left ≡ option_map (λ more. first ++ more) whole

pub left_begin : {A : Type 0} (before first : List A) (whole : Option (List A)) → before ≡ first → Left before whole first whole
left_begin before first whole is = record { same = ap (λ own. option_map (λ more. own ++ more) whole) is }

step : {A : Type 0} (before next more first : List A) (rest whole : Option (List A)) → next ≡ before ++ more → option_map (λ own. before ++ own) (onto (Some more) rest) ≡ option_map (λ own. first ++ own) whole
    → option_map (λ own. next ++ own) rest ≡ option_map (λ own. first ++ own) whole
step before next more first None whole pushed same = same
step before next more first (Some rest) whole pushed same = ap Some (ap (λ own. own ++ rest) pushed ∙ append_assoc before more rest) ∙ same

pub left_step : {A : Type 0} (before next more first : List A) (said left rest whole : Option (List A)) → left ≡ onto said rest → said ≡ Some more → next ≡ before ++ more → Left before left first whole → Left next rest first whole
left_step {A} before next more first said left rest whole here is pushed all =
    let P : Option (List A) → Type 0 = λ own. option_map (λ other. before ++ other) own ≡ option_map (λ other. first ++ other) whole in
    let Q : Option (List A) → Type 0 = λ own. P (onto own rest) in
    record { same = step before next more first rest whole pushed (subst Q is (subst P here all.same)) }

none : {A : Type 0} (first : List A) (whole : Option (List A)) → None ≡ option_map (λ own. first ++ own) whole → whole ≡ None
none first None same = refl
none first (Some whole) same = absurd (cc)

pub left_none : {A : Type 0} (before first : List A) (left whole : Option (List A)) → left ≡ None → Left before left first whole → whole ≡ None
left_none {A} before first left whole gone all =
    let P : Option (List A) → Type 0 = λ own. option_map (λ other. before ++ other) own ≡ option_map (λ other. first ++ other) whole in
    none first whole (subst P gone all.same)

-- one that says nothing
pub left_refused : {A : Type 0} (before first : List A) (said left rest whole : Option (List A)) → left ≡ onto said rest → said ≡ None → Left before left first whole → whole ≡ None
left_refused before first said left rest whole here gone all = left_none before first left whole (here ∙ ap (λ own. onto own rest) gone) all

end : {A : Type 0} (before first : List A) (whole : Option (List A)) → Some (before ++ []) ≡ option_map (λ own. first ++ own) whole → (more : List A) × (whole ≡ Some more) × (before ≡ first ++ more)
end before first None same = absurd (cc)
end before first (Some whole) same =
    let inner : before ++ [] ≡ first ++ whole = cc in
    (whole, refl, sym (append-nil before) ∙ inner)

pub left_end : {A : Type 0} (before first : List A) (left whole : Option (List A)) → left ≡ Some [] → Left before left first whole → (more : List A) × (whole ≡ Some more) × (before ≡ first ++ more)
left_end {A} before first left whole gone all =
    let P : Option (List A) → Type 0 = λ own. option_map (λ other. before ++ other) own ≡ option_map (λ other. first ++ other) whole in
    end before first whole (subst P gone all.same)

-- one more of many is looked at
pub all_more : {A B : Type 0} (says : A → Option (List B)) (all : List A) (i : ℕ) (d : A) → i < length all → all_said (map says (drop i all)) ≡ onto (says (get_or all i d)) (all_said (map says (drop (i + 1) all)))
all_more says all i d lt = ap (λ left. all_said (map says left)) (drop_more all i d lt)

-- ---- the keys of a table

pub keys_count : (entries : List (String Global × Value)) → length (keys_of (members_view entries)) ≡ length entries
keys_count [] = refl
keys_count (entry ∷ entries) = ap suc (keys_count entries)
