-- What the readers of a line answer is what the line says, both ways.
use Rattle.std.proofs.Common.{◌≡◌, ◌≢◌, ℕ, zero, suc, ◌<◌, ◌≤◌, ◌^◌, Bool, true, eqb, List, [], ◌∷◌, ◌++◌, length, get_or, Option, Some, None, option_map, not, inl, inr, refl, ap, sym, ◌∙◌, subst, arith, lit<, length-append}
use Rattle.std.specs.Prelude.{codes}
use Rattle.std.specs.List.{list_all, AllByRecursion}
use Rattle.std.specs.Int.{is_in_range}
use Rattle.std.specs.Char.{is_ascii_digit, is_ascii_alphabetic}
use Rattle.std.specs.Fmt.{decimal}
use Rattle.std.specs.Str.{bytes_eq}
use Rattle.std.specs.Str.Parse.{digits_value}
use Rattle.std.proofs.lemmas.Bool.{false≢true, eq-eqb, ne_eqb, eqb-true, and_parts, and_from, leb-true, le-leb, not_from_false, cases_Bool}
use Rattle.std.proofs.lemmas.Fmt.{decimal_digit, first_decimal, digits_decimal, digits_value-decimal, decimal-digits_value}
use Rattle.std.proofs.lemmas.Option.{cond_some, none-some, same_Some}
use Rattle.std.proofs.lemmas.Slice.Eq.{bytes_eq-Decides}
use Rattle.tk_base.specs.declared.rect.Rect.{Rect}
use Rattle.tk_route.specs.Screen.{IsOnScreen}
use Rattle.tk_base.specs.declared.budget.Budget.{Budget}
use Rattle.tk_session.specs.declared.stage.Format.{Format}
use Rattle.tk_session.specs.declared.stage.Format.TheVariants.{First, Second}
use Rattle.tk_route.specs.Names.{IsName, is_name, is_name_byte}
use Rattle.tk_session.specs.Session.{lines_of, spelled, SpellsBudget, IsAppLine, IsScriptLine, IsEndLine}
use Rattle.tk_session.specs.Reading.{◌>>=◌, cut_at, is_numeral, has_plain_front, number_of, number_field, rect_field, rect_of, name_of, behind, fixed_budget, budget_of, fixed_of, refilled_of, cut_budget, app_line_of, script_line_of, end_line_of}
use Rattle.tk_session.proofs.Lines.{digits_model, list_all-digits, digits_from_numeral, letter_within, name_byte_within, numeral_nonempty}

-- a chain that gives something goes on from something
pub bind_some : {A B : Type 0} (o : Option A) (f : A → Option B) (y : B) → (o >>= f) ≡ Some y → (x : A) × ((o ≡ Some x) × (f x ≡ Some y))
bind_some None f y h = absurd (none-some y h)
bind_some (Some x) f y h = (x, (refl, h))

-- no byte of the text is this one
abbrev pub Lacks : ℕ → List ℕ → Type 0
Lacks byte text = AllByRecursion (λ c. c ≢ byte) text

pub cut_at-append : (byte : ℕ) (front rest : List ℕ) → Lacks byte front → cut_at byte (front ++ byte ∷ rest) ≡ Some (front, rest)
cut_at-append byte [] rest lacks = rw (eq-eqb byte byte refl) refl
cut_at-append byte (c ∷ cs) rest lacks = rw (ne_eqb c byte lacks.0, cut_at-append byte cs rest lacks.1) refl

pub cut_in : (o : Option (List ℕ × List ℕ)) (b : ℕ) (parts : List ℕ × List ℕ) → option_map (λ p. (b ∷ p.0, p.1)) o ≡ Some parts → (p : List ℕ × List ℕ) × ((o ≡ Some p) × ((b ∷ p.0, p.1) ≡ parts))
cut_in None b parts h = absurd (none-some parts h)
cut_in (Some p) b parts h = (p, (refl, same_Some _ _ h))

pub unmapped : {A B : Type 0} (f : A → B) (o : Option A) → option_map f o ≡ None → o ≡ None
unmapped f None h = refl
unmapped f (Some x) h = absurd (none-some _ (sym h))

pub cut_at-parts : (byte : ℕ) (text : List ℕ) (parts : List ℕ × List ℕ) → cut_at byte text ≡ Some parts → text ≡ parts.0 ++ byte ∷ parts.1
cut_at-parts byte [] parts h = absurd (none-some parts h)
cut_at-parts byte (b ∷ bs) parts h =
    elim (cases_Bool (eqb b byte)) [
      | inl here ↦
          let parts_is : ([], bs) ≡ parts = same_Some _ _ (rw here at h) in
          let P : (List ℕ × List ℕ) → Type 0 = λ p. b ∷ bs ≡ p.0 ++ byte ∷ p.1 in
          subst P parts_is (ap (λ c. c ∷ bs) (eqb-true b byte here))
      | inr later ↦
          let inner = cut_in (cut_at byte bs) b parts (rw later at h) in
          let P : (List ℕ × List ℕ) → Type 0 = λ p. b ∷ bs ≡ p.0 ++ byte ∷ p.1 in
          subst P inner.1.1 (ap (λ cs. b ∷ cs) (cut_at-parts byte bs inner.0 inner.1.0))
    ]

pub at_least : (low high c : ℕ) → is_in_range low high c ≡ true → low ≤ c
at_least low high c h = leb-true low c (and_parts _ _ h).0

digit_above_blank : (c : ℕ) → is_ascii_digit c ≡ true → c ≢ 32
digit_above_blank c h e = omega (arith, at_least 48 57 c h)

alphabetic_above_blank : (c : ℕ) → is_ascii_alphabetic c ≡ true → c ≢ 32
alphabetic_above_blank c h e = omega (arith, (letter_within c h).0)

name_byte_above_blank : (c : ℕ) → is_name_byte c ≡ true → c ≢ 32
name_byte_above_blank c h e = omega (arith, (name_byte_within c h).0)

pub lacks_from_test : (byte : ℕ) (test : ℕ → Bool) → ((c : ℕ) → test c ≡ true → c ≢ byte) → (text : List ℕ) → list_all test text ≡ true → Lacks byte text
lacks_from_test byte test away [] h = tt
lacks_from_test byte test away (c ∷ cs) h =
    let parts = and_parts _ _ h in (away c parts.0, lacks_from_test byte test away cs parts.1)

pub Lacks-name : (name : List ℕ) → is_name name ≡ true → Lacks 32 name
Lacks-name [] h = absurd (false≢true h)
Lacks-name (c ∷ cs) h =
    let front = and_parts _ _ (and_parts _ _ h).0 in
    (alphabetic_above_blank c front.0, lacks_from_test 32 is_name_byte name_byte_above_blank cs front.1)

pub Lacks-numeral : (text : List ℕ) → is_numeral text ≡ true → Lacks 32 text
Lacks-numeral text h = lacks_from_test 32 is_ascii_digit digit_above_blank text (and_parts _ _ h).0

has_plain_front-large : (text : List ℕ) → 48 < get_or text 0 0 → has_plain_front text ≡ true
has_plain_front-large [] h = absurd (omega arith)
has_plain_front-large (c ∷ []) h = refl
has_plain_front-large (c ∷ d ∷ cs) h = not_from_false (eqb c 48) (ne_eqb c 48 (λ e. omega arith))

has_plain_front-decimal : (n : ℕ) → n < 2 ^ 64 → has_plain_front (decimal n) ≡ true
has_plain_front-decimal zero small = rw (decimal_digit 0 (omega arith)) refl
has_plain_front-decimal (suc n) small = has_plain_front-large (decimal (suc n)) (first_decimal (suc n) (omega arith) small)

pub is_numeral-decimal : (n : ℕ) → n < 2 ^ 64 → is_numeral (decimal n) ≡ true
is_numeral-decimal n small = and_from _ _ (list_all-digits (decimal n) ∙ digits_decimal digits_model n small) (has_plain_front-decimal n small)

pub Lacks-decimal : (n : ℕ) → n < 2 ^ 64 → Lacks 32 (decimal n)
Lacks-decimal n small = Lacks-numeral (decimal n) (is_numeral-decimal n small)

plain_zero : (text : List ℕ) → has_plain_front text ≡ true → get_or text 0 0 ≡ 48 → length text ≡ 1
plain_zero [] h e = absurd (false≢true h)
plain_zero (c ∷ []) h e = refl
plain_zero (c ∷ d ∷ cs) h e = absurd (false≢true (sym (ap not (eq-eqb c 48 e)) ∙ h))

pub number_of-decimal : (least most n : ℕ) → most < 2 ^ 64 → least ≤ n → n ≤ most → number_of least most (decimal n) ≡ Some n
number_of-decimal least most n small low high =
    let value : digits_value 10 (decimal n) ≡ n = digits_value-decimal digits_model n (omega arith) in
    rw (is_numeral-decimal n (omega arith), value, le-leb least n low, le-leb n most high) refl

pub number_of-some : (least most : ℕ) (text : List ℕ) (n : ℕ) → most < 2 ^ 64 → number_of least most text ≡ Some n → (text ≡ decimal n) × (least ≤ n) × (n ≤ most)
number_of-some least most text n small h =
    let chosen = cond_some _ _ _ h in
    let high = and_parts _ _ chosen.0 in
    let low = and_parts _ _ high.0 in
    let value : digits_value 10 text ≡ n = chosen.1 in
    let below : digits_value 10 text ≤ most = leb-true _ _ high.1 in
    let above : least ≤ digits_value 10 text = leb-true _ _ low.1 in
    let spelling = decimal-digits_value digits_model text (digits_from_numeral text low.0) (numeral_nonempty text low.0) (plain_zero text (and_parts _ _ low.0).1) (omega arith) in
    (sym spelling ∙ ap decimal value, omega arith, omega arith)

pub number_field-some : (least most : ℕ) (text : List ℕ) (p : ℕ × List ℕ) → most < 2 ^ 64 → number_field least most text ≡ Some p → (text ≡ decimal p.0 ++ 32 ∷ p.1) × (least ≤ p.0) × (p.0 ≤ most)
unfolding number_field
number_field-some least most text p small h =
    let cut = bind_some (cut_at 32 text) _ p h in
    let read = bind_some (number_of least most cut.0.0) _ p cut.1.1 in
    let number = number_of-some least most cut.0.0 read.0 small read.1.0 in
    let whole : (read.0, cut.0.1) ≡ p = same_Some _ _ read.1.1 in
    let P : (ℕ × List ℕ) → Type 0 = λ q. (text ≡ decimal q.0 ++ 32 ∷ q.1) × (least ≤ q.0) × (q.0 ≤ most) in
    subst P whole (cut_at-parts 32 text cut.0 cut.1.0 ∙ ap (λ front. front ++ 32 ∷ cut.0.1) number.0, number.1, number.2)

pub number_field-decimal : (least most n : ℕ) (rest : List ℕ) → most < 2 ^ 64 → least ≤ n → n ≤ most → number_field least most (decimal n ++ 32 ∷ rest) ≡ Some (n, rest)
unfolding number_field
number_field-decimal least most n rest small low high =
    rw (cut_at-append 32 (decimal n) rest (Lacks-decimal n (omega arith)), number_of-decimal least most n small low high) refl

pub rect_field-some : (text : List ℕ) (p : Rect × List ℕ) → rect_field text ≡ Some p → (text ≡ decimal p.0.x ++ 32 ∷ (decimal p.0.y ++ 32 ∷ (decimal p.0.width ++ 32 ∷ (decimal p.0.height ++ 32 ∷ p.1)))) × IsOnScreen p.0
unfolding rect_field
rect_field-some text p h =
    let x = bind_some (number_field 0 32767 text) _ p h in
    let y = bind_some (number_field 0 32767 x.0.1) _ p x.1.1 in
    let width = bind_some (number_field 1 32767 y.0.1) _ p y.1.1 in
    let height = bind_some (number_field 1 32767 width.0.1) _ p width.1.1 in
    let x_is = number_field-some 0 32767 text x.0 (lit< tt) x.1.0 in
    let y_is = number_field-some 0 32767 x.0.1 y.0 (lit< tt) y.1.0 in
    let width_is = number_field-some 1 32767 y.0.1 width.0 (lit< tt) width.1.0 in
    let height_is = number_field-some 1 32767 width.0.1 height.0 (lit< tt) height.1.0 in
    let P : (Rect × List ℕ) → Type 0 = λ q. (text ≡ decimal q.0.x ++ 32 ∷ (decimal q.0.y ++ 32 ∷ (decimal q.0.width ++ 32 ∷ (decimal q.0.height ++ 32 ∷ q.1)))) × IsOnScreen q.0 in
    subst P (same_Some _ _ height.1.1) (
      x_is.0
          ∙ ap (λ rest. decimal x.0.0 ++ 32 ∷ rest) (y_is.0
          ∙ ap (λ rest. decimal y.0.0 ++ 32 ∷ rest) (width_is.0
          ∙ ap (λ rest. decimal width.0.0 ++ 32 ∷ rest) height_is.0)),
      (x_is.2, y_is.2, width_is.1, width_is.2, height_is.1, height_is.2),
    )

pub rect_field-spelled : (rect : Rect) (rest : List ℕ) → IsOnScreen rect → rect_field (decimal rect.x ++ 32 ∷ (decimal rect.y ++ 32 ∷ (decimal rect.width ++ 32 ∷ (decimal rect.height ++ 32 ∷ rest)))) ≡ Some (rect, rest)
unfolding rect_field
rect_field-spelled rect rest fits =
    rw (
      number_field-decimal 0 32767 rect.x (decimal rect.y ++ 32 ∷ (decimal rect.width ++ 32 ∷ (decimal rect.height ++ 32 ∷ rest))) (lit< tt) (omega arith) fits.0,
      number_field-decimal 0 32767 rect.y (decimal rect.width ++ 32 ∷ (decimal rect.height ++ 32 ∷ rest)) (lit< tt) (omega arith) fits.1,
      number_field-decimal 1 32767 rect.width (decimal rect.height ++ 32 ∷ rest) (lit< tt) fits.2 fits.3,
      number_field-decimal 1 32767 rect.height rest (lit< tt) fits.4 fits.5,
    ) refl

pub same_bytes : (xs ys : List ℕ) → bytes_eq xs ys ≡ true → xs ≡ ys
same_bytes xs ys h = (bytes_eq-Decides xs ys).0 h

pub bytes_eq-same : (xs : List ℕ) → bytes_eq xs xs ≡ true
bytes_eq-same xs = (bytes_eq-Decides xs xs).1 refl

pub behind-some : (word line fields : List ℕ) → behind word line ≡ Some fields → line ≡ word ++ 32 ∷ fields
behind-some word line fields h =
    let cut = bind_some (cut_at 32 line) _ fields h in
    let chosen = cond_some _ _ _ cut.1.1 in
    cut_at-parts 32 line cut.0 cut.1.0
    ∙ ap (λ front. front ++ 32 ∷ cut.0.1) (same_bytes _ _ chosen.0)
    ∙ ap (λ rest. word ++ 32 ∷ rest) chosen.1

pub behind-append : (word fields : List ℕ) → Lacks 32 word → behind word (word ++ 32 ∷ fields) ≡ Some fields
behind-append word fields lacks = rw (cut_at-append 32 word fields lacks, bytes_eq-same word) refl

-- a rectangle that ends the text
pub rect_of-some : (text : List ℕ) (rect : Rect) → rect_of text ≡ Some rect
    → (text ≡ decimal rect.x ++ 32 ∷ (decimal rect.y ++ 32 ∷ (decimal rect.width ++ 32 ∷ decimal rect.height))) × IsOnScreen rect
unfolding rect_of
rect_of-some text rect h =
    let x = bind_some (number_field 0 32767 text) _ rect h in
    let y = bind_some (number_field 0 32767 x.0.1) _ rect x.1.1 in
    let width = bind_some (number_field 1 32767 y.0.1) _ rect y.1.1 in
    let height = bind_some (number_of 1 32767 width.0.1) _ rect width.1.1 in
    let x_is = number_field-some 0 32767 text x.0 (lit< tt) x.1.0 in
    let y_is = number_field-some 0 32767 x.0.1 y.0 (lit< tt) y.1.0 in
    let width_is = number_field-some 1 32767 y.0.1 width.0 (lit< tt) width.1.0 in
    let height_is = number_of-some 1 32767 width.0.1 height.0 (lit< tt) height.1.0 in
    let P : Rect → Type 0 = λ r. (text ≡ decimal r.x ++ 32 ∷ (decimal r.y ++ 32 ∷ (decimal r.width ++ 32 ∷ decimal r.height))) × IsOnScreen r in
    subst P (same_Some _ _ height.1.1) (
      x_is.0
          ∙ ap (λ rest. decimal x.0.0 ++ 32 ∷ rest) (y_is.0
          ∙ ap (λ rest. decimal y.0.0 ++ 32 ∷ rest) (width_is.0
          ∙ ap (λ rest. decimal width.0.0 ++ 32 ∷ rest) height_is.0)),
      (x_is.2, y_is.2, width_is.1, width_is.2, height_is.1, height_is.2),
    )

pub rect_of-spelled : (rect : Rect) → IsOnScreen rect → rect_of (decimal rect.x ++ 32 ∷ (decimal rect.y ++ 32 ∷ (decimal rect.width ++ 32 ∷ decimal rect.height))) ≡ Some rect
unfolding rect_of
rect_of-spelled rect fits =
    rw (
      number_field-decimal 0 32767 rect.x (decimal rect.y ++ 32 ∷ (decimal rect.width ++ 32 ∷ decimal rect.height)) (lit< tt) (omega arith) fits.0,
      number_field-decimal 0 32767 rect.y (decimal rect.width ++ 32 ∷ decimal rect.height) (lit< tt) (omega arith) fits.1,
      number_field-decimal 1 32767 rect.width (decimal rect.height) (lit< tt) fits.2 fits.3,
      number_of-decimal 1 32767 rect.height (lit< tt) fits.4 fits.5,
    ) refl

-- a name of an application
pub name_of-some : (field name : List ℕ) → name_of field ≡ Some name → (field ≡ name) × IsName name
name_of-some field name h =
    let chosen = cond_some _ _ _ h in
    let P : List ℕ → Type 0 = λ n. IsName n in
    (chosen.1, subst P chosen.1 chosen.0)

pub name_of-named : (name : List ℕ) → IsName name → name_of name ≡ Some name
name_of-named name named = rw named refl

-- ---- budgets

-- a text of digits has no slash
digit_above_slash : (c : ℕ) → is_ascii_digit c ≡ true → c ≢ 47
digit_above_slash c h e = omega (arith, at_least 48 57 c h)

Lacks_slash-decimal : (n : ℕ) → n < 2 ^ 64 → Lacks 47 (decimal n)
Lacks_slash-decimal n small = lacks_from_test 47 is_ascii_digit digit_above_slash (decimal n) (and_parts _ _ (is_numeral-decimal n small)).0

pub cut_at-lacks : (byte : ℕ) (text : List ℕ) → Lacks byte text → cut_at byte text ≡ None
cut_at-lacks byte [] lacks = refl
cut_at-lacks byte (c ∷ cs) lacks = rw (ne_eqb c byte lacks.0, cut_at-lacks byte cs lacks.1) refl

-- what a budget is read from
pub record IsBudgetRead (format : Format) (field : List ℕ) (budget : Budget) : Type 0 where
  pub spells : SpellsBudget format field budget
  pub total_fits : budget.total ≤ 10000000
  pub refill_fits : budget.refill ≤ 10000000

pub mapped : {A B : Type 0} (f : A → B) (o : Option A) (y : B) → option_map f o ≡ Some y → (x : A) × ((o ≡ Some x) × (f x ≡ y))
mapped f None y h = absurd (none-some y h)
mapped f (Some x) y h = (x, (refl, same_Some _ _ h))

fixed_of-some : (field : List ℕ) (budget : Budget) → fixed_of field ≡ Some budget → ((field ≡ decimal budget.total) × (budget.refill ≡ 0)) × (budget.total ≤ 10000000)
fixed_of-some field budget h =
    let read = mapped fixed_budget (number_of 0 10000000 field) budget h in
    let number = number_of-some 0 10000000 field read.0 (lit< tt) read.1.0 in
    let P : Budget → Type 0 = λ b. ((field ≡ decimal b.total) × (b.refill ≡ 0)) × (b.total ≤ 10000000) in
    subst P read.1.1 ((number.0, refl), number.2)

fixed_read : (format : Format) (field : List ℕ) (budget : Budget) → fixed_of field ≡ Some budget → IsBudgetRead format field budget
fixed_read First field budget h =
    let is = fixed_of-some field budget h in
    record { spells = is.0; total_fits = is.1; refill_fits = omega (arith, is.0.1) }
fixed_read Second field budget h =
    let is = fixed_of-some field budget h in
    record { spells = inl is.0; total_fits = is.1; refill_fits = omega (arith, is.0.1) }

refilled_read : (field : List ℕ) (parts : List ℕ × List ℕ) (budget : Budget) → cut_at 47 field ≡ Some parts → refilled_of parts ≡ Some budget → IsBudgetRead Second field budget
refilled_read field parts budget cut h =
    let total = bind_some (number_of 0 10000000 parts.0) _ budget h in
    let refill = bind_some (number_of 0 10000000 parts.1) _ budget total.1.1 in
    let total_is = number_of-some 0 10000000 parts.0 total.0 (lit< tt) total.1.0 in
    let refill_is = number_of-some 0 10000000 parts.1 refill.0 (lit< tt) refill.1.0 in
    let P : Budget → Type 0 = λ b. IsBudgetRead Second field b in
    subst P (same_Some _ _ refill.1.1) record {
      spells = inr (cut_at-parts 47 field parts cut
          ∙ ap (λ front. front ++ 47 ∷ parts.1) total_is.0
          ∙ ap (λ rest. decimal total.0 ++ 47 ∷ rest) refill_is.0);
      total_fits = total_is.2;
      refill_fits = refill_is.2;
    }

cut_budget-read : (field : List ℕ) (parts : Option (List ℕ × List ℕ)) (budget : Budget) → cut_at 47 field ≡ parts → cut_budget field parts ≡ Some budget → IsBudgetRead Second field budget
cut_budget-read field None budget cut h = fixed_read Second field budget h
cut_budget-read field (Some parts) budget cut h = refilled_read field parts budget cut h

pub budget_of-some : (format : Format) (field : List ℕ) (budget : Budget) → budget_of format field ≡ Some budget → IsBudgetRead format field budget
unfolding budget_of
budget_of-some First field budget h = fixed_read First field budget h
budget_of-some Second field budget h = cut_budget-read field (cut_at 47 field) budget refl h

fixed_of-spelled : (field : List ℕ) (budget : Budget) → (field ≡ decimal budget.total) × (budget.refill ≡ 0) → budget.total ≤ 10000000 → fixed_of field ≡ Some budget
fixed_of-spelled field budget is fits =
    ap fixed_of is.0
    ∙ ap (λ (o : Option ℕ). option_map fixed_budget o) (number_of-decimal 0 10000000 budget.total (lit< tt) (omega arith) fits)
    ∙ ap (λ (refill : ℕ). Some (record budget { refill = refill })) (sym is.1)

pub budget_of-spelled : (format : Format) (field : List ℕ) (budget : Budget) → SpellsBudget format field budget → budget.total ≤ 10000000 → budget.refill ≤ 10000000
    → budget_of format field ≡ Some budget
unfolding budget_of
budget_of-spelled First field budget is total refill = fixed_of-spelled field budget is total
budget_of-spelled Second field budget is total refill =
    elim is [
      | inl fixed ↦
          let P : List ℕ → Type 0 = λ text. cut_at 47 text ≡ None in
          rw (subst P (sym fixed.0) (cut_at-lacks 47 (decimal budget.total) (Lacks_slash-decimal budget.total (omega arith)))) (fixed_of-spelled field budget fixed total)
      | inr refilled ↦
          ap (λ (text : List ℕ). cut_budget text (cut_at 47 text)) refilled
          ∙ rw (
            cut_at-append 47 (decimal budget.total) (decimal budget.refill) (Lacks_slash-decimal budget.total (omega arith)),
            number_of-decimal 0 10000000 budget.total (lit< tt) (omega arith) total,
            number_of-decimal 0 10000000 budget.refill (lit< tt) (omega arith) refill,
          ) refl
    ]

-- ---- the first line of an application

pub app_line_of-some : (format : Format) (line : List ℕ) (app : List ℕ × Rect × Budget) → app_line_of format line ≡ Some app → IsAppLine format line app.0 app.1 app.2
unfolding app_line_of
app_line_of-some format line app h =
    let fields = bind_some (behind (codes "app") line) _ app h in
    let cut = bind_some (cut_at 32 fields.0) _ app fields.1.1 in
    let name = bind_some (name_of cut.0.0) _ app cut.1.1 in
    let rect = bind_some (rect_field cut.0.1) _ app name.1.1 in
    let budget = bind_some (budget_of format rect.0.1) _ app rect.1.1 in
    let name_is = name_of-some cut.0.0 name.0 name.1.0 in
    let rect_is = rect_field-some cut.0.1 rect.0 rect.1.0 in
    let budget_is = budget_of-some format rect.0.1 budget.0 budget.1.0 in
    let P : (List ℕ × Rect × Budget) → Type 0 = λ a. IsAppLine format line a.0 a.1 a.2 in
    subst P (same_Some _ _ budget.1.1) record {
      steps = rect.0.1;
      spelling = behind-some (codes "app") line fields.0 fields.1.0
          ∙ ap (λ rest. codes "app" ++ 32 ∷ rest) (cut_at-parts 32 fields.0 cut.0 cut.1.0
          ∙ ap (λ front. front ++ 32 ∷ cut.0.1) name_is.0
          ∙ ap (λ rest. name.0 ++ 32 ∷ rest) rect_is.0);
      spells = budget_is.spells;
      values = record { named = name_is.1; placed = rect_is.1; total_fits = budget_is.total_fits; refill_fits = budget_is.refill_fits };
    }

pub app_line_of-spelled : (format : Format) (line name : List ℕ) (rect : Rect) (budget : Budget) → IsAppLine format line name rect budget → app_line_of format line ≡ Some (name, rect, budget)
unfolding app_line_of
app_line_of-spelled format line name rect budget is =
    let values = is.values in
    let named : is_name name ≡ true = values.named in
    ap (app_line_of format) is.spelling
    ∙ rw (
      cut_at-append 32 name (decimal rect.x ++ 32 ∷ (decimal rect.y ++ 32 ∷ (decimal rect.width ++ 32 ∷ (decimal rect.height ++ 32 ∷ is.steps)))) (Lacks-name name named),
      named,
      rect_field-spelled rect is.steps values.placed,
      budget_of-spelled format is.steps budget is.spells values.total_fits values.refill_fits,
    ) refl

pub script_line_of-some : (line : List ℕ) (count : ℕ) → script_line_of line ≡ Some count → IsScriptLine line count
unfolding script_line_of
script_line_of-some line count h =
    let rest = bind_some (behind (codes "script") line) _ count h in
    let number = number_of-some 0 65537 rest.0 count (lit< tt) rest.1.1 in
    record {
      spelling = behind-some (codes "script") line rest.0 rest.1.0 ∙ ap (λ field. codes "script" ++ 32 ∷ field) number.0;
      count_range = number.2;
    }

pub script_line_of-spelled : (line : List ℕ) (count : ℕ) → IsScriptLine line count → script_line_of line ≡ Some count
unfolding script_line_of
script_line_of-spelled line count is =
    ap script_line_of is.spelling ∙ number_of-decimal 0 65537 count (lit< tt) (omega arith) is.count_range

pub end_line_of-some : (line : List ℕ) (moment : ℕ) → end_line_of line ≡ Some moment → IsEndLine line moment
unfolding end_line_of
end_line_of-some line moment h =
    let cut = bind_some (cut_at 32 line) _ moment h in
    let read = bind_some (number_of 0 1000000000000 cut.0.0) _ moment cut.1.1 in
    let chosen = cond_some _ _ _ read.1.1 in
    let number = number_of-some 0 1000000000000 cut.0.0 read.0 (lit< tt) read.1.0 in
    let P : ℕ → Type 0 = λ n. IsEndLine line n in
    subst P chosen.1 record {
      spelling = cut_at-parts 32 line cut.0 cut.1.0
          ∙ ap (λ front. front ++ 32 ∷ cut.0.1) number.0
          ∙ ap (λ rest. decimal read.0 ++ 32 ∷ rest) (same_bytes _ _ chosen.0);
      moment_range = number.2;
    }

pub end_line_of-spelled : (line : List ℕ) (moment : ℕ) → IsEndLine line moment → end_line_of line ≡ Some moment
unfolding end_line_of
end_line_of-spelled line moment is =
    ap end_line_of is.spelling
    ∙ rw (cut_at-append 32 (decimal moment) (codes "end") (Lacks-decimal moment (omega (arith, is.moment_range))), number_of-decimal 0 1000000000000 moment (lit< tt) (omega arith) is.moment_range) refl

-- the first line, and the lines of what stands after it
pub lines_of-cut : (bytes : List ℕ) (parts : List ℕ × List ℕ) → cut_at 10 bytes ≡ Some parts → lines_of bytes ≡ parts.0 ∷ lines_of parts.1
lines_of-cut [] parts h = absurd (none-some parts h)
lines_of-cut (b ∷ bs) parts h =
    let P : (List ℕ × List ℕ) → Type 0 = λ p. lines_of (b ∷ bs) ≡ p.0 ∷ lines_of p.1 in
    elim (cases_Bool (eqb b 10)) [
      | inl here ↦ subst P (same_Some _ _ (rw here at h)) (rw here refl)
      | inr later ↦
          let inner = cut_in (cut_at 10 bs) b parts (rw later at h) in
          subst P inner.1.1 (rw (later, lines_of-cut bs inner.0 inner.1.0) refl)
    ]

-- with no LF there is one line
pub lines_of-last : (bytes : List ℕ) → cut_at 10 bytes ≡ None → 0 < length bytes → lines_of bytes ≡ bytes ∷ []
lines_of-last [] h some = absurd (omega arith)
lines_of-last (b ∷ []) h some =
    elim (cases_Bool (eqb b 10)) [
      | inl here ↦ absurd (none-some _ (sym (rw here at h)))
      | inr later ↦ rw later refl
    ]
lines_of-last (b ∷ c ∷ bs) h some =
    elim (cases_Bool (eqb b 10)) [
      | inl here ↦ absurd (none-some _ (sym (rw here at h)))
      | inr later ↦ rw (later, lines_of-last (c ∷ bs) (unmapped _ _ (rw later at h)) (omega arith)) refl
    ]

pub length-cut_at : (byte : ℕ) (bytes : List ℕ) (parts : List ℕ × List ℕ) → cut_at byte bytes ≡ Some parts → length parts.1 < length bytes
length-cut_at byte bytes parts h = rw (cut_at-parts byte bytes parts h, length-append) (omega arith)
