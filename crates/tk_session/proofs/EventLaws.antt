-- What the reader of an event's line answers is what the line says, both ways, and what keeps an event from coming.
use Rattle.std.proofs.Common.{◌≡◌, ◌≢◌, ℕ, ◌<◌, ◌≤◌, ◌^◌, Bool, true, false, ltb, List, [], ◌∷◌, ◌++◌, length, reverse, map, Option, Some, None, option_map, Decides, inl, inr, refl, ap, sym, ◌∙◌, subst, arith, lit<}
use Rattle.std.specs.Prelude.{codes, IsTrue, if◌then◌else◌, nat_le, nat_lt}
use Rattle.std.specs.Fmt.{decimal}
use Rattle.std.specs.Str.{IsUtf8, is_utf8, bytes_eq}
use Rattle.std.proofs.lemmas.Bool.{false≢true, cases_Bool, leb-true, leb-false, le-leb, lt-leb, lt-ltb, ltb-true, ltb-false, false_from_ne_true}
use Rattle.std.proofs.lemmas.List.{map-append, reverse-append}
use Rattle.std.proofs.lemmas.Option.{cond_some, none-some, same_Some}
use Rattle.std.proofs.lemmas.Slice.Eq.{bytes_eq-Decides}
use Rattle.std.proofs.lemmas.Str.{is_utf8-from_IsUtf8, IsUtf8-from_is_utf8}
use Rattle.tk_base.specs.declared.rect.Rect.{Rect}
use Rattle.tk_base.specs.Names.{key_named}
use Rattle.tk_route.specs.Lines.{Line, moment_after, rects_after}
use Rattle.tk_route.specs.Names.{IsName, is_name}
use Rattle.tk_route.specs.Refusals.{Covers, IsFirst, IsInRange as IsLineInRange, NamesNobody, NoneApplies, Refuses, covers, faults_beside, names_nobody}
use Rattle.tk_route.specs.declared.line.HostLine.{HostLine}
use Rattle.tk_route.specs.declared.line.HostLine.TheVariants.{Move, Press, Release, Keydown, Keyup, Focus, Rect as Placed}
use Rattle.tk_route.specs.declared.fault.LineFault.{LineFault}
use Rattle.tk_route.specs.declared.fault.LineFault.TheVariants.{TimeBack, NoApp, RectOverlap}
use Rattle.tk_route.specs.declared.fault.LineFault.TheVariants as faults
use Rattle.tk_session.specs.declared.screen.Screen.{Screen}
use Rattle.tk_session.specs.declared.session.AppBlock.{AppBlock}
use Rattle.tk_session.specs.declared.session.EventLine.{EventLine}
use Rattle.tk_session.specs.declared.stage.Format.{Format}
use Rattle.tk_session.specs.declared.stage.Format.TheVariants.{First, Second}
use Rattle.tk_session.specs.Names.{slot_of}
use Rattle.tk_session.specs.Session.{spelled, rect_fields, SayEvent, IsEventLine, IsEndLine, line_of, newest_first, moment_at, rects_at, rects_of, HindersEvent, MayCome}
use Rattle.tk_session.specs.Reading.{app_of, button_of, cut_at, event_hindrance, event_line_of, event_of, focus_of, key_of, move_of, moved, name_of, number_field, number_of, placed_of, rect_of, utf8_of}
use Rattle.tk_session.proofs.AliasLaws.{chosen}
use Rattle.tk_session.proofs.LineLaws.{Lacks, Lacks-name, Lacks-decimal, bind_some, cut_at-append, cut_at-parts, mapped, name_of-named, name_of-some, number_field-decimal, number_field-some, number_of-decimal, number_of-some, rect_of-some, rect_of-spelled, same_bytes}

-- ---- what the word and the fields of an event say

-- the text behind a moment says this
record IsEventRead (format : Format) (apps : List AppBlock) (text : List ℕ) (line : HostLine) : Type 0 where
  first : List ℕ
  others : List (List ℕ)
  spells : text ≡ spelled (first ∷ others)
  says : SayEvent format apps (first ∷ others) line
  range : IsLineInRange line

move_of-some : (format : Format) (apps : List AppBlock) (fields : List ℕ) (line : HostLine) → move_of fields ≡ Some line → IsEventRead format apps (codes "move" ++ 32 ∷ fields) line
unfolding move_of
move_of-some format apps fields line h =
    let x = bind_some (number_field 0 65535 fields) _ line h in
    let y = bind_some (number_of 0 65535 x.0.1) _ line x.1.1 in
    let x_is = number_field-some 0 65535 fields x.0 (lit< tt) x.1.0 in
    let y_is = number_of-some 0 65535 x.0.1 y.0 (lit< tt) y.1.0 in
    let P : HostLine → Type 0 = λ l. IsEventRead format apps (codes "move" ++ 32 ∷ fields) l in
    subst P (same_Some _ _ y.1.1) record {
      first = codes "move";
      others = decimal x.0.0 ∷ decimal y.0 ∷ [];
      spells = ap (λ (rest : List ℕ). codes "move" ++ 32 ∷ rest) (x_is.0 ∙ ap (λ (rest : List ℕ). decimal x.0.0 ++ 32 ∷ rest) y_is.0);
      says = refl;
      range = (x_is.2, y_is.2);
    }

-- a word and a button
button_read : (format : Format) (apps : List AppBlock) (word : List ℕ) (made : ℕ → HostLine) → ((button : ℕ) → SayEvent format apps (word ∷ decimal button ∷ []) (made button))
    → ((button : ℕ) → 1 ≤ button → button ≤ 5 → IsLineInRange (made button))
    → (field : List ℕ) (line : HostLine) → option_map made (button_of field) ≡ Some line → IsEventRead format apps (word ++ 32 ∷ field) line
button_read format apps word made says range field line h =
    let button = mapped made (button_of field) line h in
    let is = number_of-some 1 5 field button.0 (lit< tt) button.1.0 in
    let P : HostLine → Type 0 = λ l. IsEventRead format apps (word ++ 32 ∷ field) l in
    subst P button.1.1 record {
      first = word;
      others = decimal button.0 ∷ [];
      spells = ap (λ (rest : List ℕ). word ++ 32 ∷ rest) is.0;
      says = says button.0;
      range = range button.0 is.1 is.2;
    }

press_read : (format : Format) (apps : List AppBlock) (field : List ℕ) (line : HostLine) → option_map Press (button_of field) ≡ Some line → IsEventRead format apps (codes "press" ++ 32 ∷ field) line
press_read format apps field line h = button_read format apps (codes "press") Press (λ button. refl) (λ button low high. (low, high)) field line h

release_read : (format : Format) (apps : List AppBlock) (field : List ℕ) (line : HostLine) → option_map Release (button_of field) ≡ Some line → IsEventRead format apps (codes "release" ++ 32 ∷ field) line
release_read format apps field line h = button_read format apps (codes "release") Release (λ button. refl) (λ button low high. (low, high)) field line h

key_of-some : (field : List ℕ) (key : ℕ) → key_of field ≡ Some key → IsUtf8 field × (key_named field ≡ Some key)
key_of-some field key h =
    let read = bind_some (utf8_of field) _ key h in
    let is = cond_some _ _ _ read.1.0 in
    let P : List ℕ → Type 0 = λ name. key_named name ≡ Some key in
    (IsUtf8-from_is_utf8 field is.0, subst P (sym is.1) read.1.1)

-- a word and the name of a key
named_read : (format : Format) (apps : List AppBlock) (word : List ℕ) (made : ℕ → HostLine)
    → ((field : List ℕ) (key : ℕ) → IsUtf8 field → key_named field ≡ Some key → SayEvent format apps (word ∷ field ∷ []) (made key)) → ((key : ℕ) → IsLineInRange (made key))
    → (field : List ℕ) (line : HostLine) → option_map made (key_of field) ≡ Some line → IsEventRead format apps (word ++ 32 ∷ field) line
named_read format apps word made says range field line h =
    let key = mapped made (key_of field) line h in
    let is = key_of-some field key.0 key.1.0 in
    let P : HostLine → Type 0 = λ l. IsEventRead format apps (word ++ 32 ∷ field) l in
    subst P key.1.1 record { first = word; others = field ∷ []; spells = refl; says = says field key.0 is.0 is.1; range = range key.0 }

keydown_read : (format : Format) (apps : List AppBlock) (field : List ℕ) (line : HostLine) → option_map Keydown (key_of field) ≡ Some line → IsEventRead format apps (codes "keydown" ++ 32 ∷ field) line
keydown_read format apps field line h = named_read format apps (codes "keydown") Keydown (λ field key utf8 named. (field, refl, utf8, named)) (λ key. tt) field line h

keyup_read : (format : Format) (apps : List AppBlock) (field : List ℕ) (line : HostLine) → option_map Keyup (key_of field) ≡ Some line → IsEventRead format apps (codes "keyup" ++ 32 ∷ field) line
keyup_read format apps field line h = named_read format apps (codes "keyup") Keyup (λ field key utf8 named. (field, refl, utf8, named)) (λ key. tt) field line h

app_of-some : (apps : List AppBlock) (field : List ℕ) (slot : ℕ) → app_of apps field ≡ Some slot → IsName field × (slot ≡ slot_of field apps)
app_of-some apps field slot h =
    let name = bind_some (name_of field) _ slot h in
    let is = name_of-some field name.0 name.1.0 in
    let P : List ℕ → Type 0 = λ n. IsName n × (slot ≡ slot_of n apps) in
    subst P (sym is.0) (is.1, sym (same_Some _ _ name.1.1))

focus_of-some : (format : Format) (apps : List AppBlock) (field : List ℕ) (line : HostLine) → focus_of apps field ≡ Some line → IsEventRead format apps (codes "focus" ++ 32 ∷ field) line
unfolding focus_of
focus_of-some format apps field line h =
    let P : HostLine → Type 0 = λ l. IsEventRead format apps (codes "focus" ++ 32 ∷ field) l in
    elim (chosen (bytes_eq field (codes "-")) (Some (Focus None)) _ line h) [
      | inl nobody ↦ subst P (same_Some _ _ nobody.1) record {
        first = codes "focus";
        others = codes "-" ∷ [];
        spells = ap (λ (rest : List ℕ). codes "focus" ++ 32 ∷ rest) (same_bytes field (codes "-") nobody.0);
        says = refl;
        range = tt;
      }
      | inr named ↦
          let slot = bind_some (app_of apps field) _ line named in
          let is = app_of-some apps field slot.0 slot.1.0 in
          subst P (same_Some _ _ slot.1.1) record { first = codes "focus"; others = field ∷ []; spells = refl; says = (field, refl, is.0, is.1); range = tt }
    ]

placed_of-some : (format : Format) (apps : List AppBlock) (fields : List ℕ) (line : HostLine) → placed_of format apps fields ≡ Some line → IsEventRead format apps (codes "rect" ++ 32 ∷ fields) line
unfolding placed_of
placed_of-some First apps fields line h = absurd (none-some line h)
placed_of-some Second apps fields line h =
    let cut = bind_some (cut_at 32 fields) _ line h in
    let slot = bind_some (app_of apps cut.0.0) _ line cut.1.1 in
    let rect = bind_some (rect_of cut.0.1) _ line slot.1.1 in
    let slot_is = app_of-some apps cut.0.0 slot.0 slot.1.0 in
    let rect_is = rect_of-some cut.0.1 rect.0 rect.1.0 in
    let P : HostLine → Type 0 = λ l. IsEventRead Second apps (codes "rect" ++ 32 ∷ fields) l in
    subst P (same_Some _ _ rect.1.1) record {
      first = codes "rect";
      others = cut.0.0 ∷ rect_fields rect.0;
      spells = ap (λ (rest : List ℕ). codes "rect" ++ 32 ∷ rest) (cut_at-parts 32 fields cut.0 cut.1.0 ∙ ap (λ (rest : List ℕ). cut.0.0 ++ 32 ∷ rest) rect_is.0);
      says = (cut.0.0, refl, slot_is.0, slot_is.1);
      range = rect_is.1;
    }

event_of-some : (format : Format) (apps : List AppBlock) (word fields : List ℕ) (line : HostLine) → event_of format apps word fields ≡ Some line → IsEventRead format apps (word ++ 32 ∷ fields) line
unfolding event_of
event_of-some format apps word fields line h =
    let P : List ℕ → Type 0 = λ w. IsEventRead format apps (w ++ 32 ∷ fields) line in
    elim (chosen (bytes_eq word (codes "move")) (move_of fields) _ line h) [
      | inl is ↦ subst P (sym (same_bytes word (codes "move") is.0)) (move_of-some format apps fields line is.1)
      | inr no_move ↦ elim (chosen (bytes_eq word (codes "press")) (option_map Press (button_of fields)) _ line no_move) [
        | inl is ↦ subst P (sym (same_bytes word (codes "press") is.0)) (press_read format apps fields line is.1)
        | inr no_press ↦ elim (chosen (bytes_eq word (codes "release")) (option_map Release (button_of fields)) _ line no_press) [
          | inl is ↦ subst P (sym (same_bytes word (codes "release") is.0)) (release_read format apps fields line is.1)
          | inr no_release ↦ elim (chosen (bytes_eq word (codes "keydown")) (option_map Keydown (key_of fields)) _ line no_release) [
            | inl is ↦ subst P (sym (same_bytes word (codes "keydown") is.0)) (keydown_read format apps fields line is.1)
            | inr no_keydown ↦ elim (chosen (bytes_eq word (codes "keyup")) (option_map Keyup (key_of fields)) _ line no_keydown) [
              | inl is ↦ subst P (sym (same_bytes word (codes "keyup") is.0)) (keyup_read format apps fields line is.1)
              | inr no_keyup ↦ elim (chosen (bytes_eq word (codes "focus")) (focus_of apps fields) _ line no_keyup) [
                | inl is ↦ subst P (sym (same_bytes word (codes "focus") is.0)) (focus_of-some format apps fields line is.1)
                | inr no_focus ↦ elim (chosen (bytes_eq word (codes "rect")) (placed_of format apps fields) None line no_focus) [
                  | inl is ↦ subst P (sym (same_bytes word (codes "rect") is.0)) (placed_of-some format apps fields line is.1)
                  | inr none ↦ absurd (none-some line none)
                ]
              ]
            ]
          ]
        ]
      ]
    ]

pub event_line_of-some : (format : Format) (apps : List AppBlock) (line : List ℕ) (event : EventLine) → event_line_of format apps line ≡ Some event → IsEventLine format apps line event
unfolding event_line_of
event_line_of-some format apps line event h =
    let moment = bind_some (number_field 0 1000000000000 line) _ event h in
    let cut = bind_some (cut_at 32 moment.0.1) _ event moment.1.1 in
    let told = bind_some (event_of format apps cut.0.0 cut.0.1) _ event cut.1.1 in
    let moment_is = number_field-some 0 1000000000000 line moment.0 (lit< tt) moment.1.0 in
    let read = event_of-some format apps cut.0.0 cut.0.1 told.0 told.1.0 in
    let P : EventLine → Type 0 = λ e. IsEventLine format apps line e in
    subst P (same_Some _ _ told.1.1) record {
      fields = read.first ∷ read.others;
      spelling = moment_is.0 ∙ ap (λ (rest : List ℕ). decimal moment.0.0 ++ 32 ∷ rest) (cut_at-parts 32 moment.0.1 cut.0 cut.1.0 ∙ read.spells);
      says = read.says;
      moment_range = moment_is.2;
      range = read.range;
    }

-- ---- the other way

dash_is_no_name : (name : List ℕ) → IsName name → bytes_eq name (codes "-") ≡ false
dash_is_no_name name named =
    false_from_ne_true (bytes_eq name (codes "-")) (λ same.
    let P : List ℕ → Type 0 = λ n. IsName n in
    absurd (false≢true (subst P (same_bytes name (codes "-") same) named)))

-- the line that such fields make
abbrev FoundIn : Format → List AppBlock → ℕ → List (List ℕ) → HostLine → Type 0
FoundIn format apps moment fields line = event_line_of format apps (spelled (decimal moment ∷ fields)) ≡ Some (record { moment = moment; line = line })

found_in : (format : Format) (apps : List AppBlock) (moment : ℕ) (line : HostLine) (made fields : List (List ℕ)) → fields ≡ made → FoundIn format apps moment made line → FoundIn format apps moment fields line
found_in format apps moment line made fields is found = ap (λ (fs : List (List ℕ)). event_line_of format apps (spelled (decimal moment ∷ fs))) is ∙ found

-- a moment is read back, and what stands behind it is left
moment_read : (moment : ℕ) (rest : List ℕ) → moment ≤ 1000000000000 → number_field 0 1000000000000 (decimal moment ++ 32 ∷ rest) ≡ Some (moment, rest)
moment_read moment rest fits = number_field-decimal 0 1000000000000 moment rest (lit< tt) (omega arith) fits

event_line_of-fields : (format : Format) (apps : List AppBlock) (moment : ℕ) (line : HostLine) (fields : List (List ℕ)) → moment ≤ 1000000000000
    → SayEvent format apps fields line → IsLineInRange line → FoundIn format apps moment fields line
unfolding event_line_of event_of move_of focus_of placed_of
event_line_of-fields format apps moment (Move x y) fields fits says range =
    found_in format apps moment (Move x y) (codes "move" ∷ decimal x ∷ decimal y ∷ []) fields says
    (rw (
      moment_read moment (codes "move" ++ 32 ∷ (decimal x ++ 32 ∷ decimal y)) fits,
      number_field-decimal 0 65535 x (decimal y) (lit< tt) (omega arith) range.0,
      number_of-decimal 0 65535 y (lit< tt) (omega arith) range.1,
    ) refl)
event_line_of-fields format apps moment (Press button) fields fits says range =
    found_in format apps moment (Press button) (codes "press" ∷ decimal button ∷ []) fields says
    (rw (moment_read moment (codes "press" ++ 32 ∷ decimal button) fits, number_of-decimal 1 5 button (lit< tt) range.0 range.1) refl)
event_line_of-fields format apps moment (Release button) fields fits says range =
    found_in format apps moment (Release button) (codes "release" ∷ decimal button ∷ []) fields says
    (rw (moment_read moment (codes "release" ++ 32 ∷ decimal button) fits, number_of-decimal 1 5 button (lit< tt) range.0 range.1) refl)
event_line_of-fields format apps moment (Keydown key) fields fits says range =
    found_in format apps moment (Keydown key) (codes "keydown" ∷ says.0 ∷ []) fields says.1
    (rw (moment_read moment (codes "keydown" ++ 32 ∷ says.0) fits, is_utf8-from_IsUtf8 says.0 says.2, says.3) refl)
event_line_of-fields format apps moment (Keyup key) fields fits says range =
    found_in format apps moment (Keyup key) (codes "keyup" ∷ says.0 ∷ []) fields says.1
    (rw (moment_read moment (codes "keyup" ++ 32 ∷ says.0) fits, is_utf8-from_IsUtf8 says.0 says.2, says.3) refl)
event_line_of-fields format apps moment (Focus None) fields fits says range =
    found_in format apps moment (Focus None) (codes "focus" ∷ codes "-" ∷ []) fields says
    (rw (moment_read moment (codes "focus" ++ 32 ∷ codes "-") fits) refl)
event_line_of-fields format apps moment (Focus (Some slot)) fields fits says range =
    found_in format apps moment (Focus (Some slot)) (codes "focus" ∷ says.0 ∷ []) fields says.1
    (rw (
      moment_read moment (codes "focus" ++ 32 ∷ says.0) fits,
      dash_is_no_name says.0 says.2,
      says.2,
    ) (ap (λ (s : ℕ). Some (record { moment = moment; line = Focus (Some s) })) (sym says.3)))
event_line_of-fields First apps moment (Placed slot rect) fields fits says range = absurd says
event_line_of-fields Second apps moment (Placed slot rect) fields fits says range =
    let named : is_name says.0 ≡ true = says.2 in
    let corner : List ℕ = decimal rect.x ++ 32 ∷ (decimal rect.y ++ 32 ∷ (decimal rect.width ++ 32 ∷ decimal rect.height)) in
    found_in Second apps moment (Placed slot rect) (codes "rect" ∷ says.0 ∷ rect_fields rect) fields says.1
    (rw (
      moment_read moment (codes "rect" ++ 32 ∷ (says.0 ++ 32 ∷ corner)) fits,
      cut_at-append 32 says.0 corner (Lacks-name says.0 named),
      named,
      rect_of-spelled rect range,
    ) (ap (λ (s : ℕ). Some (record { moment = moment; line = Placed s rect })) (sym says.3)))

pub event_line_of-spelled : (format : Format) (apps : List AppBlock) (line : List ℕ) (event : EventLine) → IsEventLine format apps line event → event_line_of format apps line ≡ Some event
event_line_of-spelled format apps line event is =
    ap (event_line_of format apps) is.spelling ∙ event_line_of-fields format apps event.moment event.line is.fields is.moment_range is.says is.range

-- the end line isn't one of an event
pub event_line_of-end : (format : Format) (apps : List AppBlock) (line : List ℕ) (moment : ℕ) → IsEndLine line moment → event_line_of format apps line ≡ None
unfolding event_line_of
event_line_of-end format apps line moment is =
    ap (event_line_of format apps) is.spelling ∙ rw (number_field-decimal 0 1000000000000 moment (codes "end") (lit< tt) (omega arith) is.moment_range) refl

-- ---- beside other events

-- the screen after events
abbrev pub screen_at : List AppBlock → List EventLine → Screen
screen_at apps told = record { moment = moment_at told; rects = rects_at apps told }

pub newest_first-push : (told : List EventLine) (event : EventLine) → newest_first (told ++ event ∷ []) ≡ line_of event ∷ newest_first told
newest_first-push told event = ap reverse (map-append line_of told (event ∷ [])) ∙ reverse-append (map line_of told) (line_of event ∷ [])

pub screen_at-push : (apps : List AppBlock) (told : List EventLine) (event : EventLine) → screen_at apps (told ++ event ∷ []) ≡ moved (screen_at apps told) event
screen_at-push apps told event =
    ap (λ (lines : List Line). record { moment = moment_after lines; rects = rects_after (rects_of apps) lines }) (newest_first-push told event)

not_before : (a b : ℕ) → b ≤ a → nat_lt a b ≡ false
not_before a b h = false_from_ne_true (nat_lt a b) (λ is. let less : a < b = ltb-true a b is in omega arith)

pub event_hindrance-may : (apps : List AppBlock) (told : List EventLine) (event : EventLine) → MayCome apps told event → event_hindrance (screen_at apps told) event ≡ None
event_hindrance-may apps told event may =
    rw (
      not_before event.moment (moment_at told) may.in_order,
      false_from_ne_true (names_nobody (rects_at apps told) event.line) may.somebody,
      false_from_ne_true (covers (rects_at apps told) event.line) may.apart,
    ) refl

pub event_hindrance-hinders : (fault : LineFault) (apps : List AppBlock) (told : List EventLine) (event : EventLine) → HindersEvent fault apps told event
    → event_hindrance (screen_at apps told) event ≡ Some fault
event_hindrance-hinders TimeBack apps told event h = rw (lt-ltb event.moment (moment_at told) h) refl
event_hindrance-hinders NoApp apps told event h =
    rw (not_before event.moment (moment_at told) h.0, h.1) refl
event_hindrance-hinders RectOverlap apps told event h =
    rw (
      not_before event.moment (moment_at told) h.0,
      false_from_ne_true (names_nobody (rects_at apps told) event.line) h.1,
      h.2,
    ) refl
event_hindrance-hinders fault apps told event h = absurd h

-- what the test answers holds
abbrev pub JudgedEvent : List AppBlock → List EventLine → EventLine → Option LineFault → Type 0
JudgedEvent apps told event None = MayCome apps told event
JudgedEvent apps told event (Some fault) = HindersEvent fault apps told event

refuted : (b : Bool) → b ≡ false → ¬ IsTrue b
refuted b is holds = false≢true (sym is ∙ holds)

pub judged_event : (apps : List AppBlock) (told : List EventLine) (event : EventLine) → JudgedEvent apps told event (event_hindrance (screen_at apps told) event)
judged_event apps told event =
    let rects = rects_at apps told in
    elim (cases_Bool (nat_lt event.moment (moment_at told))) [
      | inl back ↦ rw back (ltb-true event.moment (moment_at told) back)
      | inr forth ↦
          let order : moment_at told ≤ event.moment = ltb-false event.moment (moment_at told) forth in
          elim (cases_Bool (names_nobody rects event.line)) [
            | inl nobody ↦ rw (forth, nobody) (order, nobody)
            | inr somebody ↦
                let is_somebody = refuted (names_nobody rects event.line) somebody in
                elim (cases_Bool (covers rects event.line)) [
                  | inl covered ↦ rw (forth, somebody, covered) (order, is_somebody, covered)
                  | inr apart ↦ rw (forth, somebody, apart) record { in_order = order; somebody = is_somebody; apart = refuted (covers rects event.line) apart }
                ]
          ]
    ]

-- ---- a test of a line beside those before it

pub no_hindrance : (screen : Screen) (event : EventLine) → NoneApplies (Refuses screen.rects screen.moment event.moment event.line) faults_beside
    → event_hindrance screen event ≡ None
no_hindrance screen event none =
    rw (
      false_from_ne_true (nat_lt event.moment screen.moment) (λ is. none.0 (ltb-true event.moment screen.moment is)),
      false_from_ne_true (names_nobody screen.rects event.line) none.1.0,
      false_from_ne_true (covers screen.rects event.line) none.1.1.0,
    ) refl

pub first_hindrance : (screen : Screen) (event : EventLine) (fault : LineFault)
    → IsFirst (Refuses screen.rects screen.moment event.moment event.line) faults_beside fault → event_hindrance screen event ≡ Some fault
first_hindrance screen event fault (inl back) = rw (back.1, lt-ltb event.moment screen.moment back.0) refl
first_hindrance screen event fault (inr (forth, inl nobody)) =
    rw (nobody.1, false_from_ne_true (nat_lt event.moment screen.moment) (λ is. forth (ltb-true event.moment screen.moment is)), nobody.0) refl
first_hindrance screen event fault (inr (forth, inr (somebody, inl covered))) =
    rw (
      covered.1,
      false_from_ne_true (nat_lt event.moment screen.moment) (λ is. forth (ltb-true event.moment screen.moment is)),
      false_from_ne_true (names_nobody screen.rects event.line) somebody,
      covered.0,
    ) refl
first_hindrance screen event fault (inr (forth, inr (somebody, inr (apart, none)))) = absurd none
