-- What is read is a session, and what is refused has the fault that is told.
use Rattle.std.proofs.Common.{◌≡◌, ◌≢◌, ℕ, zero, suc, ◌+◌, ◌-◌, ◌<◌, ◌≤◌, true, false, ◌&&◌, eqb, leb, List, [], ◌∷◌, ◌++◌, length, Option, Some, None, Result, Ok, Err, ◌⊎◌, inl, inr, refl, sym, ◌∙◌, ap, subst, arith, length-append, append_assoc}
use Rattle.std.specs.Prelude.{nat_lt}
use Rattle.std.specs.List.{join_with_byte}
use Rattle.std.specs.Str.{is_utf8, bytes_eq}
use Rattle.std.proofs.lemmas.List.{append-nil}
use Rattle.std.proofs.Math.Seq.{append_snoc}
use Rattle.std.proofs.lemmas.Bool.{false≢true, cases_Bool, eqb-true, eqb-false, leb-true, leb-false, ltb-true, ltb-false}
use Rattle.std.proofs.lemmas.Option.{none-some}
use Rattle.std.proofs.lemmas.Slice.Eq.{bytes_eq-Decides}
use Rattle.tk_base.specs.declared.rect.Rect.{Rect}
use Rattle.tk_alias.specs.declared.service.ServiceKind.{ServiceKind}
use Rattle.tk_route.specs.declared.fault.LineFault.{LineFault}
use Rattle.tk_route.specs.declared.fault.LineFault.TheVariants.{TimeBack}
use Rattle.tk_session.specs.declared.fault.SessionFault.{SessionFault}
use Rattle.tk_session.specs.declared.fault.SessionFault.TheVariants as refusals
use Rattle.tk_session.specs.declared.session.AliasLine.{AliasLine}
use Rattle.tk_session.specs.declared.session.AppBlock.{AppBlock}
use Rattle.tk_base.specs.declared.budget.Budget.{Budget}
use Rattle.tk_session.specs.declared.session.EventLine.{EventLine}
use Rattle.tk_session.specs.declared.session.Head.{Head}
use Rattle.tk_session.specs.declared.stage.Format.{Format}
use Rattle.tk_session.specs.declared.stage.Format.TheVariants.{First, Second}
use Rattle.tk_session.specs.declared.stage.Stage.{Stage}
use Rattle.tk_session.specs.declared.stage.Stage.TheVariants as stages
use Rattle.tk_session.specs.Session.{lines_of, IsAnswer, IsSession, HasFault, AreAllowed, IsAllowed, heading, events, IsAppLine, IsAliasLine, IsScriptLine, IsScript, IsOpening, IsBlock, AreSaid, SaysAlias, SaysEvent, IsEventLine, IsEndLine, MayServe, MayHappen, moment_at, MayFollow, AreBlocks, ReadingPoint, AtHeading, AtBlock, AtScript, AtText, AtEvent, PastEnd, Plan, Leads, IsFaulty, IsAtFault}
use Rattle.tk_session.specs.Reading.{Reads, with_line, step, run, finished, and_on, admitted, app_step, alias_admitted, alias_hindrance, alias_line_of, alias_of, alias_step, count_step, event_admitted, event_hindrance, event_line_of, event_or_end, joined, moment_step, text_read, app_line_of, script_line_of, end_line_of, hindrance}
use Rattle.tk_session.proofs.AliasLaws.{JudgedAlias, judged_alias, alias_line_of-some, alias_line_of-spelled}
use Rattle.tk_session.proofs.EventLaws.{JudgedEvent, judged_event, event_line_of-some, event_line_of-spelled, screen_at, screen_at-push}
use Rattle.tk_session.proofs.LineLaws.{app_line_of-some, app_line_of-spelled, script_line_of-some, script_line_of-spelled, end_line_of-some, end_line_of-spelled, same_bytes}
use Rattle.tk_session.proofs.Hindrances.{Judged, judged}
use Rattle.tk_session.proofs.Scripts.{so_far, so_far-push, with_line-so_far, text_step-ok, text_step-fits}
use Rattle.tk_session.proofs.Complete.{stage_of, run-session, run-at_fault}

-- one more application at the end
pub AreBlocks-push : (format : Format) (before apps : List AppBlock) (app : AppBlock) (lines own : List (List ℕ)) → AreBlocks format before lines apps → IsBlock format own app → MayFollow (before ++ apps) app.name app.rect
    → AreBlocks format before (lines ++ own) (apps ++ app ∷ [])
AreBlocks-push format before [] app lines own are is may =
    let P : List AppBlock → Type 0 = λ others. MayFollow others app.name app.rect in
    (own, [], ap (λ front. front ++ own) are ∙ sym (append-nil own), is, subst P (append-nil before) may, refl)
AreBlocks-push format before (first ∷ apps) app lines own are is may =
    let P : List AppBlock → Type 0 = λ others. MayFollow others app.name app.rect in (
      are.0,
      are.1 ++ own,
      ap (λ front. front ++ own) are.2 ∙ append_assoc are.0 are.1 own,
      are.3,
      are.4,
      AreBlocks-push format (before ++ first ∷ []) apps app are.1 own are.5 is (subst P (sym (append_snoc before first apps)) may),
    )

-- one more line that says one thing more
pub AreSaid-push : {A : Type 0} (Says : List A → List ℕ → A → Type 0) (before xs : List A) (x : A) (lines : List (List ℕ)) (line : List ℕ) → AreSaid Says before lines xs → Says (before ++ xs) line x
    → AreSaid Says before (lines ++ line ∷ []) (xs ++ x ∷ [])
AreSaid-push {A} Says before [] x [] line are says =
    let P : List A → Type 0 = λ all. Says all line x in
    (subst P (append-nil before) says, tt)
AreSaid-push Says before (y ∷ xs) x [] line are says = absurd are
AreSaid-push Says before [] x (first ∷ lines) line are says = absurd are
AreSaid-push {A} Says before (y ∷ xs) x (first ∷ lines) line are says =
    let P : List A → Type 0 = λ all. Says all line x in
    (are.0, AreSaid-push Says (before ++ y ∷ []) xs x lines line are.1 (subst P (sym (append_snoc before y xs)) says))

-- a line leads on to a stage
abbrev pub LeadsOn : List (List ℕ) → List ℕ → Stage → Type 0
LeadsOn before line next = (place : ReadingPoint) × Leads (before ++ line ∷ []) place × (next ≡ stage_of place)

-- what a step says of a line holds
abbrev pub Judges : ReadingPoint → List (List ℕ) → List ℕ → Result Stage LineFault → Type 0
Judges place before line (Ok next) = LeadsOn before line next
Judges place before line (Err fault) = IsFaulty place line fault

other_word : (line word : List ℕ) → bytes_eq line word ≡ false → line ≢ word
other_word line word differs same = false≢true (sym differs ∙ (bytes_eq-Decides line word).1 same)

none_is : {A : Type 0} (o : Option A) (x : A) → o ≡ None → o ≡ Some x → ⊥
none_is o x none some = none-some x (sym none ∙ some)

admitted-judged : (format : Format) (apps : List AppBlock) (before : List (List ℕ)) (line : List ℕ) (app : List ℕ × Rect × Budget) (found : Option LineFault)
    → Leads before (AtBlock format apps) → IsAppLine format line app.0 app.1 app.2 → Judged apps app.0 app.1 found → Judges (AtBlock format apps) before line (admitted format apps app found)
admitted-judged format apps before line app None leads is may = (
  AtScript format apps (record { name = app.0; rect = app.1; budget = app.2; aliases = [] }),
  (
    leads.0,
    line ∷ [],
    ap (λ front. front ++ line ∷ []) leads.1,
    leads.2,
    record { first = line; others = []; parts = refl; app = is; aliases = tt },
    may,
  ),
  refl,
)
admitted-judged format apps before line app (Some fault) leads is hinders = inr (app.0, app.1, app.2, is, hinders)

app_step-judged : (format : Format) (apps : List AppBlock) (before : List (List ℕ)) (line : List ℕ) (found : Option (List ℕ × Rect × Budget)) → app_line_of format line ≡ found → line ≢ events
    → Leads before (AtBlock format apps) → Judges (AtBlock format apps) before line (app_step format apps found)
app_step-judged format apps before line None none other leads =
    inl (other, λ name rect budget is. none_is (app_line_of format line) _ none (app_line_of-spelled format line name rect budget is), refl)
app_step-judged format apps before line (Some app) some other leads =
    admitted-judged format apps before line app (hindrance apps app.0 app.1) leads (app_line_of-some format line app some) (judged apps app.0 app.1)

above_zero : (n : ℕ) → (n ≡ 0 → ⊥) → 0 < n
above_zero zero other = absurd (other refl)
above_zero (suc n) other = omega arith

count_step-judged : (format : Format) (apps : List AppBlock) (head : Head) (before : List (List ℕ)) (line : List ℕ) (found : Option ℕ) → alias_line_of line ≡ None → script_line_of line ≡ found
    → Leads before (AtScript format apps head) → Judges (AtScript format apps head) before line (count_step format apps head found)
count_step-judged format apps head before line None no_alias none leads =
    inl (
      λ alias is. none_is (alias_line_of line) _ no_alias (alias_line_of-spelled line alias is),
      λ count is. none_is (script_line_of line) count none (script_line_of-spelled line count is),
      refl,
    )
count_step-judged format apps head before line (Some count) no_alias some leads =
    let is = script_line_of-some line count some in
    elim (cases_Bool (eqb count 0)) [
      | inl none ↦
          let P : ℕ → Type 0 = λ n. IsScriptLine line n in
          rw none (
            AtBlock format (apps ++ record { name = head.name; rect = head.rect; budget = head.budget; aliases = head.aliases; script = [] } ∷ []),
            (
              leads.0 ++ (leads.1 ++ line ∷ []),
              ap (λ front. front ++ line ∷ []) leads.2 ∙ append_assoc (heading format ∷ leads.0) leads.1 (line ∷ []),
              AreBlocks-push format [] apps _ leads.0 (leads.1 ++ line ∷ []) leads.3 record {
                opening = leads.1;
                counting = line;
                texts = [];
                parts = refl;
                head = leads.4;
                count = subst P (eqb-true count 0 none) is;
                script = record { joined = refl; utf8 = tt; short = omega arith };
              } leads.5,
            ),
            refl,
          )
      | inr some_lines ↦
          let all : count ≡ count - 0 = omega arith in
          rw some_lines (
            AtText format apps head count [],
            (
              leads.0,
              leads.1,
              line,
              ap (λ front. front ++ line ∷ []) leads.2 ∙ append_assoc (heading format ∷ leads.0) leads.1 (line ∷ []),
              leads.3,
              leads.4,
              leads.5,
              is,
              above_zero count (eqb-false count 0 some_lines),
              record { joined = refl; utf8 = tt; short = omega arith },
            ),
            ap (λ left. stages.Text format apps head left None) all,
          )
    ]

-- an opening with one alias more
IsOpening-push : (format : Format) (opening : List (List ℕ)) (head : Head) (line : List ℕ) (alias : AliasLine) → IsOpening format opening head → SaysAlias head.aliases line alias
    → IsOpening format (opening ++ line ∷ []) (joined head alias)
IsOpening-push format opening head line alias is says = record {
  first = is.first;
  others = is.others ++ line ∷ [];
  parts = ap (λ (front : List (List ℕ)). front ++ line ∷ []) is.parts;
  app = is.app;
  aliases = AreSaid-push SaysAlias [] head.aliases alias is.others line is.aliases says;
}

alias_admitted-judged : (format : Format) (apps : List AppBlock) (head : Head) (before : List (List ℕ)) (line : List ℕ) (alias : AliasLine) (found : Option LineFault)
    → Leads before (AtScript format apps head) → IsAliasLine line alias → JudgedAlias head.aliases alias.name found
    → Judges (AtScript format apps head) before line (alias_admitted format apps head alias found)
alias_admitted-judged format apps head before line alias None leads is may = (
  AtScript format apps (joined head alias),
  (
    leads.0,
    leads.1 ++ line ∷ [],
    ap (λ front. front ++ line ∷ []) leads.2 ∙ append_assoc (heading format ∷ leads.0) leads.1 (line ∷ []),
    leads.3,
    IsOpening-push format leads.1 head line alias leads.4 (is, may),
    leads.5,
  ),
  refl,
)
alias_admitted-judged format apps head before line alias (Some fault) leads is hinders = inr (alias, is, hinders)

alias_step-judged : (format : Format) (apps : List AppBlock) (head : Head) (before : List (List ℕ)) (line : List ℕ) (found : Option (List ℕ × ServiceKind × List ℕ)) → alias_line_of line ≡ found
    → Leads before (AtScript format apps head) → Judges (AtScript format apps head) before line (alias_step format apps head line found)
alias_step-judged format apps head before line None none leads = count_step-judged format apps head before line (script_line_of line) none refl leads
alias_step-judged format apps head before line (Some found) some leads =
    alias_admitted-judged format apps head before line (alias_of found) (alias_hindrance head.aliases found.0) leads (alias_line_of-some line found some) (judged_alias head.aliases found.0)

-- a line behind events that is none, as the end
moment_step-judged : (format : Format) (apps : List AppBlock) (told : List EventLine) (before : List (List ℕ)) (line : List ℕ) (found : Option ℕ) → event_line_of format apps line ≡ None → end_line_of line ≡ found
    → Leads before (AtEvent format apps told) → Judges (AtEvent format apps told) before line (moment_step apps (screen_at apps told) told found)
moment_step-judged format apps told before line None no_event none leads =
    inl (
      λ event is. none_is (event_line_of format apps line) event no_event (event_line_of-spelled format apps line event is),
      λ moment is. none_is (end_line_of line) moment none (end_line_of-spelled line moment is),
      refl,
    )
moment_step-judged format apps told before line (Some moment) no_event some leads =
    let is = end_line_of-some line moment some in
    elim (cases_Bool (nat_lt moment (moment_at told))) [
      | inl back ↦ rw back (inr (inr (moment, is, ltb-true moment (moment_at told) back, refl)))
      | inr forth ↦ rw forth (
        PastEnd (record { apps = apps; events = told; end = moment }),
        (
          format,
          leads.0,
          leads.1,
          line,
          ap (λ front. front ++ line ∷ []) leads.2 ∙ append_assoc (heading format ∷ leads.0) (events ∷ leads.1) (line ∷ []),
          leads.3,
          leads.4,
          is,
          ltb-false moment (moment_at told) forth,
        ),
        refl,
      )
    ]

event_admitted-judged : (format : Format) (apps : List AppBlock) (told : List EventLine) (before : List (List ℕ)) (line : List ℕ) (event : EventLine) (found : Option LineFault)
    → Leads before (AtEvent format apps told) → IsEventLine format apps line event → JudgedEvent apps told event found
    → Judges (AtEvent format apps told) before line (event_admitted format apps (screen_at apps told) told event found)
event_admitted-judged format apps told before line event None leads is may = (
  AtEvent format apps (told ++ event ∷ []),
  (
    leads.0,
    leads.1 ++ line ∷ [],
    ap (λ front. front ++ line ∷ []) leads.2 ∙ append_assoc (heading format ∷ leads.0) (events ∷ leads.1) (line ∷ []),
    leads.3,
    AreSaid-push (SaysEvent format apps) [] told event leads.1 line leads.4 (is, may),
  ),
  rw (screen_at-push apps told event) refl,
)
event_admitted-judged format apps told before line event (Some fault) leads is hinders = inr (inl (event, is, hinders))

event_or_end-judged : (format : Format) (apps : List AppBlock) (told : List EventLine) (before : List (List ℕ)) (line : List ℕ) (found : Option EventLine) → event_line_of format apps line ≡ found
    → Leads before (AtEvent format apps told) → Judges (AtEvent format apps told) before line (event_or_end format apps (screen_at apps told) told line found)
event_or_end-judged format apps told before line None none leads = moment_step-judged format apps told before line (end_line_of line) none refl leads
event_or_end-judged format apps told before line (Some event) some leads =
    event_admitted-judged format apps told before line event (event_hindrance (screen_at apps told) event) leads (event_line_of-some format apps line event some) (judged_event apps told event)

-- a line that is the last of a script, or one before
text_read-judged : (format : Format) (apps : List AppBlock) (head : Head) (count : ℕ) (texts before : List (List ℕ)) (line : List ℕ) → Leads before (AtText format apps head count texts)
    → IsScript (texts ++ line ∷ []) (join_with_byte 10 (texts ++ line ∷ [])) → LeadsOn before line (text_read format apps head (count - length texts) (join_with_byte 10 (texts ++ line ∷ [])))
text_read-judged format apps head count texts before line leads is =
    let script = join_with_byte 10 (texts ++ line ∷ []) in
    let longer : length (texts ++ line ∷ []) ≡ length texts + 1 = length-append texts (line ∷ []) in
    let few : length texts < count = leads.8 in
    let lines_are : before ++ line ∷ [] ≡ heading format ∷ leads.0 ++ (leads.1 ++ leads.2 ∷ (texts ++ line ∷ [])) =
    ap (λ front. front ++ line ∷ []) leads.3
    ∙ append_assoc (heading format ∷ leads.0) (leads.1 ++ leads.2 ∷ texts) (line ∷ [])
    ∙ ap (λ own. (heading format ∷ leads.0) ++ own) (append_assoc leads.1 (leads.2 ∷ texts) (line ∷ [])) in
    elim (cases_Bool (leb (count - length texts) 1)) [
      | inl last ↦
          let one : count - length texts ≤ 1 = leb-true (count - length texts) 1 last in
          let all : count ≡ length (texts ++ line ∷ []) = omega arith in
          let P : ℕ → Type 0 = λ n. IsScriptLine leads.2 n in
          rw last (
            AtBlock format (apps ++ record { name = head.name; rect = head.rect; budget = head.budget; aliases = head.aliases; script = script } ∷ []),
            (
              leads.0 ++ (leads.1 ++ leads.2 ∷ (texts ++ line ∷ [])),
              lines_are,
              AreBlocks-push format [] apps _ leads.0 (leads.1 ++ leads.2 ∷ (texts ++ line ∷ [])) leads.4 record {
                opening = leads.1;
                counting = leads.2;
                texts = texts ++ line ∷ [];
                parts = refl;
                head = leads.5;
                count = subst P all leads.7;
                script = is;
              } leads.6,
            ),
            refl,
          )
      | inr others ↦
          let more : 1 < count - length texts = leb-false (count - length texts) 1 others in
          let left : count - length texts - 1 ≡ count - length (texts ++ line ∷ []) = omega arith in
          let fewer : length (texts ++ line ∷ []) < count = omega arith in
          rw others (
            AtText format apps head count (texts ++ line ∷ []),
            (leads.0, leads.1, leads.2, lines_are, leads.4, leads.5, leads.6, leads.7, fewer, is),
            rw (left, so_far-push texts line) refl,
          )
    ]

step-judged : (place : ReadingPoint) (before : List (List ℕ)) (line : List ℕ) → Leads before place → Judges place before line (step (stage_of place) line)
step-judged AtHeading before line leads =
    elim (cases_Bool (bytes_eq line (heading First))) [
      | inl same ↦ rw same (AtBlock First [], ([], rw leads (ap (λ l. l ∷ []) (same_bytes line (heading First) same)), refl), refl)
      | inr not_first ↦ elim (cases_Bool (bytes_eq line (heading Second))) [
        | inl same ↦ rw (not_first, same) (AtBlock Second [], ([], rw leads (ap (λ l. l ∷ []) (same_bytes line (heading Second) same)), refl), refl)
        | inr other ↦ rw (not_first, other) (other_word line (heading First) not_first, other_word line (heading Second) other, refl)
      ]
    ]
step-judged (AtBlock format apps) before line leads =
    elim (cases_Bool (bytes_eq line events)) [
      | inl same ↦ rw same (AtEvent format apps [], (leads.0, [], rw leads.1 (ap (λ l. (heading format ∷ leads.0) ++ l ∷ []) (same_bytes line events same)), leads.2, tt), refl)
      | inr other ↦ rw other (app_step-judged format apps before line (app_line_of format line) refl (other_word line events other) leads)
    ]
step-judged (AtScript format apps head) before line leads = alias_step-judged format apps head before line (alias_line_of line) refl leads
step-judged (AtText format apps head count texts) before line leads =
    elim (cases_Bool (is_utf8 line && leb (length (with_line (so_far texts) line)) 65536)) [
      | inl fits ↦ rw (fits, with_line-so_far texts line) (text_read-judged format apps head count texts before line leads (text_step-ok texts line leads.9 fits))
      | inr refused ↦ rw refused (λ script is. false≢true (sym refused ∙ text_step-fits texts line script is), refl)
    ]
step-judged (AtEvent format apps told) before line leads = event_or_end-judged format apps told before line (event_line_of format apps line) refl leads
step-judged (PastEnd session) before line leads = refl

-- what reading lines told holds of them
abbrev pub Tells : List (List ℕ) → Result Plan (LineFault × ℕ) → Type 0
Tells lines (Ok session) = Leads lines (PastEnd session)
Tells lines (Err fault) = IsAtFault lines fault.0 fault.1

finished-tells : (place : ReadingPoint) (before : List (List ℕ)) → Leads before place → Tells before (finished (stage_of place) (length before + 1))
finished-tells AtHeading before leads = (before, [], AtHeading, sym (append-nil before), refl, leads, refl)
finished-tells (AtBlock format apps) before leads = (before, [], AtBlock format apps, sym (append-nil before), refl, leads, refl)
finished-tells (AtScript format apps head) before leads = (before, [], AtScript format apps head, sym (append-nil before), refl, leads, refl)
finished-tells (AtText format apps head count texts) before leads = (before, [], AtText format apps head count texts, sym (append-nil before), refl, leads, refl)
finished-tells (AtEvent format apps told) before leads = (before, [], AtEvent format apps told, sym (append-nil before), refl, leads, refl)
finished-tells (PastEnd session) before leads = leads

-- what the rest of the lines tells from each place
abbrev pub RestTells : List (List ℕ) → Type 0
RestTells rest = (before : List (List ℕ)) (place : ReadingPoint) → Leads before place → Tells (before ++ rest) (run (stage_of place) (length before) rest)

and_on-tells : (lines before : List (List ℕ)) (line : List ℕ) (place : ReadingPoint) (judged : Result Stage LineFault) → RestTells lines → Leads before place → Judges place before line judged → Tells (before ++ line ∷ lines) (and_on judged (length before + 1) (λ next. run next (length before + 1) lines))
and_on-tells lines before line place (Ok next) tells leads on =
    let longer : length (before ++ line ∷ []) ≡ length before + 1 = length-append before (line ∷ []) in
    let P : List (List ℕ) → Type 0 = λ ls. Tells ls (run next (length before + 1) lines) in
    let Q : ℕ → Type 0 = λ n. Tells ((before ++ line ∷ []) ++ lines) (run next n lines) in
    let R : Stage → Type 0 = λ stage. Tells ((before ++ line ∷ []) ++ lines) (run stage (length (before ++ line ∷ [])) lines) in
    subst P (append_snoc before line lines) (subst Q longer (subst R (sym on.2) (tells (before ++ line ∷ []) on.0 on.1)))
and_on-tells lines before line place (Err fault) tells leads faulty = (before, line ∷ lines, place, refl, refl, leads, faulty)

run-tells : (rest : List (List ℕ)) → RestTells rest
run-tells [] before place leads = rw (append-nil before) (finished-tells place before leads)
run-tells (line ∷ lines) before place leads =
    and_on-tells lines before line place (step (stage_of place) line) (run-tells lines) leads (step-judged place before line leads)

-- what reading told of all lines holds of them
pub run-tells_all : (lines : List (List ℕ)) → Tells lines (run stages.Heading 0 lines)
run-tells_all lines = run-tells lines [] AtHeading refl

-- what was found, as an answer
abbrev pub as_plan : Result (List AppBlock × List EventLine × ℕ) SessionFault → Result Plan SessionFault
as_plan (Ok found) = Ok (record { apps = found.0; events = found.1; end = found.2 })
as_plan (Err fault) = Err fault

-- what was found in bytes holds of them
pub IsAnswer-from_reads : (bytes : List ℕ) (found : Result (List AppBlock × List EventLine × ℕ) SessionFault) → Reads found (run stages.Heading 0 (lines_of bytes)) → IsAnswer bytes (as_plan found)
IsAnswer-from_reads bytes (Ok found) reads =
    let P : Result Plan (LineFault × ℕ) → Type 0 = λ told. Tells (lines_of bytes) told in
    subst P reads (run-tells_all (lines_of bytes))
IsAnswer-from_reads bytes (Err (refusals.Refused fault line)) reads =
    let P : Result Plan (LineFault × ℕ) → Type 0 = λ told. Tells (lines_of bytes) told in
    subst P reads (run-tells_all (lines_of bytes))
IsAnswer-from_reads bytes (Err refusals.NoMemory) reads = tt

abbrev pub Told : Type 0
Told = Result Plan (LineFault × ℕ)

pub ok_is_err : (plan : Plan) (fault : LineFault × ℕ) → (let told : Told = Ok plan in told ≡ Err fault) → ⊥
ok_is_err plan fault same = cc

pub same_plan : (a b : Plan) → (let told : Told = Ok a in told ≡ Ok b) → a ≡ b
same_plan a b same = cc

pub same_fault : (a b : LineFault × ℕ) → (let told : Told = Err a in told ≡ Err b) → a ≡ b
same_fault a b same = cc

-- a session is found, unless memory was refused
pub found_plan : (found : Result (List AppBlock × List EventLine × ℕ) SessionFault) (told : Result Plan (LineFault × ℕ)) (plan : Plan) → Reads found told → told ≡ Ok plan → (as_plan found ≡ Ok plan) ⊎ (as_plan found ≡ Err refusals.NoMemory)
found_plan (Ok found) told plan reads is = inl (ap Ok (same_plan _ _ (sym reads ∙ is)))
found_plan (Err (refusals.Refused fault line)) told plan reads is = absurd (ok_is_err plan (fault, line) (sym is ∙ reads))
found_plan (Err refusals.NoMemory) told plan reads is = inr refl

-- a fault is found, unless memory was refused
pub found_fault : (found : Result (List AppBlock × List EventLine × ℕ) SessionFault) (told : Result Plan (LineFault × ℕ)) (fault : LineFault) (line : ℕ) → Reads found told → told ≡ Err (fault, line) → (as_plan found ≡ Err (refusals.Refused fault line)) ⊎ (as_plan found ≡ Err refusals.NoMemory)
found_fault (Ok found) told fault line reads is = absurd (ok_is_err _ (fault, line) (sym reads ∙ is))
found_fault (Err (refusals.Refused other place)) told fault line reads is =
    inl (ap (λ f. Err (refusals.Refused f.0 f.1)) (same_fault (other, place) (fault, line) (sym reads ∙ is)))
found_fault (Err refusals.NoMemory) told fault line reads is = inr refl

-- what the answer to bytes is
pub record IsExact (bytes : List ℕ) (answer : Result Plan SessionFault) : Type 0 where
  pub holds : IsAnswer bytes answer
  pub whole : (plan : Plan) → IsSession bytes plan → (answer ≡ Ok plan) ⊎ (answer ≡ Err refusals.NoMemory)
  pub faulty : (fault : LineFault) (line : ℕ) → HasFault bytes fault line → (answer ≡ Err (refusals.Refused fault line)) ⊎ (answer ≡ Err refusals.NoMemory)

pub IsExact-from_reads : (bytes : List ℕ) (found : Result (List AppBlock × List EventLine × ℕ) SessionFault) → Reads found (run stages.Heading 0 (lines_of bytes)) → IsExact bytes (as_plan found)
IsExact-from_reads bytes found reads = record {
  holds = IsAnswer-from_reads bytes found reads;
  whole = λ plan is. found_plan found (run stages.Heading 0 (lines_of bytes)) plan reads (run-session (lines_of bytes) plan is);
  faulty = λ fault line is. found_fault found (run stages.Heading 0 (lines_of bytes)) fault line reads (run-at_fault (lines_of bytes) fault line is);
}

-- the aliases of lines may come one after another
MayServe-from_lines : (before : List AliasLine) (lines : List (List ℕ)) (aliases : List AliasLine) → AreSaid SaysAlias before lines aliases → MayServe before aliases
MayServe-from_lines before lines [] are = tt
MayServe-from_lines before [] (alias ∷ aliases) are = absurd are
MayServe-from_lines before (line ∷ lines) (alias ∷ aliases) are =
    let says = are.0 in ((says.0).values, says.1, MayServe-from_lines (before ++ alias ∷ []) lines aliases are.1)

-- the events of lines may come one after another
MayHappen-from_lines : (format : Format) (apps : List AppBlock) (before : List EventLine) (lines : List (List ℕ)) (told : List EventLine) → AreSaid (SaysEvent format apps) before lines told → MayHappen apps before told
MayHappen-from_lines format apps before lines [] are = tt
MayHappen-from_lines format apps before [] (event ∷ told) are = absurd are
MayHappen-from_lines format apps before (line ∷ lines) (event ∷ told) are =
    let says = are.0 in ((says.0).moment_range, (says.0).range, says.1, MayHappen-from_lines format apps (before ++ event ∷ []) lines told are.1)

-- the applications of blocks may come one after another
pub AreAllowed-from_blocks : (format : Format) (before : List AppBlock) (lines : List (List ℕ)) (apps : List AppBlock) → AreBlocks format before lines apps → AreAllowed before apps
AreAllowed-from_blocks format before lines [] are = tt
AreAllowed-from_blocks format before lines (app ∷ apps) are =
    let head = (are.3).head in (
      head.app.values,
      MayServe-from_lines [] head.others app.aliases head.aliases,
      are.4,
      AreAllowed-from_blocks format (before ++ app ∷ []) are.1 apps are.5,
    )

-- what a session says may be said
pub IsAllowed-from_session : (bytes : List ℕ) (plan : Plan) → IsSession bytes plan → IsAllowed plan
IsAllowed-from_session bytes plan is = record {
  apps_may = AreAllowed-from_blocks is.0 [] is.1 plan.apps is.5;
  events_may = MayHappen-from_lines is.0 plan.apps [] is.2 plan.events is.6;
  in_order = is.8;
  end_range = (is.7).moment_range;
}
