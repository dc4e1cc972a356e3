-- What is a session is read as it is, and what has a fault is refused with that fault.
use Rattle.std.proofs.Common.{◌≡◌, ◌≢◌, ℕ, suc, ◌+◌, ◌-◌, ◌<◌, ◌≤◌, true, false, List, [], ◌∷◌, ◌++◌, length, Option, Some, None, Ok, Err, ◌⊎◌, inl, inr, refl, sym, ◌∙◌, ap, subst, arith, add-zero, length-append, append_assoc}
use Rattle.std.specs.Prelude.{codes, nat_lt}
use Rattle.std.specs.Fmt.{decimal}
use Rattle.std.specs.List.{join_with_byte}
use Rattle.std.specs.Str.{bytes_eq}
use Rattle.std.proofs.lemmas.List.{append-nil}
use Rattle.std.proofs.Math.Seq.{append_snoc}
use Rattle.std.proofs.lemmas.Bool.{ne_eqb, lt-leb, le-leb, lt-ltb, ltb-true, false_from_ne_true}
use Rattle.tk_base.specs.declared.rect.Rect.{Rect}
use Rattle.tk_route.specs.declared.fault.LineFault.{LineFault}
use Rattle.tk_route.specs.declared.fault.LineFault.TheVariants.{TimeBack}
use Rattle.tk_session.specs.declared.session.AliasLine.{AliasLine}
use Rattle.tk_session.specs.declared.session.AppBlock.{AppBlock}
use Rattle.tk_base.specs.declared.budget.Budget.{Budget}
use Rattle.tk_session.specs.declared.session.EventLine.{EventLine}
use Rattle.tk_session.specs.declared.session.Head.{Head}
use Rattle.tk_session.specs.declared.stage.Format.{Format}
use Rattle.tk_session.specs.declared.stage.Format.TheVariants.{First, Second}
use Rattle.tk_session.specs.declared.stage.Stage.{Stage}
use Rattle.tk_session.specs.declared.stage.Stage.TheVariants as stages
use Rattle.tk_session.specs.Session.{heading, events, head_of, IsAppLine, IsAliasLine, IsScriptLine, IsScript, IsOpening, IsBlock, AreSaid, SaysAlias, SaysEvent, IsEventLine, IsEndLine, moment_at, MayFollow, Hinders, HindersAlias, HindersEvent, AreBlocks, ReadingPoint, AtHeading, AtBlock, AtScript, AtText, AtEvent, PastEnd, Plan, Leads, IsFaulty, IsCut, IsRefused, IsAtFault}
use Rattle.tk_session.specs.Reading.{step, run, finished, and_on, closed, app_line_of, alias_line_of, script_line_of, event_line_of, end_line_of}
use Rattle.tk_session.proofs.LineLaws.{app_line_of-some, app_line_of-spelled, script_line_of-some, script_line_of-spelled, end_line_of-some, end_line_of-spelled, same_bytes}
use Rattle.tk_session.proofs.AliasLaws.{alias_line_of-some, alias_line_of-spelled, alias_line_of-script, alias_hindrance-may, alias_hindrance-hinders}
use Rattle.tk_session.proofs.EventLaws.{event_line_of-some, event_line_of-spelled, event_line_of-end, screen_at, screen_at-push, event_hindrance-may, event_hindrance-hinders}
use Rattle.tk_session.proofs.Hindrances.{hindrance-may, hindrance-hinders}
use Rattle.tk_session.proofs.Scripts.{so_far, so_far-push, IsScript-front, text_step-taken, text_step-refused}

-- the stage at a place
abbrev pub stage_of : ReadingPoint → Stage
stage_of AtHeading = stages.Heading
stage_of (AtBlock format apps) = stages.Block format apps
stage_of (AtScript format apps head) = stages.Script format apps head
stage_of (AtText format apps head count texts) = stages.Text format apps head (count - length texts) (so_far texts)
stage_of (AtEvent format apps told) = stages.Event format apps (screen_at apps told) told
stage_of (PastEnd plan) = stages.Whole plan.apps plan.events plan.end

-- an `app` line is not `events`
app_is_not_events : (format : Format) (line name : List ℕ) (rect : Rect) (budget : Budget) → IsAppLine format line name rect budget → bytes_eq line events ≡ false
app_is_not_events format line name rect budget is = rw is.spelling refl

-- an application before its aliases
abbrev pub head_before : List ℕ → Rect → Budget → Head
head_before name rect budget = record { name = name; rect = rect; budget = budget; aliases = [] }

pub step-app : (format : Format) (apps : List AppBlock) (line name : List ℕ) (rect : Rect) (budget : Budget) → IsAppLine format line name rect budget → MayFollow apps name rect
    → step (stages.Block format apps) line ≡ Ok (stages.Script format apps (head_before name rect budget))
step-app format apps line name rect budget is may =
    rw (app_is_not_events format line name rect budget is, app_line_of-spelled format line name rect budget is, hindrance-may apps name rect may) refl

-- a script line isn't the line of an alias
script_is_no_alias : (line : List ℕ) (count : ℕ) → IsScriptLine line count → alias_line_of line ≡ None
script_is_no_alias line count is = ap alias_line_of is.spelling ∙ alias_line_of-script (decimal count)

pub step-count : (format : Format) (apps : List AppBlock) (head : Head) (line : List ℕ) (count : ℕ) → IsScriptLine line count → 0 < count
    → step (stages.Script format apps head) line ≡ Ok (stages.Text format apps head count None)
step-count format apps head line count is some =
    rw (script_is_no_alias line count is, script_line_of-spelled line count is, ne_eqb count 0 (λ e. omega arith)) refl

pub step-no_lines : (format : Format) (apps : List AppBlock) (head : Head) (line : List ℕ) → IsScriptLine line 0 → step (stages.Script format apps head) line ≡ Ok (closed format apps head [])
step-no_lines format apps head line is = rw (script_is_no_alias line 0 is, script_line_of-spelled line 0 is) refl

-- an application with these aliases
abbrev pub with_aliases : Head → List AliasLine → Head
with_aliases head aliases = record head { aliases = aliases }

pub step-alias : (format : Format) (apps : List AppBlock) (head : Head) (before : List AliasLine) (line : List ℕ) (alias : AliasLine) → SaysAlias before line alias
    → step (stages.Script format apps (with_aliases head before)) line ≡ Ok (stages.Script format apps (with_aliases head (before ++ alias ∷ [])))
step-alias format apps head before line alias says =
    rw (alias_line_of-spelled line alias says.0, alias_hindrance-may before alias.name says.1) refl

pub step-event : (format : Format) (apps : List AppBlock) (before : List EventLine) (line : List ℕ) (event : EventLine) → SaysEvent format apps before line event
    → step (stages.Event format apps (screen_at apps before) before) line ≡ Ok (stages.Event format apps (screen_at apps (before ++ event ∷ [])) (before ++ event ∷ []))
step-event format apps before line event says =
    rw (event_line_of-spelled format apps line event says.0, event_hindrance-may apps before event says.1, screen_at-push apps before event) refl

not_back : (a b : ℕ) → b ≤ a → nat_lt a b ≡ false
not_back a b h = false_from_ne_true (nat_lt a b) (λ is. let less : a < b = ltb-true a b is in omega arith)

pub step-end : (format : Format) (apps : List AppBlock) (told : List EventLine) (line : List ℕ) (moment : ℕ) → IsEndLine line moment → moment_at told ≤ moment
    → step (stages.Event format apps (screen_at apps told) told) line ≡ Ok (stages.Whole apps told moment)
step-end format apps told line moment is order =
    rw (event_line_of-end format apps line moment is, end_line_of-spelled line moment is, not_back moment (moment_at told) order) refl

-- one step of a run
pub run-step : (stage next : Stage) (number : ℕ) (line : List ℕ) (lines : List (List ℕ)) → step stage line ≡ Ok next → run stage number (line ∷ lines) ≡ run next (number + 1) lines
run-step stage next number line lines taken = ap (λ s. and_on s (number + 1) (λ after. run after (number + 1) lines)) taken

pub run-fault : (stage : Stage) (fault : LineFault) (number : ℕ) (line : List ℕ) (lines : List (List ℕ)) → step stage line ≡ Err fault → run stage number (line ∷ lines) ≡ Err (fault, number + 1)
run-fault stage fault number line lines refused = ap (λ s. and_on s (number + 1) (λ after. run after (number + 1) lines)) refused

-- a line of a script that isn't its last
pub step-text : (format : Format) (apps : List AppBlock) (head : Head) (count : ℕ) (texts : List (List ℕ)) (line script : List ℕ) → IsScript (texts ++ line ∷ []) script → length (texts ++ line ∷ []) < count → step (stages.Text format apps head (count - length texts) (so_far texts)) line ≡ Ok (stages.Text format apps head (count - length (texts ++ line ∷ [])) (so_far (texts ++ line ∷ [])))
step-text format apps head count texts line script is few =
    let longer : length (texts ++ line ∷ []) ≡ length texts + 1 = length-append texts (line ∷ []) in
    let more : 1 < count - length texts = omega arith in
    let left : count - length texts - 1 ≡ count - length (texts ++ line ∷ []) = omega arith in
    text_step-taken format apps head (count - length texts) texts line script is
    ∙ rw (lt-leb (count - length texts) 1 more, left, so_far-push texts line) refl

-- the last line of a script
pub step-last : (format : Format) (apps : List AppBlock) (head : Head) (count : ℕ) (texts : List (List ℕ)) (line script : List ℕ) → IsScript (texts ++ line ∷ []) script → count ≡ length (texts ++ line ∷ []) → step (stages.Text format apps head (count - length texts) (so_far texts)) line ≡ Ok (closed format apps head (join_with_byte 10 (texts ++ line ∷ [])))
step-last format apps head count texts line script is all =
    let longer : length (texts ++ line ∷ []) ≡ length texts + 1 = length-append texts (line ∷ []) in
    let one : count - length texts ≤ 1 = omega arith in
    text_step-taken format apps head (count - length texts) texts line script is
    ∙ rw (le-leb (count - length texts) 1 one) refl

-- the front of what is joined at the seam
IsScript-to_seam : (before : List (List ℕ)) (text : List ℕ) (texts : List (List ℕ)) (script : List ℕ) → IsScript (before ++ text ∷ texts) script → IsScript (before ++ text ∷ []) (join_with_byte 10 (before ++ text ∷ []))
IsScript-to_seam before text texts script is =
    let P : List (List ℕ) → Type 0 = λ lines. IsScript lines script in
    IsScript-front (before ++ text ∷ []) texts script (subst P (sym (append_snoc before text texts)) is)

-- some of the lines of a script, with others to come
pub run-texts : (format : Format) (apps : List AppBlock) (head : Head) (count number : ℕ) (before texts : List (List ℕ)) (script : List ℕ) (rest : List (List ℕ)) → IsScript (before ++ texts) script → length (before ++ texts) < count → run (stages.Text format apps head (count - length before) (so_far before)) number (texts ++ rest) ≡ run (stages.Text format apps head (count - length (before ++ texts)) (so_far (before ++ texts))) (number + length texts) rest
run-texts format apps head count number before [] script rest is few = rw (append-nil before, add-zero number) refl
run-texts format apps head count number before (text ∷ texts) script rest is few =
    let longer : length (before ++ text ∷ texts) ≡ length before + suc (length texts) = length-append before (text ∷ texts) in
    let front : length (before ++ text ∷ []) ≡ length before + 1 = length-append before (text ∷ []) in
    let P : List (List ℕ) → Type 0 = λ lines. IsScript lines script in
    let seam : (before ++ text ∷ []) ++ texts ≡ before ++ text ∷ texts = append_snoc before text texts in
    let fewer : length ((before ++ text ∷ []) ++ texts) < count = rw seam few in
    let numbers : number + 1 + length texts ≡ number + suc (length texts) = omega arith in
    run-step (stages.Text format apps head (count - length before) (so_far before)) _ number text (texts ++ rest) (step-text format apps head count before text (join_with_byte 10 (before ++ text ∷ [])) (IsScript-to_seam before text texts script is) (omega arith))
    ∙ run-texts format apps head count (number + 1) (before ++ text ∷ []) texts script rest (subst P (sym seam) is) fewer
    ∙ rw (seam, numbers) refl

-- all lines of a script
pub run-script : (format : Format) (apps : List AppBlock) (head : Head) (count number : ℕ) (before : List (List ℕ)) (text : List ℕ) (texts : List (List ℕ)) (script : List ℕ) (rest : List (List ℕ)) → IsScript (before ++ text ∷ texts) script → count ≡ length (before ++ text ∷ texts) → run (stages.Text format apps head (count - length before) (so_far before)) number (text ∷ texts ++ rest) ≡ run (closed format apps head script) (number + suc (length texts)) rest
run-script format apps head count number before text [] script rest is all =
    let numbers : number + 1 ≡ number + suc 0 = omega arith in
    run-step (stages.Text format apps head (count - length before) (so_far before)) _ number text rest (step-last format apps head count before text script is all)
    ∙ rw (sym is.joined, numbers) refl
run-script format apps head count number before text (next ∷ texts) script rest is all =
    let longer : length (before ++ text ∷ next ∷ texts) ≡ length before + suc (suc (length texts)) = length-append before (text ∷ next ∷ texts) in
    let front : length (before ++ text ∷ []) ≡ length before + 1 = length-append before (text ∷ []) in
    let P : List (List ℕ) → Type 0 = λ lines. IsScript lines script in
    let seam : (before ++ text ∷ []) ++ next ∷ texts ≡ before ++ text ∷ next ∷ texts = append_snoc before text (next ∷ texts) in
    let numbers : number + 1 + suc (length texts) ≡ number + suc (suc (length texts)) = omega arith in
    run-step (stages.Text format apps head (count - length before) (so_far before)) _ number text (next ∷ texts ++ rest) (step-text format apps head count before text (join_with_byte 10 (before ++ text ∷ [])) (IsScript-to_seam before text (next ∷ texts) script is) (omega arith))
    ∙ run-script format apps head count (number + 1) (before ++ text ∷ []) next texts script rest (subst P (sym seam) is) (all ∙ ap length (sym seam))
    ∙ rw numbers refl

-- lines that say one thing more each, where each leads from a stage to the next
pub run-said : {A : Type 0} (Says : List A → List ℕ → A → Type 0) (stage : List A → Stage)
    → ((before : List A) (line : List ℕ) (x : A) → Says before line x → step (stage before) line ≡ Ok (stage (before ++ x ∷ [])))
    → (before : List A) (lines : List (List ℕ)) (xs : List A) (number : ℕ) (rest : List (List ℕ)) → AreSaid Says before lines xs
    → run (stage before) number (lines ++ rest) ≡ run (stage (before ++ xs)) (number + length lines) rest
run-said Says stage steps before [] [] number rest are = rw (append-nil before, add-zero number) refl
run-said Says stage steps before [] (x ∷ xs) number rest are = absurd are
run-said Says stage steps before (line ∷ lines) [] number rest are = absurd are
run-said {A} Says stage steps before (line ∷ lines) (x ∷ xs) number rest are =
    let numbers : number + 1 + length lines ≡ number + suc (length lines) = omega arith in
    let Q : List A → Type 0 = λ all. run (stage ((before ++ x ∷ []) ++ xs)) (number + 1 + length lines) rest ≡ run (stage all) (number + 1 + length lines) rest in
    run-step (stage before) (stage (before ++ x ∷ [])) number line (lines ++ rest) (steps before line x are.0)
    ∙ run-said Says stage steps (before ++ x ∷ []) lines xs (number + 1) rest are.1
    ∙ subst Q (append_snoc before x xs) refl
    ∙ ap (λ (n : ℕ). run (stage (before ++ x ∷ xs)) n rest) numbers

-- the script line and the lines of the script
run-counted : (format : Format) (apps : List AppBlock) (head : Head) (number : ℕ) (counting : List ℕ) (texts : List (List ℕ)) (script : List ℕ) (rest : List (List ℕ))
    → IsScriptLine counting (length texts) → IsScript texts script → run (stages.Script format apps head) number (counting ∷ texts ++ rest) ≡ run (closed format apps head script) (number + suc (length texts)) rest
run-counted format apps head number counting [] script rest counted is =
    let numbers : number + 1 ≡ number + suc 0 = omega arith in
    run-step (stages.Script format apps head) _ number counting rest (step-no_lines format apps head counting counted)
    ∙ rw (is.joined, numbers) refl
run-counted format apps head number counting (text ∷ texts) script rest counted is =
    let numbers : number + 1 + suc (length texts) ≡ number + suc (suc (length texts)) = omega arith in
    let all : suc (length texts) - 0 ≡ suc (length texts) = omega arith in
    let P : ℕ → Type 0 = λ left. run (stages.Text format apps head left None) (number + 1) (text ∷ texts ++ rest) ≡ run (closed format apps head script) (number + 1 + suc (length texts)) rest in
    run-step (stages.Script format apps head) _ number counting (text ∷ texts ++ rest) (step-count format apps head counting (suc (length texts)) counted (omega arith))
    ∙ subst P all (run-script format apps head (suc (length texts)) (number + 1) [] text texts script rest is refl)
    ∙ ap (λ n. run (closed format apps head script) n rest) numbers

-- the lines of an application before its script
run-opening : (format : Format) (apps : List AppBlock) (head : Head) (number : ℕ) (opening rest : List (List ℕ)) → IsOpening format opening head → MayFollow apps head.name head.rect
    → run (stages.Block format apps) number (opening ++ rest) ≡ run (stages.Script format apps head) (number + length opening) rest
run-opening format apps head number opening rest is may =
    let numbers : number + 1 + length is.others ≡ number + suc (length is.others) = omega arith in
    rw is.parts (
    run-step (stages.Block format apps) (stages.Script format apps (head_before head.name head.rect head.budget)) number is.first (is.others ++ rest)
    (step-app format apps is.first head.name head.rect head.budget is.app may)
    ∙ run-said SaysAlias (λ aliases. stages.Script format apps (with_aliases head aliases)) (step-alias format apps head) [] is.others head.aliases (number + 1) rest is.aliases
    ∙ ap (λ (n : ℕ). run (stages.Script format apps head) n rest) numbers)

-- the lines of an application
run-block : (format : Format) (apps : List AppBlock) (app : AppBlock) (number : ℕ) (lines rest : List (List ℕ)) → IsBlock format lines app → MayFollow apps app.name app.rect
    → run (stages.Block format apps) number (lines ++ rest) ≡ run (stages.Block format (apps ++ app ∷ [])) (number + length lines) rest
run-block format apps app number lines rest is may =
    let longer : length (is.opening ++ is.counting ∷ is.texts) ≡ length is.opening + suc (length is.texts) = length-append is.opening (is.counting ∷ is.texts) in
    let numbers : number + length is.opening + suc (length is.texts) ≡ number + length (is.opening ++ is.counting ∷ is.texts) = omega arith in
    rw is.parts (rw (append_assoc is.opening (is.counting ∷ is.texts) rest) (
    run-opening format apps (head_of app) number is.opening (is.counting ∷ is.texts ++ rest) is.head may
    ∙ run-counted format apps (head_of app) (number + length is.opening) is.counting is.texts app.script rest is.count is.script
    ∙ ap (λ n. run (stages.Block format (apps ++ app ∷ [])) n rest) numbers))

-- the applications of a session
pub run-blocks : (format : Format) (before : List AppBlock) (apps : List AppBlock) (number : ℕ) (lines rest : List (List ℕ)) → AreBlocks format before lines apps
    → run (stages.Block format before) number (lines ++ rest) ≡ run (stages.Block format (before ++ apps)) (number + length lines) rest
run-blocks format before [] number lines rest are = rw (are, append-nil before, add-zero number) refl
run-blocks format before (app ∷ apps) number lines rest are =
    let own = are.0 in
    let others = are.1 in
    let longer : length (own ++ others) ≡ length own + length others = length-append own others in
    let numbers : number + length own + length others ≡ number + length (own ++ others) = omega arith in
    rw are.2 (rw (append_assoc own others rest) (
    run-block format before app number own (others ++ rest) are.3 are.4
    ∙ run-blocks format (before ++ app ∷ []) apps (number + length own) others rest are.5
    ∙ rw (append_snoc before app apps, numbers) refl))

run-heading : (format : Format) (rest : List (List ℕ)) → run stages.Heading 0 (heading format ∷ rest) ≡ run (stages.Block format []) 1 rest
run-heading First rest = refl
run-heading Second rest = refl

-- the heading and the applications
pub reaches_block : (format : Format) (apps : List AppBlock) (blocks rest : List (List ℕ)) → AreBlocks format [] blocks apps
    → run stages.Heading 0 ((heading format ∷ blocks) ++ rest) ≡ run (stages.Block format apps) (suc (length blocks)) rest
reaches_block format apps blocks rest are =
    let numbers : 1 + length blocks ≡ suc (length blocks) = omega arith in
    run-heading format (blocks ++ rest) ∙ run-blocks format [] apps 1 blocks rest are ∙ ap (λ n. run (stages.Block format apps) n rest) numbers

-- the applications and the events
pub reaches_event : (format : Format) (apps : List AppBlock) (told : List EventLine) (blocks others rest : List (List ℕ)) → AreBlocks format [] blocks apps → AreSaid (SaysEvent format apps) [] others told
    → run stages.Heading 0 ((heading format ∷ blocks ++ events ∷ others) ++ rest) ≡ run (stages.Event format apps (screen_at apps told) told) (length (heading format ∷ blocks ++ events ∷ others)) rest
reaches_event format apps told blocks others rest are said =
    let longer : length (blocks ++ events ∷ others) ≡ length blocks + suc (length others) = length-append blocks (events ∷ others) in
    let numbers : suc (length blocks) + 1 + length others ≡ suc (length (blocks ++ events ∷ others)) = omega arith in
    rw (append_assoc blocks (events ∷ others) rest) (
    reaches_block format apps blocks (events ∷ others ++ rest) are
    ∙ run-said (SaysEvent format apps) (λ evs. stages.Event format apps (screen_at apps evs) evs) (step-event format apps) [] others told (suc (length blocks) + 1) rest said
    ∙ ap (λ n. run (stages.Event format apps (screen_at apps told) told) n rest) numbers)

-- the lines before a place lead to its stage
pub reaches : (place : ReadingPoint) (before rest : List (List ℕ)) → Leads before place → run stages.Heading 0 (before ++ rest) ≡ run (stage_of place) (length before) rest
reaches AtHeading before rest leads = rw leads refl
reaches (AtBlock format apps) before rest leads = rw leads.1 (reaches_block format apps leads.0 rest leads.2)
reaches (AtScript format apps head) before rest leads =
    let longer : length (leads.0 ++ leads.1) ≡ length leads.0 + length leads.1 = length-append leads.0 leads.1 in
    let numbers : suc (length leads.0) + length leads.1 ≡ suc (length (leads.0 ++ leads.1)) = omega arith in
    rw leads.2 (rw (append_assoc leads.0 leads.1 rest) (
    reaches_block format apps leads.0 (leads.1 ++ rest) leads.3
    ∙ run-opening format apps head (suc (length leads.0)) leads.1 rest leads.4 leads.5
    ∙ ap (λ n. run (stages.Script format apps head) n rest) numbers))
reaches (AtText format apps head count texts) before rest leads =
    let own = leads.1 ++ leads.2 ∷ texts in
    let inner : length own ≡ length leads.1 + suc (length texts) = length-append leads.1 (leads.2 ∷ texts) in
    let longer : length (leads.0 ++ own) ≡ length leads.0 + length own = length-append leads.0 own in
    let numbers : suc (length leads.0) + length leads.1 + 1 + length texts ≡ suc (length (leads.0 ++ own)) = omega arith in
    let all : count - 0 ≡ count = omega arith in
    let start : ℕ = suc (length leads.0) + length leads.1 + 1 in
    let P : ℕ → Type 0 = λ left. run (stages.Text format apps head left None) start (texts ++ rest) ≡ run (stages.Text format apps head (count - length texts) (so_far texts)) (start + length texts) rest in
    rw leads.3 (rw (append_assoc leads.0 own rest, append_assoc leads.1 (leads.2 ∷ texts) rest) (
    reaches_block format apps leads.0 (leads.1 ++ (leads.2 ∷ texts ++ rest)) leads.4
    ∙ run-opening format apps head (suc (length leads.0)) leads.1 (leads.2 ∷ texts ++ rest) leads.5 leads.6
    ∙ run-step (stages.Script format apps head) (stages.Text format apps head count None) (suc (length leads.0) + length leads.1) leads.2 (texts ++ rest) (step-count format apps head leads.2 count leads.7 (omega (arith, leads.8)))
    ∙ subst P all (run-texts format apps head count start [] texts (join_with_byte 10 texts) rest leads.9 leads.8)
    ∙ ap (λ n. run (stages.Text format apps head (count - length texts) (so_far texts)) n rest) numbers))
reaches (AtEvent format apps told) before rest leads = rw leads.2 (reaches_event format apps told leads.0 leads.1 rest leads.3 leads.4)
reaches (PastEnd session) before rest leads =
    let format = leads.0 in
    let front = heading format ∷ leads.1 ++ events ∷ leads.2 in
    let seam : heading format ∷ leads.1 ++ events ∷ (leads.2 ++ leads.3 ∷ []) ≡ front ++ leads.3 ∷ [] = sym (append_assoc (heading format ∷ leads.1) (events ∷ leads.2) (leads.3 ∷ [])) in
    let longer : length (front ++ leads.3 ∷ []) ≡ length front + 1 = length-append front (leads.3 ∷ []) in
    let P : List (List ℕ) → Type 0 = λ lines. run stages.Heading 0 (lines ++ rest) ≡ run (stages.Whole session.apps session.events session.end) (length lines) rest in
    subst P (sym (leads.4 ∙ seam)) (
    ap (run stages.Heading 0) (append_snoc front leads.3 rest)
    ∙ reaches_event format session.apps session.events leads.1 leads.2 (leads.3 ∷ rest) leads.5 leads.6
    ∙ run-step (stages.Event format session.apps (screen_at session.apps session.events) session.events) (stages.Whole session.apps session.events session.end) (length front) leads.3 rest
    (step-end format session.apps session.events leads.3 session.end leads.7 leads.8)
    ∙ ap (λ n. run (stages.Whole session.apps session.events session.end) n rest) (sym longer)
    )

pub none_from_never : {A : Type 0} (o : Option A) → ((x : A) → o ≡ Some x → ⊥) → o ≡ None
none_from_never None never = refl
none_from_never (Some x) never = absurd (never x refl)

differs : (line word : List ℕ) → line ≢ word → bytes_eq line word ≡ false
differs line word other = false_from_ne_true (bytes_eq line word) (λ same. other (same_bytes line word same))

step-hindered : (format : Format) (apps : List AppBlock) (line : List ℕ) (fault : LineFault) (name : List ℕ) (rect : Rect) (budget : Budget) → IsAppLine format line name rect budget → Hinders fault apps name rect
    → step (stages.Block format apps) line ≡ Err fault
step-hindered format apps line fault name rect budget is hinders =
    rw (app_is_not_events format line name rect budget is, app_line_of-spelled format line name rect budget is, hindrance-hinders fault apps name rect hinders) refl

step-alias_hindered : (format : Format) (apps : List AppBlock) (head : Head) (line : List ℕ) (fault : LineFault) (alias : AliasLine) → IsAliasLine line alias → HindersAlias fault head.aliases alias.name
    → step (stages.Script format apps head) line ≡ Err fault
step-alias_hindered format apps head line fault alias is hinders =
    rw (alias_line_of-spelled line alias is, alias_hindrance-hinders fault head.aliases alias.name hinders) refl

step-event_hindered : (format : Format) (apps : List AppBlock) (told : List EventLine) (line : List ℕ) (fault : LineFault) (event : EventLine) → IsEventLine format apps line event → HindersEvent fault apps told event
    → step (stages.Event format apps (screen_at apps told) told) line ≡ Err fault
step-event_hindered format apps told line fault event is hinders =
    rw (event_line_of-spelled format apps line event is, event_hindrance-hinders fault apps told event hinders) refl

-- an event that something keeps from coming, and an end before its time
step-late : (format : Format) (apps : List AppBlock) (told : List EventLine) (line : List ℕ) (fault : LineFault)
    → ((event : EventLine) × IsEventLine format apps line event × HindersEvent fault apps told event)
    ⊎ ((moment : ℕ) × IsEndLine line moment × (moment < moment_at told) × (fault ≡ TimeBack))
    → step (stages.Event format apps (screen_at apps told) told) line ≡ Err fault
step-late format apps told line fault (inl hindered) = step-event_hindered format apps told line fault hindered.0 hindered.1 hindered.2
step-late format apps told line fault (inr back) =
    rw (event_line_of-end format apps line back.0 back.1, end_line_of-spelled line back.0 back.1, lt-ltb back.0 (moment_at told) back.2, back.3) refl

-- a faulty line is refused with its fault
pub step-faulty : (place : ReadingPoint) (before : List (List ℕ)) (line : List ℕ) (fault : LineFault) → Leads before place → IsFaulty place line fault → step (stage_of place) line ≡ Err fault
step-faulty AtHeading before line fault leads is = rw (differs line (heading First) is.0, differs line (heading Second) is.1, is.2) refl
step-faulty (AtBlock format apps) before line fault leads is =
    elim is [
      | inl bad ↦ rw (differs line events bad.0, none_from_never (app_line_of format line) (λ app e. bad.1 app.0 app.1 app.2 (app_line_of-some format line app e)), bad.2) refl
      | inr hindered ↦ step-hindered format apps line fault hindered.0 hindered.1 hindered.2 hindered.3 hindered.4
    ]
step-faulty (AtScript format apps head) before line fault leads is =
    elim is [
      | inl bad ↦ rw (
        none_from_never (alias_line_of line) (λ found e. bad.0 _ (alias_line_of-some line found e)),
        none_from_never (script_line_of line) (λ count e. bad.1 count (script_line_of-some line count e)),
        bad.2,
      ) refl
      | inr hindered ↦ step-alias_hindered format apps head line fault hindered.0 hindered.1 hindered.2
    ]
step-faulty (AtText format apps head count texts) before line fault leads is =
    rw is.1 (text_step-refused format apps head (count - length texts) texts line leads.9 is.0)
step-faulty (AtEvent format apps told) before line fault leads is =
    elim is [
      | inl bad ↦ rw (
        none_from_never (event_line_of format apps line) (λ event e. bad.0 event (event_line_of-some format apps line event e)),
        none_from_never (end_line_of line) (λ moment e. bad.1 moment (end_line_of-some line moment e)),
        bad.2,
      ) refl
      | inr others ↦ step-late format apps told line fault others
    ]
step-faulty (PastEnd session) before line fault leads is = rw is refl

finished-cut : (place : ReadingPoint) (fault : LineFault) (number : ℕ) → IsCut place fault → finished (stage_of place) number ≡ Err (fault, number)
finished-cut AtHeading fault number is = rw is refl
finished-cut (AtBlock format apps) fault number is = rw is refl
finished-cut (AtScript format apps head) fault number is = rw is refl
finished-cut (AtText format apps head count texts) fault number is = rw is refl
finished-cut (AtEvent format apps told) fault number is = rw is refl
finished-cut (PastEnd session) fault number is = absurd is

-- what comes next at a place is refused as it is faulty
pub run-refused : (place : ReadingPoint) (before rest : List (List ℕ)) (fault : LineFault) (number : ℕ) → Leads before place → IsRefused place rest fault → run (stage_of place) number rest ≡ Err (fault, number + 1)
run-refused place before [] fault number leads is = finished-cut place fault (number + 1) is
run-refused place before (line ∷ lines) fault number leads is = run-fault (stage_of place) fault number line lines (step-faulty place before line fault leads is)

-- a session is read as what it says
pub run-session : (lines : List (List ℕ)) (session : Plan) → Leads lines (PastEnd session) → run stages.Heading 0 lines ≡ Ok session
run-session lines session leads =
    let P : List (List ℕ) → Type 0 = λ ls. run stages.Heading 0 ls ≡ Ok session in
    subst P (append-nil lines) (reaches (PastEnd session) lines [] leads)

-- the fault of lines is the one that is told
pub run-at_fault : (lines : List (List ℕ)) (fault : LineFault) (number : ℕ) → IsAtFault lines fault number → run stages.Heading 0 lines ≡ Err (fault, number)
run-at_fault lines fault number is =
    rw (is.3, is.4) (reaches is.2 is.0 is.1 is.5 ∙ run-refused is.2 is.0 is.1 fault (length is.0) is.5 is.6)
