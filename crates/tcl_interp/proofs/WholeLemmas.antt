-- What commands come to that are done on their words.
use Rattle.std.proofs.Common.{◌≡◌, ℕ, suc, ◌+◌, ◌-◌, ◌<◌, ◌≤◌, Bool, true, false, cond, List, [], ◌∷◌, ◌++◌, length, drop, map, Option, Some, None, Ok, IsOk, refl, ap, sym, subst, ◌∙◌, arith, add-one}
use Rattle.std.specs.Prelude.{codes, bytes_eq}
use Rattle.tcl_words.specs.declared.script.Command.{Command}
use Rattle.tcl_words.specs.declared.script.Word.{Word}
use Rattle.tcl_vars.specs.Store.{Store}
use Rattle.tcl_commands.specs.Branches.{branch_of}
use Rattle.tcl_commands.specs.IfWords.{choices_from, choices_of, with_branch}
use Rattle.tcl_commands.specs.declared.branches.Clause.TheVariants.{AtBody, Behind}
use Rattle.tcl_table.specs.declared.builtin.Builtin.TheVariants as builtin
use Rattle.tcl_table.specs.declared.command.Command.TheVariants as command
use Rattle.tcl_table.specs.Names.{plain_name}
use Rattle.tcl_table.specs.Table.{command_of}
use Rattle.tcl_control.specs.declared.code.Code.{Code}
use Rattle.tcl_control.specs.declared.code.Code.TheVariants.{Normal}
use Rattle.tcl_control.specs.declared.context.Context.{Context}
use Rattle.tcl_control.specs.declared.plan.Plan.TheVariants as plan
use Rattle.tcl_control.specs.declared.plan.Plan.{Plan}
use Rattle.tcl_control.specs.Choices.{if_by, switch_plan}
use Rattle.tcl_control.specs.Control.{by_command, keeps_all}
use Rattle.tcl_table.specs.Source.{script_of}
use Rattle.tcl_interp.specs.declared.chosen.Chosen.TheVariants as chosen
use Rattle.tcl_interp.specs.declared.machine.ScriptPlace.{ScriptPlace}
use Rattle.tcl_interp.specs.declared.reach.Past.{Past}
use Rattle.tcl_interp.specs.declared.reach.Past.TheVariants as past
use Rattle.tcl_interp.specs.Outside.{Outside}
use Rattle.tcl_interp.specs.Evaluation.{and_then, called}
use Rattle.tcl_interp.specs.Finish.{Begins, Calls, Ends, ForCommand, GoesOn, Waiting, waits_meaning, words_rest}
use Rattle.tcl_interp.specs.Moves.{Standing, after_command, choice_move, chosen_move, moved, otherwise_move, plan_move, standing}
use Rattle.tcl_interp.specs.Quiet.{Leads}
use Rattle.tcl_interp.specs.Rests.{commands_in, words_in_front}
use Rattle.tcl_interp.specs.Simple.{CommandEnds, EndsCall, GivesWord, IsWritten, WordsLead}
use Rattle.tcl_interp.specs.Steps.{TakesStep, TakesSteps, finish_from, state_with}
use Rattle.tcl_interp.specs.Whole.{Chooses, Decides, IfWords, Passes, WrittenAt, past_to, waiting_at}
use Rattle.tcl_interp.proofs.Decisions.{decided_chooses}
use Rattle.tcl_interp.proofs.OnwardLemmas.{end_leads, script_leads, steps_lead}
use Rattle.tcl_interp.proofs.Same.{end_same, next_in, run_in}
use Rattle.tcl_interp.proofs.SimpleLemmas.{at_once, calls_in, front_suc, place_leads, word_leads_suc, words_lead, written_gives, steps_on}
use Rattle.tcl_interp.proofs.Stepping.{call_plan}
use Rattle.tcl_interp.proofs.TurnLemmas.{script_begins}

-- the last of those that wait
pub waits_on : {K : Type 0} (outer : List ScriptPlace) (place : ScriptPlace) (waits : List (Waiting K)) → map waiting_at (outer ++ place ∷ []) ++ waits ≡ map waiting_at outer ++ (waiting_at place ∷ waits)
waits_on [] place waits = refl
waits_on (first ∷ outer) place waits = ap (λ rest. waiting_at first ∷ rest) (waits_on outer place waits)

-- a condition and a body
one_branch : (test body : List ℕ) → bytes_eq body (codes "then") ≡ false → choices_of (test ∷ body ∷ []) ≡ Some (record { branches = branch_of test body ∷ []; otherwise = None })
unfolding choices_of
one_branch test body plain = ap (λ b. cond b (choices_from (AtBody test) []) (Some (record { branches = branch_of test body ∷ []; otherwise = None }))) plain

-- and a body behind `else`
else_branch : (test body last : List ℕ) → bytes_eq body (codes "then") ≡ false
    → choices_of (test ∷ body ∷ codes "else" ∷ last ∷ []) ≡ Some (record { branches = branch_of test body ∷ []; otherwise = Some last })
unfolding choices_of
else_branch test body last plain =
    ap (λ b. cond b (choices_from (AtBody test) (codes "else" ∷ last ∷ [])) (Some (record { branches = branch_of test body ∷ []; otherwise = Some last }))) plain

-- a word that is written is there
pub written_some : (words : List Word) (text : List ℕ) → IsWritten (drop 0 words) text → 0 < length words
written_some [] text (plain, is) = absurd (cc)
written_some (word ∷ words) text written = omega arith

module _ {S K : Type 0} (outside : Outside S K) where
  -- a command with one word behind its name
  pub one_ends : (room : ℕ) (words : List Word) (store : Store) (context : Context) (store' : Store) (name first : List ℕ) (count : ℕ) (code : Code) (text : List ℕ)
      → length words ≡ 2 → IsWritten (drop 0 words) name → length name ≤ 65536 → GivesWord outside room (drop 1 words) store context count first
      → EndsCall outside (name ∷ first ∷ []) store context store' code text → CommandEnds outside room words store context (count + 1) store' code text
  one_ends room [] store context store' name first count code text two written short gives ends = absurd (omega (arith, two))
  one_ends room (w ∷ []) store context store' name first count code text two written short gives ends = absurd (omega (arith, two))
  one_ends room (w ∷ v ∷ u ∷ words) store context store' name first count code text two written short gives ends = absurd (omega (arith, two))
  one_ends room (w ∷ v ∷ []) store context store' name first count code text two written short gives ends = λ shows left.
      let call = called (run_in outside room) (calls_in outside room) in
      let sum : (count + 1) + left ≡ count + suc left = omega arith in
      ap (λ n. words_rest outside room (w ∷ v ∷ []) [] (state_with shows store context n)) sum
      ∙ at_once outside room store context (w ∷ v ∷ []) (v ∷ []) [] (name ∷ []) (word_leads_suc outside room (w ∷ v ∷ []) 0 store context 0 name [] (omega arith) (written_gives outside room (w ∷ v ∷ []) store context name written short)) shows (count + suc left) call
      ∙ word_leads_suc outside room (v ∷ []) 0 store context count first (name ∷ []) (omega arith) gives shows (suc left) call
      ∙ ends room shows left

  -- a command with two words behind its name
  pub two_end : (room : ℕ) (words : List Word) (store : Store) (context : Context) (store' : Store) (name first second : List ℕ) (m n : ℕ) (code : Code) (text : List ℕ)
      → length words ≡ 3 → IsWritten (drop 0 words) name → length name ≤ 65536 → GivesWord outside room (drop 1 words) store context m first → GivesWord outside room (drop 2 words) store context n second
      → EndsCall outside (name ∷ first ∷ second ∷ []) store context store' code text → CommandEnds outside room words store context (m + n + 1) store' code text
  two_end room [] store context store' name first second m n code text three written short one other ends = absurd (omega (arith, three))
  two_end room (w ∷ []) store context store' name first second m n code text three written short one other ends = absurd (omega (arith, three))
  two_end room (w ∷ v ∷ []) store context store' name first second m n code text three written short one other ends = absurd (omega (arith, three))
  two_end room (w ∷ v ∷ u ∷ t ∷ words) store context store' name first second m n code text three written short one other ends = absurd (omega (arith, three))
  two_end room (w ∷ v ∷ u ∷ []) store context store' name first second m n code text three written short one other ends = λ shows left.
      let call = called (run_in outside room) (calls_in outside room) in
      let sum : (m + n + 1) + left ≡ m + (n + suc left) = omega arith in
      ap (λ k. words_rest outside room (w ∷ v ∷ u ∷ []) [] (state_with shows store context k)) sum
      ∙ at_once outside room store context (w ∷ v ∷ u ∷ []) (v ∷ u ∷ []) [] (name ∷ []) (word_leads_suc outside room (w ∷ v ∷ u ∷ []) 0 store context 0 name [] (omega arith) (written_gives outside room (w ∷ v ∷ u ∷ []) store context name written short)) shows (m + (n + suc left)) call
      ∙ word_leads_suc outside room (v ∷ u ∷ []) 0 store context m first (name ∷ []) (omega arith) one shows (n + suc left) call
      ∙ word_leads_suc outside room (u ∷ []) 0 store context n second (name ∷ first ∷ []) (omega arith) other shows (suc left) call
      ∙ ends room shows left

  -- a command that ends, and what comes behind it in its script
  command_goes : (room : ℕ) (front : Command) (after : List Command) (previous : List ℕ) (waits : List (Waiting K)) (shows : S) (store : Store) (context : Context) (store' : Store) (count : ℕ) (code : Code) (text : List ℕ)
      → CommandEnds outside room front.words store context count store' code text
      → TakesSteps outside count (standing (moved (GoesOn room (front ∷ after) previous) waits) store context) shows (standing (after_command room after waits code text) store' context) shows
  command_goes room front after previous waits shows store context store' count code text ends = λ left.
      ap (λ o. and_then (and_then o (next_in outside room after)) (waits_meaning outside waits)) (ends shows left)
      ∙ end_same outside code text (ForCommand room after) waits (state_with shows store' context left)

  -- the same at a place of a script
  pub place_goes : (room : ℕ) (commands : List Command) (i : ℕ) (previous : List ℕ) (waits : List (Waiting K)) (shows : S) (store : Store) (context : Context) (store' : Store) (count : ℕ) (code : Code) (text : List ℕ)
      → 0 < length (words_in_front (drop i commands)) → CommandEnds outside room (words_in_front (drop i commands)) store context count store' code text
      → TakesSteps outside count (standing (moved (GoesOn room (drop i commands) previous) waits) store context) shows (standing (after_command room (drop (i + 1) commands) waits code text) store' context) shows
  place_goes room commands i previous waits shows store context store' count code text front ends =
      let found = front_suc commands i front in
      let at : drop (i + 1) commands ≡ drop (suc i) commands = ap (λ k. drop k commands) (add-one i) in
      let own : CommandEnds outside room found.0.words store context count store' code text = rw found.1 at ends in
      rw (at, found.1) (command_goes room found.0 (drop (suc i) commands) previous waits shows store context store' count code text own)

  -- how far a command came that is done on its words
  pub passed_goes : (room : ℕ) (commands : List Command) (i : ℕ) (previous : List ℕ) (waits : List (Waiting K)) (shows : S) (store : Store) (context : Context) (store' : Store) (words : List Word) (name : List ℕ) (steps : ℕ) (way : Past)
      → words ≡ words_in_front (drop i commands) → WrittenAt 0 words name → Passes outside room words store context steps way store'
      → TakesSteps outside steps (standing (moved (GoesOn room (drop i commands) previous) waits) store context) shows (standing (past_to room i commands previous way waits) store' context) shows
  passed_goes room commands i previous waits shows store context store' words name steps (past.Before known) at written (none, same) = λ left.
      let from : Standing K = standing (moved (GoesOn room (drop i commands) previous) waits) store context in
      let zero : 0 + left ≡ left = omega arith in
      ap (λ n. finish_from outside from shows (n + left)) none ∙ ap (finish_from outside from shows) zero
      ∙ ap (λ s. finish_from outside (standing (moved (GoesOn room (drop i commands) previous) waits) s context) shows left) (sym same)
  passed_goes room commands i previous waits shows store context store' words name steps (past.Behind code text) at written ends =
      place_goes room commands i previous waits shows store context store' steps code text (subst (λ ws. 0 < length ws) at (written_some words name written.0))
      (subst (λ ws. CommandEnds outside room ws store context steps store' code text) at ends)
  passed_goes room commands i previous waits shows store context store' words name steps (past.Within stop) at written never = absurd never

  -- a command that ran is behind a script that goes on, or ends
  pub goes_past : (room : ℕ) (commands : List Command) (i : ℕ) (previous : List ℕ) (waits : List (Waiting K)) (shows : S) (store : Store) (context : Context) (store' : Store) (m n : ℕ) (start : Standing K) (way to : Past)
      → TakesSteps outside m start shows (standing (moved (GoesOn room (drop i commands) previous) waits) store context) shows
      → TakesSteps outside n (standing (moved (GoesOn room (drop i commands) previous) waits) store context) shows (standing (past_to room i commands previous way waits) store' context) shows
      → way ≡ to → TakesSteps outside (m + n) start shows (standing (past_to room i commands previous to waits) store' context) shows
  goes_past room commands i previous waits shows store context store' m n start way to one two is =
      let second : Standing K = standing (moved (GoesOn room (drop i commands) previous) waits) store context in
      steps_on outside m n start second (standing (past_to room i commands previous to waits) store' context) shows shows shows one
      (subst (λ w. TakesSteps outside n second shows (standing (past_to room i commands previous w waits) store' context) shows) is two)

  -- ── `if` ──

  -- three words that are written
  three_lead : (room : ℕ) (words : List Word) (store : Store) (context : Context) (name test body : List ℕ) → length words ≡ 3 → WrittenAt 0 words name → WrittenAt 1 words test → WrittenAt 2 words body
      → WordsLead outside room store context words [] 0 [] (name ∷ test ∷ body ∷ [])
  three_lead room [] store context name test body three a b c = absurd (omega (arith, three))
  three_lead room (w ∷ []) store context name test body three a b c = absurd (omega (arith, three))
  three_lead room (w ∷ v ∷ []) store context name test body three a b c = absurd (omega (arith, three))
  three_lead room (w ∷ v ∷ u ∷ t ∷ words) store context name test body three a b c = absurd (omega (arith, three))
  three_lead room (w ∷ v ∷ u ∷ []) store context name test body three a b c =
      words_lead outside room store context (w ∷ v ∷ u ∷ []) (v ∷ u ∷ []) [] [] (name ∷ []) (name ∷ test ∷ body ∷ []) 0 0
      (word_leads_suc outside room (w ∷ v ∷ u ∷ []) 0 store context 0 name [] (omega arith) (written_gives outside room (w ∷ v ∷ u ∷ []) store context name a.0 a.1))
      (words_lead outside room store context (v ∷ u ∷ []) (u ∷ []) [] (name ∷ []) (name ∷ test ∷ []) (name ∷ test ∷ body ∷ []) 0 0
      (word_leads_suc outside room (v ∷ u ∷ []) 0 store context 0 test (name ∷ []) (omega arith) (written_gives outside room (v ∷ u ∷ []) store context test b.0 b.1))
      (word_leads_suc outside room (u ∷ []) 0 store context 0 body (name ∷ test ∷ []) (omega arith) (written_gives outside room (u ∷ []) store context body c.0 c.1)))

  -- and five
  five_lead : (room : ℕ) (words : List Word) (store : Store) (context : Context) (name test body between last : List ℕ) → length words ≡ 5 → WrittenAt 0 words name → WrittenAt 1 words test → WrittenAt 2 words body → WrittenAt 3 words between → WrittenAt 4 words last
      → WordsLead outside room store context words [] 0 [] (name ∷ test ∷ body ∷ between ∷ last ∷ [])
  five_lead room [] store context name test body between last five a b c d e = absurd (omega (arith, five))
  five_lead room (w ∷ []) store context name test body between last five a b c d e = absurd (omega (arith, five))
  five_lead room (w ∷ v ∷ []) store context name test body between last five a b c d e = absurd (omega (arith, five))
  five_lead room (w ∷ v ∷ u ∷ []) store context name test body between last five a b c d e = absurd (omega (arith, five))
  five_lead room (w ∷ v ∷ u ∷ t ∷ []) store context name test body between last five a b c d e = absurd (omega (arith, five))
  five_lead room (w ∷ v ∷ u ∷ t ∷ s ∷ r ∷ words) store context name test body between last five a b c d e = absurd (omega (arith, five))
  five_lead room (w ∷ v ∷ u ∷ t ∷ s ∷ []) store context name test body between last five a b c d e =
      words_lead outside room store context (w ∷ v ∷ u ∷ t ∷ s ∷ []) (t ∷ s ∷ []) [] [] (name ∷ test ∷ body ∷ []) (name ∷ test ∷ body ∷ between ∷ last ∷ []) 0 0
      (words_lead outside room store context (w ∷ v ∷ u ∷ t ∷ s ∷ []) (v ∷ u ∷ t ∷ s ∷ []) (t ∷ s ∷ []) [] (name ∷ []) (name ∷ test ∷ body ∷ []) 0 0
      (word_leads_suc outside room (w ∷ v ∷ u ∷ t ∷ s ∷ []) 0 store context 0 name [] (omega arith) (written_gives outside room (w ∷ v ∷ u ∷ t ∷ s ∷ []) store context name a.0 a.1))
      (words_lead outside room store context (v ∷ u ∷ t ∷ s ∷ []) (u ∷ t ∷ s ∷ []) (t ∷ s ∷ []) (name ∷ []) (name ∷ test ∷ []) (name ∷ test ∷ body ∷ []) 0 0
      (word_leads_suc outside room (v ∷ u ∷ t ∷ s ∷ []) 0 store context 0 test (name ∷ []) (omega arith) (written_gives outside room (v ∷ u ∷ t ∷ s ∷ []) store context test b.0 b.1))
      (word_leads_suc outside room (u ∷ t ∷ s ∷ []) 0 store context 0 body (name ∷ test ∷ []) (omega arith) (written_gives outside room (u ∷ t ∷ s ∷ []) store context body c.0 c.1))))
      (words_lead outside room store context (t ∷ s ∷ []) (s ∷ []) [] (name ∷ test ∷ body ∷ []) (name ∷ test ∷ body ∷ between ∷ []) (name ∷ test ∷ body ∷ between ∷ last ∷ []) 0 0
      (word_leads_suc outside room (t ∷ s ∷ []) 0 store context 0 between (name ∷ test ∷ body ∷ []) (omega arith) (written_gives outside room (t ∷ s ∷ []) store context between d.0 d.1))
      (word_leads_suc outside room (s ∷ []) 0 store context 0 last (name ∷ test ∷ body ∷ between ∷ []) (omega arith) (written_gives outside room (s ∷ []) store context last e.0 e.1)))

  -- `if` is called with one branch
  if_called : (room : ℕ) (name test body : List ℕ) (arguments : List (List ℕ)) (otherwise : Option (List ℕ)) (waits : List (Waiting K)) (shows : S) (store : Store) (context : Context)
      → command_of context.commands (plain_name name) ≡ Some (command.Builtin builtin.If) → choices_of arguments ≡ Some (record { branches = branch_of test body ∷ []; otherwise = otherwise })
      → TakesStep outside (standing (moved (Calls room (name ∷ arguments)) waits) store context) shows (standing (choice_move room (branch_of test body ∷ []) otherwise waits) store context) shows
  if_called room name test body arguments otherwise waits shows store context binding choices =
      call_plan outside room name arguments waits shows store context store context (plan.Chooses (record { branches = branch_of test body ∷ []; otherwise = otherwise }))
      (standing (choice_move room (branch_of test body ∷ []) otherwise waits) store context)
      (sym (ap (by_command name arguments store context) binding ∙ ap (λ c. keeps_all store context (if_by c)) choices))
      (0, refl)

  -- the words of `if`, and its call
  if_step : (room : ℕ) (words : List Word) (name test body : List ℕ) (otherwise : Option (List ℕ)) (waits : List (Waiting K)) (shows : S) (store : Store) (context : Context)
      → WrittenAt 0 words name → IfWords words test body otherwise → command_of context.commands (plain_name name) ≡ Some (command.Builtin builtin.If)
      → (texts : List (List ℕ)) × (0 < length texts) × WordsLead outside room store context words [] 0 [] texts
      × TakesStep outside (standing (moved (Calls room texts) waits) store context) shows (standing (choice_move room (branch_of test body ∷ []) otherwise waits) store context) shows
  if_step room words name test body None waits shows store context named (three, a, b, plain) binding = (
    name ∷ test ∷ body ∷ [],
    omega arith,
    three_lead room words store context name test body three named a b,
    if_called room name test body (test ∷ body ∷ []) None waits shows store context binding (one_branch test body plain),
  )
  if_step room words name test body (Some last) waits shows store context named (five, a, b, plain, c, d) binding = (
    name ∷ test ∷ body ∷ codes "else" ∷ last ∷ [],
    omega arith,
    five_lead room words store context name test body (codes "else") last five named a b c d,
    if_called room name test body (test ∷ body ∷ codes "else" ∷ last ∷ []) (Some last) waits shows store context binding (else_branch test body last plain),
  )

  -- `if` at a place of a script, where its condition is known
  if_leads : (room : ℕ) (commands : List Command) (i : ℕ) (previous name test body : List ℕ) (otherwise : Option (List ℕ)) (count : ℕ) (holds : Bool) (waits : List (Waiting K)) (shows : S) (store : Store) (context : Context)
      → 0 < length (words_in_front (drop i commands)) → WrittenAt 0 (words_in_front (drop i commands)) name → IfWords (words_in_front (drop i commands)) test body otherwise
      → command_of context.commands (plain_name name) ≡ Some (command.Builtin builtin.If) → Decides outside room store context test count holds
      → TakesSteps outside (count + 1) (standing (moved (GoesOn room (drop i commands) previous) waits) store context) shows
      (standing (chosen_move room (branch_of test body ∷ []) otherwise (ForCommand room (drop (i + 1) commands) ∷ waits) (Ok holds)) store context) shows
  if_leads room commands i previous name test body otherwise count holds waits shows store context front named words binding decides =
      let after : List (Waiting K) = ForCommand room (drop (i + 1) commands) ∷ waits in
      let step = if_step room (words_in_front (drop i commands)) name test body otherwise after shows store context named words binding in
      let first : Standing K = standing (moved (GoesOn room (drop i commands) previous) waits) store context in
      let second : Standing K = standing (choice_move room (branch_of test body ∷ []) otherwise after) store context in
      let third : Standing K = standing (chosen_move room (branch_of test body ∷ []) otherwise after (Ok holds)) store context in
      let called : TakesSteps outside 1 first shows second shows = place_leads outside room commands i previous waits shows store context 0 step.0 second shows front step.1 step.2 step.3 in
      let sum : 1 + count ≡ count + 1 = omega arith in
      subst (λ n. TakesSteps outside n first shows third shows) sum
      (steps_on outside 1 count first second third shows shows shows called
      (decided_chooses outside room store context (branch_of test body) [] otherwise after shows count holds decides))

  -- it runs nothing
  ends_by : (room : ℕ) (commands : List Command) (i : ℕ) (previous name : List ℕ) (count : ℕ) (waits : List (Waiting K)) (shows : S) (store : Store) (context : Context)
      → 0 < length (words_in_front (drop i commands)) → WrittenAt 0 (words_in_front (drop i commands)) name → command_of context.commands (plain_name name) ≡ Some (command.Builtin builtin.If)
      → Chooses outside room store context (words_in_front (drop i commands)) count chosen.Nothing
      → TakesSteps outside (count + 1) (standing (moved (GoesOn room (drop i commands) previous) waits) store context) shows (standing (after_command room (drop (i + 1) commands) waits Normal []) store context) shows
  ends_by room commands i previous name count waits shows store context front named binding (test, body, words, decides) =
      let first : Standing K = standing (moved (GoesOn room (drop i commands) previous) waits) store context in
      let third : Standing K = standing (after_command room (drop (i + 1) commands) waits Normal []) store context in
      steps_lead outside (count + 1) first (standing (moved (Ends Normal []) (ForCommand room (drop (i + 1) commands) ∷ waits)) store context) third shows shows
      (if_leads room commands i previous name test body None count false waits shows store context front named words binding decides)
      (end_leads store context Normal [] (ForCommand room (drop (i + 1) commands) ∷ waits) third refl)

  body_begins : (room : ℕ) (test body script : List ℕ) (otherwise : Option (List ℕ)) (holds : Bool) (waits : List (Waiting K)) → Some script ≡ cond holds (Some body) otherwise
      → chosen_move room (branch_of test body ∷ []) otherwise waits (Ok holds) ≡ moved (Begins room script) waits
  body_begins room test body script otherwise true waits is = ap (λ s. otherwise_move room s waits) (sym is)
  body_begins room test body script otherwise false waits is = ap (λ s. otherwise_move room s waits) (sym is)

  -- it runs this body
  begins_by : (room : ℕ) (commands : List Command) (i : ℕ) (previous name script : List ℕ) (count : ℕ) (waits : List (Waiting K)) (shows : S) (store : Store) (context : Context)
      → 0 < room → 0 < length (words_in_front (drop i commands)) → WrittenAt 0 (words_in_front (drop i commands)) name → command_of context.commands (plain_name name) ≡ Some (command.Builtin builtin.If)
      → Chooses outside room store context (words_in_front (drop i commands)) count (chosen.Body script)
      → TakesSteps outside (count + 1) (standing (moved (GoesOn room (drop i commands) previous) waits) store context) shows
      (standing (moved (GoesOn (room - 1) (commands_in script) []) (ForCommand room (drop (i + 1) commands) ∷ waits)) store context) shows
  begins_by room commands i previous name script count waits shows store context some front named binding (test, body, otherwise, holds, words, decides, is, read) =
      let after : List (Waiting K) = ForCommand room (drop (i + 1) commands) ∷ waits in
      let begun = if_leads room commands i previous name test body otherwise count holds waits shows store context front named words binding decides in
      let first : Standing K = standing (moved (GoesOn room (drop i commands) previous) waits) store context in
      let third : Standing K = standing (moved (GoesOn (room - 1) (commands_in script) []) after) store context in
      steps_lead outside (count + 1) first (standing (moved (Begins room script) after) store context) third shows shows
      (subst (λ m. TakesSteps outside (count + 1) (standing (moved (GoesOn room (drop i commands) previous) waits) store context) shows (standing m store context) shows) (body_begins room test body script otherwise holds after is) begun)
      (script_begins room script after store context some read)

  pub if_ends : (room : ℕ) (commands : List Command) (i : ℕ) (previous name : List ℕ) (count : ℕ) (waits : List (Waiting K)) (shows : S) (store : Store) (context : Context) (words : List Word)
      → words ≡ words_in_front (drop i commands) → WrittenAt 0 words name → command_of context.commands (plain_name name) ≡ Some (command.Builtin builtin.If)
      → Chooses outside room store context words count chosen.Nothing
      → TakesSteps outside (count + 1) (standing (moved (GoesOn room (drop i commands) previous) waits) store context) shows (standing (after_command room (drop (i + 1) commands) waits Normal []) store context) shows
  if_ends room commands i previous name count waits shows store context words at named binding chooses =
      ends_by room commands i previous name count waits shows store context (subst (λ ws. 0 < length ws) at (written_some words name named.0)) (subst (λ ws. WrittenAt 0 ws name) at named) binding
      (subst (λ ws. Chooses outside room store context ws count chosen.Nothing) at chooses)

  -- it runs a body, which has come so far
  pub if_begins : (room : ℕ) (commands : List Command) (i : ℕ) (previous name script : List ℕ) (count : ℕ) (waits : List (Waiting K)) (shows : S) (store : Store) (context : Context) (words : List Word) (store' : Store) (steps : ℕ) (way : Past)
      → 0 < room → words ≡ words_in_front (drop i commands) → WrittenAt 0 words name → command_of context.commands (plain_name name) ≡ Some (command.Builtin builtin.If)
      → Chooses outside room store context words count (chosen.Body script)
      → TakesSteps outside steps (standing (moved (GoesOn (room - 1) (commands_in script) []) (ForCommand room (drop (i + 1) commands) ∷ waits)) store context) shows (standing (past_to room i commands previous way waits) store' context) shows
      → TakesSteps outside (steps + (count + 1)) (standing (moved (GoesOn room (drop i commands) previous) waits) store context) shows (standing (past_to room i commands previous way waits) store' context) shows
  if_begins room commands i previous name script count waits shows store context words store' steps way some at named binding chooses went =
      let first : Standing K = standing (moved (GoesOn room (drop i commands) previous) waits) store context in
      let second : Standing K = standing (moved (GoesOn (room - 1) (commands_in script) []) (ForCommand room (drop (i + 1) commands) ∷ waits)) store context in
      let third : Standing K = standing (past_to room i commands previous way waits) store' context in
      let sum : (count + 1) + steps ≡ steps + (count + 1) = omega arith in
      subst (λ n. TakesSteps outside n first shows third shows) sum
      (steps_on outside (count + 1) steps first second third shows shows shows
      (begins_by room commands i previous name script count waits shows store context some (subst (λ ws. 0 < length ws) at (written_some words name named.0)) (subst (λ ws. WrittenAt 0 ws name) at named) binding
      (subst (λ ws. Chooses outside room store context ws count (chosen.Body script)) at chooses))
      went)

  -- and that has ended
  pub if_through : (room inner : ℕ) (after : List Command) (text : List ℕ) (waits : List (Waiting K)) (store : Store) (context : Context)
      → Leads (standing (moved (GoesOn inner [] text) (ForCommand room after ∷ waits)) store context) (standing (moved (GoesOn room after text) waits) store context)
  if_through room inner after text waits store context =
      script_leads inner [] 0 text store context (ForCommand room after ∷ waits) (standing (moved (GoesOn room after text) waits) store context) (omega arith) refl

  -- ── `switch` ──

  -- a name that is written, and the words behind it
  named_leads : (room : ℕ) (words : List Word) (store : Store) (context : Context) (name : List ℕ) (arguments : List (List ℕ)) (count : ℕ) → 0 < length words → WrittenAt 0 words name
      → WordsLead outside room store context (drop 1 words) (name ∷ []) count [] (name ∷ arguments) → WordsLead outside room store context words [] count [] (name ∷ arguments)
  named_leads room [] store context name arguments count some named leads = absurd (omega (arith, some))
  named_leads room (word ∷ words) store context name arguments count some named leads =
      let sum : 0 + count ≡ count = omega arith in
      subst (λ n. WordsLead outside room store context (word ∷ words) [] n [] (name ∷ arguments)) sum
      (words_lead outside room store context (word ∷ words) words [] [] (name ∷ []) (name ∷ arguments) 0 count
      (word_leads_suc outside room (word ∷ words) 0 store context 0 name [] (omega arith) (written_gives outside room (word ∷ words) store context name named.0 named.1)) leads)

  -- it does what its plan says
  switch_leads : (room : ℕ) (commands : List Command) (i : ℕ) (previous name : List ℕ) (arguments : List (List ℕ)) (count : ℕ) (p : Plan) (waits : List (Waiting K)) (shows : S) (store : Store) (context : Context) (words : List Word) (next : Standing K)
      → words ≡ words_in_front (drop i commands) → WrittenAt 0 words name → command_of context.commands (plain_name name) ≡ Some (command.Builtin builtin.Switch)
      → WordsLead outside room store context (drop 1 words) (name ∷ []) count [] (name ∷ arguments) → switch_plan arguments ≡ p
      → Leads (plan_move room store context (ForCommand room (drop (i + 1) commands) ∷ waits) p) next
      → TakesSteps outside (count + 1) (standing (moved (GoesOn room (drop i commands) previous) waits) store context) shows next shows
  switch_leads room commands i previous name arguments count p waits shows store context words next at named binding leads planned goes =
      let some : 0 < length words = written_some words name named.0 in
      let all : WordsLead outside room store context words [] count [] (name ∷ arguments) = named_leads room words store context name arguments count some named leads in
      place_leads outside room commands i previous waits shows store context count (name ∷ arguments) next shows (subst (λ ws. 0 < length ws) at some) (omega arith)
      (subst (λ ws. WordsLead outside room store context ws [] count [] (name ∷ arguments)) at all)
      (call_plan outside room name arguments (ForCommand room (drop (i + 1) commands) ∷ waits) shows store context store context p next
      (sym (ap (by_command name arguments store context) binding ∙ ap (keeps_all store context) planned)) goes)

  -- it has ended
  pub switch_ends : (room : ℕ) (commands : List Command) (i : ℕ) (previous name : List ℕ) (arguments : List (List ℕ)) (count : ℕ) (code : Code) (text : List ℕ) (waits : List (Waiting K)) (shows : S) (store : Store) (context : Context) (words : List Word)
      → words ≡ words_in_front (drop i commands) → WrittenAt 0 words name → command_of context.commands (plain_name name) ≡ Some (command.Builtin builtin.Switch)
      → WordsLead outside room store context (drop 1 words) (name ∷ []) count [] (name ∷ arguments) → switch_plan arguments ≡ plan.Ends code text
      → TakesSteps outside (count + 1) (standing (moved (GoesOn room (drop i commands) previous) waits) store context) shows (standing (after_command room (drop (i + 1) commands) waits code text) store context) shows
  switch_ends room commands i previous name arguments count code text waits shows store context words at named binding leads planned =
      let third : Standing K = standing (after_command room (drop (i + 1) commands) waits code text) store context in
      switch_leads room commands i previous name arguments count (plan.Ends code text) waits shows store context words third at named binding leads planned
      (end_leads store context code text (ForCommand room (drop (i + 1) commands) ∷ waits) third refl)

  -- it runs a body, which has come so far
  pub switch_begins : (room : ℕ) (commands : List Command) (i : ℕ) (previous name script : List ℕ) (arguments : List (List ℕ)) (count : ℕ) (waits : List (Waiting K)) (shows : S) (store : Store) (context : Context) (words : List Word) (store' : Store) (steps : ℕ) (way : Past)
      → 0 < room → words ≡ words_in_front (drop i commands) → WrittenAt 0 words name → command_of context.commands (plain_name name) ≡ Some (command.Builtin builtin.Switch)
      → WordsLead outside room store context (drop 1 words) (name ∷ []) count [] (name ∷ arguments) → switch_plan arguments ≡ plan.Runs script → IsOk (script_of script)
      → TakesSteps outside steps (standing (moved (GoesOn (room - 1) (commands_in script) []) (ForCommand room (drop (i + 1) commands) ∷ waits)) store context) shows (standing (past_to room i commands previous way waits) store' context) shows
      → TakesSteps outside (steps + (count + 1)) (standing (moved (GoesOn room (drop i commands) previous) waits) store context) shows (standing (past_to room i commands previous way waits) store' context) shows
  switch_begins room commands i previous name script arguments count waits shows store context words store' steps way some at named binding leads planned read went =
      let after : List (Waiting K) = ForCommand room (drop (i + 1) commands) ∷ waits in
      let first : Standing K = standing (moved (GoesOn room (drop i commands) previous) waits) store context in
      let second : Standing K = standing (moved (GoesOn (room - 1) (commands_in script) []) after) store context in
      let third : Standing K = standing (past_to room i commands previous way waits) store' context in
      let sum : (count + 1) + steps ≡ steps + (count + 1) = omega arith in
      subst (λ n. TakesSteps outside n first shows third shows) sum
      (steps_on outside (count + 1) steps first second third shows shows shows
      (switch_leads room commands i previous name arguments count (plan.Runs script) waits shows store context words second at named binding leads planned
      (script_begins room script after store context some read))
      went)
