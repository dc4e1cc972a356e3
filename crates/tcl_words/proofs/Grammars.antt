-- The commands that are read are those of the grammar, and so are the faults.
use Rattle.std.proofs.Common.{◌≡◌, ℕ, ◌+◌, ◌≤◌, ◌<◌, ◌⊎◌, inl, inr, Bool, true, false, nat_lt, List, [], length, refl, sym, ap, subst, ◌∙◌, arith, Ok, Err, IsOk, Result}
use Rattle.std.proofs.lemmas.Bool.Decides.{nat_tests}
use Rattle.std.specs.Str.{is_utf8}
use Rattle.std.proofs.lemmas.Str.{is_utf8-from_IsUtf8, IsUtf8-from_is_utf8}
use Rattle.tcl_words.specs.Changes.{Read}
use Rattle.tcl_words.specs.Reading.{rest_of, commands_in, commands_of, outermost}
use Rattle.tcl_words.specs.Grammar.{TextEnding, leaves, fails, IsText, IsInnerOf, IsScript, IsScriptOf, IsScriptFault}
use Rattle.tcl_words.specs.Grammar.IsScriptFault.{no_text, faulty_text}
use Rattle.tcl_words.specs.declared.kind.BytePlace.TheVariants.{Start}
use Rattle.tcl_words.specs.declared.script.Command.{Command}
use Rattle.tcl_text.specs.declared.fault.ParseFault.{ParseFault}
use Rattle.tcl_text.specs.declared.fault.ParseFault.TheVariants.{TooLong, NoMemory}
use Rattle.tcl_words.proofs.ScriptsRead.{GivesCommands, script_read, inner_reads}
use Rattle.tcl_words.proofs.ScriptsCut.{IsScriptCut, script_found, inner_cuts}

-- what a text can be
abbrev IsNoText : List ℕ → Type 0
IsNoText text = (IsText text → ⊥) × (commands_of text ≡ Err TooLong)

abbrev IsReadable : List ℕ → Type 0
IsReadable text = IsText text × (commands_of text ≡ commands_in (rest_of text outermost 0 Start 0))

utf8_case : (t : Bool) (text : List ℕ) → is_utf8 text ≡ t → nat_lt 65536 (length text) ≡ false → length text ≤ 65536 → IsNoText text ⊎ IsReadable text
utf8_case true text e k short = inr ((short, IsUtf8-from_is_utf8 text e), rw (k, e) refl)
utf8_case false text e k short = inl ((λ is. let f : true ≡ false = sym (is_utf8-from_IsUtf8 text is.1) ∙ e in cc), rw (k, e) refl)

length_case : (t : Bool) (text : List ℕ) → nat_lt 65536 (length text) ≡ t → IsNoText text ⊎ IsReadable text
length_case true text e = let long : 65536 < length text = grind (arith, nat_tests) in inl ((λ is. omega (arith, is.0)), rw e refl)
length_case false text e = let short : length text ≤ 65536 = grind (arith, nat_tests) in utf8_case (is_utf8 text) text refl e short

text_case : (text : List ℕ) → IsNoText text ⊎ IsReadable text
text_case text = length_case (nat_lt 65536 (length text)) text refl

abbrev IsCut : List ℕ → List Command → TextEnding → Type 0
IsCut text commands ending = IsScript (IsInnerOf 200) false 0 text commands ending

-- what a cut text gives
abbrev given : List Command → TextEnding → Result (List Command) ParseFault
given commands (leaves left) = Ok commands
given commands (fails fault) = Err fault

read_given : (r : Read) (stop : ℕ) (commands : List Command) (ending : TextEnding) → GivesCommands r stop [] commands ending → commands_in r ≡ given commands ending
read_given r stop commands (leaves left) g = ap commands_in g.is ∙ ap (λ t. Ok t) g.commands_are
read_given r stop commands (fails fault) g = ap commands_in g

cut_read : (text : List ℕ) (commands : List Command) (ending : TextEnding) → IsCut text commands ending → commands_in (rest_of text outermost 0 Start 0) ≡ given commands ending
cut_read text commands ending cut =
    read_given (rest_of text outermost 0 Start 0) (0 + length text) commands ending (script_read false 200 (inner_reads 200) commands ending 0 text cut)

-- each text is cut, up to its end or a fault
abbrev EndsThere : TextEnding → Type 0
EndsThere (leaves left) = left ≡ []
EndsThere (fails fault) = Unit {0}

ends_there : (text : List ℕ) (ending : TextEnding) → IsScriptCut false text ending → EndsThere ending
ends_there text (leaves left) (own, e, h) = h
ends_there text (fails fault) h = tt

all_cut : (text : List ℕ) → (commands : List Command) × (ending : TextEnding) × IsCut text commands ending × EndsThere ending
all_cut text = let found = script_found 200 false (inner_cuts 200) 0 text in (found.commands, found.ending, found.is, ends_there text found.ending found.cut)

script_at : (text : List ℕ) (commands : List Command) → IsNoText text ⊎ IsReadable text → IsScriptOf text commands → commands_of text ≡ Ok commands
script_at text commands (inl (bad, e)) is = absurd (bad is.is_text)
script_at text commands (inr (fits, e)) is = e ∙ cut_read text commands (leaves []) is.cut

-- the commands of a script are read
pub commands_of-script : (text : List ℕ) (commands : List Command) → IsScriptOf text commands → commands_of text ≡ Ok commands
commands_of-script text commands is = script_at text commands (text_case text) is

found_script : (text : List ℕ) (commands found : List Command) (ending : TextEnding) → IsCut text found ending → EndsThere ending → given found ending ≡ Ok commands → IsCut text commands (leaves [])
found_script text commands found (leaves left) cut h e =
    let k : Ok found ≡ Ok commands = e in
    let same : found ≡ commands = cc in
    subst (λ t. IsCut text t (leaves [])) same (subst (λ l. IsCut text found (leaves l)) h cut)
found_script text commands found (fails fault) cut h e = let k : Err fault ≡ Ok commands = e in cc

-- the commands that are read are cut
pub read_is_cut : (text : List ℕ) (commands : List Command) → commands_in (rest_of text outermost 0 Start 0) ≡ Ok commands → IsScript (IsInnerOf 200) false 0 text commands (leaves [])
read_is_cut text commands h = let found = all_cut text in found_script text commands found.0 found.1 found.2 found.3 (sym (cut_read text found.0 found.1 found.2) ∙ h)

read_at : (text : List ℕ) (commands : List Command) → IsNoText text ⊎ IsReadable text → commands_of text ≡ Ok commands → IsScriptOf text commands
read_at text commands (inl (bad, e)) h = let k : Err TooLong ≡ Ok commands = sym e ∙ h in cc
read_at text commands (inr (fits, e)) h =
    let found = all_cut text in
    record { is_text = fits; cut = found_script text commands found.0 found.1 found.2 found.3 (sym (cut_read text found.0 found.1 found.2) ∙ sym e ∙ h) }

-- the commands that are read are a script's
pub script-commands_of : (text : List ℕ) (commands : List Command) → commands_of text ≡ Ok commands → IsScriptOf text commands
script-commands_of text commands h = read_at text commands (text_case text) h

fault_at : (text : List ℕ) (fault : ParseFault) → IsNoText text ⊎ IsReadable text → IsScriptFault text fault → commands_of text ≡ Err fault
fault_at text fault (inl (bad, e)) (no_text h) = e
fault_at text fault (inl (bad, e)) (faulty_text found fits h) = absurd (bad fits)
fault_at text fault (inr (fits, e)) (no_text h) = absurd (h fits)
fault_at text fault (inr (fits, e)) (faulty_text commands same cut) = e ∙ cut_read text commands (fails fault) cut

-- a fault is told
pub commands_of-fault : (text : List ℕ) (fault : ParseFault) → IsScriptFault text fault → commands_of text ≡ Err fault
commands_of-fault text fault is = fault_at text fault (text_case text) is

found_fault : (text : List ℕ) (fault : ParseFault) (found : List Command) (ending : TextEnding) → IsCut text found ending → given found ending ≡ Err fault → IsCut text found (fails fault)
found_fault text fault found (leaves left) cut e = let k : Ok found ≡ Err fault = e in cc
found_fault text fault found (fails other) cut e =
    let k : Err other ≡ Err fault = e in
    let same : other ≡ fault = cc in
    subst (λ f. IsCut text found (fails f)) same cut

-- so is the fault that is read
pub told_is_cut : (text : List ℕ) (fault : ParseFault) → commands_in (rest_of text outermost 0 Start 0) ≡ Err fault → (commands : List Command) × IsScript (IsInnerOf 200) false 0 text commands (fails fault)
told_is_cut text fault h = let found = all_cut text in (found.0, found_fault text fault found.0 found.1 found.2 (sym (cut_read text found.0 found.1 found.2) ∙ h))

told_at : (text : List ℕ) (fault : ParseFault) → IsNoText text ⊎ IsReadable text → commands_of text ≡ Err fault → IsScriptFault text fault
told_at text fault (inl (bad, e)) h = let k : Err TooLong ≡ Err fault = sym e ∙ h in let same : TooLong ≡ fault = cc in subst (IsScriptFault text) same (no_text bad)
told_at text fault (inr (fits, e)) h =
    let found = all_cut text in
    faulty_text found.0 fits (found_fault text fault found.0 found.1 found.2 (sym (cut_read text found.0 found.1 found.2) ∙ sym e ∙ h))

-- a fault that is told is the text's
pub fault-commands_of : (text : List ℕ) (fault : ParseFault) → commands_of text ≡ Err fault → IsScriptFault text fault
fault-commands_of text fault h = told_at text fault (text_case text) h

-- a text is a script of one list of commands alone
pub one_script : (text : List ℕ) (commands others : List Command) → IsScriptOf text commands → IsScriptOf text others → commands ≡ others
one_script text commands others is too = let k : Ok commands ≡ Ok others = sym (commands_of-script text commands is) ∙ commands_of-script text others too in cc

pub one_fault : (text : List ℕ) (fault other : ParseFault) → IsScriptFault text fault → IsScriptFault text other → fault ≡ other
one_fault text fault other is too = let k : Err fault ≡ Err other = sym (commands_of-fault text fault is) ∙ commands_of-fault text other too in cc

pub not_both : (text : List ℕ) (commands : List Command) (fault : ParseFault) → IsScriptOf text commands → IsScriptFault text fault → ⊥
not_both text commands fault is too = let k : Ok commands ≡ Err fault = sym (commands_of-script text commands is) ∙ commands_of-fault text fault too in cc

ok_commands : (text : List ℕ) (r : Result (List Command) ParseFault) → commands_of text ≡ r → IsOk r → (commands : List Command) × IsScriptOf text commands
ok_commands text (Ok commands) e h = (commands, script-commands_of text commands e)
ok_commands text (Err fault) e h = cc

pub read_is_script : (text : List ℕ) → IsOk (commands_of text) → (commands : List Command) × IsScriptOf text commands
read_is_script text h = ok_commands text (commands_of text) refl h

pub told_is_fault : (text : List ℕ) (fault : ParseFault) → (commands_of text ≡ Err fault) ⊎ (fault ≡ NoMemory) → IsScriptFault text fault ⊎ (fault ≡ NoMemory)
told_is_fault text fault (inl e) = inl (fault-commands_of text fault e)
told_is_fault text fault (inr e) = inr e
