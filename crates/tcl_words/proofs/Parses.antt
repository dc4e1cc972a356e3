-- Each text has one parse, which is what is read of it, and so has each index.
use Rattle.std.proofs.Common.{◌≡◌, ◌⊎◌, inl, inr, ℕ, List, refl, sym, ap, ◌∙◌, Result, Ok, Err, IfOk, IfErr, IsOk}
use Rattle.tcl_words.specs.Reading.{commands_of, index_pieces_of}
use Rattle.tcl_words.specs.Grammar.{IsScriptOf, IsScriptFault, IsScriptParse, IsIndexOf, IsIndexParse}
use Rattle.tcl_text.specs.One.{One}
use Rattle.tcl_words.specs.declared.script.Piece.{Piece}
use Rattle.tcl_words.specs.declared.script.Command.{Command}
use Rattle.tcl_text.specs.declared.fault.ParseFault.{ParseFault}
use Rattle.tcl_text.specs.declared.fault.ParseFault.TheVariants.{NoMemory}
use Rattle.tcl_words.proofs.Grammars.{commands_of-script, script-commands_of, commands_of-fault, fault-commands_of}
use Rattle.tcl_words.proofs.Indices.{index_pieces_of-index, index-index_pieces_of, index_pieces_of-fault, fault-index_pieces_of}

read_is_parse : (text : List ℕ) (read : Result (List Command) ParseFault) → commands_of text ≡ read → IsScriptParse text read
read_is_parse text (Ok commands) e = script-commands_of text commands e
read_is_parse text (Err fault) e = fault-commands_of text fault e

-- what the grammar relates to a text is read
pub parse_is_read : (text : List ℕ) (parse : Result (List Command) ParseFault) → IsScriptParse text parse → parse ≡ commands_of text
parse_is_read text (Ok commands) is = sym (commands_of-script text commands is)
parse_is_read text (Err fault) is = sym (commands_of-fault text fault is)

pub one_script_parse : (text : List ℕ) → One (IsScriptParse text)
one_script_parse text = record { it = commands_of text; holds = read_is_parse text (commands_of text) refl; only = λ other is. parse_is_read text other is }

index_read_is_parse : (text : List ℕ) (read : Result (List Piece) ParseFault) → index_pieces_of text ≡ read → IsIndexParse text read
index_read_is_parse text (Ok pieces) e = index-index_pieces_of text pieces e
index_read_is_parse text (Err fault) e = fault-index_pieces_of text fault e

pub index_parse_is_read : (text : List ℕ) (parse : Result (List Piece) ParseFault) → IsIndexParse text parse → parse ≡ index_pieces_of text
index_parse_is_read text (Ok pieces) is = sym (index_pieces_of-index text pieces is)
index_parse_is_read text (Err fault) is = sym (index_pieces_of-fault text fault is)

pub one_index_parse : (text : List ℕ) → One (IsIndexParse text)
one_index_parse text = record { it = index_pieces_of text; holds = index_read_is_parse text (index_pieces_of text) refl; only = λ other is. index_parse_is_read text other is }

-- what the walk gives is what the grammar relates, and the only such thing
pub walk_is_script : (text : List ℕ) (commands : List Command) → commands_of text ≡ Ok commands → IsScriptOf text commands
walk_is_script = script-commands_of

pub script_is_walk : (text : List ℕ) (commands others : List Command) → commands_of text ≡ Ok commands → IsScriptOf text others → others ≡ commands
script_is_walk text commands others e is = let k : Ok others ≡ Ok commands = sym (commands_of-script text others is) ∙ e in cc

pub walk_is_index : (text : List ℕ) (pieces : List Piece) → index_pieces_of text ≡ Ok pieces → IsIndexOf text pieces
walk_is_index = index-index_pieces_of

pub index_is_walk : (text : List ℕ) (pieces others : List Piece) → index_pieces_of text ≡ Ok pieces → IsIndexOf text others → others ≡ pieces
index_is_walk text pieces others e is = let k : Ok others ≡ Ok pieces = sym (index_pieces_of-index text others is) ∙ e in cc

pub index_walked : (text : List ℕ) (pieces : List Piece) → IsIndexOf text pieces → index_pieces_of text ≡ Ok pieces
index_walked = index_pieces_of-index

-- ── what is answered of a text ──

abbrev IsRead : List ℕ → Result (List ℕ) ParseFault → Type 0
IsRead text answer = IfOk answer (λ _. IsOk (commands_of text)) × IfErr answer (λ fault. (commands_of text ≡ Err fault) ⊎ (fault ≡ NoMemory))

pub script_answered : (text : List ℕ) (answer : Result (List ℕ) ParseFault) → IsRead text answer → (commands : List Command) → IsScriptOf text commands → IfErr answer (λ fault. fault ≡ NoMemory)
script_answered text (Ok script) read commands is = tt
script_answered text (Err fault) (ok, inl e) commands is = let k : Ok commands ≡ Err fault = sym (commands_of-script text commands is) ∙ e in absurd (cc)
script_answered text (Err fault) (ok, inr e) commands is = e

not_ok : (read : Result (List Command) ParseFault) (fault : ParseFault) → read ≡ Err fault → IsOk read → ⊥
not_ok (Ok commands) fault e ok = cc
not_ok (Err other) fault e ok = cc

same_fault : (read : Result (List Command) ParseFault) (fault other : ParseFault) → read ≡ Err fault → read ≡ Err other → fault ≡ other
same_fault read fault other e f = cc

pub fault_answered : (text : List ℕ) (answer : Result (List ℕ) ParseFault) → IsRead text answer → (fault : ParseFault) → IsScriptFault text fault → (answer ≡ Err fault) ⊎ (answer ≡ Err NoMemory)
fault_answered text (Ok script) (ok, err) fault is = absurd (not_ok (commands_of text) fault (commands_of-fault text fault is) ok)
fault_answered text (Err told) (ok, inl e) fault is = inl (ap Err (same_fault (commands_of text) told fault e (commands_of-fault text fault is)))
fault_answered text (Err told) (ok, inr e) fault is = inr (ap Err e)
