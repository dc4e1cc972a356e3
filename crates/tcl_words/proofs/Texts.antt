-- The commands of a text by its length and its bytes.
use Rattle.std.proofs.Common.{◌≡◌, ◌≤◌, ℕ, true, false, List, length, nat_lt, refl, sym, ap, ◌∙◌, ◌⊎◌, inl, inr, arith, Ok, Err, Result}
use Rattle.std.proofs.lemmas.Bool.{cases_Bool}
use Rattle.std.proofs.lemmas.Bool.Decides.{nat_tests}
use Rattle.std.specs.Str.{IsUtf8, is_utf8}
use Rattle.std.proofs.lemmas.Str.{is_utf8-from_IsUtf8, IsUtf8-from_is_utf8}
use Rattle.tcl_words.specs.Reading.{commands_of, commands_in, rest_of, outermost}
use Rattle.tcl_words.specs.Room.{text_room, commands_room}
use Rattle.tcl_words.specs.declared.kind.BytePlace.TheVariants.{Start}
use Rattle.tcl_words.specs.declared.script.Command.{Command}
use Rattle.tcl_text.specs.declared.fault.ParseFault.{ParseFault}
use Rattle.tcl_text.specs.declared.fault.ParseFault.TheVariants.{TooLong, NoMemory}
use Rattle.tcl_words.proofs.Rooms.{commands_fit}

short_test : (text : List ℕ) → length text ≤ 65536 → nat_lt 65536 (length text) ≡ false
short_test text h = grind (arith, nat_tests)

utf8_test : (text : List ℕ) → (IsUtf8 text → ⊥) → is_utf8 text ≡ false
utf8_test text h = elim (is_utf8 text) as (λ b. is_utf8 text ≡ b → b ≡ false) [ true ↦ λ e. absurd (h (IsUtf8-from_is_utf8 text e)) | false ↦ λ e. refl ] refl

pub commands_of-not_utf8 : (text : List ℕ) → length text ≤ 65536 → (IsUtf8 text → ⊥) → commands_of text ≡ Err TooLong
commands_of-not_utf8 text h k = rw (short_test text h, utf8_test text k) refl

pub commands_of-read : (text : List ℕ) → length text ≤ 65536 → IsUtf8 text → commands_of text ≡ commands_in (rest_of text outermost 0 Start 0)
commands_of-read text h k = rw (short_test text h, is_utf8-from_IsUtf8 text k) refl

-- the same, of an equal text that was read
pub commands_of-parsed : (text source : List ℕ) (result : Result (List Command) ParseFault) → text ≡ source → length source ≤ 65536 → IsUtf8 source →
    commands_in (rest_of text outermost 0 Start 0) ≡ result → commands_of source ≡ result
commands_of-parsed text source result e h k read = commands_of-read source h k ∙ ap (λ t. commands_in (rest_of t outermost 0 Start 0)) (sym e) ∙ read

pub commands_of-faulty : (text source : List ℕ) (fault : ParseFault) → text ≡ source → length source ≤ 65536 → IsUtf8 source →
    (commands_in (rest_of text outermost 0 Start 0) ≡ Err fault) ⊎ (fault ≡ NoMemory) → (commands_of source ≡ Err fault) ⊎ (fault ≡ NoMemory)
commands_of-faulty text source fault e h k (inl read) = inl (commands_of-parsed text source (Err fault) e h k read)
commands_of-faulty text source fault e h k (inr refused) = inr refused

commands_found : (text : List ℕ) (commands : List Command) → commands_of text ≡ Ok commands → commands_in (rest_of text outermost 0 Start 0) ≡ Ok commands
commands_found text commands = elim (cases_Bool (nat_lt 65536 (length text))) [
  | inl long ↦ rw long (λ e. absurd (let h : Err TooLong ≡ Ok commands = e in cc))
  | inr short ↦ rw short (elim (cases_Bool (is_utf8 text)) [ inl utf8 ↦ rw utf8 (λ e. e) | inr other ↦ rw other (λ e. absurd (let h : Err TooLong ≡ Ok commands = e in cc)) ])
]

pub commands_of_fit : (text : List ℕ) (commands : List Command) → commands_of text ≡ Ok commands → commands_room commands ≤ text_room text
commands_of_fit text commands e = commands_fit text commands (commands_found text commands e)
