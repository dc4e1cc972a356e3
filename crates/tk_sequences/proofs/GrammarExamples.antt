-- What the grammar says of some texts.
use Rattle.std.proofs.Common.{◌≡◌, ℕ, List, [], ◌∷◌, Some, None, Ok, Err, refl}
use Rattle.std.specs.Prelude.{codes}
use Rattle.tk_base.specs.Names.{all_names}
use Rattle.tk_sequences.proofs.Grammars.{sequences_read, faults_told}
use Rattle.tk_sequences.specs.Grammar.{IsSequence, HasFault}
use Rattle.tk_sequences.specs.Reading.{fields, key_meant, detail_of, headed, pattern_of, plain_pattern, physical, read_sequence}
use Rattle.tk_sequences.specs.Words.{name_in}
use Rattle.tk_sequences.specs.declared.detail.Detail.TheVariants as details
use Rattle.tk_sequences.specs.declared.event_type.EventType.TheVariants.{Key, Button, Map}
use Rattle.tk_sequences.specs.declared.fault.SequenceFault.{SequenceFault}
use Rattle.tk_sequences.specs.declared.fault.SequenceFault.TheVariants.{BadSequence, BadKeysym}
use Rattle.tk_sequences.specs.declared.pattern.Pattern.{Pattern}
use Rattle.tk_sequences.specs.declared.pattern.Repetition.TheVariants.{Single, Double}
use Rattle.tk_sequences.specs.declared.sequence.Sequence.{Sequence}
use Rattle.tk_sequences.specs.declared.sequence.Sequence.TheVariants.{Virtual, Physical}

says : (text : List ℕ) (sequence : Sequence) → read_sequence text ≡ Ok sequence → IsSequence text sequence
says text sequence h = (sequences_read text sequence).1 h

refuses : (text : List ℕ) (fault : SequenceFault) → read_sequence text ≡ Err fault → HasFault text fault
refuses text fault h = (faults_told text fault).1 h

-- the key `a`
letter : Pattern
letter = record { modifiers = 0; times = Single; kind = Key; detail = Some (details.Key 65) }

white_space_around : IsSequence (codes " a ") (Physical (letter ∷ []))
unfolding letter fields all_names key_meant detail_of headed pattern_of plain_pattern physical name_in read_sequence
white_space_around = says (codes " a ") (Physical (letter ∷ [])) refl

separators_around : IsSequence (codes "<- a ->") (Physical (letter ∷ []))
unfolding letter fields all_names key_meant detail_of headed pattern_of plain_pattern physical name_in read_sequence
separators_around = says (codes "<- a ->") (Physical (letter ∷ [])) refl

with_modifiers : IsSequence (codes "<Control--Double-Alt-1>a") (Physical (record { modifiers = 12; times = Double; kind = Button; detail = Some (details.Button 1) } ∷ letter ∷ []))
unfolding letter fields all_names key_meant detail_of headed pattern_of plain_pattern physical name_in read_sequence
with_modifiers = says (codes "<Control--Double-Alt-1>a") (Physical (record { modifiers = 12; times = Double; kind = Button; detail = Some (details.Button 1) } ∷ letter ∷ [])) refl

a_type : IsSequence (codes "<Map>") (Physical (record { modifiers = 0; times = Single; kind = Map; detail = None } ∷ []))
unfolding fields all_names key_meant detail_of headed pattern_of plain_pattern physical name_in read_sequence
a_type = says (codes "<Map>") (Physical (record { modifiers = 0; times = Single; kind = Map; detail = None } ∷ [])) refl

name_with_bracket : IsSequence (codes "<<<a>>") (Virtual (codes "<a"))
unfolding fields all_names key_meant detail_of headed pattern_of plain_pattern physical name_in read_sequence
name_with_bracket = says (codes "<<<a>>") (Virtual (codes "<a")) refl

no_name : HasFault (codes "<<>>") (BadSequence (codes "<<>>"))
unfolding fields all_names key_meant detail_of headed pattern_of plain_pattern physical name_in read_sequence
no_name = refuses (codes "<<>>") (BadSequence (codes "<<>>")) refl

-- `<<` counts before an unknown word
opening_first : HasFault (codes "<Foo><<a") (BadSequence (codes "<Foo><<a"))
unfolding fields all_names key_meant detail_of headed pattern_of plain_pattern physical name_in read_sequence
opening_first = refuses (codes "<Foo><<a") (BadSequence (codes "<Foo><<a")) refl

-- but a bracket that never closes doesn't
unknown_first : HasFault (codes "<Key-Foo><a") (BadKeysym (codes "Foo"))
unfolding fields all_names key_meant detail_of headed pattern_of plain_pattern physical name_in read_sequence
unknown_first = refuses (codes "<Key-Foo><a") (BadKeysym (codes "Foo")) refl

never_closed : HasFault (codes "a<Foo") (BadSequence (codes "a<Foo"))
unfolding fields all_names key_meant detail_of headed pattern_of plain_pattern physical name_in read_sequence
never_closed = refuses (codes "a<Foo") (BadSequence (codes "a<Foo")) refl

twice_double : HasFault (codes "<Double-Double-1>") (BadSequence (codes "<Double-Double-1>"))
unfolding fields all_names key_meant detail_of headed pattern_of plain_pattern physical name_in read_sequence
twice_double = refuses (codes "<Double-Double-1>") (BadSequence (codes "<Double-Double-1>")) refl

nothing : HasFault [] (BadSequence [])
unfolding fields all_names key_meant detail_of headed pattern_of plain_pattern physical name_in read_sequence
nothing = refuses [] (BadSequence []) refl
