-- What the classes bind can be read.
use Rattle.std.proofs.Common.{◌≡◌, true, refl}
use Rattle.std.specs.List.{list_all}
use Rattle.std.specs.Prelude.{is_ok}
use Rattle.tk_base.specs.declared.kind.Kind.TheVariants as kind
use Rattle.tk_options.specs.Rows.{row_of}
use Rattle.tk_base.specs.Names.{all_names}
use Rattle.tk_panel.specs.ClassLaws.{ClassesBindSequences}
use Rattle.tk_sequences.specs.Reading.{fields, key_meant, detail_of, headed, pattern_of, plain_pattern, physical, read_sequence}
use Rattle.tk_sequences.specs.Words.{name_in}

pub classes : ClassesBindSequences
unfolding fields all_names key_meant detail_of headed pattern_of plain_pattern physical name_in read_sequence
classes kind.Frame = refl
classes kind.Label = refl
classes kind.Button = refl
classes kind.Entry = refl
classes kind.Listbox = refl
