use Rattle.tk_panel.proofs.ClassSequences.{classes}
use Rattle.tk_panel.proofs.class_laws.classes_bind_sequences.Goals as goal

pub returns : goal.returns
returns c = classes
