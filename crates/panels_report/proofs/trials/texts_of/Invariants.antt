use Rattle.std.proofs.Common.{drop, map, string_bytes}
use Rattle.panels_report.proofs.Trying.{Texts}
use Rattle.panels_report.proofs.trials.texts_of.Given as goal

abbrev pub invariant-loop-word : goal.invariant-loop-word
invariant-loop-word l = Texts l.texts.items (map string_bytes (drop l.word-index l.words)) (map string_bytes l.words)
