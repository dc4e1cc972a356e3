use Rattle.std.proofs.Common.{◌+◌, drop, ap, ◌∙◌, sym, Some, Ok}
use Rattle.std.proofs.lemmas.Str.{IsCharBoundary-after_ascii}
use Rattle.tcl_words.proofs.Steps.{cut_named, cut_indexed, cut_braced}
use Rattle.tcl_words.proofs.OperandLemmas.{braced_name, braced_cut}
use Rattle.tcl_words.specs.Operands.{substitution}
use Rattle.tcl_words.specs.declared.script.Piece.TheVariants.{Variable}
use Rattle.tcl_words.proofs.operands.substitution_behind.Goals as goal

pub text_of-requires-clause-begins : goal.text_of-requires-clause-begins
text_of-requires-clause-begins c = IsCharBoundary-after_ascii c.args.source.now c.args.at c.utf8.source c.requires.within c.requires.ascii

pub text_of-requires-clause-ends : goal.text_of-requires-clause-ends
text_of-requires-clause-ends c = cut_named c.args.source.now c.args.at c.in-Named.count c.utf8.source c.requires.within c.in-Named.ensures.fits

pub read_opened-requires-clause-cut : goal.read_opened-requires-clause-cut
read_opened-requires-clause-cut c =
    cut_indexed c.args.source.now c.args.at c.in-Indexed.count c.utf8.source c.requires.within (IsCharBoundary-after_ascii c.args.source.now c.args.at c.utf8.source c.requires.within c.requires.ascii) c.in-Indexed.ensures.fits

pub text_of-requires-in-Braced-clause-begins : goal.text_of-requires-in-Braced-clause-begins
text_of-requires-in-Braced-clause-begins c = braced_cut c.args.source.now c.args.at (cut_braced c.args.source.now c.args.at c.in-Braced.count c.utf8.source c.requires.within c.in-Braced.ensures.fits).0

pub returns-in_ok-name-in-Braced : goal.returns-in_ok-name-in-Braced
returns-in_ok-name-in-Braced c =
    ap (λ f. substitution c.args.room f (drop (c.args.at + 1) c.args.source.now)) (sym c.in-Braced.ensures.form)
    ∙ ap (λ t. Ok (Some (Variable t, c.in-Braced.count + 2))) (braced_name c.args.source.now c.args.at c.in-Braced.count ∙ sym c.in_ok-name-in-Braced.ensures.ok)
