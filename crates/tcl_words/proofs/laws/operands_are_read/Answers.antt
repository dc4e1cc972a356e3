use Rattle.tcl_words.proofs.OperandsRead.{bracket_read, bracket_is, substitution_read, substitution_is, substitution_begun, substitution_faulty}
use Rattle.tcl_words.proofs.QuotesRead.{quotes_given, quotes_are}
use Rattle.tcl_words.proofs.laws.operands_are_read.Goals as goal

pub returns-clause-bracket : goal.returns-clause-bracket
returns-clause-bracket c = λ room text result. (bracket_read room text result, bracket_is room text result)

pub returns-clause-substitution : goal.returns-clause-substitution
returns-clause-substitution c = λ room text result. (substitution_read room text result, substitution_is room text result)

pub returns-clause-quotes : goal.returns-clause-quotes
returns-clause-quotes c = λ room text result. (quotes_given room text result, quotes_are room text result)

pub returns-clause-begun : goal.returns-clause-begun
returns-clause-begun c = λ room inside mode text rest piece pieces ending is more. substitution_begun room inside mode pieces ending is more

pub returns-clause-faulty : goal.returns-clause-faulty
returns-clause-faulty c = λ room inside mode text fault is. substitution_faulty room inside mode is
