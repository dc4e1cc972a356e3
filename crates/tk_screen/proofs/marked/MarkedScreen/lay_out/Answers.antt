use Rattle.std.proofs.Common.{◌∙◌, sym}
use Rattle.tk_screen.specs.Shared.{own_of}
use Rattle.tk_screen.proofs.Twice.{nothing_laid}
use Rattle.tk_screen.proofs.marked.MarkedScreen.lay_out.Goals as goal

pub returns-then-is_laid_out-clause-changes : goal.returns-then-is_laid_out-clause-changes
returns-then-is_laid_out-clause-changes c = c.new.ensures.items ∙ sym (c.is_laid_out.ensures c.if-is_laid_out.true c.args.scopes.now)

pub returns-then-is_laid_out-clause-own : goal.returns-then-is_laid_out-clause-own
returns-then-is_laid_out-clause-own c = sym (nothing_laid (own_of c.args.slot c.args.self.now) c.args.scopes.now (c.is_laid_out.ensures c.if-is_laid_out.true c.args.scopes.now))
