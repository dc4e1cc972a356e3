use Rattle.std.proofs.Common.{sym}
use Rattle.tk_session.proofs.Lines.{IsUtf8-name}
use Rattle.tk_session.proofs.line.name.Goals as goal

pub as_text-requires : goal.as_text-requires
as_text-requires c = IsUtf8-name c.args.field.now (sym c.if-not-is_name.ensures)
