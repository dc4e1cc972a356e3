use Rattle.std.proofs.Common.{sym}
use Rattle.tk_session.proofs.AliasLaws.{IsUtf8-command_name}
use Rattle.tk_session.proofs.alias_line.command_name.Goals as goal

pub as_text-requires : goal.as_text-requires
as_text-requires c = IsUtf8-command_name c.args.field.now (sym c.if-not-is_command_name.ensures)
