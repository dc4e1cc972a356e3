-- Steps. The table of names that the code looks keys up in.
use Rattle.std.specs.Prelude.{ℕ, List}
use Rattle.std.specs.Str.Lines.{lines}
use Rattle.tk_base.specs.declared.names.TheConstants.{NAMES}

-- the names in the table, a line each: these are all of them, as the law `table_has_all_names` says
unfoldable pub key_names : List (List ℕ)
key_names = lines NAMES.now
