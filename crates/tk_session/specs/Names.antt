-- Meaning. The words of kinds of services, and the slots that names of applications stand for.
use Rattle.std.specs.Prelude.{ℕ, Bool, List, length, position, unwrap_or, codes}
use Rattle.std.specs.Str.{bytes_eq}
use Rattle.tk_session.specs.declared.session.AppBlock.{AppBlock}
use Rattle.tk_alias.specs.declared.service.ServiceKind.{ServiceKind}
use Rattle.tk_alias.specs.declared.service.ServiceKind.TheVariants.{Const, Upper, Table, Sum, Fail}

-- the word of a kind of service
abbrev pub kind_word : ServiceKind → List ℕ
kind_word Const = codes "const"
kind_word Upper = codes "upper"
kind_word Table = codes "table"
kind_word Sum = codes "sum"
kind_word Fail = codes "fail"

-- the slot that a name stands for: that of the application that has it, or the one past the last where none has it
abbrev pub is_named : List ℕ → AppBlock → Bool
is_named name app = bytes_eq app.name name

abbrev pub slot_of : List ℕ → List AppBlock → ℕ
slot_of name apps = unwrap_or (position (is_named name) apps) (length apps)
