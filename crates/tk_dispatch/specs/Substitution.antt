-- Steps. The script from a place on, where it is read byte by byte.
use Rattle.std.specs.Prelude.{ℕ, Bool, true, false, ◌==◌, if◌then◌else◌, List, [], ◌∷◌, ◌++◌, codes}
use Rattle.tk_dispatch.specs.Percent.{percent, replacement}
use Rattle.tk_sequences.specs.declared.event.Event.{Event}

-- the script from a byte on, which may stand behind a `%`
abbrev pub substituted_from : Event → Bool → List ℕ → List ℕ
substituted_from event false [] = []
substituted_from event true [] = codes "%"
substituted_from event false (byte ∷ bytes) = if byte == percent then substituted_from event true bytes else byte ∷ substituted_from event false bytes
substituted_from event true (byte ∷ bytes) = replacement event byte ++ substituted_from event false bytes
