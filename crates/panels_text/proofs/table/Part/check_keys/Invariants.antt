use Rattle.std.proofs.Common.{◌≡◌, length, drop, not}
use Rattle.std.specs.Prelude.{find}
use Rattle.std.specs.List.{list_any}
use Rattle.std.specs.Str.{bytes_eq}
use Rattle.toml.specs.View.{members_view}
use Rattle.panels_text.specs.Tables.{keys_of, unknown_key}
use Rattle.panels_text.specs.Words.{words_of}
use Rattle.panels_text.proofs.table.Part.check_keys.Given as goal

-- those before are known
abbrev pub invariant-loop-key : goal.invariant-loop-key
invariant-loop-key l =
    find (λ key. not (list_any (λ other. bytes_eq other key) (words_of l.known))) (keys_of (members_view (drop (length l.yielded) l.self.table.now.entries))) ≡ unknown_key l.self (words_of l.known)
