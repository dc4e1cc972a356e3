-- Meaning. What a command answers, and what its reply then is.
use Rattle.std.specs.Prelude.{◌≡◌, ℕ, List, Result, Ok, Err, ⊤}
use Rattle.tk_alias.specs.declared.reply.AliasReply.{AliasReply}
use Rattle.tk_alias.specs.declared.reply.AliasReply.TheVariants as reply

-- a command's result, or the text of its error
abbrev pub Answer : Type 0
Answer = Result (List ℕ) (List ℕ)

-- the reply is the answer, unless memory was refused
abbrev pub IsReply : Answer → AliasReply → Type 0
IsReply answer (reply.Ok text) = answer ≡ Ok text
IsReply answer (reply.Err text) = answer ≡ Err text
IsReply answer reply.NoMemory = ⊤
