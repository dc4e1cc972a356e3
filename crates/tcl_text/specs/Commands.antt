-- Meaning. The commands that work on texts and lists alone: from their words to their answers.
use Rattle.std.specs.Prelude.{ℕ, List, [], ◌∷◌, Option, Some, None, option_map, if◌then◌else◌, codes}
use Rattle.std.specs.Str.{bytes_eq}
use Rattle.tcl_text.specs.Answers.{Answer}
use Rattle.tcl_text.specs.StringCommands.{string_words, concat_words}
use Rattle.tcl_text.specs.ListCommands.{list_words, llength_words, lindex_words, lrange_words, linsert_words, lreplace_words, lsearch_words, lsort_words, join_words, split_words}
use Rattle.tcl_text.specs.declared.commands.TextCommand.{TextCommand}
use Rattle.tcl_text.specs.declared.commands.TextCommand.TheVariants as command

-- the command of this name
unfoldable pub text_command_named : List ℕ → Option TextCommand
text_command_named name =
    if bytes_eq name (codes "list") then Some command.List
    else (if bytes_eq name (codes "llength") then Some command.Llength
    else (if bytes_eq name (codes "lindex") then Some command.Lindex
    else (if bytes_eq name (codes "lrange") then Some command.Lrange
    else (if bytes_eq name (codes "linsert") then Some command.Linsert
    else (if bytes_eq name (codes "lreplace") then Some command.Lreplace
    else (if bytes_eq name (codes "lsearch") then Some command.Lsearch
    else (if bytes_eq name (codes "lsort") then Some command.Lsort
    else (if bytes_eq name (codes "join") then Some command.Join
    else (if bytes_eq name (codes "split") then Some command.Split
    else (if bytes_eq name (codes "concat") then Some command.Concat
    else (if bytes_eq name (codes "string") then Some command.String
    else None)))))))))))

-- the answer to the words after the name
abbrev pub command_answer : TextCommand → List (List ℕ) → Answer
command_answer command.List words = list_words words
command_answer command.Llength words = llength_words words
command_answer command.Lindex words = lindex_words words
command_answer command.Lrange words = lrange_words words
command_answer command.Linsert words = linsert_words words
command_answer command.Lreplace words = lreplace_words words
command_answer command.Lsearch words = lsearch_words words
command_answer command.Lsort words = lsort_words words
command_answer command.Join words = join_words words
command_answer command.Split words = split_words words
command_answer command.Concat words = concat_words words
command_answer command.String words = string_words words

-- the answer to a command's words, if its first names one of these commands
abbrev pub text_command_of : List (List ℕ) → Option Answer
text_command_of [] = None
text_command_of (name ∷ words) = option_map (λ command. command_answer command words) (text_command_named name)
