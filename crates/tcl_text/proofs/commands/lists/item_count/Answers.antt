use Rattle.std.proofs.Common.{◌≡◌, ℕ, List, Result, Ok, ap, length, subst, sym}
use Rattle.tcl_text.specs.Answers.{◌>>=◌, items_in, items_or_error}
use Rattle.tcl_text.specs.ListCommands.{count_in}
use Rattle.tcl_text.specs.Readings.{list_of}
use Rattle.tcl_text.specs.declared.fault.ListFault.{ListFault}
use Rattle.tcl_text.proofs.commands.lists.item_count.Goals as goal

count_known : (list : List ℕ) (items : List (List ℕ)) (count : ℕ) → list_of list ≡ Ok items → count ≡ length items → count_in list ≡ Ok count
unfolding items_in
count_known list items count known is =
    subst (λ (read : Result (List (List ℕ)) ListFault). (items_or_error read >>= λ xs. Ok (length xs)) ≡ Ok count) (sym known) (ap (λ (n : ℕ). Ok n) (sym is))

pub returns-in-Some : goal.returns-in-Some
returns-in-Some c = count_known c.args.list.now c.in-Some.kept.now c.len.result c.in-Some.ensures c.len.ensures
