-- A write through the reference is one at the name.
use borrow.Follows.Closed.{read_of}
use Rattle.std.proofs.Common.{◌∙◌, sym, ap, inr}
use Rattle.std.specs.Option.{ghost_name_of}
use Rattle.tcl_vars.specs.Table.{value_at, with_value}
use Rattle.tcl_vars.proofs.NamedLemmas.{lookup-named_entries, named_entries-set_value_at, none_of}
use Rattle.tcl_vars.proofs.ShortLemmas.{ShortNames-set_value_at}
use Rattle.tcl_vars.proofs.table.Table.get_mut.Goals as goal

pub returns-then-stands_at : goal.returns-then-stands_at
returns-then-stands_at g c = (
  λ j. read_of (ghost_name_of c.get_index_mut.result)
      (λ w. (named_entries-set_value_at w c.args.name.now c.self.inside.entries.entries c.place-hinted.result (c.stands_at.ensures.index c.if-stands_at.true)
      ∙ ap (λ t. with_value t c.args.name.now w) c.self.view_is) j)
      (c.self.view_is j),
  c.get_index_mut.ensures.value ∙ c.stands_at.ensures.value c.if-stands_at.true
      ∙ sym (lookup-named_entries c.args.name.now c.self.inside.entries.entries) ∙ ap (λ t. value_at t c.args.name.now) c.self.view_is,
)

pub returns-in-Some : goal.returns-in-Some
returns-in-Some g c = (
  λ j. read_of (ghost_name_of c.get_index_mut-in-Some.result)
      (λ w. (named_entries-set_value_at w c.args.name.now c.self.inside.entries.entries c.in-Some.index (sym c.in-Some.ensures.index)
      ∙ ap (λ t. with_value t c.args.name.now w) c.self.view_is) j)
      (c.self.view_is j),
  c.get_index_mut-in-Some.ensures.value ∙ c.in-Some.ensures.value
      ∙ sym (lookup-named_entries c.args.name.now c.self.inside.entries.entries) ∙ ap (λ t. value_at t c.args.name.now) c.self.view_is,
)

pub returns-in-None : goal.returns-in-None
returns-in-None g c = (
  ap inr c.self.view_is,
  none_of _ c.in-None.ensures.found
      ∙ sym (lookup-named_entries c.args.name.now c.self.inside.entries.entries) ∙ ap (λ t. value_at t c.args.name.now) c.self.view_is,
)

pub invariant_of-self-lent : goal.invariant_of-self-lent
invariant_of-self-lent g c = λ _. ((λ w. ShortNames-set_value_at c.self.inside.entries.entries c.place-hinted.result w c.self.invariant), c.self.invariant)

pub invariant_of-self-lent-in-Some : goal.invariant_of-self-lent-in-Some
invariant_of-self-lent-in-Some g c = λ _. ((λ w. ShortNames-set_value_at c.self.inside.entries.entries c.in-Some.index w c.self.invariant), c.self.invariant)
