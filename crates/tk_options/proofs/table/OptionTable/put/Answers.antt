use Rattle.std.proofs.Common.{ℕ, List, bytes_eq, Bor, Bool, sym, ap, subst, ◌∙◌}
use Rattle.std.specs.Prelude.{find, is_some}
use Rattle.std.specs.Map.{set_value}
use Rattle.tk_options.specs.Amounts.{amount_read, amounts_of, with_amount}
use Rattle.tk_options.specs.Entries.{options_in, AreUnderTheirNames}
use Rattle.tk_options.specs.Names.{name_of}
use Rattle.tk_options.specs.Options.{is_named, first_set}
use Rattle.tk_options.proofs.AmountLemmas.{amounts_put}
use Rattle.tk_options.proofs.Entries.{Named, lookup-named, named-written, not-found}
use Rattle.tk_options.proofs.table.OptionTable.put.Goals as goal

pub invariant_of-self-2 : goal.invariant_of-self-2
invariant_of-self-2 c =
    let es : Named = c.self.inside.entries.entries in
    let test : Bor (List ℕ) → Bool = λ k. bytes_eq c.name.result.now k.now in
    let written = (c.get_mut.follows.holds c.set_value.new.entry).0 ∙ ap (set_value test es) c.set_value.ensures in
    let put = named-written c.name.result.now c.args.value c.in-Some.entry.now es c.self.invariant.named (sym c.in-Some.ensures.value) in
    let shown =
    ap options_in written ∙ put.1 ∙ ap (λ (name : List ℕ). first_set (is_named name) c.args.value (options_in es)) c.name.ensures in
    let there =
    c.in-Some.ensures.value ∙ lookup-named c.name.result.now es c.self.invariant.named
    ∙ ap (λ (name : List ℕ). find (is_named name) (options_in es)) c.name.ensures in
    record {
      named = subst AreUnderTheirNames (sym written) put.0;
      read =
          c.with-self-inside.ensures ∙ ap (with_amount c.args.option (amount_read c.args.value)) c.self.invariant.read
          ∙ sym (amounts_put c.args.option c.args.value (options_in es) (sym (ap is_some there))) ∙ ap amounts_of (sym shown);
    }

pub returns : goal.returns
returns c =
    let es : Named = c.self.inside.entries.entries in
    let test : Bor (List ℕ) → Bool = λ k. bytes_eq c.name.result.now k.now in
    let written = (c.get_mut.follows.holds c.set_value.new.entry).0 ∙ ap (set_value test es) c.set_value.ensures in
    ap options_in written
    ∙ (named-written c.name.result.now c.args.value c.in-Some.entry.now es c.self.invariant.named (sym c.in-Some.ensures.value)).1
    ∙ ap (λ (name : List ℕ). first_set (is_named name) c.args.value (options_in es)) c.name.ensures
    ∙ ap (first_set (is_named (name_of c.args.option)) c.args.value) c.self.view_is

pub returns-in_default : goal.returns-in_default
returns-in_default c =
    let es : Named = c.self.inside.entries.entries in
    ap (λ m. options_in m.entries) c.get_mut.follows.holds-at-none
    ∙ not-found c.name.result.now c.args.value es c.self.invariant.named (sym c.in_default.ensures.value)
    ∙ ap (λ (name : List ℕ). first_set (is_named name) c.args.value (options_in es)) c.name.ensures
    ∙ ap (first_set (is_named (name_of c.args.option)) c.args.value) c.self.view_is
