use Rattle.std.proofs.Common.{◌≡◌, Some, None, sym, ap, ◌∙◌}
use Rattle.std.specs.Prelude.{◌==◌, nat_eq, find, option_map}
use Rattle.std.specs.Option.{option_copied}
use Rattle.std.specs.Map.{lookup}
use Rattle.tk_packer.specs.declared.packed.Packed.{Packed}
use Rattle.tk_packer.specs.Packs.{Packing, request_in}
use Rattle.tk_packer.specs.Tables.{slaves_at, gathered}
use Rattle.tk_packer.proofs.Ties.{slaves_are, found_is}
use Rattle.tk_packer.proofs.own.OwnPacks.request.Goals as goal

pub returns-in_err-packed : goal.returns-in_err-packed
returns-in_err-packed c =
    let entries = c.self.inside.windows.entries in
    let lists = c.self.inside.masters.entries in
    let found : find (λ packed. packed.number == c.args.number) (gathered lists) ≡ lookup (nat_eq c.args.number) entries =
    found_is (λ number. lookup (nat_eq number) entries) (λ master. slaves_at master lists) (gathered lists) c.self.invariant
    (slaves_are (λ number. lookup (nat_eq number) entries) lists c.self.invariant) c.args.number in
    let none : lookup (nat_eq c.args.number) entries ≡ None = sym c.get.ensures.value ∙ ap option_copied c.in_err-packed.was in
    rw c.from_residual.ensures (sym (ap (option_map (λ (p : Packed). p.request)) (found ∙ none)) ∙ ap (λ (own : Packing). request_in c.args.number own.packs) c.self.view_is)

pub returns : goal.returns
returns c =
    let entries = c.self.inside.windows.entries in
    let lists = c.self.inside.masters.entries in
    let found : find (λ packed. packed.number == c.args.number) (gathered lists) ≡ lookup (nat_eq c.args.number) entries =
    found_is (λ number. lookup (nat_eq number) entries) (λ master. slaves_at master lists) (gathered lists) c.self.invariant
    (slaves_are (λ number. lookup (nat_eq number) entries) lists c.self.invariant) c.args.number in
    let same : lookup (nat_eq c.args.number) entries ≡ Some c.in_ok-packed.packed.now = sym c.get.ensures.value ∙ ap option_copied c.in_ok-packed.was in
    sym (ap (option_map (λ (p : Packed). p.request)) (found ∙ same)) ∙ ap (λ (own : Packing). request_in c.args.number own.packs) c.self.view_is
