use Rattle.std.proofs.Common.{ap, sym, ◌∙◌, arith}
use Rattle.std.proofs.lemmas.Bool.{eqb-true}
use Rattle.std.proofs.lemmas.Result.{on_ok_weaker}
use Rattle.std.specs.Prelude.{nat_eq}
use Rattle.std.specs.Map.{lookup}
use Rattle.tk_packer.specs.Asked.{requests_of}
use Rattle.tk_packer.specs.Groups.{slaves_in}
use Rattle.tk_packer.specs.Layout.{cavity_of, Places}
use Rattle.tk_packer.specs.Parcels.{arrangement}
use Rattle.tk_packer.proofs.Giving.{given_none, given_some, all_fit}
use Rattle.tk_packer.proofs.rectangles.arrange_slaves.Goals as goal

pub returns-then-is_empty : goal.returns-then-is_empty
returns-then-is_empty c = λ number.
    ap (λ (given : Places). lookup (nat_eq number) given)
    (sym (given_none (slaves_in c.args.owner c.args.packs.now) c.args.sizes.now.entries c.args.shape.now c.args.rect c.args.given.now.entries c.slaves_in-slaves.result.now c.slaves_in-slaves.ensures
    (eqb-true _ 0 (sym c.is_empty.ensures ∙ c.if-is_empty.true))))

pub give-requires : goal.give-requires
give-requires c =
    all_fit c.args.rect c.args.shape.now.border (requests_of c.args.sizes.now.entries c.slaves_in-slaves.result.now) c.places.result.now (omega arith) (omega arith)
    (c.places.ensures (record { size = c.cavity_of.result; requests = c.as_slice.result.now }) c.in_ok-arrange.ensures
    ∙ ap (λ size. arrangement size c.as_slice.result.now) c.cavity_of.ensures
    ∙ ap (arrangement (cavity_of c.args.rect c.args.shape.now.border)) (c.as_slice.ensures.value ∙ c.in_ok-requests.ensures))

pub returns : goal.returns
returns c =
    on_ok_weaker c.give.result
    (given_some (slaves_in c.args.owner c.args.packs.now) c.args.sizes.now.entries c.args.shape.now c.args.rect c.args.given.now.entries c.give.new.given.entries
    c.slaves_in-slaves.result.now c.places.result.now c.slaves_in-slaves.ensures
    (c.places.ensures (record { size = c.cavity_of.result; requests = c.as_slice.result.now }) c.in_ok-arrange.ensures
    ∙ ap (λ size. arrangement size c.as_slice.result.now) c.cavity_of.ensures
    ∙ ap (arrangement (cavity_of c.args.rect c.args.shape.now.border)) (c.as_slice.ensures.value ∙ c.in_ok-requests.ensures)))
    c.give.ensures
