use Rattle.std.proofs.Common.{◌≡◌, None, refl, ◌∙◌, subst}
use Rattle.std.specs.Str.{bytes_eq}
use Rattle.tk_after.specs.After.{entry_named, name_of}
use Rattle.tk_after.specs.Keys.{Mark}
use Rattle.tk_after.specs.Timers.{entry_with}
use Rattle.tk_after.specs.Shared.{Held, entries_of}
use Rattle.tk_after.proofs.Told.{passes_none, passes_some}
use Rattle.tk_after.proofs.timers.Timers.entry_named.Goals as goal

pub returns-in_err-id : goal.returns-in_err-id
returns-in_err-id c =
    let none = passes_none c.self.inside.scripts c.self.inside.index c.self.inside.counters.entries c.args.owner c.self.invariant (λ (mark : Mark). bytes_eq (name_of mark.id) c.args.text.now) c.named.result c.named.ensures c.in_err-id.was in
    let none_now : entry_named c.args.text.now (entries_of c.args.owner c.args.self.now) ≡ None = subst (λ (held : Held). entry_named c.args.text.now (entries_of c.args.owner held) ≡ None) c.self.view_is none in
    rw (c.from_residual.ensures, none_now) refl

pub returns : goal.returns
returns c =
    let same = passes_some c.self.inside.scripts c.self.inside.index c.self.inside.counters.entries c.args.owner c.self.invariant (λ (mark : Mark). bytes_eq (name_of mark.id) c.args.text.now) c.named.result c.named.ensures c.in_ok-id.id c.in_ok-id.was in
    c.entry.ensures ∙ subst (λ (held : Held). entry_with c.in_ok-id.id (entries_of c.args.owner held) ≡ entry_named c.args.text.now (entries_of c.args.owner held)) c.self.view_is same
