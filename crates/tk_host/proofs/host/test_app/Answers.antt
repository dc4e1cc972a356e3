use Rattle.std.proofs.Common.{refl, inl, inr, arith}
use Rattle.std.proofs.lemmas.Bool.{iff_false}
use Rattle.tk_host.proofs.host.test_app.Goals as goal

pub returns-then-not-may_be_given : goal.returns-then-not-may_be_given
returns-then-not-may_be_given g c = λ script. inl (iff_false c.may_be_given.ensures c.if-not-may_be_given.true, refl)

pub returns-then-len-ge-MAX_APPLICATIONS : goal.returns-then-len-ge-MAX_APPLICATIONS
returns-then-len-ge-MAX_APPLICATIONS g c = λ script.
    inr (λ out. out (c.may_be_given.ensures.0 c.if-not-may_be_given.false), inl (omega arith, refl))
