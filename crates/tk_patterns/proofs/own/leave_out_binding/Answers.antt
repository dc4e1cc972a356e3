use Rattle.std.proofs.Common.{◌≡◌, suc, ◌-◌, not, sym, ap, subst, arith}
use Rattle.tk_patterns.specs.declared.binding.Binding.{Binding}
use Rattle.tk_patterns.specs.Own.{is_of}
use Rattle.tk_patterns.proofs.KeptLemmas.{out_from, took_out, kept_in}
use Rattle.tk_patterns.proofs.own.leave_out_binding.Goals as goal

pub loop-place-preserved-then-is_of : goal.loop-place-preserved-then-is_of
loop-place-preserved-then-is_of c =
    let place = c.loop-place.place - 1 in
    let above : c.loop-place.place ≡ suc place = omega arith in
    let test = λ (b : Binding). not (is_of c.args.tag.now c.args.sequence.now b) in
    record {
      within = omega arith;
      left = took_out test c.args.bindings.now.items c.loop-place.bindings.items c.take_out.new.bindings.items place c.index.result.now (omega (arith, c.loop-place.invariant.within))
          (subst (λ n. c.loop-place.bindings.items ≡ out_from test n c.args.bindings.now.items) above c.loop-place.invariant.left) c.index.ensures (ap not (sym c.if-is_of.ensures)) c.take_out.ensures.bindings;
      filed = c.take_out.ensures.filed;
    }

pub loop-place-preserved : goal.loop-place-preserved
loop-place-preserved c =
    let place = c.loop-place.place - 1 in
    let above : c.loop-place.place ≡ suc place = omega arith in
    let test = λ (b : Binding). not (is_of c.args.tag.now c.args.sequence.now b) in
    record {
      within = omega arith;
      left = kept_in test c.args.bindings.now.items c.loop-place.bindings.items place c.index.result.now (omega (arith, c.loop-place.invariant.within))
          (subst (λ n. c.loop-place.bindings.items ≡ out_from test n c.args.bindings.now.items) above c.loop-place.invariant.left) c.index.ensures (ap not (sym c.if-is_of.ensures));
      filed = c.loop-place.invariant.filed;
    }
