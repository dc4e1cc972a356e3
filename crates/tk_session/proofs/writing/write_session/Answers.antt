use Rattle.std.proofs.Common.{◌≡◌, ℕ, List, Ok, Err, ◌⊎◌, inl, inr, IsTrue, rules, subst, sym, ◌∙◌}
use Rattle.std.specs.Prelude.{Result}
use Rattle.tk_session.specs.Session.{Plan, IsSession}
use Rattle.tk_session.specs.Writing.{text_of}
use Rattle.tk_session.specs.declared.fault.SessionFault.{SessionFault}
use Rattle.tk_session.specs.declared.fault.SessionFault.TheVariants.{NoMemory}
use Rattle.tk_session.proofs.writing.write_session.Goals as goal

-- what a reader takes for another session doesn't say this one
other : (bytes : List ℕ) (wanted session : Plan)
    → ((plan : Plan) → IsSession bytes plan → ◌⊎◌ (◌≡◌ {A = Result Plan SessionFault} (Ok session) (Ok plan)) (◌≡◌ {A = Result Plan SessionFault} (Ok session) (Err NoMemory)))
    → ¬ (session ≡ wanted) → ¬ IsSession bytes wanted
other bytes wanted session whole differs said =
    elim (whole wanted said) [
      | inl same ↦ differs (search (rules, same))
      | inr refused ↦ search (rules, refused)
    ]

pub returns-in-Ok-clause-unlike : goal.returns-in-Ok-clause-unlike
returns-in-Ok-clause-unlike c e said =
    let wanted : Plan = record { apps = c.args.apps.now; events = c.args.events.now; end = c.args.end } in
    let bytes : c.as_slice.result.now ≡ text_of wanted = c.as_slice.ensures.value ∙ c.in_ok-text.ensures in
    let differs : ¬ (c.in-Ok.session ≡ wanted) = λ same. (let told : IsTrue c.is_said.result = c.is_said.ensures.1 same in search (rules, told, c.if-is_said.false)) in
    let P : List ℕ → Type 0 = λ text. IsSession text wanted in
    other c.as_slice.result.now wanted c.in-Ok.session c.in-Ok.ensures.whole differs (subst P (sym bytes) said)
