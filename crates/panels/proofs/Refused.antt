-- Why a bench isn't played, by what was refused first.
use Rattle.std.proofs.Common.{◌≡◌, ℕ, inl, inr, List, [], Result, Err, ap, refl, subst, ◌∙◌}
use Rattle.tk_route.specs.declared.fault.LineFault.{LineFault}
use Rattle.tk_app.specs.Seen.{Meaning}
use Rattle.tk_session.specs.Session.{HasFault, Plan}
use Rattle.tk_session.specs.Writing.{text_of}
use Rattle.tk_session.specs.declared.session.AppBlock.{AppBlock}
use Rattle.tk_session.specs.declared.session.EventLine.{EventLine}
use Rattle.tk_session.specs.declared.writing.WritingFault.{WritingFault}
use Rattle.tk_session.specs.declared.writing.WritingFault.TheVariants as writing
use Rattle.panels.specs.declared.bench.Bench.{Bench}
use Rattle.panels.specs.declared.bench.Entry.{Entry}
use Rattle.panels.specs.declared.playing.BenchFault.{BenchFault}
use Rattle.panels.specs.declared.playing.BenchFault.TheVariants.{NoSession, Refused, Unserved, NoMemory}
use Rattle.panels.specs.Course.{Way, begun, went}
use Rattle.panels.specs.Played.{plan_of}
use Rattle.panels.specs.Refusals.{IsRefused, IsSayable, IsUnsaid, IsWantOfMemory, RefusedAmong, TakesAll, UnsaidBy}

-- what the writing of a session answers of a fault
pub unsaid : {T : Type 0} (plan : Plan) (fault : WritingFault)
    → ((found : LineFault) (line : ℕ) → ◌≡◌ {A = Result T WritingFault} (Err fault) (Err (writing.Refused found line)) → HasFault (text_of plan) found line)
    → (◌≡◌ {A = Result T WritingFault} (Err fault) (Err writing.Unlike) → ¬ IsSayable plan)
    → IsUnsaid plan fault
unsaid plan (writing.Refused found line) refused unlike = refused found line refl
unsaid plan writing.Unlike refused unlike = unlike refl
unsaid plan writing.NoMemory refused unlike = tt

module _ {M : Type 0} (answer : M → Meaning) (bench : Bench) (lists : List (List (List ℕ × M))) where
  -- the panels by themselves
  pub refused_first : (found : BenchFault) → UnsaidBy (plan_of bench []) found → IsRefused answer bench lists found
  refused_first (NoSession why) unsaid = inl unsaid
  refused_first (Refused entry fault) unsaid = absurd unsaid
  refused_first (Unserved slot) unsaid = tt
  refused_first NoMemory unsaid = tt

  -- an entry
  pub refused_among : (apps : List AppBlock) (aliases : List (List (List ℕ × M))) (found : BenchFault) → apps ≡ bench.panels.items → aliases ≡ lists → IsSayable (plan_of bench [])
      → RefusedAmong answer 0 bench.entries.items (begun apps aliases) found → IsRefused answer bench lists found
  refused_among apps aliases (NoSession why) are serve said among = absurd among
  refused_among apps aliases (Refused entry fault) are serve said among =
      let all = subst (λ (others : List AppBlock). RefusedAmong answer 0 bench.entries.items (begun others aliases) (Refused entry fault)) are among in
      (said, subst (λ (others : List (List (List ℕ × M))). RefusedAmong answer 0 bench.entries.items (begun bench.panels.items others) (Refused entry fault)) serve all)
  refused_among apps aliases (Unserved slot) are serve said among = tt
  refused_among apps aliases NoMemory are serve said among = tt

  -- the lines and the end
  pub refused_last : (apps : List AppBlock) (aliases : List (List (List ℕ × M))) (events : List EventLine) (found : BenchFault) → apps ≡ bench.panels.items → aliases ≡ lists
      → IsSayable (plan_of bench []) → TakesAll answer 0 bench.entries.items (begun apps aliases) → events ≡ (went answer 0 bench.entries.items (begun apps aliases)).events
      → UnsaidBy (plan_of bench events) found → IsRefused answer bench lists found
  refused_last apps aliases events (NoSession why) are serve said taken ends unsaid =
      let begins = ap (λ (others : List AppBlock). begun {M = M} others aliases) are ∙ ap (λ (others : List (List (List ℕ × M))). begun bench.panels.items others) serve in
      let same = ends ∙ ap (λ way. (went answer 0 bench.entries.items way).events) begins in
      inr (said, subst (λ way. TakesAll answer 0 bench.entries.items way) begins taken, subst (λ (all : List EventLine). IsUnsaid (plan_of bench all) why) same unsaid)
  refused_last apps aliases events (Refused entry fault) are serve said taken ends unsaid = absurd unsaid
  refused_last apps aliases events (Unserved slot) are serve said taken ends unsaid = tt
  refused_last apps aliases events NoMemory are serve said taken ends unsaid = tt

  -- want of memory
  pub memory_refused : (found : BenchFault) → IsWantOfMemory found → IsRefused answer bench lists found
  memory_refused (NoSession why) memory = absurd memory
  memory_refused (Refused entry fault) memory = absurd memory
  memory_refused (Unserved slot) memory = tt
  memory_refused NoMemory memory = tt

pub memory_among : {M : Type 0} (answer : M → Meaning) (entries : List Entry) (way : Way M) (found : BenchFault) → IsWantOfMemory found → RefusedAmong answer 0 entries way found
memory_among answer entries way (NoSession why) memory = absurd memory
memory_among answer entries way (Refused entry fault) memory = absurd memory
memory_among answer entries way (Unserved slot) memory = tt
memory_among answer entries way NoMemory memory = tt

pub memory_unsaid : (plan : Plan) (found : BenchFault) → IsWantOfMemory found → UnsaidBy plan found
memory_unsaid plan (NoSession why) memory = absurd memory
memory_unsaid plan (Refused entry fault) memory = absurd memory
memory_unsaid plan (Unserved slot) memory = tt
memory_unsaid plan NoMemory memory = tt
