-- Turns that want of memory cut short.
use Rattle.std.proofs.Common.{◌≡◌, ℕ, ◌+◌, ◌-◌, ◌*◌, ◌≤◌, ◌<◌, ◌++◌, min, Bool, Option, List, [], length, get_or, map, drop, Some, refl, sym, ap, ◌∙◌, subst, append-nil, append_assoc, arith}
use Rattle.std.proofs.lemmas.List.{drop_more, length-map}
use Rattle.std.specs.Prelude.{Result, Ok, Err, IfErr, IsErrAnd}
use Rattle.tk_base.specs.declared.rect.Rect.{Rect}
use Rattle.tk_route.specs.Lines.{Line}
use Rattle.tk_route.specs.Routes.{routes}
use Rattle.tk_route.specs.Values.{Values}
use Rattle.tk_route.specs.declared.delivery.Delivery.{Delivery}
use Rattle.tk_route.specs.declared.fault.HostFault.{HostFault}
use Rattle.tk_route.specs.declared.fault.HostFault.TheVariants.{Refused, NoMemory}
use Rattle.tk_app.specs.declared.turns.Turn.{Turn}
use Rattle.tk_app.specs.Application.{Application, next_due}
use Rattle.tk_app.specs.MomentsByJob.{settled}
use Rattle.tk_app.specs.Part.{Part, needs}
use Rattle.tk_app.specs.Rounds.{one_turn, round, round_from, turns_of}
use Rattle.tk_app.specs.Seen.{Meaning}
use Rattle.tk_app.specs.Stages.{first_moment_due, stage_at, turns_at}
use Rattle.tk_app.specs.Turns.{Applications, BeginsIn, ChangesOnly}
use Rattle.tk_app.proofs.Rounds.{turns_step}
use Rattle.tk_host.specs.declared.phase.Phase.{Phase}
use Rattle.tk_host.specs.AloneByJob.{passed}
use Rattle.tk_host.specs.Cut.{CutBy, CutByLine, CutShortBy, IsBrokenOff, IsCutShort, TellsAll, TellsAtLeast}
use Rattle.tk_host.specs.Held.{Call, HostState, Hosted, after_line, after_start, gone_to, held_after}
use Rattle.tk_host.specs.Slots.{begun_at}
use Rattle.tk_host.specs.Turns.{applications, stages_of, steps_left, turns_at_start, turns_given, turns_on_the_way}
use Rattle.tk_host.proofs.Kept.{seen}
use Rattle.tk_host.proofs.Parts.{needs_all}
use Rattle.tk_host.proofs.Passing.{way_through}
use Rattle.tk_host.proofs.Slots.{Reaches}
use Rattle.tk_host.proofs.Ways.{Way}

-- no turn but those before
pub cut_before : (slice slot : ℕ) (turns more : List Turn) → IsCutShort slice slot (turns ++ more) turns
cut_before slice slot turns more = record { front = turns; next = 0; taken = 0; back = more; whole_is = refl; told_is = sym (append-nil turns); few = omega arith }

-- further turns would have come behind
pub cut_more : (slice slot : ℕ) (whole more told : List Turn) → IsCutShort slice slot whole told → IsCutShort slice slot (whole ++ more) told
cut_more slice slot whole more told cut = record {
  front = cut.front;
  next = cut.next;
  taken = cut.taken;
  back = cut.back ++ more;
  whole_is = ap (λ ts. ts ++ more) cut.whole_is
      ∙ append_assoc cut.front (one_turn slot cut.next ++ cut.back) more
      ∙ ap (λ ts. cut.front ++ ts) (append_assoc (one_turn slot cut.next) cut.back more);
  told_is = cut.told_is;
  few = cut.few;
}

-- nothing was told
pub cut_at_once : (slice slot : ℕ) (turns more told : List Turn) → told ≡ turns → IsCutShort slice slot (turns ++ more) told
cut_at_once slice slot turns more told is = subst (λ ts. IsCutShort slice slot (turns ++ more) ts) (sym is) (cut_before slice slot turns more)

pub cut_as : (slice slot : ℕ) (whole other told : List Turn) → whole ≡ other → IsCutShort slice slot whole told → IsCutShort slice slot other told
cut_as slice slot whole other told same cut = subst (λ ts. IsCutShort slice slot ts told) same cut

-- the turn in which memory was refused
pub cut_turn : {M : Type 0} (slice slot : ℕ) (old new : Applications M) → ChangesOnly slice slot old new → (next : ℕ) → IsCutShort slice slot (old.turns ++ one_turn slot next) new.turns
cut_turn slice slot old new only next = record {
  front = old.turns;
  next = next;
  taken = only.before.application.steps - only.after.application.steps;
  back = [];
  whole_is = ap (λ ts. old.turns ++ ts) (sym (append-nil (one_turn slot next)));
  told_is = only.told;
  few = omega (arith, only.most);
}

module _ {M : Type 0} (answer : M → Meaning) where
  -- in the midst of a round
  pub cut_round : (slice slot : ℕ) (old now : Applications M) (more : Bool) (told : List Turn) → slot < length now.parts → Reaches answer slice slot old now more
      → ((next : ℕ) → IsCutShort slice slot (now.turns ++ one_turn slot next) told) → IsCutShort slice slot (old.turns ++ round slice (map (needs answer old.moment) old.parts) 0) told
  cut_round slice slot old now more told lt reaches cut =
      let all : List ℕ = map (needs answer old.moment) now.parts in
      let next : ℕ = min slice (get_or all slot 0 - 0 * slice) in
      let rest : List Turn = round_from (slot + 1) slice 0 (drop (slot + 1) all) in
      let first : round_from slot slice 0 (drop slot all) ≡ one_turn slot next ++ rest =
      ap (round_from slot slice 0) (drop_more all slot 0 (omega (arith, length-map now.parts (needs answer old.moment), lt))) in
      cut_as slice slot ((now.turns ++ one_turn slot next) ++ rest) (old.turns ++ round slice (map (needs answer old.moment) old.parts) 0) told
      (append_assoc now.turns (one_turn slot next) rest ∙ ap (λ ts. now.turns ++ ts) (sym first) ∙ reaches.reached.told)
      (cut_more slice slot (now.turns ++ one_turn slot next) rest told (cut next))

-- a round is the first of a stage
pub cut_stage : (slice slot : ℕ) (needed : List ℕ) (turns whole told : List Turn) → 1 ≤ slice → turns ++ turns_of slice needed ≡ whole → IsCutShort slice slot (turns ++ round slice needed 0) told → IsCutShort slice slot whole told
cut_stage slice slot needed turns whole told positive is cut =
    let rest : List Turn = turns_of slice (map (λ need. need - slice) needed) in
    cut_as slice slot ((turns ++ round slice needed 0) ++ rest) whole told
    (append_assoc turns (round slice needed 0) rest ∙ ap (λ ts. turns ++ ts) (sym (turns_step slice needed positive)) ∙ is)
    (cut_more slice slot (turns ++ round slice needed 0) rest told cut)

module _ {M : Type 0} (answer : M → Meaning) where
  -- ── on the way ──

  -- before a stage
  pub cut_way : (slice slot target : ℕ) (start now : Applications M) (told : List Turn) → Way answer slice target start now → told ≡ now.turns
      → IsCutShort slice slot (start.turns ++ turns_on_the_way answer slice target (applications start.parts)) told
  cut_way slice slot target start now told way is =
      let rest : List Turn = turns_on_the_way answer slice target (applications now.parts) in
      cut_as slice slot (now.turns ++ rest) (start.turns ++ turns_on_the_way answer slice target (applications start.parts)) told way.turns (cut_at_once slice slot now.turns rest told is)

  -- and in one
  pub cut_on_the_way : (slice slot target due : ℕ) (start before at begun : Applications M) (told : List Turn) → first_moment_due next_due (settled answer) (applications before.parts) ≡ Some due → due ≤ target
      → Way answer slice target start before → at ≡ record before { moment = due } → begun ≡ record at { parts = map (begun_at due) at.parts }
      → IsCutShort slice slot (begun.turns ++ turns_of slice (map (needs answer begun.moment) begun.parts)) told
      → IsCutShort slice slot (start.turns ++ turns_on_the_way answer slice target (applications start.parts)) told
  cut_on_the_way slice slot target due start before at begun told next le way on begins cut =
      let apps : List (Application M) = applications before.parts in
      let first : List Turn = turns_at next_due (settled answer) steps_left slice due apps in
      let rest : List Turn = turns_on_the_way answer slice target (stage_at next_due (settled answer) due apps) in
      let both : begun ≡ record before { moment = due; parts = map (begun_at due) before.parts } = begins ∙ ap (λ (h : Applications M). record h { parts = map (begun_at due) h.parts }) on in
      let here : begun.turns ++ turns_of slice (map (needs answer begun.moment) begun.parts) ≡ before.turns ++ first =
      ap (λ (h : Applications M). h.turns ++ turns_of slice (map (needs answer h.moment) h.parts)) both ∙ ap (λ ns. before.turns ++ turns_of slice ns) (needs_all answer due before.parts way.rest) in
      cut_as slice slot ((before.turns ++ first) ++ rest) (start.turns ++ turns_on_the_way answer slice target (applications start.parts)) told
      (append_assoc before.turns first rest ∙ ap (λ ts. before.turns ++ ts) (sym (way_through answer slice target due apps next le)) ∙ way.turns)
      (cut_more slice slot (before.turns ++ first) rest told
      (cut_as slice slot (begun.turns ++ turns_of slice (map (needs answer begun.moment) begun.parts)) (before.turns ++ first) told here cut))

  -- ── in a call ──

  pub cut_start : (phase : Phase) (rects : List Rect) (known : Values) (asker : Option ℕ) (slice slot : ℕ) (shared cleared : Applications M) (old : Hosted M) (told : List Turn)
      → seen answer phase rects known asker slice shared ≡ old → shared.moment ≡ 0 → cleared ≡ record shared { turns = [] }
      → IsCutShort slice slot (cleared.turns ++ turns_of slice (map (needs answer cleared.moment) cleared.parts)) told → IsCutShort old.slice slot (after_start answer old).turns told
  cut_start phase rects known asker slice slot shared cleared old told is start clear cut =
      let same : cleared.turns ++ turns_of slice (map (needs answer cleared.moment) cleared.parts) ≡ (after_start answer old).turns =
      ap (λ (h : Applications M). h.turns ++ turns_of slice (map (needs answer h.moment) h.parts)) clear
      ∙ ap (λ n. turns_of slice (map (needs answer n) shared.parts)) start
      ∙ ap (λ (h : Hosted M). turns_at_start answer h.slice h.held.parts) is in
      subst (λ n. IsCutShort n slot (after_start answer old).turns told) (ap (λ (h : Hosted M). h.slice) is)
      (cut_as slice slot (cleared.turns ++ turns_of slice (map (needs answer cleared.moment) cleared.parts)) (after_start answer old).turns told same cut)

  pub cut_going : (phase to : Phase) (moment : ℕ) (rects : List Rect) (known : Values) (asker : Option ℕ) (slice slot : ℕ) (shared cleared : Applications M) (old : Hosted M) (told : List Turn)
      → seen answer phase rects known asker slice shared ≡ old → cleared ≡ record shared { turns = [] }
      → IsCutShort slice slot (cleared.turns ++ turns_on_the_way answer slice moment (applications cleared.parts)) told → IsCutShort old.slice slot (gone_to answer to moment old).turns told
  cut_going phase to moment rects known asker slice slot shared cleared old told is clear cut =
      let same : cleared.turns ++ turns_on_the_way answer slice moment (applications cleared.parts) ≡ (gone_to answer to moment old).turns =
      ap (λ (h : Applications M). h.turns ++ turns_on_the_way answer slice moment (applications h.parts)) clear
      ∙ ap (λ (h : Hosted M). turns_on_the_way answer h.slice moment (applications h.held.parts)) is in
      subst (λ n. IsCutShort n slot (gone_to answer to moment old).turns told) (ap (λ (h : Hosted M). h.slice) is)
      (cut_as slice slot (cleared.turns ++ turns_on_the_way answer slice moment (applications cleared.parts)) (gone_to answer to moment old).turns told same cut)

  -- a line gives its events behind the way
  pub cut_before_line : (phase to : Phase) (line : Line) (first : List Rect) (earlier : List Line) (rects : List Rect) (known : Values) (asker : Option ℕ) (slice slot : ℕ) (shared cleared : Applications M) (old : Hosted M)
      (told : List Turn) → seen answer phase rects known asker slice shared ≡ old → cleared ≡ record shared { turns = [] }
      → IsCutShort slice slot (cleared.turns ++ turns_on_the_way answer slice line.moment (applications cleared.parts)) told → IsCutShort old.slice slot (after_line answer first earlier line old).turns told
  cut_before_line phase to line first earlier rects known asker slice slot shared cleared old told is clear cut =
      cut_more old.slice slot (gone_to answer to line.moment old).turns
      (turns_given answer old.slice (stages_of (routes first earlier line)) (map (passed answer line.moment) (applications old.held.parts))) told
      (cut_going phase to line.moment rects known asker slice slot shared cleared old told is clear cut)

  pub cut_line : (phase : Phase) (line : Line) (first : List Rect) (earlier : List Line) (rects : List Rect) (known : Values) (asker : Option ℕ) (slice slot : ℕ) (given : List Delivery)
      (shared cleared mid moved : Applications M) (old : Hosted M) (told : List Turn)
      → seen answer phase rects known asker slice shared ≡ old → cleared ≡ record shared { turns = [] } → given ≡ routes first earlier line
      → applications mid.parts ≡ map (passed answer line.moment) (applications cleared.parts) → mid.turns ≡ cleared.turns ++ turns_on_the_way answer slice line.moment (applications cleared.parts)
      → moved ≡ record mid { moment = line.moment }
      → IsCutShort slice slot (moved.turns ++ turns_given answer slice (stages_of given) (applications moved.parts)) told → IsCutShort old.slice slot (after_line answer first earlier line old).turns told
  cut_line phase line first earlier rects known asker slice slot given shared cleared mid moved old told is clear gives done gone on cut =
      let whole : List Turn = moved.turns ++ turns_given answer slice (stages_of given) (applications moved.parts) in
      let there : applications moved.parts ≡ map (passed answer line.moment) (applications shared.parts) =
      ap (λ (h : Applications M). applications h.parts) on ∙ done ∙ ap (λ (h : Applications M). map (passed answer line.moment) (applications h.parts)) clear in
      let way : moved.turns ≡ turns_on_the_way answer slice line.moment (applications shared.parts) =
      ap (λ (h : Applications M). h.turns) on ∙ gone ∙ ap (λ (h : Applications M). h.turns ++ turns_on_the_way answer slice line.moment (applications h.parts)) clear in
      let same : whole ≡ (after_line answer first earlier line old).turns =
      ap (λ ts. ts ++ turns_given answer slice (stages_of given) (applications moved.parts)) way
      ∙ ap (λ ds. turns_on_the_way answer slice line.moment (applications shared.parts) ++ turns_given answer slice (stages_of ds) (applications moved.parts)) gives
      ∙ ap (λ apps. turns_on_the_way answer slice line.moment (applications shared.parts) ++ turns_given answer slice (stages_of (routes first earlier line)) apps) there
      ∙ ap (λ (h : Hosted M). (after_line answer first earlier line h).turns) is in
      subst (λ n. IsCutShort n slot (after_line answer first earlier line old).turns told) (ap (λ (h : Hosted M). h.slice) is)
      (cut_as slice slot whole (after_line answer first earlier line old).turns told same cut)

-- what the exit of a `?` tells of the fault that it hands on
pub handed_on : {T E : Type 0} (r : Result T E) (fault : E) (Told : E → Type 0) → IsErrAnd r (λ e. e ≡ fault) → Told fault → IfErr r Told
handed_on (Ok x) fault Told is told = tt
handed_on (Err e) fault Told is told = subst Told (sym is) told

-- by the slot that is told
pub cut_in : (slice slot other : ℕ) (whole told : List Turn) → other ≡ slot → IsCutShort slice slot whole told → IsCutShort slice other whole told
cut_in slice slot other whole told same cut = subst (λ n. IsCutShort slice n whole told) (sym same) cut

-- settling begins without a turn
pub begun_untold : {M : Type 0} (slot : ℕ) (old new : Applications M) → BeginsIn slot old new → new.turns ≡ old.turns
begun_untold slot old new begins = ap (λ (h : Applications _). h.turns) begins.changed

-- as many are there as before
pub there_as : (slot count other : ℕ) → count ≡ other → slot < count → slot < other
there_as slot count other same there = subst (λ n. slot < n) same there

pub there_done : {M : Type 0} (done : Part M → Part M) (slot : ℕ) (now old : List (Part M)) → map done now ≡ map done old → slot < length now → slot < length old
there_done done slot now old same there = subst (λ n. slot < n) (sym (length-map now done) ∙ ap length same ∙ length-map old done) there

pub there_same : {M : Type 0} (come : Application M → Application M) (slot : ℕ) (now old : List (Part M)) → map come (applications now) ≡ map come (applications old) → slot < length now → slot < length old
there_same come slot now old same there =
    let count : (parts : List (Part _)) → length (map come (applications parts)) ≡ length parts = λ parts. length-map (applications parts) come ∙ length-map parts (λ part. part.application) in
    subst (λ n. slot < n) (sym (count now) ∙ ap length same ∙ count old) there

-- the host has the application whose turn it was
pub there_cleared : {M : Type 0} (slot : ℕ) (shared cleared : Applications M) (parts : List (Part M)) → cleared ≡ record shared { turns = [] } → shared.parts ≡ parts → slot < length cleared.parts → slot < length parts
there_cleared slot shared cleared parts clear is there = subst (λ ps. slot < length ps) (ap (λ (h : Applications _). h.parts) clear ∙ is) there

-- and has it still on the way
pub there_came : {M : Type 0} (answer : M → Meaning) (slot moment : ℕ) (cleared mid moved : Applications M) → applications mid.parts ≡ map (passed answer moment) (applications cleared.parts)
    → moved ≡ record mid { moment = moment } → slot < length moved.parts → slot < length cleared.parts
there_came answer slot moment cleared mid moved done on there =
    let same : length mid.parts ≡ length cleared.parts =
    sym (length-map mid.parts (λ part. part.application)) ∙ ap length done ∙ length-map (applications cleared.parts) (passed answer moment) ∙ length-map cleared.parts (λ part. part.application) in
    subst (λ n. slot < n) same (subst (λ (h : Applications _). slot < length h.parts) on there)

-- both that the call is broken off, and that no turn is forgotten
pub cut_and_least : {M : Type 0} (whole : List Turn) (old new : Hosted M) → IsBrokenOff whole old new → TellsAtLeast new.turns old.held.parts new.held.parts
    → IsBrokenOff whole old new × TellsAtLeast new.turns old.held.parts new.held.parts
cut_and_least whole old new broken least = (broken, least)

-- by the same turns
pub broken_as : {M : Type 0} (whole other : List Turn) (old new : Hosted M) → whole ≡ other → IsBrokenOff whole old new → IsBrokenOff other old new
broken_as whole other old new same broken = subst (λ ts. IsBrokenOff ts old new) same broken

-- however the call that met it tells it
pub cut_by : {T M : Type 0} (r : Result T HostFault) (whole : List Turn) (old new : Hosted M) → IsBrokenOff whole old new → TellsAll new.turns old.held.parts new.held.parts
    → IfErr r (λ fault. CutBy fault whole old new)
cut_by (Ok x) whole old new broken all = tt
cut_by (Err NoMemory) whole old new broken all = (broken, all)
cut_by (Err (Refused found)) whole old new broken all = tt

pub cut_by_line : {T M : Type 0} (r : Result T HostFault) (whole : List Turn) (old new : Hosted M) → IsBrokenOff whole old new → TellsAtLeast new.turns old.held.parts new.held.parts
    → IfErr r (λ fault. CutByLine fault whole old new)
cut_by_line (Ok x) whole old new broken least = tt
cut_by_line (Err NoMemory) whole old new broken least = (broken, least)
cut_by_line (Err (Refused found)) whole old new broken least = tt

pub cut_short_by : {T M : Type 0} (r : Result T HostFault) (whole : List Turn) (old new : Hosted M) → IsBrokenOff whole old new → IfErr r (λ fault. CutShortBy fault whole old new)
cut_short_by (Ok x) whole old new broken = tt
cut_short_by (Err NoMemory) whole old new broken = broken
cut_short_by (Err (Refused found)) whole old new broken = tt

-- by the same turns
pub cut_same : {T M : Type 0} (r : Result T HostFault) (whole other : List Turn) (old new : Hosted M) → whole ≡ other → IfErr r (λ fault. CutBy fault whole old new)
    → IfErr r (λ fault. CutBy fault other old new)
cut_same r whole other old new same cut = subst (λ ts. IfErr r (λ fault. CutBy fault ts old new)) same cut

-- and that by the calls that it came after
pub cut_of_going : {T M : Type 0} (answer : M → Meaning) (calls : List (Call M)) (r : Result T HostFault) (to : Phase) (moment : ℕ) (old new : Hosted M) → old.held ≡ held_after answer calls
    → IfErr r (λ fault. CutBy fault (gone_to answer to moment old).turns old new)
    → IfErr r (λ fault. CutBy fault (turns_on_the_way answer old.slice moment (applications (held_after answer calls).parts)) old new)
cut_of_going {T} {M} answer calls r to moment old new held cut =
    cut_same r (gone_to answer to moment old).turns (turns_on_the_way answer old.slice moment (applications (held_after answer calls).parts)) old new
    (ap (λ (h : HostState M). turns_on_the_way answer old.slice moment (applications h.parts)) held) cut
