-- The test of what keeps an application from coming after others.
use Rattle.std.proofs.Common.{◌≡◌, ℕ, ◌<◌, Bool, false, leb, List, [], ◌∷◌, length, Option, Some, None, Decides, inl, inr, refl}
use Rattle.std.specs.Str.{bytes_eq}
use Rattle.std.proofs.lemmas.Bool.{false≢true, cases_Bool, leb-true, leb-false, le-leb, lt-leb, false_from_ne_true}
use Rattle.std.proofs.lemmas.Bool.Decides.{Decides-or, not_from_Decides}
use Rattle.std.proofs.lemmas.Slice.Eq.{bytes_eq-Decides}
use Rattle.tk_base.specs.declared.rect.Rect.{Rect}
use Rattle.tk_route.specs.Screen.{shares_pixel}
use Rattle.tk_session.specs.declared.session.AppBlock.{AppBlock}
use Rattle.tk_route.specs.declared.fault.LineFault.{LineFault}
use Rattle.tk_route.specs.declared.fault.LineFault.TheVariants.{TooManyApps, NameTaken}
use Rattle.tk_route.specs.declared.fault.LineFault.TheVariants as faults
use Rattle.tk_session.specs.Session.{IsTaken, IsCovered, Hinders, MayFollow}
use Rattle.tk_session.specs.Reading.{is_taken, is_covered, hindrance}
use Rattle.tk_session.proofs.StepLemmas.{shares_pixel-Decides}

pub is_taken-Decides : (name : List ℕ) (apps : List AppBlock) → Decides (is_taken name apps) (IsTaken name apps)
is_taken-Decides name [] = (λ e. absurd (false≢true e), λ taken. absurd taken)
is_taken-Decides name (app ∷ apps) = Decides-or (bytes_eq app.name name) (is_taken name apps) (bytes_eq-Decides app.name name) (is_taken-Decides name apps)

pub is_covered-Decides : (rect : Rect) (apps : List AppBlock) → Decides (is_covered rect apps) (IsCovered rect apps)
is_covered-Decides rect [] = (λ e. absurd (false≢true e), λ covered. absurd covered)
is_covered-Decides rect (app ∷ apps) = Decides-or (shares_pixel app.rect rect) (is_covered rect apps) (shares_pixel-Decides app.rect rect) (is_covered-Decides rect apps)

pub test_false : {P : Type 0} (b : Bool) → Decides b P → ¬ P → b ≡ false
test_false b decides never = false_from_ne_true b (λ is. never (decides.0 is))

pub hindrance-may : (apps : List AppBlock) (name : List ℕ) (rect : Rect) → MayFollow apps name rect → hindrance apps name rect ≡ None
hindrance-may apps name rect may =
    rw (
      lt-leb 16 (length apps) may.room,
      test_false (is_taken name apps) (is_taken-Decides name apps) may.new,
      test_false (is_covered rect apps) (is_covered-Decides rect apps) may.apart,
    ) refl

pub hindrance-hinders : (fault : LineFault) (apps : List AppBlock) (name : List ℕ) (rect : Rect) → Hinders fault apps name rect → hindrance apps name rect ≡ Some fault
hindrance-hinders TooManyApps apps name rect h = rw (le-leb 16 (length apps) h) refl
hindrance-hinders NameTaken apps name rect h =
    rw (lt-leb 16 (length apps) h.0, (is_taken-Decides name apps).1 h.1) refl
hindrance-hinders faults.Overlap apps name rect h =
    rw (lt-leb 16 (length apps) h.0, test_false (is_taken name apps) (is_taken-Decides name apps) h.1, (is_covered-Decides rect apps).1 h.2) refl
hindrance-hinders fault apps name rect h = absurd h

-- what the test answers holds
abbrev pub Judged : List AppBlock → List ℕ → Rect → Option LineFault → Type 0
Judged apps name rect None = MayFollow apps name rect
Judged apps name rect (Some fault) = Hinders fault apps name rect

pub judged : (apps : List AppBlock) (name : List ℕ) (rect : Rect) → Judged apps name rect (hindrance apps name rect)
judged apps name rect =
    elim (cases_Bool (leb 16 (length apps))) [
      | inl many ↦ rw many (leb-true 16 (length apps) many)
      | inr room ↦
          let few : length apps < 16 = leb-false 16 (length apps) room in
          elim (cases_Bool (is_taken name apps)) [
            | inl taken ↦ rw (room, taken) (few, (is_taken-Decides name apps).0 taken)
            | inr new ↦
                let is_new : ¬ IsTaken name apps = not_from_Decides (is_taken name apps) (is_taken-Decides name apps) new in
                elim (cases_Bool (is_covered rect apps)) [
                  | inl covered ↦ rw (room, new, covered) (few, is_new, (is_covered-Decides rect apps).0 covered)
                  | inr apart ↦ rw (room, new, apart) record { room = few; new = is_new; apart = not_from_Decides (is_covered rect apps) (is_covered-Decides rect apps) apart }
                ]
          ]
    ]
