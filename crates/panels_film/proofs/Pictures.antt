-- The pictures that stand in a page that grows.
use Rattle.std.proofs.Common.{◌≡◌, ℕ, ◌+◌, ◌<◌, List, [], ◌++◌, length, get_or, take, ap, sym, subst, ◌∙◌, append_assoc}
use Rattle.std.proofs.lemmas.List.Elements.{All-push, All-weaker}
use Rattle.std.specs.Prelude.{All}
use Rattle.tk_session.specs.declared.session.AppBlock.{AppBlock}
use Rattle.tk_session.specs.declared.session.EventLine.{EventLine}
use Rattle.panels.specs.Picture.{picture}
use Rattle.panels_film.specs.declared.film.Frame.{Frame}
use Rattle.panels_film.specs.Pages.{Adds, IsPictured}
use Rattle.panels_film.proofs.Histories.{one_more}

module _ (panels : List AppBlock) (events : List EventLine) where
  -- what stands in a page stands in one that begins with it
  pub longer : (page more : List ℕ) (frame : Frame) → IsPictured panels events page frame → IsPictured panels events (page ++ more) frame
  longer page more frame is = record {
    scene = is.scene;
    is_scene = is.is_scene;
    before = is.before;
    behind = is.behind ++ more;
    stands =
        ap (λ text. text ++ more) is.stands
        ∙ append_assoc is.before (picture is.scene [] ++ is.behind) more
        ∙ ap (λ text. is.before ++ text) (append_assoc (picture is.scene []) is.behind more);
  }

  -- a frame that was added
  pub added : (old new : List ℕ) (frame : Frame) → Adds panels events frame old new → IsPictured panels events new frame
  added old new frame adds = record {
    scene = adds.scene;
    is_scene = adds.is_scene;
    before = old ++ adds.before;
    behind = adds.behind;
    stands = adds.grown ∙ sym (append_assoc old adds.before (picture adds.scene [] ++ adds.behind));
  }

  -- the pictures of the frames before one, and its own
  pub one_pictured : (frames : List Frame) (i : ℕ) (frame : Frame) (old new : List ℕ) → i < length frames → frame ≡ get_or frames i frame
      → All (IsPictured panels events old) (take i frames) → Adds panels events frame old new → All (IsPictured panels events new) (take (i + 1) frames)
  one_pictured frames i frame old new within is before adds =
      let kept : (other : Frame) → IsPictured panels events old other → IsPictured panels events new other =
      λ other told. subst (λ page. IsPictured panels events page other) (sym adds.grown) (longer old (adds.before ++ (picture adds.scene [] ++ adds.behind)) other told) in
      subst (All (IsPictured panels events new)) (sym (one_more frames i frame within is))
      (All-push (IsPictured panels events new) (take i frames) frame
      (All-weaker (IsPictured panels events old) (IsPictured panels events new) kept (take i frames) before) (added old new frame adds))

  -- what stands in a page stands in it with more behind
  pub all_longer : (frames : List Frame) (page more : List ℕ) → All (IsPictured panels events page) frames → All (IsPictured panels events (page ++ more)) frames
  all_longer frames page more all =
      All-weaker (IsPictured panels events page) (IsPictured panels events (page ++ more)) (λ frame told. longer page more frame told) frames all

-- texts that were added one behind another
pub three_added : (old before drawn behind first second third : List ℕ) → first ≡ old ++ before → second ≡ first ++ drawn → third ≡ second ++ behind
    → third ≡ old ++ (before ++ (drawn ++ behind))
three_added old before drawn behind first second third one two three =
    three
    ∙ ap (λ text. text ++ behind) (two ∙ ap (λ text. text ++ drawn) one)
    ∙ append_assoc (old ++ before) drawn behind
    ∙ append_assoc old before (drawn ++ behind)
