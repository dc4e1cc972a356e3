-- How many variables there are.
use Rattle.std.proofs.Common.{◌≡◌, ℕ, ◌+◌, ◌-◌, ◌<◌, ◌≤◌, List, [], ◌∷◌, ◌++◌, length, take, slice_get, Some, ap, ◌∙◌, subst, arith, length-append}
use Rattle.std.proofs.lemmas.List.Sums.{sum_by_more, sum_by-take-le, sum_by_push}
use Rattle.std.proofs.Math.Seq.{take-append_seam}
use Rattle.std.proofs.lemmas.Option.{get_or_from_slice_get}
use Rattle.tcl_vars.specs.declared.content.Content.{Content}
use Rattle.tcl_vars.specs.Sound.{IsSound}
use Rattle.tcl_vars.specs.Links.{FramesDescend}
use Rattle.tcl_vars.specs.Store.{Store, Frame, content_count, frame_count, variable_count}
use Rattle.tcl_vars.proofs.BelowLemmas.{FramesDescend-take}

module _ (frame : Frame) (index : ℕ) (entry : List ℕ × Content) (within : index < length frame) (at : slice_get frame index ≡ Some entry) where
  -- one entry more
  pub frame_count-more : frame_count (take (index + 1) frame) ≡ frame_count (take index frame) + content_count entry.1
  frame_count-more =
      sum_by_more (λ e. content_count e.1) frame index entry within
      ∙ ap (λ e. frame_count (take index frame) + content_count e.1) (get_or_from_slice_get frame index entry entry at)

  pub frame_count-bound : frame_count (take index frame) + content_count entry.1 ≤ frame_count frame
  frame_count-bound = omega (arith, frame_count-more, sum_by-take-le (λ e. content_count e.1) frame (index + 1))

module _ (store rest : Store) (last : Frame) (count : ℕ) (sound : IsSound store count) (ends : store ≡ rest ++ last ∷ []) where
  variable_count-rest : variable_count store ≡ variable_count rest + frame_count last
  variable_count-rest = ap variable_count ends ∙ sum_by_push frame_count rest last

  -- the store without its last frame
  pub IsSound-rest : 1 < length store → IsSound rest (count - frame_count last)
  IsSound-rest some = record {
    rooted = omega (arith, ap length ends, length-append rest (last ∷ []));
    counted = omega (arith, variable_count-rest, sound.counted);
    limited = omega (arith, sound.limited);
    descending = subst FramesDescend (ap (take (length rest)) ends ∙ take-append_seam rest (last ∷ [])) (FramesDescend-take (length rest) store sound.descending);
  }
