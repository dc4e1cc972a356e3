-- Giving a variable that isn't there, or counts one, a content that counts one.
use Rattle.std.proofs.Common.{◌≡◌, ℕ, ◌+◌, ◌-◌, ◌<◌, ◌≤◌, List, None, Some, length, set, sym, arith, length-set}
use Rattle.tcl_vars.specs.declared.content.Content.{Content}
use Rattle.tcl_vars.specs.declared.content.Content.TheVariants.{Scalar, Array, Link}
use Rattle.tcl_vars.specs.Sound.{IsSound}
use Rattle.tcl_vars.specs.Links.{AllBelow}
use Rattle.tcl_vars.specs.Store.{Store, Frame, frame_at, content_count, frame_count, variable_count}
use Rattle.tcl_vars.specs.Table.{value_at, with_value, weight_of}
use Rattle.tcl_vars.proofs.StoreLemmas.{variable_count-set, FramesDescend-set}
use Rattle.tcl_vars.proofs.TableLemmas.{weights-with_value}

content_count-pos : (content : Content) → 1 ≤ content_count content
content_count-pos (Scalar text) = omega arith
content_count-pos (Array elements) = omega arith
content_count-pos (Link to name) = omega arith

module _ (frame : Frame) (name : List ℕ) (content : Content) (light : content_count content ≡ 1) where
  all : frame_count (with_value frame name content) + weight_of content_count (value_at frame name) ≡ frame_count frame + content_count content
  all = weights-with_value name content content_count frame

  -- a variable that is there
  pub frame_count-known : (held : Content) → value_at frame name ≡ Some held → weight_of content_count (value_at frame name) ≤ 1
      → frame_count (with_value frame name content) ≡ frame_count frame
  frame_count-known held known replaceable = omega (arith, rw known at all, rw known at replaceable, content_count-pos held, light)

  -- a new one
  pub frame_count-new : value_at frame name ≡ None → frame_count (with_value frame name content) ≡ frame_count frame + 1
  frame_count-new absent = omega (arith, rw absent at all, light)

module _ (store : Store) (count : ℕ) (sound : IsSound store count) (level : ℕ) (within : level < length store) (added : ℕ) (new : Frame)
    (counted : frame_count new ≡ frame_count (frame_at store level) + added) where
  -- the count of the store then
  pub variable_count-grown : variable_count (set store level new) ≡ count + added
  variable_count-grown = omega (arith, variable_count-set store level within new, sound.counted, counted)

  -- and it stays sound
  pub IsSound-grown : added ≤ 4096 - count → AllBelow level new → IsSound (set store level new) (count + added)
  IsSound-grown fits below = record {
    rooted = omega (arith, sound.rooted, length-set store level new);
    counted = sym variable_count-grown;
    limited = omega (arith, sound.limited);
    descending = FramesDescend-set store level within new sound.descending below;
  }
