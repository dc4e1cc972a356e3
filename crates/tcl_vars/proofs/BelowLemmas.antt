-- Links lead to earlier frames.
use Rattle.std.proofs.Common.{◌≡◌, ℕ, zero, suc, ◌<◌, Bool, true, false, cond, List, [], ◌∷◌, take, Option, None, Some, Ok, bytes_eq, subst}
use Rattle.tcl_vars.specs.declared.content.Content.{Content}
use Rattle.tcl_vars.specs.declared.content.Content.TheVariants.{Scalar, Array, Link}
use Rattle.tcl_vars.specs.Links.{IsBelow, AllBelow, FramesDescend, LinksDescend}
use Rattle.tcl_vars.specs.Store.{Store, Frame, frame_at, content_with, link_of}
use Rattle.tcl_vars.specs.Table.{value_at, with_value, without}

link-below : (level : ℕ) (content : Content) (link : ℕ × List ℕ) → IsBelow level content → link_of (Some content) ≡ Some link → link.0 < level
link-below level (Scalar text) link h e = absurd (cc)
link-below level (Array elements) link h e = absurd (cc)
link-below level (Link to name) link h e = let same : to ≡ link.0 = cc in subst (λ n. n < level) same h

below-at : (level : ℕ) (frame : Frame) (name : List ℕ) (link : ℕ × List ℕ) → AllBelow level frame → link_of (value_at frame name) ≡ Some link → link.0 < level
below-at level [] name link h e = absurd (cc)
below-at level (f ∷ fs) name link h e = by (bytes_eq name f.0) e (λ r. below-at level fs name link h.1 r)
  where
    by : (b : Bool) → link_of (cond b (Some f.1) (value_at fs name)) ≡ Some link → (link_of (value_at fs name) ≡ Some link → link.0 < level) → link.0 < level
    by true r rest = link-below level f.1 link h.0 r
    by false r rest = rest r

-- what holds of all entries holds of those that a look-up finds
pub LinksDescend-frames : (store : Store) → FramesDescend store → LinksDescend store
LinksDescend-frames store down place link e = below-at place.frame (frame_at store place.frame) place.variable link (down place.frame) e

pub links_descend : {held store : Store} → held ≡ store → FramesDescend held → LinksDescend store
links_descend {held} {store} is down = LinksDescend-frames store (subst FramesDescend is down)

pub AllBelow-with_value : (level : ℕ) (frame : Frame) (name : List ℕ) (content : Content) → AllBelow level frame → IsBelow level content → AllBelow level (with_value frame name content)
AllBelow-with_value level [] name content h below = (below, tt)
AllBelow-with_value level (f ∷ fs) name content h below = by (bytes_eq name f.0) (AllBelow-with_value level fs name content h.1 below)
  where
    by : (b : Bool) → AllBelow level (with_value fs name content) → AllBelow level (cond b ((f.0, content) ∷ fs) (f ∷ with_value fs name content))
    by true rest = (below, h.1)
    by false rest = (h.0, rest)

pub AllBelow-without : (level : ℕ) (frame : Frame) (name : List ℕ) → AllBelow level frame → AllBelow level (without frame name)
AllBelow-without level [] name h = tt
AllBelow-without level (f ∷ fs) name h = by (bytes_eq name f.0) (AllBelow-without level fs name h.1)
  where
    by : (b : Bool) → AllBelow level (without fs name) → AllBelow level (cond b fs (f ∷ without fs name))
    by true rest = h.1
    by false rest = (h.0, rest)

-- a text makes no link
pub content_with-below : (level : ℕ) (held : Option Content) (element : Option (List ℕ)) (value : List ℕ) (content : Content) → content_with held element value ≡ Ok content → IsBelow level content
content_with-below level held element value (Scalar text) e = tt
content_with-below level held element value (Array elements) e = tt
content_with-below level None None value (Link to name) e = absurd (cc)
content_with-below level None (Some index) value (Link to name) e = absurd (cc)
content_with-below level (Some (Scalar text)) None value (Link to name) e = absurd (cc)
content_with-below level (Some (Scalar text)) (Some index) value (Link to name) e = absurd (cc)
content_with-below level (Some (Array elements)) None value (Link to name) e = absurd (cc)
content_with-below level (Some (Array elements)) (Some index) value (Link to name) e = absurd (cc)
content_with-below level (Some (Link from there)) element value (Link to name) e = absurd (cc)

below-take : (base n level : ℕ) (store : Store) → AllBelow base (frame_at store level) → AllBelow base (frame_at (take n store) level)
below-take base zero level store h = tt
below-take base (suc n) level [] h = h
below-take base (suc n) zero (f ∷ fs) h = h
below-take base (suc n) (suc level) (f ∷ fs) h = below-take base n level fs h

pub FramesDescend-take : (n : ℕ) (store : Store) → FramesDescend store → FramesDescend (take n store)
FramesDescend-take n store down level = below-take level n level store (down level)
