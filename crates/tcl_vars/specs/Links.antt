-- Meaning. Where links lead, as an equation, and that nothing else meets it: the definition, by at most so many links, needn't be read.
use Rattle.std.specs.Prelude.{◌≡◌, ◌<◌, ℕ, List, [], ◌∷◌, Option, Some}
use Rattle.tcl_vars.specs.declared.content.Content.{Content}
use Rattle.tcl_vars.specs.declared.content.Content.TheVariants.{Scalar, Array, Link}
use Rattle.tcl_vars.specs.Name.{Place}
use Rattle.tcl_vars.specs.Store.{Store, Frame, frame_at, content_at, end_of, led_by, link_of}

-- ── links lead to earlier frames ──

-- a content may stand in a frame: a link leads to an earlier one
abbrev pub IsBelow : ℕ → Content → Type 0
IsBelow frame (Scalar text) = Unit {0}
IsBelow frame (Array elements) = Unit {0}
IsBelow frame (Link to name) = to < frame

abbrev pub AllBelow : ℕ → Frame → Type 0
AllBelow frame [] = Unit {0}
AllBelow frame (e ∷ es) = IsBelow frame e.1 × AllBelow frame es

-- each link leads to an earlier frame
abbrev pub FramesDescend : Store → Type 0
FramesDescend store = (frame : ℕ) → AllBelow frame (frame_at store frame)

-- the same of the links that a look-up finds
abbrev pub LinksDescend : Store → Type 0
LinksDescend store = (place : Place) (link : ℕ × List ℕ) → link_of (content_at store place) ≡ Some link → link.0 < place.frame

-- ── where they lead ──

-- A place leads to itself where its variable is no link, and else where the place does that the link names: an element where the one of its index does,
-- and nowhere if the link names an element.
abbrev pub follows : Store → (Place → Option Place) → Place → Option Place
follows store lead place = led_by place (link_of (content_at store place)) lead

-- so it is where links lead to earlier frames
abbrev pub LinksLead : Type 0
LinksLead = (store : Store) → LinksDescend store → (place : Place) → end_of store place ≡ follows store (end_of store) place

-- and nothing else is so
abbrev pub OnlyLinksLead : Type 0
OnlyLinksLead = (store : Store) → LinksDescend store → (other : Place → Option Place) → ((place : Place) → other place ≡ follows store other place)
    → (place : Place) → other place ≡ end_of store place

-- The links that a look-up finds lead to earlier frames where all do, as in whatever a `Scopes` holds.
abbrev pub AllLinksDescend : Type 0
AllLinksDescend = (store : Store) → FramesDescend store → LinksDescend store
