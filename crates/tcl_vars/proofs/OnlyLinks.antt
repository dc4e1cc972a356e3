-- Where a place leads by at most so many links is where it leads by the link that its variable is, and nothing else is.
use Rattle.std.proofs.Common.{◌≡◌, ℕ, zero, suc, ◌<◌, List, Option, None, Some, option_and_then, refl, sym, ◌∙◌, arith}
use Rattle.tcl_vars.specs.Links.{LinksLead, OnlyLinksLead, follows}
use Rattle.tcl_vars.specs.Name.{Place, place_of}
use Rattle.tcl_vars.specs.Links.{LinksDescend}
use Rattle.tcl_vars.specs.Store.{Store, content_at, end_of, indexed, led_by, link_of}
use Rattle.tcl_vars.proofs.LinkLemmas.{and_then_same, led-here, led-link, led-nowhere, next_below}

module _ (store : Store) (down : LinksDescend store) where
  followed : (place : Place) → end_of store place ≡ follows store (end_of store) place
  followed place = by (link_of (content_at store place)) refl
    where
      next_of : (link : ℕ × List ℕ) → link_of (content_at store place) ≡ Some link → (o : Option Place) → indexed (place_of link.0 link.1) place.element ≡ o
          → end_of store place ≡ option_and_then (end_of store) o
      next_of link held None leads = led-nowhere store down place link held leads
      next_of link held (Some next) leads = sym (led-link store down place link held next leads).1

      by : (l : Option (ℕ × List ℕ)) → link_of (content_at store place) ≡ l → end_of store place ≡ led_by place l (end_of store)
      by None none = led-here store place none
      by (Some link) held = next_of link held (indexed (place_of link.0 link.1) place.element) refl

  module _ (other : Place → Option Place) (meets : (place : Place) → other place ≡ follows store other place) where
    same_by : (n : ℕ) (place : Place) → place.frame < n → other place ≡ end_of store place
    same_by zero place less = absurd (omega arith)
    same_by (suc n) place less =
        meets place ∙ by (link_of (content_at store place)) refl (λ next below. same_by n next (omega arith)) ∙ sym (followed place)
      where
        by : (l : Option (ℕ × List ℕ)) → link_of (content_at store place) ≡ l → ((next : Place) → next.frame < place.frame → other next ≡ end_of store next)
            → led_by place l other ≡ led_by place l (end_of store)
        by None none ih = refl
        by (Some link) held ih =
            and_then_same other (end_of store) (indexed (place_of link.0 link.1) place.element) (λ next leads. ih next (next_below store down place next link held leads))

    same : (place : Place) → other place ≡ end_of store place
    same place = same_by (suc place.frame) place (omega arith)

pub links_lead : LinksLead
links_lead store down place = followed store down place

pub only_links_lead : OnlyLinksLead
only_links_lead store down other meets place = same store down other meets place
