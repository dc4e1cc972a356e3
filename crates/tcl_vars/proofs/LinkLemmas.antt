-- Where links lead.
use Rattle.std.proofs.Common.{◌≡◌, ℕ, zero, suc, ◌<◌, ◌≤◌, Bool, true, false, List, Option, None, Some, option_and_then, if◌then◌else◌, is_some, drop, nat_eq, codes, refl, sym, ap, subst, ◌∙◌, arith}
use Rattle.std.specs.List.{starts_with}
use Rattle.tcl_vars.specs.Name.{Place, element_of, place_of_parts, place_in_frame, place_of}
use Rattle.tcl_vars.specs.Links.{LinksDescend}
use Rattle.tcl_vars.specs.Store.{Store, content_at, link_of, indexed, led_by, led}

place_in_frame-level : (level : ℕ) (name : List ℕ) → (place_in_frame level name).frame ≡ level
place_in_frame-level level name = by (element_of name)
  where
    by : (parts : Option (List ℕ × List ℕ)) → (place_of_parts level name parts).frame ≡ level
    by None = refl
    by (Some p) = refl

-- a name points into the frame that it is used in, or into the global one
pub place_of-level : (level : ℕ) (name : List ℕ) → (place_of level name).frame ≤ level
place_of-level level name = by (starts_with nat_eq name (codes "::"))
  where
    by : (b : Bool) → (if b then place_in_frame 0 (drop 2 name) else place_in_frame level name).frame ≤ level
    by true = omega (arith, place_in_frame-level 0 (drop 2 name))
    by false = omega (arith, place_in_frame-level level name)

indexed-level : (place next : Place) (element : Option (List ℕ)) → indexed place element ≡ Some next → next.frame ≡ place.frame
indexed-level place next None e = cc
indexed-level place next (Some index) e = by (is_some place.element) e
  where
    by : (b : Bool) → (if b then None else Some (record { frame = place.frame; variable = place.variable; element = Some index })) ≡ Some next → next.frame ≡ place.frame
    by true h = absurd (cc)
    by false h = cc

pub and_then_same : {A B : Type 0} (f g : A → Option B) (o : Option A) → ((x : A) → o ≡ Some x → f x ≡ g x) → option_and_then f o ≡ option_and_then g o
and_then_same f g None h = refl
and_then_same f g (Some x) h = h x refl

module _ (store : Store) (down : LinksDescend store) where
  pub next_below : (place next : Place) (link : ℕ × List ℕ) → link_of (content_at store place) ≡ Some link
      → indexed (place_of link.0 link.1) place.element ≡ Some next → next.frame < place.frame
  next_below place next link held leads =
      omega (arith, down place link held, indexed-level (place_of link.0 link.1) next place.element leads, place_of-level link.0 link.1)

  -- how many links are allowed doesn't matter, where they are as many as there are earlier frames
  pub led_enough : (n m : ℕ) (place : Place) → place.frame ≤ n → place.frame ≤ m → led store n place ≡ led store m place
  unfolding led
  led_enough zero zero place p q = refl
  led_enough zero (suc m) place p q = by (link_of (content_at store place)) refl
    where
      by : (l : Option (ℕ × List ℕ)) → link_of (content_at store place) ≡ l → Some place ≡ led_by place l (λ next. led store m next)
      by None e = refl
      by (Some link) e = absurd (omega (arith, down place link e))
  led_enough (suc n) zero place p q = by (link_of (content_at store place)) refl
    where
      by : (l : Option (ℕ × List ℕ)) → link_of (content_at store place) ≡ l → led_by place l (λ next. led store n next) ≡ Some place
      by None e = refl
      by (Some link) e = absurd (omega (arith, down place link e))
  led_enough (suc n) (suc m) place p q =
      by (link_of (content_at store place)) refl (λ next below. led_enough n m next (omega arith) (omega arith))
    where
      by : (l : Option (ℕ × List ℕ)) → link_of (content_at store place) ≡ l → ((next : Place) → next.frame < place.frame → led store n next ≡ led store m next)
          → led_by place l (λ next. led store n next) ≡ led_by place l (λ next. led store m next)
      by None e ih = refl
      by (Some link) e ih =
          and_then_same (λ next. led store n next) (λ next. led store m next) (indexed (place_of link.0 link.1) place.element)
          (λ next leads. ih next (next_below place next link e leads))

  module _ (place : Place) (link : ℕ × List ℕ) (held : link_of (content_at store place) ≡ Some link) where
    -- a link is followed, to an earlier frame
    pub led-link : (next : Place) → indexed (place_of link.0 link.1) place.element ≡ Some next
        → (next.frame < place.frame) × (led store next.frame next ≡ led store place.frame place)
    unfolding led
    led-link next leads = (below, by place.frame refl)
      where
        below : next.frame < place.frame
        below = next_below place next link held leads

        by : (n : ℕ) → place.frame ≡ n → led store next.frame next ≡ led store n place
        by zero e = absurd (omega (arith, below))
        by (suc n) e =
            sym (ap (λ l. led_by place l (λ p. led store n p)) held ∙ ap (option_and_then (λ p. led store n p)) leads
            ∙ led_enough n next.frame next (omega (arith, below)) (omega arith))

    -- a link to an element that is used as an array leads nowhere
    pub led-nowhere : indexed (place_of link.0 link.1) place.element ≡ None → led store place.frame place ≡ None
    unfolding led
    led-nowhere leads = by place.frame refl
      where
        by : (n : ℕ) → place.frame ≡ n → led store n place ≡ None
        by zero e = absurd (omega (arith, down place link held))
        by (suc n) e = ap (λ l. led_by place l (λ p. led store n p)) held ∙ ap (option_and_then (λ p. led store n p)) leads

-- what is no link leads to itself
pub led-here : (store : Store) (place : Place) → link_of (content_at store place) ≡ None → led store place.frame place ≡ Some place
unfolding led
led-here store place none = by place.frame
  where
    by : (n : ℕ) → led store n place ≡ Some place
    by zero = refl
    by (suc n) = ap (λ l. led_by place l (λ p. led store n p)) none

-- where links end is no link
pub led-end : (store : Store) → LinksDescend store → (n : ℕ) (place end : Place) → place.frame ≤ n → led store n place ≡ Some end → link_of (content_at store end) ≡ None
unfolding led
led-end store down zero place end low leads = subst (λ p. link_of (content_at store p) ≡ None) same (by (link_of (content_at store place)) refl)
  where
    same : place ≡ end
    same = cc

    by : (l : Option (ℕ × List ℕ)) → link_of (content_at store place) ≡ l → l ≡ None
    by None e = refl
    by (Some link) e = absurd (omega (arith, down place link e))
led-end store down (suc n) place end low leads =
    by (link_of (content_at store place)) refl leads (λ next below h. led-end store down n next end (omega arith) h)
  where
    next_of : (link : ℕ × List ℕ) → link_of (content_at store place) ≡ Some link → (o : Option Place) → indexed (place_of link.0 link.1) place.element ≡ o
        → option_and_then (λ next. led store n next) o ≡ Some end → ((next : Place) → next.frame < place.frame → led store n next ≡ Some end → link_of (content_at store end) ≡ None)
        → link_of (content_at store end) ≡ None
    next_of link held None e h ih = absurd (cc)
    next_of link held (Some next) e h ih = ih next (next_below store down place next link held e) h

    by : (l : Option (ℕ × List ℕ)) → link_of (content_at store place) ≡ l → led_by place l (λ next. led store n next) ≡ Some end
        → ((next : Place) → next.frame < place.frame → led store n next ≡ Some end → link_of (content_at store end) ≡ None) → link_of (content_at store end) ≡ None
    by None e h ih = let same : place ≡ end = cc in subst (λ p. link_of (content_at store p) ≡ None) same e
    by (Some link) e h ih = next_of link e (indexed (place_of link.0 link.1) place.element) refl h ih
