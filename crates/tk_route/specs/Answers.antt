-- Steps. What the router answers, as a list.
use Rattle.std.specs.Prelude.{List, [], ◌∷◌}
use Rattle.tk_route.specs.declared.delivery.Delivery.{Delivery}
use Rattle.tk_route.specs.declared.delivery.Routed.{Routed}
use Rattle.tk_route.specs.declared.delivery.Routed.TheVariants.{Nobody, One, Two}

-- an answer as a list
abbrev pub deliveries : Routed → List Delivery
deliveries Nobody = []
deliveries (One only) = only ∷ []
deliveries (Two first second) = first ∷ second ∷ []
