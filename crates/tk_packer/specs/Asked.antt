-- Meaning. What each window asks for (pack(n), "GEOMETRY PROPAGATION").
use Rattle.std.specs.Prelude.{ℕ, ◌+◌, ◌*◌, min, max, nat_eq, if◌then◌else◌, List, [], ◌∷◌, map, Option, None, Some}
use Rattle.std.specs.Map.{lookup}
use Rattle.tk_packer.specs.declared.shape.Shape.{Shape}
use Rattle.tk_packer.specs.declared.packed.Packed.{Packed}
use Rattle.tk_packer.specs.declared.request.Request.{Request}
use Rattle.tk_packer.specs.Parcels.{most_wanted, size_wanted}

-- the sizes that windows ask for, by their numbers
abbrev pub Sizes : Type 0
Sizes = List (ℕ × (ℕ × ℕ))

-- a request with the size of the moment
abbrev pub with_size : Option (ℕ × ℕ) → Request → Request
with_size None request = request
with_size (Some size) request = record request { width = size.0; height = size.1 }

abbrev pub sized : Sizes → Packed → Request
sized sizes packed = with_size (lookup (nat_eq packed.number) sizes) packed.request

-- the requests of the slaves of a master
abbrev pub requests_of : Sizes → List Packed → List Request
requests_of sizes slaves = map (sized sizes) slaves

-- at least a pixel, and at most the greatest size
abbrev pub bounded : ℕ → ℕ
bounded n = min most_wanted (max 1 n)

-- what the widget asks for by itself
abbrev pub own_size : Shape → ℕ × ℕ
own_size shape = (bounded shape.width, bounded shape.height)

-- the room for what is packed in a window, and its border at both sides
abbrev pub with_border : ℕ → ℕ × ℕ → ℕ × ℕ
with_border border size = (bounded (size.0 + 2 * border), bounded (size.1 + 2 * border))

-- a window that propagates and has packed content asks for the room of that, and any other for the widget's own size
unfoldable pub size_asked : Shape → List Request → ℕ × ℕ
size_asked shape [] = own_size shape
size_asked shape (request ∷ requests) =
    if shape.propagates then with_border shape.border (size_wanted (request ∷ requests)) else own_size shape

-- one window more, which stands before its slaves
unfoldable pub with_asked : (ℕ → List Packed) → Shape → Sizes → Sizes
with_asked slaves shape sizes = (shape.number, size_asked shape (requests_of sizes (slaves shape.number))) ∷ sizes

-- what each window asks for, where each stands before its slaves
unfoldable pub sizes_asked : (ℕ → List Packed) → List Shape → Sizes
sizes_asked slaves [] = []
sizes_asked slaves (shape ∷ shapes) = with_asked slaves shape (sizes_asked slaves shapes)
