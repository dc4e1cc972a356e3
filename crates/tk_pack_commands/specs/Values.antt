-- Meaning. What values the options of `pack` take, and how they are told.
use Rattle.std.specs.Prelude.{ℕ, List, [], ◌∷◌, find, Option, None, option_map, Result, Ok, Err, codes}
use Rattle.std.specs.Option.{option_and_then}
use Rattle.std.specs.Str.{bytes_eq}
use Rattle.tcl_text.specs.Readings.{list_of}
use Rattle.tcl_text.specs.declared.fault.ListFault.{ListFault}
use Rattle.tk_options.specs.Forms.{amount_in}
use Rattle.tk_packer.specs.declared.request.Side.{Side}
use Rattle.tk_packer.specs.declared.request.Side.TheVariants.{Top, Bottom, Left, Right}
use Rattle.tk_packer.specs.declared.request.Anchor.{Anchor}
use Rattle.tk_packer.specs.declared.request.Anchor.TheVariants.{Center, N, Ne, E, Se, S, Sw, W, Nw}
use Rattle.tk_packer.specs.declared.request.Fill.{Fill}
use Rattle.tk_packer.specs.declared.request.Fill.TheVariants.{None as Neither, X, Y, Both}
use Rattle.tk_packer.specs.declared.request.Pads.{Pads}

-- ---- the words of a side, an anchor and a fill, and what a word means

abbrev pub side_word : Side → List ℕ
side_word Top = codes "top"
side_word Bottom = codes "bottom"
side_word Left = codes "left"
side_word Right = codes "right"

unfoldable pub side_in : List ℕ → Option Side
side_in text = find (λ side. bytes_eq text (side_word side)) (Top ∷ Left ∷ Bottom ∷ Right ∷ [])

abbrev pub anchor_word : Anchor → List ℕ
anchor_word Center = codes "center"
anchor_word N = codes "n"
anchor_word Ne = codes "ne"
anchor_word E = codes "e"
anchor_word Se = codes "se"
anchor_word S = codes "s"
anchor_word Sw = codes "sw"
anchor_word W = codes "w"
anchor_word Nw = codes "nw"

unfoldable pub anchor_in : List ℕ → Option Anchor
anchor_in text = find (λ anchor. bytes_eq text (anchor_word anchor)) (Center ∷ N ∷ Ne ∷ E ∷ Se ∷ S ∷ Sw ∷ W ∷ Nw ∷ [])

abbrev pub fill_word : Fill → List ℕ
fill_word Neither = codes "none"
fill_word X = codes "x"
fill_word Y = codes "y"
fill_word Both = codes "both"

unfoldable pub fill_in : List ℕ → Option Fill
fill_in text = find (λ fill. bytes_eq text (fill_word fill)) (Neither ∷ X ∷ Y ∷ Both ∷ [])

-- ---- pads

-- one amount for both sides, or a list of two
abbrev pub pads_of : ℕ → ℕ → Pads
pads_of before after = record { before = before; after = after }

abbrev pub pads_from : Result (List (List ℕ)) ListFault → Option Pads
pads_from (Err fault) = None
pads_from (Ok []) = None
pads_from (Ok (one ∷ [])) = option_map (λ amount. pads_of amount amount) (amount_in one)
pads_from (Ok (one ∷ other ∷ [])) = option_and_then (λ before. option_map (λ after. pads_of before after) (amount_in other)) (amount_in one)
pads_from (Ok (one ∷ other ∷ third ∷ items)) = None

unfoldable pub pads_in : List ℕ → Option Pads
pads_in text = pads_from (list_of text)
