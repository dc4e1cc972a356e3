-- Meaning. How windows look, by their options.
use Rattle.std.specs.Prelude.{ℕ, ◌+◌, ◌*◌, Bool, not, ◌&&◌, ◌||◌, ◌==◌, nat_lt, if◌then◌else◌, List, [], ◌∷◌, ◌++◌, length, map, codes, Option, Some, None, Vec}
use Rattle.std.specs.Char.{is_ascii_alphanumeric}
use Rattle.std.specs.Fmt.{decimal}
use Rattle.std.specs.List.{list_all}
use Rattle.std.specs.Str.{bytes_eq}
use Rattle.std.specs.String.{string_bytes}
use Rattle.std.specs.declared.alloc.Global.{Global}
use Rattle.tk_app.specs.Inspection.{focus_of}
use Rattle.tk_host.specs.Held.{HostState}
use Rattle.tk_host.specs.Inspection.{seen}
use Rattle.panels.specs.Asked.{Told, NothingTold, TextTold, NumberTold, RowsTold, option_told, text_told, widget_at}
use Rattle.panels.specs.Shapes.{Drawn, shapes_of}
use Rattle.panels_film.specs.Numbers.{number_in}
use Rattle.panels_film.specs.declared.looks.WindowLook.{WindowLook}
use Rattle.panels_text.specs.Texts.{text_of}

-- words for a style, and the style
pub record Look : Type 0 where
  pub marks : List ℕ
  pub style : List ℕ

abbrev pub told : WindowLook → Look
told look = record { marks = string_bytes look.marks; style = string_bytes look.style }

abbrev pub told_all : List (Vec WindowLook Global) → List (List Look)
told_all looks = map (λ (one : Vec WindowLook Global). map told one.items) looks

-- ---- words for a style

abbrev pub is_relief : List ℕ → Bool
is_relief word =
    bytes_eq word (codes "flat")
    || (bytes_eq word (codes "raised") || (bytes_eq word (codes "sunken") || (bytes_eq word (codes "groove") || (bytes_eq word (codes "ridge") || bytes_eq word (codes "solid")))))

abbrev pub relief_mark : List ℕ → List ℕ
relief_mark relief = if is_relief relief then codes " " ++ relief else []

-- words, where something holds
abbrev pub where_so : Bool → List ℕ → List ℕ
where_so holds words = if holds then words else []

-- its relief, and whether it is disabled or has the panel's focus
abbrev pub marks_by : List ℕ → List ℕ → Bool → List ℕ
marks_by relief state is_focused = relief_mark relief ++ (where_so (bytes_eq state (codes "disabled")) (codes " disabled") ++ where_so is_focused (codes " focused"))

-- ---- a style

-- letters, digits and `#`
abbrev pub may_colour : ℕ → Bool
may_colour byte = is_ascii_alphanumeric byte || byte == 35

-- a text that can be a colour
abbrev pub is_colour : List ℕ → Bool
is_colour text = not (length text == 0) && list_all may_colour text

abbrev pub colour : List ℕ → List ℕ → List ℕ
colour name text = if is_colour text then name ++ (text ++ codes ";") else []

-- half of a line along a window's border lies in it; edges are 1000 pixels wide at most
abbrev pub edge_width : ℕ → ℕ
edge_width width = if nat_lt width 1000 then width * 2 else 2000

abbrev pub edge : Option ℕ → List ℕ
edge None = []
edge (Some width) = codes "--edge:" ++ (decimal (edge_width width) ++ codes "px")

-- its colours, and the width of its edges
abbrev pub style_by : List ℕ → List ℕ → List ℕ → List ℕ
style_by background ink width = colour (codes "fill:") background ++ (colour (codes "color:") ink ++ edge (number_in width))

-- ---- windows

-- the text of an answer: empty where it is none
abbrev pub answered : Told → List ℕ
answered NothingTold = []
answered (TextTold text) = text
answered (NumberTold number) = []
answered (RowsTold rows) = []

module _ {M : Type 0} (slot : ℕ) (held : HostState M) where
  -- the value of an option, and the path of the window that has the focus
  abbrev pub option_of : List ℕ → List ℕ → List ℕ
  option_of path name = answered (option_told name (widget_at slot held path))

  abbrev pub focus : List ℕ
  focus = answered (text_told (seen focus_of slot held))

  -- the window of a path
  abbrev pub marks_of : List ℕ → List ℕ
  marks_of path = marks_by (option_of path (codes "-relief")) (option_of path (codes "-state")) (bytes_eq path focus)

  abbrev pub style_of : List ℕ → List ℕ
  style_of path = style_by (option_of path (codes "-background")) (option_of path (codes "-foreground")) (option_of path (codes "-borderwidth"))

  abbrev pub look_of : List ℕ → Look
  look_of path = record { marks = marks_of (text_of path); style = style_of (text_of path) }

  -- the windows of a section, in its order
  abbrev pub looks_of : List ℕ → List Look
  looks_of section = map (λ (window : Drawn). look_of window.path) (shapes_of section)

-- those of the panels from a slot on, which show these sections
abbrev pub looks_from : {M : Type 0} → HostState M → ℕ → List (List ℕ) → List (List Look)
looks_from held slot [] = []
looks_from held slot (section ∷ sections) = looks_of slot held section ∷ looks_from held (slot + 1) sections
