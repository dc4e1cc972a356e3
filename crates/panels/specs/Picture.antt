-- Meaning. A picture of panels, as SVG. Each window has its place in the tree, and is cut to what is shown of it.
use Rattle.std.specs.Prelude.{ℕ, ◌-◌, ◌*◌, ◌/◌, min, Bool, ◌||◌, ◌==◌, nat_le, nat_lt, if◌then◌else◌, List, [], ◌∷◌, ◌++◌, codes, flat_map, length, Option, Some, None, Vec}
use Rattle.std.specs.Fmt.{decimal}
use Rattle.std.specs.Str.{bytes_eq}
use Rattle.tk_base.specs.declared.rect.Rect.{Rect}
use Rattle.panels.specs.declared.drawing.DrawnPanel.{DrawnPanel}
use Rattle.panels.specs.declared.drawing.DrawnWindow.{DrawnWindow}
use Rattle.panels.specs.declared.drawing.Scene.{Scene}
use Rattle.panels.specs.declared.shape.Shape.{Shape}
use Rattle.panels.specs.Panes.{bounded_sum}

abbrev pub attribute : List ℕ → ℕ → List ℕ
attribute name number = 32 ∷ name ++ codes "=\"" ++ decimal number ++ 34 ∷ []

abbrev pub box : ℕ → ℕ → ℕ → ℕ → List ℕ
box x y width height = attribute (codes "x") x ++ attribute (codes "y") y ++ attribute (codes "width") width ++ attribute (codes "height") height

-- what stands for a byte that a text of XML hasn't as it is: for a control character the replacement character
abbrev pub escape_of : ℕ → Option (List ℕ)
escape_of byte =
    if byte == 38 then Some (codes "&amp;")
    else if byte == 60 then Some (codes "&lt;")
    else if byte == 62 then Some (codes "&gt;")
    else if byte == 34 then Some (codes "&quot;")
    else if nat_lt byte 32 then Some (239 ∷ 191 ∷ 189 ∷ [])
    else None

abbrev pub or_itself : ℕ → Option (List ℕ) → List ℕ
or_itself byte None = byte ∷ []
or_itself byte (Some escape) = escape

abbrev pub escaped_byte : ℕ → List ℕ
escaped_byte byte = or_itself byte (escape_of byte)

abbrev pub escaped : List ℕ → List ℕ
escaped text = flat_map escaped_byte text

-- the text of labels and buttons stands in their middle
abbrev pub is_centered : List ℕ → Bool
is_centered class = bytes_eq class (codes "Label") || bytes_eq class (codes "Button")

abbrev pub row_left : Shape → ℕ
row_left shape = if is_centered shape.class.items then bounded_sum shape.x (shape.width / 2) else bounded_sum shape.x 2

abbrev pub first_row : Shape → ℕ → ℕ
first_row shape count =
    if bytes_eq shape.class.items (codes "Listbox") then bounded_sum shape.y 13
    else bounded_sum (bounded_sum shape.y (shape.height / 2)) 12 - min (count * 8) 18446744073709551615

abbrev pub row_text : ℕ → ℕ → List ℕ → List ℕ
row_text x y row = codes "<text" ++ attribute (codes "x") x ++ attribute (codes "y") y ++ 62 ∷ escaped row ++ codes "</text>"

module _ {Z : Type 0} where
  -- rows, one below another
  abbrev pub rows_text : ℕ → ℕ → List (Vec ℕ Z) → List ℕ
  rows_text x y [] = []
  rows_text x y (row ∷ rows) = row_text x y row.items ++ rows_text x (bounded_sum y 16) rows

abbrev pub corner : ℕ → Shape → ℕ
corner step shape = if step == 86 then shape.y else bounded_sum shape.x shape.width

-- the beginning of a path at a window's lower left corner
abbrev pub start : List ℕ → Shape → List ℕ
start class shape = codes "<path class=\"" ++ class ++ codes "\" d=\"M" ++ decimal shape.x ++ 32 ∷ decimal (bounded_sum shape.y shape.height)

-- two edges of a window, from its lower left corner to its upper right one
abbrev pub edge : List ℕ → ℕ → ℕ → Shape → List ℕ
edge class first second shape =
    start class shape ++ first ∷ decimal (corner first shape) ++ second ∷ decimal (corner second shape) ++ codes "\"/>"

-- a window's picture is what is shown of it ..
abbrev pub window_part : Shape → List ℕ
window_part shape = codes "<svg" ++ box shape.left shape.top (shape.right - shape.left) (shape.bottom - shape.top)

-- .. with its class, the words behind that, and a style of its own ..
abbrev pub window_look : DrawnWindow → List ℕ
window_look window =
    codes " class=\"" ++ escaped window.shape.class.items ++ escaped window.marks.items ++ codes "\" style=\"" ++ escaped window.style.items ++ 34 ∷ []

abbrev pub window_open : DrawnWindow → List ℕ
window_open window = window_part window.shape ++ window_look window

-- .. and views that part of the panel
abbrev pub view_box : Shape → List ℕ
view_box shape =
    codes " viewBox=\"" ++ decimal shape.left ++ 32 ∷ decimal shape.top ++ 32 ∷ decimal (shape.right - shape.left) ++ 32 ∷ decimal (shape.bottom - shape.top) ++ codes "\">"

-- a window's path, and its whole place
abbrev pub window_ground : Shape → List ℕ
window_ground shape =
    codes "<title>" ++ escaped shape.path.items ++ codes "</title><rect" ++ box shape.x shape.y shape.width shape.height ++ codes "/>"

-- nothing is shown of a window
abbrev pub is_hidden : Shape → Bool
is_hidden shape = nat_le shape.right shape.left || nat_le shape.bottom shape.top

abbrev pub edges : Shape → List ℕ
edges shape = edge (codes "upper") 86 72 shape ++ edge (codes "lower") 72 86 shape

-- the rows of a window, and the end of its picture
abbrev pub content : DrawnWindow → List ℕ
content window = rows_text (row_left window.shape) (first_row window.shape (length window.rows.items)) window.rows.items ++ codes "</svg>\n"

unfoldable pub window_shown : DrawnWindow → List ℕ
window_shown window = window_open window ++ view_box window.shape ++ window_ground window.shape ++ edges window.shape ++ content window

abbrev pub window_text : DrawnWindow → List ℕ
window_text window = if is_hidden window.shape then [] else window_shown window

-- windows, each above those before it
abbrev pub windows_text : List DrawnWindow → List ℕ
windows_text windows = flat_map window_text windows

abbrev pub panel_class : Bool → List ℕ
panel_class keys = if keys then codes " class=\"panel keys\"><title>" else codes " class=\"panel\"><title>"

-- a panel's picture is at its place on the screen
abbrev pub panel_place : Rect → List ℕ
panel_place rect = codes "<svg" ++ box rect.x rect.y rect.width rect.height

abbrev pub panel_title : DrawnPanel → List ℕ
panel_title panel = panel_class panel.has_keys ++ escaped panel.title.items ++ codes "</title>\n"

-- the windows of a panel, its edge, and the end of its picture
abbrev pub panel_body : DrawnPanel → List ℕ
panel_body panel = windows_text panel.windows.items ++ codes "<rect class=\"edge\" width=\"100%\" height=\"100%\"/></svg>\n"

unfoldable pub panel_text : DrawnPanel → List ℕ
panel_text panel = panel_place panel.rect ++ panel_title panel ++ panel_body panel

abbrev pub panels_text : List DrawnPanel → List ℕ
panels_text panels = flat_map panel_text panels

abbrev pub pointer_text : Option (ℕ × ℕ) → List ℕ
pointer_text None = []
pointer_text (Some place) =
    codes "<svg class=\"pointer\"" ++ box place.0 place.1 12 20
    ++ codes "><title>the pointer</title><path d=\"M1 1V16L5 13L8 19L10 18L7 12H12z\"/></svg>\n"

-- A screen: a picture for each panel in its rectangle, and in that one for each window in its place.
abbrev pub picture : Scene → List ℕ → List ℕ
picture scene front =
    codes "<svg xmlns=\"http://www.w3.org/2000/svg\"" ++ attribute (codes "width") scene.width ++ attribute (codes "height") scene.height ++ 62 ∷ front
    ++ panels_text scene.panels.items ++ pointer_text scene.pointer ++ codes "</svg>\n"
