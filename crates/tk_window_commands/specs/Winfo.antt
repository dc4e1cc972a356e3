-- Meaning. winfo(n): what can be asked of a window.
use Rattle.std.specs.Prelude.{ℕ, if◌then◌else◌, List, [], ◌∷◌, ◌++◌, map, Option, None, Some, true, false, unwrap_or, Ok, codes}
use Rattle.std.specs.Fmt.{decimal}
use Rattle.std.specs.Map.{lookup}
use Rattle.std.specs.Option.{option_map_or}
use Rattle.std.specs.Str.{bytes_eq}
use Rattle.tcl_text.specs.Answers.{Answer, answers, bad_option, truth, wrong_args}
use Rattle.tcl_text.specs.Readings.{list_form}
use Rattle.tcl_vars.specs.Store.{Store}
use Rattle.tk_base.specs.Kind.{class_of}
use Rattle.tk_screen.specs.Layout.{size_asked}
use Rattle.tk_screen.specs.Own.{Windowing}
use Rattle.tk_tree.specs.Corners.{corner}
use Rattle.tk_tree.specs.declared.window.Window.{Window}
use Rattle.tk_tree.specs.Own.{Tree, at_path, child_numbers, window_at}
use Rattle.tk_window_commands.specs.Create.{name_in}
use Rattle.tk_window_commands.specs.declared.winfo.Question.{Question}
use Rattle.tk_window_commands.specs.declared.winfo.Question.TheVariants.{Children, Class, Exists, Height, IsMapped, Name, Parent, RequestedHeight, RequestedWidth, RootX, RootY, Toplevel, Width, X, Y}
use Rattle.tk_tree.specs.Path.{bad_path}

-- ---- the sub-commands, by their names

abbrev pub questions : List (List ℕ × Question)
questions =
    (codes "children", Children)
    ∷ (codes "class", Class)
    ∷ (codes "exists", Exists)
    ∷ (codes "height", Height)
    ∷ (codes "ismapped", IsMapped)
    ∷ (codes "name", Name)
    ∷ (codes "parent", Parent)
    ∷ (codes "reqheight", RequestedHeight)
    ∷ (codes "reqwidth", RequestedWidth)
    ∷ (codes "rootx", RootX)
    ∷ (codes "rooty", RootY)
    ∷ (codes "toplevel", Toplevel)
    ∷ (codes "width", Width)
    ∷ (codes "x", X)
    ∷ (codes "y", Y)
    ∷ []

-- names are not abbreviated
unfoldable pub question_named : List ℕ → Option Question
question_named name = lookup (bytes_eq name) questions

-- ---- what is told

-- the path of the window with a number
abbrev pub path_at : Tree → ℕ → List ℕ
path_at tree number = option_map_or (λ window. window.path) (window_at number tree) []

-- the main window has a class of its own, and the application's name
abbrev pub class_told : Window → List ℕ
class_told window = if bytes_eq window.path (codes ".") then codes "Tk" else class_of window.kind

abbrev pub application_name : Windowing → List ℕ
application_name own = option_map_or (λ toplevel. toplevel.name) own.toplevel []

abbrev pub name_told : Windowing → Window → List ℕ
name_told own window = if bytes_eq window.path (codes ".") then application_name own else name_in window.path

-- the size that a window asks for; the least is a pixel
abbrev pub asked_for : Windowing → Store → ℕ → ℕ × ℕ
asked_for own store number = unwrap_or (size_asked own store number) (1, 1)

-- the paths of the children of a window, in the order of creation
abbrev pub children_told : ℕ → Tree → Answer
children_told number tree = answers (list_form (map (path_at tree) (child_numbers number tree.windows)))

-- what is told of a window that is there: lengths in pixels, x and y from the parent's corner, rootx and rooty from that of the application's
-- rectangle
unfoldable pub told : Question → Windowing → Store → Window → Answer
told Children own store window = children_told window.number own.tree
told Class own store window = Ok (class_told window)
told Exists own store window = truth true
told Height own store window = answers (decimal window.rectangle.height)
told IsMapped own store window = truth window.mapped
told Name own store window = answers (name_told own window)
told Parent own store window = answers (option_map_or (path_at own.tree) window.parent [])
told RequestedHeight own store window = answers (decimal (asked_for own store window.number).1)
told RequestedWidth own store window = answers (decimal (asked_for own store window.number).0)
told RootX own store window = answers (decimal (corner window.number own.tree).x)
told RootY own store window = answers (decimal (corner window.number own.tree).y)
told Toplevel own store window = answers (codes ".")
told Width own store window = answers (decimal window.rectangle.width)
told X own store window = answers (decimal window.rectangle.x)
told Y own store window = answers (decimal window.rectangle.y)

-- winfo exists path: any text may be asked for; winfo SUB-COMMAND path: the window has to be there
abbrev pub told_of_none : Question → List ℕ → Answer
told_of_none Exists path = truth false
told_of_none _ path = bad_path path

abbrev pub told_at : Question → List ℕ → Windowing → Store → Answer
told_at question path own store = option_map_or (told question own store) (at_path path own.tree) (told_of_none question path)

abbrev pub wrong_question : List ℕ → Answer
wrong_question name = wrong_args (codes "winfo " ++ (name ++ codes " path"))

abbrev pub question_words : List ℕ → List (List ℕ) → Windowing → Store → Option Question → Answer
question_words name words own store None = bad_option name
question_words name (path ∷ []) own store (Some question) = told_at question path own store
question_words name _ own store (Some question) = wrong_question name

unfoldable pub winfo_words : List (List ℕ) → Windowing → Store → Answer
winfo_words [] own store = wrong_args (codes "winfo option ?arg ..?")
winfo_words (name ∷ words) own store = question_words name words own store (question_named name)
