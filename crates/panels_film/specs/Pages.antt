-- Meaning. A page that shows a bench from moment to moment.
use Rattle.std.specs.Prelude.{◌≡◌, ℕ, List, [], ◌++◌}
use Rattle.tk_session.specs.declared.session.AppBlock.{AppBlock}
use Rattle.tk_session.specs.declared.session.EventLine.{EventLine}
use Rattle.panels.specs.Picture.{picture}
use Rattle.panels.specs.declared.drawing.Scene.{Scene}
use Rattle.panels_film.specs.declared.film.Frame.{Frame}
use Rattle.panels_film.specs.Scenes.{IsScene}

module _ (panels : List AppBlock) (events : List EventLine) where
  -- a page has grown by the picture of a frame's screen, with other text around it
  pub record Adds (frame : Frame) (old new : List ℕ) : Type 0 where
    pub scene : Scene
    pub is_scene : IsScene panels events frame scene
    pub before : List ℕ
    pub behind : List ℕ
    pub grown : new ≡ old ++ (before ++ (picture scene [] ++ behind))

  -- the picture of a frame's screen stands in a page
  pub record IsPictured (page : List ℕ) (frame : Frame) : Type 0 where
    pub scene : Scene
    pub is_scene : IsScene panels events frame scene
    pub before : List ℕ
    pub behind : List ℕ
    pub stands : page ≡ before ++ (picture scene [] ++ behind)
