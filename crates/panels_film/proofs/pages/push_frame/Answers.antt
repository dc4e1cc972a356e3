use Rattle.std.proofs.Common.{◌++◌, ◌∙◌, ap}
use Rattle.panels_film.proofs.Pictures.{three_added}
use Rattle.panels_film.proofs.pages.push_frame.Goals as goal

pub returns : goal.returns
returns c = record {
  scene = c.in_ok-scene.scene;
  is_scene = c.in_ok-scene.ensures;
  before = c.as_bytes.result.now;
  behind = c.as_bytes-2.result.now;
  grown = three_added c.args.page.now.items c.as_bytes.result.now _ c.as_bytes-2.result.now c.extend_from_slice.new.self.items c.extend_from_slice-2.new.self.items c.extend_from_slice-3.new.self.items
      c.in_ok-extend_from_slice.ensures.items
      (c.in_ok-extend_from_slice-2.ensures.items ∙ ap (λ (drawn : _). c.extend_from_slice.new.self.items ++ drawn) (c.as_slice-2.ensures.value ∙ c.in_ok-picture.ensures))
      c.in_ok-extend_from_slice-3.ensures.items;
}
