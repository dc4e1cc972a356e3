use Rattle.std.proofs.Common.{◌≡◌, length, arith, ap, ◌∙◌}
use Rattle.std.specs.Prelude.{map}
use Rattle.std.specs.BTreeSet.{contains}
use Rattle.std.specs.Ordering.{nat_cmp}
use Rattle.tk_packer.specs.Asked.{own_size}
use Rattle.tk_packer.specs.Standing.{Standing}
use Rattle.tk_packer.proofs.Adding.{alone_stands}
use Rattle.tk_packer.proofs.Sets.{has}
use Rattle.tk_packer.proofs.building.alone.Goals as goal

pub returns-clause-standing : goal.returns-clause-standing
returns-clause-standing c =
    let s : Standing = record {
      size = c.args.size;
      shapes = c.args.shapes.items;
      asked = c.in_ok-asked.asked.items;
      places = c.in_ok-places.places.items;
      slots = c.in_ok-slots.slots.items;
      slaves = c.in_ok-slaves.slaves.items;
      resize = contains nat_cmp c.new.result;
      rearrange = contains nat_cmp c.new-2.result;
      moved = contains nat_cmp c.in_ok-moved.moved;
    } in
    let count : c.len-count.result ≡ length s.shapes = omega (arith, c.len-count.ensures, c.args.shapes.ok.0) in
    alone_stands s (c.in_ok-asked.ensures ∙ ap (map own_size) c.as_slice.ensures.value) (c.in_ok-places.ensures.length ∙ count) (c.in_ok-slots.ensures.length ∙ count)
    (c.in_ok-slaves.ensures.length ∙ count) c.in_ok-places.ensures.places c.in_ok-slots.ensures.none c.in_ok-slaves.ensures.none (λ q. ap (has q) c.new-2.ensures.empty)
    (λ q lt. c.in_ok-moved.ensures q (omega (arith, lt, count))) c.requires
