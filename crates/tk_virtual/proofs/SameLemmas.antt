-- When two pairs are the same.
use Rattle.std.proofs.Common.{◌≡◌, Bool, true, false, ◌&&◌, refl}
use Rattle.std.specs.Str.{bytes_eq}
use Rattle.std.proofs.lemmas.Slice.Eq.{bytes_eq-Decides}
use Rattle.tk_sequences.specs.Writing.{canonical}
use Rattle.tk_virtual.specs.Virtual.{is_same}
use Rattle.tk_virtual.specs.declared.pair.Pair.{Pair}

pub same_parts : (wanted pair : Pair) → is_same wanted pair ≡ true → (pair.name ≡ wanted.name) × (canonical pair.sequence ≡ canonical wanted.sequence)
same_parts wanted pair same = by (bytes_eq pair.name wanted.name) (bytes_eq (canonical pair.sequence) (canonical wanted.sequence)) refl refl same
  where
    by : (a b : Bool) → bytes_eq pair.name wanted.name ≡ a → bytes_eq (canonical pair.sequence) (canonical wanted.sequence) ≡ b → (a && b) ≡ true → (pair.name ≡ wanted.name) × (canonical pair.sequence ≡ canonical wanted.sequence)
    by true true name written both = ((bytes_eq-Decides pair.name wanted.name).0 name, (bytes_eq-Decides (canonical pair.sequence) (canonical wanted.sequence)).0 written)
    by true false name written both = absurd (cc)
    by false b name written both = absurd (cc)

-- a pair is the same as itself
pub same_itself : (pair : Pair) → is_same pair pair ≡ true
same_itself pair = rw ((bytes_eq-Decides pair.name pair.name).1 refl, (bytes_eq-Decides (canonical pair.sequence) (canonical pair.sequence)).1 refl) refl
