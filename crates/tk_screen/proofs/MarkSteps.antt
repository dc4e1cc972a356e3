-- Marks that are touched.
use Rattle.std.proofs.Common.{◌≡◌, ◌≢◌, ℕ, false, true, Option, None, refl, sym, subst}
use Rattle.std.specs.BTreeSet.{BTreeSet, UpdatesBy, contains}
use Rattle.std.specs.Ordering.{nat_cmp}
use Rattle.tk_screen.specs.declared.marks.Mark.{Mark}
use Rattle.tk_screen.specs.Marks.{IsRepackedMark, IsTouched, IsTouchedMark}
use Rattle.tk_screen.proofs.Looking.{pushed}

pub gone_touched : (number : ℕ) (old new : Option Mark) → new ≡ None → IsTouched number old new
gone_touched number old new gone = subst (IsTouched number old) (sym gone) tt

pub mark_touched : (number : ℕ) (mark : Mark) (touched : BTreeSet ℕ) → UpdatesBy nat_cmp (nat_cmp number) mark.touched touched true → IsTouchedMark number mark (record mark { touched = touched })
mark_touched number mark touched updates = record { reads = refl; layout = refl; repacked = refl; touched = pushed mark.touched touched number updates }

pub mark_repacked : (mark : Mark) → IsRepackedMark mark (record mark { repacked = true })
mark_repacked mark = record { reads = refl; layout = refl; touched = refl; repacked = refl }
