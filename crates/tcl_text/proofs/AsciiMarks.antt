-- A mark tells whether a text is ASCII: where it is made, where it grows, and where the blank in front is cut off.
use Rattle.std.proofs.Common.{◌≡◌, refl, Bool, true, false, ℕ, zero, suc, ◌<◌, List, [], ◌∷◌, ◌++◌, ◌&&◌, length, take, drop, MatchBool, subst, sym, ap, ◌∙◌, arith}
use Rattle.std.specs.Str.{IsAscii, IsNotAscii}
use Rattle.std.proofs.Math.Seq.{take-append_seam, drop-append_seam}
use Rattle.std.proofs.lemmas.Str.{IsAscii-append, IsAscii-take, IsAscii-drop}
use Rattle.tcl_text.specs.AsciiMarks.{MarksAscii}
use Rattle.tcl_text.specs.ListForm.{others_form}

pub marked_same : (mark : Bool) (before after : List ℕ) → MarksAscii mark before → before ≡ after → MarksAscii mark after
marked_same mark before after h is = subst (MarksAscii mark) is h

pub marked_made : (mark : Bool) (looked text : List ℕ) → MatchBool mark (IsAscii looked) (IsNotAscii looked) → looked ≡ text → MarksAscii mark text
marked_made true looked text h is = marked_same true looked text (record { ascii = λ _. h; only = λ _. refl }) is
marked_made false looked text h is =
    marked_same false looked text (record { ascii = λ never. cc; only = λ ascii. absurd (omega (arith, h.1, ascii h.0)) }) is

grown_ascii : (mark more : Bool) (before added : List ℕ) → MarksAscii mark before → MarksAscii more added → (mark && more) ≡ true → IsAscii (before ++ added)
grown_ascii true more before added h k also = IsAscii-append before added (h.ascii refl) (k.ascii also)
grown_ascii false more before added h k never = cc

both : (mark more : Bool) → mark ≡ true → more ≡ true → (mark && more) ≡ true
both true more is also = also
both false more never also = cc

pub marked_grown : (mark more : Bool) (before added after : List ℕ) → MarksAscii mark before → MarksAscii more added → after ≡ before ++ added → MarksAscii (mark && more) after
marked_grown mark more before added after h k is =
    let whole : MarksAscii (mark && more) (before ++ added) =
    record {
      ascii = grown_ascii mark more before added h k;
      only = λ ascii.
          both mark more
          (h.only (subst IsAscii (take-append_seam before added) (IsAscii-take (before ++ added) (length before) ascii)))
          (k.only (subst IsAscii (drop-append_seam before added) (IsAscii-drop (before ++ added) (length before) ascii)));
    }
    in
    marked_same (mark && more) (before ++ added) after whole (sym is)

behind_blank : (rest : List ℕ) → IsAscii rest → IsAscii (32 ∷ rest)
behind_blank rest h zero = omega arith
behind_blank rest h (suc i) = h i

behind : (mark : Bool) (rest : List ℕ) → MarksAscii mark (32 ∷ rest) → MarksAscii mark rest
behind mark rest h = record { ascii = λ marked. λ i. h.ascii marked (suc i); only = λ ascii. h.only (behind_blank rest ascii) }

pub marked_form : (mark : Bool) (string form : List ℕ) (items : List (List ℕ)) → MarksAscii mark string → string ≡ others_form items → drop 1 string ≡ form → MarksAscii mark form
marked_form mark string form [] h is cut = marked_same mark [] form (marked_same mark string [] h is) (sym (ap (drop 1) is) ∙ cut)
marked_form mark string form (x ∷ xs) h is cut =
    marked_same mark (drop 1 (others_form (x ∷ xs))) form
    (behind mark (drop 1 (others_form (x ∷ xs))) (marked_same mark string (others_form (x ∷ xs)) h is))
    (sym (ap (drop 1) is) ∙ cut)
