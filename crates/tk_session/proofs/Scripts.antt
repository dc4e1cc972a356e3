-- The lines of a script, joined one by one.
use Rattle.std.proofs.Common.{◌≡◌, ℕ, ◌≤◌, true, ◌&&◌, leb, List, [], ◌∷◌, ◌++◌, length, Option, Some, None, Ok, Err, refl, sym, ◌∙◌, ap, arith, length-append, append_assoc}
use Rattle.std.specs.List.{join_with_byte, AllByRecursion}
use Rattle.std.specs.Str.{IsUtf8, is_utf8}
use Rattle.std.proofs.lemmas.Str.{is_utf8-from_IsUtf8, IsUtf8-from_is_utf8}
use Rattle.std.proofs.lemmas.Bool.{le-leb, leb-true, and_parts, and_from, cond-false, false_from_ne_true}
use Rattle.tk_session.specs.declared.session.AppBlock.{AppBlock}
use Rattle.tk_route.specs.declared.fault.LineFault.TheVariants.{BadLine}
use Rattle.tk_session.specs.declared.session.Head.{Head}
use Rattle.tk_session.specs.declared.stage.Format.{Format}
use Rattle.tk_session.specs.Session.{IsScript}
use Rattle.tk_session.specs.Reading.{with_line, text_read, text_step}

-- the script so far, none before its first line
abbrev pub so_far : List (List ℕ) → Option (List ℕ)
so_far [] = None
so_far (text ∷ texts) = Some (join_with_byte 10 (text ∷ texts))

pub with_line-so_far : (texts : List (List ℕ)) (line : List ℕ) → with_line (so_far texts) line ≡ join_with_byte 10 (texts ++ line ∷ [])
with_line-so_far [] line = refl
with_line-so_far (text ∷ []) line = refl
with_line-so_far (text ∷ next ∷ texts) line =
    append_assoc text (10 ∷ join_with_byte 10 (next ∷ texts)) (10 ∷ line)
    ∙ ap (λ rest. text ++ 10 ∷ rest) (with_line-so_far (next ∷ texts) line)

pub so_far-push : (texts : List (List ℕ)) (line : List ℕ) → so_far (texts ++ line ∷ []) ≡ Some (join_with_byte 10 (texts ++ line ∷ []))
so_far-push [] line = refl
so_far-push (text ∷ texts) line = refl

pub length-join-front : (front rest : List (List ℕ)) → length (join_with_byte 10 front) ≤ length (join_with_byte 10 (front ++ rest))
length-join-front [] rest = omega arith
length-join-front (text ∷ []) [] = omega arith
length-join-front (text ∷ []) (next ∷ rest) = rw (length-append text (10 ∷ join_with_byte 10 (next ∷ rest))) (omega arith)
length-join-front (text ∷ next ∷ texts) rest =
    rw (length-append text (10 ∷ join_with_byte 10 (next ∷ texts)), length-append text (10 ∷ join_with_byte 10 (next ∷ texts ++ rest)))
    (omega (arith, length-join-front (next ∷ texts) rest))

pub utf8_front : (front rest : List (List ℕ)) → AllByRecursion IsUtf8 (front ++ rest) → AllByRecursion IsUtf8 front
utf8_front [] rest all = tt
utf8_front (text ∷ front) rest all = (all.0, utf8_front front rest all.1)

pub utf8_rest : (front rest : List (List ℕ)) → AllByRecursion IsUtf8 (front ++ rest) → AllByRecursion IsUtf8 rest
utf8_rest [] rest all = all
utf8_rest (text ∷ front) rest all = utf8_rest front rest all.1

pub utf8_both : (front rest : List (List ℕ)) → AllByRecursion IsUtf8 front → AllByRecursion IsUtf8 rest → AllByRecursion IsUtf8 (front ++ rest)
utf8_both [] rest all others = others
utf8_both (text ∷ front) rest all others = (all.0, utf8_both front rest all.1 others)

-- the front of a script is a script
pub IsScript-front : (front rest : List (List ℕ)) (script : List ℕ) → IsScript (front ++ rest) script → IsScript front (join_with_byte 10 front)
IsScript-front front rest script is =
    let whole : length script ≡ length (join_with_byte 10 (front ++ rest)) = ap length is.joined in
    record {
      joined = refl;
      utf8 = utf8_front front rest is.utf8;
      short = omega (arith, length-join-front front rest, is.short);
    }

-- a line that goes on a script passes the tests
pub text_step-fits : (texts : List (List ℕ)) (line : List ℕ) (script : List ℕ) → IsScript (texts ++ line ∷ []) script → (is_utf8 line && leb (length (with_line (so_far texts) line)) 65536) ≡ true
text_step-fits texts line script is =
    let short : length (join_with_byte 10 (texts ++ line ∷ [])) ≤ 65536 = rw (sym is.joined) is.short in
    and_from _ _ (is_utf8-from_IsUtf8 line (utf8_rest texts (line ∷ []) is.utf8).0) (rw (with_line-so_far texts line) (le-leb _ _ short))

-- a line that fits is taken
pub text_step-taken : (format : Format) (apps : List AppBlock) (head : Head) (left : ℕ) (texts : List (List ℕ)) (line : List ℕ) (script : List ℕ) → IsScript (texts ++ line ∷ []) script → text_step format apps head left (so_far texts) line ≡ Ok (text_read format apps head left (join_with_byte 10 (texts ++ line ∷ [])))
text_step-taken format apps head left texts line script is =
    let utf8 : is_utf8 line ≡ true = is_utf8-from_IsUtf8 line (utf8_rest texts (line ∷ []) is.utf8).0 in
    let short : length (join_with_byte 10 (texts ++ line ∷ [])) ≤ 65536 = rw (sym is.joined) is.short in
    rw (with_line-so_far texts line, utf8, le-leb _ _ short) refl

-- a line that is taken fits
pub text_step-ok : (texts : List (List ℕ)) (line : List ℕ) → IsScript texts (join_with_byte 10 texts) → (is_utf8 line && leb (length (with_line (so_far texts) line)) 65536) ≡ true → IsScript (texts ++ line ∷ []) (join_with_byte 10 (texts ++ line ∷ []))
text_step-ok texts line is h =
    let tests = and_parts _ _ h in
    record {
      joined = refl;
      utf8 = utf8_both texts (line ∷ []) is.utf8 (IsUtf8-from_is_utf8 line tests.0, tt);
      short = rw (sym (with_line-so_far texts line)) (leb-true _ _ tests.1);
    }

-- a line that doesn't fit is refused
pub text_step-refused : (format : Format) (apps : List AppBlock) (head : Head) (left : ℕ) (texts : List (List ℕ)) (line : List ℕ) → IsScript texts (join_with_byte 10 texts) → ((script : List ℕ) → ¬ IsScript (texts ++ line ∷ []) script) → text_step format apps head left (so_far texts) line ≡ Err BadLine
text_step-refused format apps head left texts line is never =
    cond-false _ _ _ (false_from_ne_true _ (λ fits. never (join_with_byte 10 (texts ++ line ∷ [])) (text_step-ok texts line is fits)))
