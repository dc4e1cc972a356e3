-- Lemmas on the steps of reading.
use Rattle.std.proofs.Common.{◌≡◌, ℕ, cond, List, Some, None, option_map, Result, Ok, Err, MatchResult, Decides, Bor, refl}
use Rattle.std.specs.Result.{result_ok}
use Rattle.std.specs.Str.{IsUtf8, is_utf8}
use Rattle.std.proofs.lemmas.Str.{is_utf8-from_IsUtf8, IsUtf8-from_is_utf8}
use Rattle.std.proofs.lemmas.Bool.{false_from_ne_true}
use Rattle.tk_base.specs.declared.rect.Rect.{Rect}
use Rattle.tk_base.specs.Rect.{SharePixel}
use Rattle.tk_route.specs.Screen.{shares_pixel}
use Rattle.tk_route.proofs.ScreenLemmas.{SharePixel-shares_pixel, shares_pixel-true}

-- what `from_utf8` answers, as a test
pub utf8_or_none : {E : Type 0} (bytes : List ℕ) (P : E → Type 0) (r : Result (Bor (List ℕ)) E) → MatchResult r (λ s. (s.now ≡ bytes) × IsUtf8 bytes) (λ e. ¬ IsUtf8 bytes × P e) → option_map (λ text. text.now) (result_ok r) ≡ cond (is_utf8 bytes) (Some bytes) None
utf8_or_none bytes P (Ok s) h = rw (h.0, is_utf8-from_IsUtf8 bytes h.1) refl
utf8_or_none bytes P (Err e) h = rw (false_from_ne_true (is_utf8 bytes) (λ is. h.0 (IsUtf8-from_is_utf8 bytes is))) refl

pub shares_pixel-Decides : (a b : Rect) → Decides (shares_pixel a b) (SharePixel a b)
shares_pixel-Decides a b = (SharePixel-shares_pixel a b, shares_pixel-true a b)
