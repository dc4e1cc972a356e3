-- A session of the first format refills nothing and moves no rectangle.
use Rattle.std.proofs.Common.{◌≡◌, ℕ, Bool, true, false, List, [], ◌∷◌, ◌++◌, Option, Some, None, refl, sym, ap, ◌∙◌, subst}
use Rattle.std.specs.List.{AllByRecursion}
use Rattle.std.specs.Str.{bytes_eq}
use Rattle.tk_route.specs.declared.line.HostLine.{HostLine}
use Rattle.tk_route.specs.declared.line.HostLine.TheVariants.{Move, Press, Release, Keydown, Keyup, Focus, Rect as Moved}
use Rattle.tk_session.specs.declared.session.AppBlock.{AppBlock}
use Rattle.tk_session.specs.declared.session.EventLine.{EventLine}
use Rattle.tk_session.specs.declared.stage.Format.{Format}
use Rattle.tk_session.specs.declared.stage.Format.TheVariants.{First, Second}
use Rattle.tk_session.specs.FirstFormat.{IsRefilledByNothing, MovesNoRectangle, SessionOfTheFirst}
use Rattle.tk_session.specs.Session.{AreBlocks, AreSaid, SayEvent, SaysEvent, heading, lines_of}

no_refills : (before : List AppBlock) (lines : List (List ℕ)) (apps : List AppBlock) → AreBlocks First before lines apps → AllByRecursion IsRefilledByNothing apps
no_refills before lines [] are = tt
no_refills before lines (app ∷ apps) are = (are.3.head.app.spells.1, no_refills (before ++ app ∷ []) are.1 apps are.5)

says_none : (apps : List AppBlock) (fields : List (List ℕ)) (line : HostLine) → SayEvent First apps fields line → MovesNoRectangle line
says_none apps fields (Move x y) says = tt
says_none apps fields (Press button) says = tt
says_none apps fields (Release button) says = tt
says_none apps fields (Keydown key) says = tt
says_none apps fields (Keyup key) says = tt
says_none apps fields (Focus slot) says = tt
says_none apps fields (Moved slot rect) says = absurd says

no_rectangles : (apps : List AppBlock) (before : List EventLine) (lines : List (List ℕ)) (told : List EventLine)
    → AreSaid (SaysEvent First apps) before lines told → AllByRecursion (λ (event : EventLine). MovesNoRectangle event.line) told
no_rectangles apps before [] [] said = tt
no_rectangles apps before [] (event ∷ told) said = absurd said
no_rectangles apps before (line ∷ lines) [] said = absurd said
no_rectangles apps before (line ∷ lines) (event ∷ told) said =
    (says_none apps said.0.0.fields event.line said.0.0.says, no_rectangles apps (before ++ event ∷ []) lines told said.1)

-- whether the lines begin as in the first format
abbrev is_first : List (List ℕ) → Bool
is_first [] = false
is_first (line ∷ lines) = bytes_eq line (heading First)

first_heading : (format : Format) (ones others : List (List ℕ)) → heading First ∷ ones ≡ heading format ∷ others → format ≡ First
first_heading First ones others same = refl
first_heading Second ones others same = let wrong : true ≡ false = ap is_first same in absurd (cc)

pub of_the_first : SessionOfTheFirst
of_the_first bytes plan rest begins is =
    let format : is.0 ≡ First = first_heading is.0 rest _ (sym begins ∙ is.4) in (
      no_refills [] is.1 plan.apps (subst (λ format. AreBlocks format [] is.1 plan.apps) format is.5),
      no_rectangles plan.apps [] is.2 plan.events (subst (λ format. AreSaid (SaysEvent format plan.apps) [] is.2 plan.events) format is.6),
    )
