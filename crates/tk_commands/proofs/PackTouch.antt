-- `pack` packs windows, and changes nothing else unless it sets propagation.
use Rattle.std.proofs.Common.{◌≡◌, ℕ, Bool, true, false, List, [], ◌∷◌, Option, None, Some, refl, ◌∙◌, subst, sym}
use Rattle.std.specs.Prelude.{Result, Ok, Err, codes, if◌then◌else◌, option_map}
use Rattle.std.specs.Str.{bytes_eq}
use Rattle.tcl_text.specs.Answers.{Answer, bad_option}
use Rattle.tk_commands.specs.Screen.{asks_propagation, pack_told}
use Rattle.tk_pack_commands.specs.declared.pack.PackQuestion.TheVariants.{Info, Slaves}
use Rattle.tk_pack_commands.specs.declared.settings.Beside.{Beside}
use Rattle.tk_pack_commands.specs.declared.settings.PackSetting.{PackSetting}
use Rattle.tk_pack_commands.specs.declared.targets.Found.{Found}
use Rattle.tk_pack_commands.specs.declared.targets.Target.{Target}
use Rattle.tk_pack_commands.specs.Pack.{Planned, all_forgotten, configure_words, forget_words, forgotten, forgotten_at, named_words, pack_words, packed_by, plan_in, propagate_words, question_words}
use Rattle.tk_pack_commands.specs.Places.{next_beside, packed_all, packed_one}
use Rattle.tk_pack_commands.specs.Targets.{begins_path, found_of}
use Rattle.tk_packer.specs.Packs.{Packing}
use Rattle.tk_screen.proofs.Repacking.{repacked_marked}
use Rattle.tk_screen.specs.declared.marks.Marks.{Marks}
use Rattle.tk_screen.specs.declared.screen.Screen.{Screen}
use Rattle.tk_screen.specs.Marks.{mark_of, IsRepacked, LeavesOtherMarks}
use Rattle.tk_screen.specs.Own.{Windowing}
use Rattle.tk_screen.specs.Seen.{AllMarked}
use Rattle.tk_screen.specs.Shared.{own_of, LeavesOthers}
use Rattle.tk_screen.specs.Touch.{IsPacking}
use Rattle.tk_tree.specs.Own.{Tree, at_path}

-- ── the same windows propagate ──

all_packed : (settings : List PackSetting) (beside : Option Beside) (targets : List Target) (own : Packing) → (packed_all settings beside targets own).rigid ≡ own.rigid
unfolding packed_one
all_packed settings beside [] own = refl
all_packed settings beside (target ∷ targets) own = all_packed settings (next_beside target beside) targets (packed_one settings beside target own)

module _ (tree : Tree) where
  configured : (words : List (List ℕ)) (packs : Packing) → (configure_words words tree packs).0.rigid ≡ packs.rigid
  configured [] packs = refl
  configured (word ∷ words) packs = by (plan_in (word ∷ words) tree packs)
    where
      by : (plan : Result Planned (List ℕ)) → (packed_by plan packs).0.rigid ≡ packs.rigid
      by (Err text) = refl
      by (Ok plan) = all_packed plan.settings _ plan.targets packs

  one_forgotten : (found : Option Found) (packs : Packing) → (forgotten found packs).rigid ≡ packs.rigid
  one_forgotten None packs = refl
  one_forgotten (Some found) packs = refl

  all_gone : (paths : List (List ℕ)) (packs : Packing) → (all_forgotten paths tree packs).rigid ≡ packs.rigid
  all_gone [] packs = refl
  all_gone (path ∷ paths) packs = all_gone paths (forgotten_at path tree packs) ∙ one_forgotten (option_map found_of (at_path path tree)) packs

  named : (name : List ℕ) (words : List (List ℕ)) (packs : Packing) (a b c d e : Bool) → d ≡ false
      → (if a then configure_words words tree packs else if b then forget_words words tree packs else if c then (packs, question_words Info words tree packs) else if d then propagate_words words tree packs else if e then (packs, question_words Slaves words tree packs) else (packs, bad_option name)).0.rigid
      ≡ packs.rigid
  named name words packs true b c d e other = configured words packs
  named name words packs false true c d e other = all_gone words packs
  named name words packs false false true d e other = refl
  named name words packs false false false true e other = absurd (cc)
  named name words packs false false false false true other = refl
  named name words packs false false false false false other = refl

  rigid_stays : (words : List (List ℕ)) (packs : Packing) → asks_propagation words ≡ false → (pack_words words tree packs).0.rigid ≡ packs.rigid
  unfolding pack_words named_words
  rigid_stays [] packs other = refl
  rigid_stays (first ∷ words) packs other = by (begins_path first)
    where
      by : (b : Bool) → (if b then configure_words (first ∷ words) tree packs else named_words first words tree packs).0.rigid ≡ packs.rigid
      by true = configured (first ∷ words) packs
      by false =
          named first words packs (bytes_eq first (codes "configure")) (bytes_eq first (codes "forget")) (bytes_eq first (codes "info")) (bytes_eq first (codes "propagate"))
          (bytes_eq first (codes "slaves")) other

-- the marks hold once it is noted that other windows may be packed
pub still_marked : (slot : ℕ) (words : List (List ℕ)) (old new : Marks) (before now : Screen) (answer : Answer) → AllMarked old before → IsRepacked (mark_of slot old) (mark_of slot new)
    → LeavesOtherMarks slot old new → LeavesOthers slot before now → asks_propagation words ≡ false → (own_of slot now, answer) ≡ pack_told words (own_of slot before) → AllMarked new now
still_marked slot words old new before now answer marked repacked marks parts other is =
    repacked_marked slot old new before now marked repacked marks parts
    (subst (λ (told : Windowing × Answer). IsPacking (own_of slot before) told.0) (sym is)
    ((pack_words words (own_of slot before).tree (own_of slot before).packs).0, (refl, rigid_stays (own_of slot before).tree words (own_of slot before).packs other)))
