-- Settings in their order.
use Rattle.std.proofs.Common.{◌≡◌, ℕ, List, [], ◌∷◌, ◌++◌, Ok, Err, refl, sym, ap, ◌∙◌, append_assoc, append-nil}
use Rattle.tk_base.specs.Steps.{◌>>=◌}
use Rattle.tk_options.specs.declared.fault.OptionFault.{OptionFault}
use Rattle.tk_options.specs.declared.option.OptionEntry.{OptionEntry}
use Rattle.tk_options.specs.declared.settings.Setting.{Setting}
use Rattle.tk_options.specs.Options.{OptionResult, first_set, with_value, with_settings, settings, tested}

-- settings behind others
abbrev pub settings_behind : List Setting → OptionResult (List Setting) → OptionResult (List Setting)
settings_behind front (Ok more) = Ok (front ++ more)
settings_behind front (Err fault) = Err fault

pub settings_behind-end : (front : List Setting) → settings_behind front (Ok []) ≡ Ok front
settings_behind-end front = ap Ok (append-nil front)

pub settings_behind-err : (front : List Setting) (all more : OptionResult (List Setting)) (fault : OptionFault) → settings_behind front more ≡ all → more ≡ Err fault → all ≡ Err fault
settings_behind-err front all more fault is at = sym is ∙ ap (settings_behind front) at

-- one more is tested
pub settings_behind-more : (front : List Setting) (first : Setting) (word value : List ℕ) (words : List (List ℕ)) (table : List OptionEntry)
    → tested word value table ≡ Ok first
    → settings_behind (front ++ first ∷ []) (settings words table) ≡ settings_behind front (settings (word ∷ value ∷ words) table)
settings_behind-more front first word value words table is = rw is (by (settings words table))
  where
    by : (rest : OptionResult (List Setting)) → settings_behind (front ++ first ∷ []) rest ≡ settings_behind front (rest >>= λ others. Ok (first ∷ others))
    by (Ok others) = ap Ok (append_assoc front (first ∷ []) others)
    by (Err fault) = refl

-- one more is set
pub with_settings-more : (all : List Setting) (last : Setting) (table : List OptionEntry) → with_settings (all ++ last ∷ []) table ≡ with_value last.option last.value (with_settings all table)
with_settings-more [] last table = refl
with_settings-more (first ∷ all) last table = with_settings-more all last (with_value first.option first.value table)
