-- What the reader of the line of an alias answers is what the line says, both ways, and what keeps an alias from coming.
use Rattle.std.proofs.Common.{◌≡◌, ◌≢◌, ℕ, zero, suc, ◌<◌, ◌≤◌, Bool, true, false, ◌&&◌, leb, List, [], ◌∷◌, ◌++◌, length, Option, Some, None, Decides, ◌⊎◌, inl, inr, refl, ap, sym, ◌∙◌, subst, arith}
use Rattle.std.specs.Prelude.{codes, if◌then◌else◌}
use Rattle.std.specs.List.{list_all}
use Rattle.std.specs.Str.{IsUtf8, IsAscii, is_utf8, bytes_eq}
use Rattle.std.proofs.lemmas.Bool.{false≢true, and_parts, cases_Bool, leb-true, leb-false, le-leb, lt-leb}
use Rattle.std.proofs.lemmas.Bool.Decides.{Decides-or, not_from_Decides}
use Rattle.std.proofs.lemmas.Option.{cond_some, none-some, same_Some}
use Rattle.std.proofs.lemmas.Slice.Eq.{bytes_eq-Decides}
use Rattle.std.proofs.lemmas.Str.{is_utf8-from_IsUtf8, IsUtf8-from_is_utf8, IsUtf8-from_ascii}
use Rattle.tk_alias.specs.declared.service.ServiceKind.{ServiceKind}
use Rattle.tk_alias.specs.declared.service.ServiceKind.TheVariants.{Const, Upper, Table, Sum, Fail}
use Rattle.tk_route.specs.declared.fault.LineFault.{LineFault}
use Rattle.tk_route.specs.declared.fault.LineFault.TheVariants.{BadLine, NameTaken}
use Rattle.tk_route.specs.declared.fault.LineFault.TheVariants as faults
use Rattle.tk_session.specs.declared.session.AliasLine.{AliasLine}
use Rattle.tk_alias.specs.Names.{is_command_name, is_printing}
use Rattle.tk_session.specs.Names.{kind_word}
use Rattle.tk_session.specs.Session.{spelled, SpellsAlias, IsAliasInRange, IsAliasLine, IsServed, HindersAlias, MayJoin}
use Rattle.tk_session.specs.Reading.{alias_hindrance, alias_line_of, alias_of, behind, command_name_of, config_of, cut_at, cut_service, is_served, service_kind, service_of, utf8_of}
use Rattle.tk_session.proofs.LineLaws.{Lacks, behind-some, bind_some, cut_at-append, cut_at-lacks, cut_at-parts, lacks_from_test, same_bytes}
use Rattle.tk_session.proofs.Hindrances.{test_false}

-- ---- kinds

-- one test of several gave this
pub chosen : {A : Type 0} (test : Bool) (own others : Option A) (y : A) → (if test then own else others) ≡ Some y → ((test ≡ true) × (own ≡ Some y)) ⊎ (others ≡ Some y)
chosen true own others y h = inl (refl, h)
chosen false own others y h = inr h

service_kind-word : (kind : ServiceKind) → service_kind (kind_word kind) ≡ Some kind
service_kind-word Const = refl
service_kind-word Upper = refl
service_kind-word Table = refl
service_kind-word Sum = refl
service_kind-word Fail = refl

spelled_kind : (word : List ℕ) (own kind : ServiceKind) → bytes_eq word (kind_word own) ≡ true → Some own ≡ Some kind → word ≡ kind_word kind
spelled_kind word own kind same is = same_bytes word (kind_word own) same ∙ ap kind_word (same_Some _ _ is)

service_kind-some : (word : List ℕ) (kind : ServiceKind) → service_kind word ≡ Some kind → word ≡ kind_word kind
service_kind-some word kind h =
    elim (chosen (bytes_eq word (codes "const")) (Some Const) _ kind h) [
      | inl is ↦ spelled_kind word Const kind is.0 is.1
      | inr no_const ↦ elim (chosen (bytes_eq word (codes "upper")) (Some Upper) _ kind no_const) [
        | inl is ↦ spelled_kind word Upper kind is.0 is.1
        | inr no_upper ↦ elim (chosen (bytes_eq word (codes "table")) (Some Table) _ kind no_upper) [
          | inl is ↦ spelled_kind word Table kind is.0 is.1
          | inr no_table ↦ elim (chosen (bytes_eq word (codes "sum")) (Some Sum) _ kind no_table) [
            | inl is ↦ spelled_kind word Sum kind is.0 is.1
            | inr no_sum ↦ elim (chosen (bytes_eq word (codes "fail")) (Some Fail) None kind no_sum) [
              | inl is ↦ spelled_kind word Fail kind is.0 is.1
              | inr none ↦ absurd (none-some kind none)
            ]
          ]
        ]
      ]
    ]

printing_above_blank : (c : ℕ) → is_printing c ≡ true → c ≢ 32
printing_above_blank c h e = omega (arith, leb-true 33 c (and_parts _ _ h).0)

Lacks-kind : (kind : ServiceKind) → Lacks 32 (kind_word kind)
Lacks-kind Const = lacks_from_test 32 is_printing printing_above_blank (kind_word Const) refl
Lacks-kind Upper = lacks_from_test 32 is_printing printing_above_blank (kind_word Upper) refl
Lacks-kind Table = lacks_from_test 32 is_printing printing_above_blank (kind_word Table) refl
Lacks-kind Sum = lacks_from_test 32 is_printing printing_above_blank (kind_word Sum) refl
Lacks-kind Fail = lacks_from_test 32 is_printing printing_above_blank (kind_word Fail) refl

Lacks-command_name : (name : List ℕ) → is_command_name name ≡ true → Lacks 32 name
Lacks-command_name name h = lacks_from_test 32 is_printing printing_above_blank name (and_parts _ _ (and_parts _ _ h).0).1

ascii_printing : (text : List ℕ) → list_all is_printing text ≡ true → IsAscii text
ascii_printing [] h i = omega arith
ascii_printing (c ∷ cs) h zero = omega (arith, leb-true c 126 (and_parts _ _ (and_parts _ _ h).0).1)
ascii_printing (c ∷ cs) h (suc i) = ascii_printing cs (and_parts _ _ h).1 i

pub IsUtf8-command_name : (name : List ℕ) → is_command_name name ≡ true → IsUtf8 name
IsUtf8-command_name name h = IsUtf8-from_ascii name (ascii_printing name (and_parts _ _ (and_parts _ _ h).0).1)

-- ---- services

-- what a service is read from
record IsServiceRead (text : List ℕ) (service : ServiceKind × List ℕ) : Type 0 where
  spells : (text ≡ kind_word service.0 ++ 32 ∷ service.1) ⊎ (text ≡ kind_word service.0) × (service.1 ≡ [])
  utf8 : IsUtf8 service.1
  short : length service.1 ≤ 65536

config_of-some : (text config : List ℕ) → config_of text ≡ Some config → (text ≡ config) × IsUtf8 config × (length config ≤ 65536)
config_of-some text config h =
    let read = bind_some (utf8_of text) _ config h in
    let is = cond_some _ _ _ read.1.0 in
    let short = cond_some _ _ _ read.1.1 in
    let P : List ℕ → Type 0 = λ c. (text ≡ c) × IsUtf8 c × (length c ≤ 65536) in
    let Q : List ℕ → Type 0 = λ c. (text ≡ c) × IsUtf8 c in
    let same = subst Q is.1 (refl, IsUtf8-from_is_utf8 text is.0) in
    subst P short.1 (same.0, same.1, leb-true (length read.0) 65536 short.0)

cut_service-some : (text : List ℕ) (parts : Option (List ℕ × List ℕ)) (service : ServiceKind × List ℕ) → cut_at 32 text ≡ parts → cut_service text parts ≡ Some service
    → IsServiceRead text service
cut_service-some text None service cut h =
    let kind = bind_some (service_kind text) _ service h in
    let P : (ServiceKind × List ℕ) → Type 0 = λ s. IsServiceRead text s in
    subst P (same_Some _ _ kind.1.1) record {
      spells = inr (service_kind-some text kind.0 kind.1.0, refl);
      utf8 = IsUtf8-from_ascii [] (λ i. omega arith);
      short = omega arith;
    }
cut_service-some text (Some parts) service cut h =
    let kind = bind_some (service_kind parts.0) _ service h in
    let config = bind_some (config_of parts.1) _ service kind.1.1 in
    let config_is = config_of-some parts.1 config.0 config.1.0 in
    let P : (ServiceKind × List ℕ) → Type 0 = λ s. IsServiceRead text s in
    subst P (same_Some _ _ config.1.1) record {
      spells = inl (cut_at-parts 32 text parts cut
          ∙ ap (λ (word : List ℕ). word ++ 32 ∷ parts.1) (service_kind-some parts.0 kind.0 kind.1.0)
          ∙ ap (λ (rest : List ℕ). kind_word kind.0 ++ 32 ∷ rest) config_is.0);
      utf8 = config_is.1;
      short = config_is.2;
    }

service_of-some : (text : List ℕ) (service : ServiceKind × List ℕ) → service_of text ≡ Some service → IsServiceRead text service
unfolding service_of
service_of-some text service h = cut_service-some text (cut_at 32 text) service refl h

service_of-spelled : (kind : ServiceKind) (config : List ℕ) → IsUtf8 config → length config ≤ 65536 → service_of (kind_word kind ++ 32 ∷ config) ≡ Some (kind, config)
unfolding service_of
service_of-spelled kind config utf8 short =
    rw (cut_at-append 32 (kind_word kind) config (Lacks-kind kind), service_kind-word kind, is_utf8-from_IsUtf8 config utf8, le-leb (length config) 65536 short) refl

service_of-bare : (kind : ServiceKind) → service_of (kind_word kind) ≡ Some (kind, [])
unfolding service_of
service_of-bare kind = rw (cut_at-lacks 32 (kind_word kind) (Lacks-kind kind), service_kind-word kind) refl

-- ---- the line

found_alias : (line name rest : List ℕ) (service : ServiceKind × List ℕ) → line ≡ codes "alias" ++ 32 ∷ (name ++ 32 ∷ rest) → is_command_name name ≡ true → IsServiceRead rest service
    → IsAliasLine line (alias_of (name, service.0, service.1))
found_alias line name rest service is named read = record {
  spelling = elim read.spells [
    | inl whole ↦ inl (is ∙ ap (λ (r : List ℕ). codes "alias" ++ 32 ∷ (name ++ 32 ∷ r)) whole)
    | inr bare ↦ inr (is ∙ ap (λ (r : List ℕ). codes "alias" ++ 32 ∷ (name ++ 32 ∷ r)) bare.0, bare.1)
  ];
  values = record { named = named; utf8 = read.utf8; short = read.short };
}

pub alias_line_of-some : (line : List ℕ) (found : List ℕ × ServiceKind × List ℕ) → alias_line_of line ≡ Some found → IsAliasLine line (alias_of found)
unfolding alias_line_of
alias_line_of-some line found h =
    let fields = bind_some (behind (codes "alias") line) _ found h in
    let cut = bind_some (cut_at 32 fields.0) _ found fields.1.1 in
    let name = bind_some (command_name_of cut.0.0) _ found cut.1.1 in
    let service = bind_some (service_of cut.0.1) _ found name.1.1 in
    let name_is = cond_some _ _ _ name.1.0 in
    let read = service_of-some cut.0.1 service.0 service.1.0 in
    let P : (List ℕ × ServiceKind × List ℕ) → Type 0 = λ f. IsAliasLine line (alias_of f) in
    let spelling : line ≡ codes "alias" ++ 32 ∷ (name.0 ++ 32 ∷ cut.0.1) =
    behind-some (codes "alias") line fields.0 fields.1.0
    ∙ ap (λ (rest : List ℕ). codes "alias" ++ 32 ∷ rest) (cut_at-parts 32 fields.0 cut.0 cut.1.0 ∙ ap (λ (front : List ℕ). front ++ 32 ∷ cut.0.1) name_is.1) in
    subst P (same_Some _ _ service.1.1) (found_alias line name.0 cut.0.1 service.0 spelling (sym (ap is_command_name name_is.1) ∙ name_is.0) read)

pub alias_line_of-spelled : (line : List ℕ) (alias : AliasLine) → IsAliasLine line alias → alias_line_of line ≡ Some (alias.name, alias.service.kind, alias.service.config)
unfolding alias_line_of
alias_line_of-spelled line alias is =
    let values = is.values in
    let lacks = Lacks-command_name alias.name values.named in
    elim is.spelling [
      | inl whole ↦
          ap alias_line_of whole
          ∙ rw (cut_at-append 32 alias.name (kind_word alias.service.kind ++ 32 ∷ alias.service.config) lacks, values.named, service_of-spelled alias.service.kind alias.service.config values.utf8 values.short) refl
      | inr bare ↦
          ap alias_line_of bare.0
          ∙ rw (cut_at-append 32 alias.name (kind_word alias.service.kind) lacks, values.named, service_of-bare alias.service.kind, bare.1) refl
    ]

-- a script line isn't the line of an alias
pub alias_line_of-script : (count : List ℕ) → alias_line_of (codes "script" ++ 32 ∷ count) ≡ None
unfolding alias_line_of
alias_line_of-script count = refl

-- ---- beside other aliases

is_served-Decides : (name : List ℕ) (aliases : List AliasLine) → Decides (is_served name aliases) (IsServed name aliases)
is_served-Decides name [] = (λ e. absurd (false≢true e), λ served. absurd served)
is_served-Decides name (alias ∷ aliases) = Decides-or (bytes_eq alias.name name) (is_served name aliases) (bytes_eq-Decides alias.name name) (is_served-Decides name aliases)

pub alias_hindrance-may : (aliases : List AliasLine) (name : List ℕ) → MayJoin aliases name → alias_hindrance aliases name ≡ None
alias_hindrance-may aliases name may =
    rw (lt-leb 64 (length aliases) may.room, test_false (is_served name aliases) (is_served-Decides name aliases) may.new) refl

pub alias_hindrance-hinders : (fault : LineFault) (aliases : List AliasLine) (name : List ℕ) → HindersAlias fault aliases name → alias_hindrance aliases name ≡ Some fault
alias_hindrance-hinders BadLine aliases name h = rw (le-leb 64 (length aliases) h) refl
alias_hindrance-hinders NameTaken aliases name h = rw (lt-leb 64 (length aliases) h.0, (is_served-Decides name aliases).1 h.1) refl
alias_hindrance-hinders fault aliases name h = absurd h

-- what the test answers holds
abbrev pub JudgedAlias : List AliasLine → List ℕ → Option LineFault → Type 0
JudgedAlias aliases name None = MayJoin aliases name
JudgedAlias aliases name (Some fault) = HindersAlias fault aliases name

pub judged_alias : (aliases : List AliasLine) (name : List ℕ) → JudgedAlias aliases name (alias_hindrance aliases name)
judged_alias aliases name =
    elim (cases_Bool (leb 64 (length aliases))) [
      | inl many ↦ rw many (leb-true 64 (length aliases) many)
      | inr room ↦
          let few : length aliases < 64 = leb-false 64 (length aliases) room in
          elim (cases_Bool (is_served name aliases)) [
            | inl served ↦ rw (room, served) (few, (is_served-Decides name aliases).0 served)
            | inr new ↦ rw (room, new) record { room = few; new = not_from_Decides (is_served name aliases) (is_served-Decides name aliases) new }
          ]
    ]
