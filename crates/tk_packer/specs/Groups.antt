-- Steps. Packed windows by their masters.
use Rattle.std.specs.Prelude.{ℕ, List}
use Rattle.tk_packer.specs.declared.packed.Packed.{Packed}
use Rattle.tk_packer.specs.Packs.{Packing, slaves_of}
use Rattle.tk_packer.specs.Shared.{Held, own_of}

-- the slaves of a master among what an application has packed
abbrev pub slaves_in : ℕ → Held → ℕ → List Packed
slaves_in owner packs master = slaves_of master (own_of owner packs).packs

-- the same of one application alone
abbrev pub slaves_by : Packing → ℕ → List Packed
slaves_by own master = slaves_of master own.packs
