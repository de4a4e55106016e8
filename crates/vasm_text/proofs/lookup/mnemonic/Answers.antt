use Rattle.std.proofs.Common.{refl}
use Rattle.vasm_text.specs.Mnemonics.{mnemonic_of}
use Rattle.vasm_text.proofs.lookup.mnemonic.Goals as goal

pub name_at-requires : goal.name_at-requires
unfolding mnemonic_of
name_at-requires c = record { long = refl; same = refl }
