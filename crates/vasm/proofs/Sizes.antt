-- How long the spelling of an operand is.
use Rattle.std.specs.Prelude.{is_some, if◌then◌else◌}
use Rattle.std.proofs.Common.{◌≡◌, ◌==◌, ℕ, ◌+◌, ◌*◌, Bool, true, false, List, [], ◌∷◌, length, Option, Some, None, refl, arith}
use Rattle.vv_base.specs.Width.{size_of}
use Rattle.vax_table.specs.declared.forms.Form.{Form}
use Rattle.vax_table.specs.declared.decoded.Spec.{Spec}
use Rattle.vax_table.specs.Spelling.{bytes_of}
use Rattle.vax_table.specs.Reading.{is_branch}
use Rattle.vax_table.specs.Spelled.{with_index_byte, value_size, spelled_specifier, spelled}
use Rattle.vax_table.proofs.Bytes.{length-bytes_of}
use Rattle.vax_table.proofs.Tests.{eq_of}

no_value : (f : Form) (s : Spec) → s.mode ≡ 0 → value_size f s ≡ 0
unfolding value_size
no_value f s is = rw is

by_mode : (f : Form) (s : Spec) (t : Bool) → (s.mode == 0) ≡ t → length (if t then s.value ∷ [] else (16 * s.mode + s.reg) ∷ bytes_of (value_size f s) s.value) ≡ 1 + value_size f s
by_mode f s true is = let none : value_size f s ≡ 0 = no_value f s (eq_of s.mode 0 is) in rw none
by_mode f s false is = omega (arith, length-bytes_of (value_size f s) s.value)

by_index : (index : Option ℕ) (bytes : List ℕ) (n : ℕ) → length bytes ≡ n → length (with_index_byte index bytes) ≡ (if is_some index then 1 else 0) + n
by_index None bytes n is = omega arith
by_index (Some x) bytes n is = omega arith

specifier_length : (f : Form) (s : Spec) → length (spelled_specifier f s) ≡ 1 + value_size f s
unfolding spelled_specifier
specifier_length f s = by_mode f s (s.mode == 0) refl

by_access : (f : Form) (s : Spec) (t : Bool) → length (if t then bytes_of (size_of f.width) s.value else with_index_byte s.index (spelled_specifier f s)) ≡ (if t then size_of f.width else (if is_some s.index then 1 else 0) + (1 + value_size f s))
by_access f s true = length-bytes_of (size_of f.width) s.value
by_access f s false = by_index s.index (spelled_specifier f s) (1 + value_size f s) (specifier_length f s)

pub length_spelled : (f : Form) (s : Spec) → length (spelled f s) ≡ (if is_branch f.access then size_of f.width else (if is_some s.index then 1 else 0) + (1 + value_size f s))
unfolding spelled
length_spelled f s = by_access f s (is_branch f.access)
