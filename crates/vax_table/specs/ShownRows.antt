-- Worked examples of the table, by computation.
use Rattle.std.specs.Prelude.{◌≡◌, refl, Some, None, [], ◌∷◌}
use Rattle.vv_base.specs.declared.width.Width.TheVariants.{Byte, Word, Long, Quad}
use Rattle.vax_table.specs.InstructionSet.{r, m, w, a, v, b}
use Rattle.vax_table.specs.Rows.{row_of, plain}

pub addl3 : row_of 0xc1 ≡ Some (plain (r Long ∷ r Long ∷ w Long ∷ []))
unfolding row_of
addl3 = refl

pub casew : row_of 0xaf ≡ Some (plain (r Word ∷ r Word ∷ r Word ∷ []))
unfolding row_of
casew = refl

pub decb : row_of 0x97 ≡ Some (plain (m Byte ∷ []))
unfolding row_of
decb = refl

-- after the eight of a block come other rows
pub cvtbl : row_of 0x98 ≡ Some (plain (r Byte ∷ w Long ∷ []))
unfolding row_of
cvtbl = refl

pub acbl : row_of 0xf1 ≡ Some (plain (r Long ∷ r Long ∷ m Long ∷ b Word ∷ []))
unfolding row_of
acbl = refl

pub movq : row_of 0x7d ≡ Some (plain (r Quad ∷ w Quad ∷ []))
unfolding row_of
movq = refl

pub bbssi : row_of 0xe6 ≡ Some (plain (r Long ∷ v Byte ∷ b Byte ∷ []))
unfolding row_of
bbssi = refl

pub calls : row_of 0xfb ≡ Some (plain (r Long ∷ a Byte ∷ []))
unfolding row_of
calls = refl

pub mfpr : row_of 0xdb ≡ Some (plain (r Long ∷ w Long ∷ []))
unfolding row_of
mfpr = refl

pub chmu : row_of 0xbf ≡ Some (plain (r Word ∷ []))
unfolding row_of
chmu = refl

-- ASHQ, which this machine lacks
pub ashq : row_of 0x79 ≡ None
unfolding row_of
ashq = refl

pub beyond : row_of 0xff ≡ None
unfolding row_of
beyond = refl
