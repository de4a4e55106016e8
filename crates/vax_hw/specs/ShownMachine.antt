-- Worked examples of the machine's parts, by computation.
use Rattle.std.specs.Prelude.{◌≡◌, refl, []}
use Rattle.vax_hw.specs.Machine.{psw_of, seen_psl}
use Rattle.vax_hw.specs.declared.world.World.{World}

-- VMPSL in user mode, and a real PSL with all four codes
abbrev pub in_user_mode : World
in_user_mode = record {
  r = [];
  psl = record { 0 = 0x20c0000f };
  vmpsl = record { 0 = 0x03c00000 };
  p0br = 0;
  p0lr = 0;
  p1br = 0;
  p1lr = 0;
  sbr = 0;
  slr = 0;
}

pub movpsl_sees : seen_psl in_user_mode ≡ 0x03c0000f
movpsl_sees = refl

pub status_word : psw_of in_user_mode ≡ 0x0f
status_word = refl
