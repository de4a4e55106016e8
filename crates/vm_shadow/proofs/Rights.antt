-- Fields of a real entry that is right.
use Rattle.std.proofs.Common.{◌≡◌, ℕ, ◌+◌, ◌-◌, ◌*◌, ◌/◌, ◌%◌, ◌^◌, ◌<◌, ◌≤◌, Bool, true, false, List, eqb, refl, ap, ◌∙◌, sym, arith}
use Rattle.std.proofs.lemmas.Bool.{false≢true}
use Rattle.vax_arch.specs.Fields.{frame_of, is_modified, is_valid, protection_of}
use Rattle.vax_arch.specs.Ring.{compressed_of}
use Rattle.vax_arch.specs.declared.walk.Lookup.{Lookup}
use Rattle.vax_arch.proofs.Compression.{compressed_code}
use Rattle.vm_shadow.specs.Layout.{bool_as_bit, real_entry}
use Rattle.vm_shadow.specs.Shadowed.{Fits, IsRight, Shadowed, mapped_frame}

bit_small : (b : Bool) → bool_as_bit b < 2
bit_small true = omega arith
bit_small false = omega arith

real_valid : (c b f : ℕ) → c < 16 → b < 2 → f < 2 ^ 21 → (2 ^ 31 + c * 2 ^ 27 + b * 2 ^ 26 + f) / 2 ^ 31 % 2 ≡ 1
real_valid c b f h k l = grind arith

real_protection : (c b f : ℕ) → c < 16 → b < 2 → f < 2 ^ 21 → (2 ^ 31 + c * 2 ^ 27 + b * 2 ^ 26 + f) / 2 ^ 27 % 16 ≡ c
real_protection c b f h k l = grind arith

real_modified : (c b f : ℕ) → c < 16 → b < 2 → f < 2 ^ 21 → (2 ^ 31 + c * 2 ^ 27 + b * 2 ^ 26 + f) / 2 ^ 26 % 2 ≡ b
real_modified c b f h k l = grind arith

real_frame : (c b f : ℕ) → c < 16 → b < 2 → f < 2 ^ 21 → (2 ^ 31 + c * 2 ^ 27 + b * 2 ^ 26 + f) % 2 ^ 21 ≡ f
real_frame c b f h k l = grind arith

code_small : (entry : ℕ) → protection_of entry < 16
code_small entry = omega arith

pub valid_of : (base : ℕ) (b : Bool) (entry : ℕ) → base + frame_of entry < 2 ^ 21 → is_valid (real_entry base b entry) ≡ true
valid_of base b entry h = ap (λ x. eqb x 1) (real_valid (compressed_of (protection_of entry)) (bool_as_bit b) (base + frame_of entry) (compressed_code (protection_of entry) (code_small entry)) (bit_small b) h)

pub code_of : (base : ℕ) (b : Bool) (entry : ℕ) → base + frame_of entry < 2 ^ 21 → protection_of (real_entry base b entry) ≡ compressed_of (protection_of entry)
code_of base b entry h = real_protection (compressed_of (protection_of entry)) (bool_as_bit b) (base + frame_of entry) (compressed_code (protection_of entry) (code_small entry)) (bit_small b) h

pub frame_is : (base : ℕ) (b : Bool) (entry : ℕ) → base + frame_of entry < 2 ^ 21 → frame_of (real_entry base b entry) ≡ base + frame_of entry
frame_is base b entry h = real_frame (compressed_of (protection_of entry)) (bool_as_bit b) (base + frame_of entry) (compressed_code (protection_of entry) (code_small entry)) (bit_small b) h

bit_back : (b : Bool) → eqb (bool_as_bit b) 1 ≡ b
bit_back true = refl
bit_back false = refl

pub modify_of : (base : ℕ) (b : Bool) (entry : ℕ) → base + frame_of entry < 2 ^ 21 → is_modified (real_entry base b entry) ≡ b
modify_of base b entry h = ap (λ x. eqb x 1) (real_modified (compressed_of (protection_of entry)) (bool_as_bit b) (base + frame_of entry) (compressed_code (protection_of entry) (code_small entry)) (bit_small b) h) ∙ bit_back b

pub frame_fits : (memory : List ℕ) (s : Shadowed) (entry : ℕ) → Fits memory s → 512 * frame_of entry + 512 ≤ 512 * s.pages → s.base + frame_of entry < 2 ^ 21
frame_fits memory s entry f h = omega (arith, f.partition, f.few)

module _ (memory own : List ℕ) (s : Shadowed) (seen : Lookup) (real : ℕ) (f : Fits memory s) (r : IsRight (512 * s.pages) s.base own seen real) where
  pub right_small : s.base + frame_of (r.entry) < 2 ^ 21
  right_small = frame_fits memory s r.entry f r.inside

  pub right_valid : is_valid real ≡ true
  right_valid = ap is_valid r.is ∙ valid_of s.base r.modify r.entry right_small

  pub right_modify : is_modified real ≡ r.modify
  right_modify = ap is_modified r.is ∙ modify_of s.base r.modify r.entry right_small

  pub right_frame : mapped_frame s real ≡ frame_of (r.entry)
  right_frame = let e : frame_of real ≡ s.base + frame_of r.entry = ap frame_of r.is ∙ frame_is s.base r.modify r.entry right_small in omega (arith, e)

-- with the modify bit cleared, and set
pub one_less : (base entry : ℕ) (b : Bool) → b ≡ true → real_entry base b entry - 2 ^ 26 ≡ real_entry base false entry
one_less base entry true e = omega arith
one_less base entry false e = absurd (false≢true e)

pub one_more : (base entry : ℕ) (b : Bool) → b ≡ false → real_entry base b entry + 2 ^ 26 ≡ real_entry base true entry
one_more base entry false e = omega arith
one_more base entry true e = absurd (false≢true (sym e))
