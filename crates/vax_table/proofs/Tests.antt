-- What tests say, and how to go along a definition's own tests.
use Rattle.std.proofs.Common.{◌≡◌, ◌≢◌, ℕ, ◌≤◌, Bool, true, false, ◌&&◌, ◌||◌, eqb, ltb, refl, ap, arith}
use Rattle.std.specs.Prelude.{if◌then◌else◌}
use Rattle.std.proofs.lemmas.Bool.{ne_eqb}
use Rattle.std.proofs.lemmas.Bool.Decides.{nat_tests}
use Rattle.vv_base.specs.declared.width.Width.{Width}
use Rattle.vv_base.specs.declared.width.Width.TheVariants.{Byte, Word, Long, Quad}
use Rattle.vax_table.specs.declared.forms.Access.{Access}
use Rattle.vax_table.specs.declared.forms.Access.TheVariants.{Read, Modify, Write, Address, Bits, Branch}
use Rattle.vax_table.specs.Reading.{is_read, is_address, is_branch, is_quad}

-- a choice has a property where both of its sides have it, each under its test
pub if_both : {A : Type 0} (P : A → Type 0) (t : Bool) (x y : A) → (t ≡ true → P x) → (t ≡ false → P y) → P (if t then x else y)
if_both P true x y f g = f refl
if_both P false x y f g = g refl

pub eq_of : (a b : ℕ) → eqb a b ≡ true → a ≡ b
eq_of a b e = grind (arith, nat_tests)

pub ne_of : (a b : ℕ) → eqb a b ≡ false → a ≢ b
ne_of a b e = grind (arith, nat_tests)

pub le_of : (a b : ℕ) → ltb a b ≡ false → b ≤ a
le_of a b e = grind (arith, nat_tests)

pub or_left : (a b : Bool) → (a || b) ≡ false → a ≡ false
or_left true b e = cc
or_left false b e = refl

pub or_right : (a b : Bool) → (a || b) ≡ false → b ≡ false
or_right true b e = cc
or_right false b e = e

pub read_of : (a : Access) → is_read a ≡ true → a ≡ Read
read_of Read e = refl
read_of Modify e = cc
read_of Write e = cc
read_of Address e = cc
read_of Bits e = cc
read_of Branch e = cc

pub branch_of : (a : Access) → is_branch a ≡ true → a ≡ Branch
branch_of Read e = cc
branch_of Modify e = cc
branch_of Write e = cc
branch_of Address e = cc
branch_of Bits e = cc
branch_of Branch e = refl

pub not_address : (a : Access) → is_address a ≡ false → a ≢ Address
not_address a e g = let h : is_address a ≡ true = ap is_address g in cc

pub not_branch : (a : Access) → is_branch a ≡ false → a ≢ Branch
not_branch a e g = let h : is_branch a ≡ true = ap is_branch g in cc

pub no_address : (a : Access) → a ≢ Address → is_address a ≡ false
no_address Read e = refl
no_address Modify e = refl
no_address Write e = refl
no_address Address e = absurd (e refl)
no_address Bits e = refl
no_address Branch e = refl

pub no_branch : (a : Access) → a ≢ Branch → is_branch a ≡ false
no_branch Read e = refl
no_branch Modify e = refl
no_branch Write e = refl
no_branch Address e = refl
no_branch Bits e = refl
no_branch Branch e = absurd (e refl)

pub pair_of : (w : Width) (n : ℕ) → (is_quad w && eqb n 14) ≡ false → w ≡ Quad → n ≢ 14
pair_of w n e g h = let i : (is_quad w && eqb n 14) ≡ true = rw (g, h) refl in cc

pub no_pair : (w : Width) (n : ℕ) → (w ≡ Quad → n ≢ 14) → (is_quad w && eqb n 14) ≡ false
no_pair Byte n e = refl
no_pair Word n e = refl
no_pair Long n e = refl
no_pair Quad n e = ne_eqb n 14 (e refl)
