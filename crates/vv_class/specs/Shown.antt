-- Worked examples: labels that flow, and texts of classes.
use Rattle.std.specs.Prelude.{◌≡◌, ℕ, ◌-◌, ◌^◌, true, false, codes, length, Some, None, Ok, Err, refl}
use Rattle.std.specs.Fmt.{digits}
use Rattle.vv_class.specs.declared.class.AccessClass.{AccessClass}
use Rattle.vv_class.specs.Class.{does_flow, is_subset}
use Rattle.vv_class.specs.Text.{class_in, class_text, categories_below}
use Rattle.vv_class.specs.Scan.{class_of, start_of, step_of, more_level, more_category}

abbrev class : ℕ → ℕ → ℕ → ℕ → AccessClass
class secrecy secrecy_cats integrity integrity_cats = record { secrecy = secrecy; secrecy_cats = secrecy_cats; integrity = integrity; integrity_cats = integrity_cats }

-- `1{2};3{}` and `2{2,4};1{}`
pub up : does_flow (class 1 4 3 0) (class 2 20 1 0) ≡ true
unfolding does_flow is_subset
up = refl

pub not_down : does_flow (class 2 20 1 0) (class 1 4 3 0) ≡ false
unfolding does_flow is_subset
not_down = refl

-- `0{};0{4}` and `0{};0{}`: integrity categories only go
pub loses_integrity : does_flow (class 0 0 0 16) (class 0 0 0 0) ≡ true
unfolding does_flow is_subset
loses_integrity = refl

pub gains_no_integrity : does_flow (class 0 0 0 0) (class 0 0 0 16) ≡ false
unfolding does_flow is_subset
gains_no_integrity = refl

pub written : class_text (class 2 34 0 0) ≡ codes "2{1,5};0{}"
unfolding class_text categories_below digits
written = refl

pub read : class_of (codes "2{1,5};0{}") ≡ Ok (class 2 34 0 0)
unfolding class_of start_of step_of more_level more_category
read = refl

pub sixteen : class_of (codes "16{};0{}") ≡ Ok (class 16 0 0 0)
unfolding class_of start_of step_of more_level more_category
sixteen = refl

pub too_high : class_of (codes "256{};0{}") ≡ Err (record { place = 2 })
unfolding class_of start_of step_of more_level more_category
too_high = refl

pub twice : class_of (codes "0{5,5};0{}") ≡ Err (record { place = 5 })
unfolding class_of start_of step_of more_level more_category
twice = refl

pub cut_off : class_of (codes "0{};0") ≡ Err (record { place = 5 })
unfolding class_of start_of step_of more_level more_category
cut_off = refl

pub none_above : class_of (codes "1{63,64};0{}") ≡ Err (record { place = 4 })
unfolding class_of start_of step_of more_level more_category
none_above = refl

-- the longest text
pub longest : length (class_text (class 255 (2 ^ 64 - 1) 255 (2 ^ 64 - 1))) ≡ 373
unfolding class_text categories_below digits
longest = refl

-- a text by its numbers, and texts of none: 256, a needless zero, no rising categories, one above 63, a missing half
pub by_numbers : class_in (codes "2{1,5};0{}") ≡ Some (class 2 34 0 0)
unfolding class_in class_text categories_below digits
by_numbers = refl

pub above_255 : class_in (codes "256{};0{}") ≡ None
unfolding class_in class_text categories_below digits
above_255 = refl

pub needless_zero : class_in (codes "00{};0{}") ≡ None
unfolding class_in class_text categories_below digits
needless_zero = refl

pub falling : class_in (codes "0{5,1};0{}") ≡ None
unfolding class_in class_text categories_below digits
falling = refl

pub above_63 : class_in (codes "0{64};0{}") ≡ None
unfolding class_in class_text categories_below digits
above_63 = refl

pub one_half : class_in (codes "0{}") ≡ None
unfolding class_in class_text categories_below digits
one_half = refl
