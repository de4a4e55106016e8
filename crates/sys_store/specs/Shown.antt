-- Worked examples of blocks and print jobs, checked by computation.
use Rattle.std.specs.Prelude.{◌≡◌, ℕ, List, [], ◌∷◌, ◌++◌, codes, None, Some, slice_get, refl}
use Rattle.std.specs.Fmt.{digits}
use Rattle.vv_class.specs.declared.class.AccessClass.{AccessClass}
use Rattle.vv_class.specs.Text.{class_text, categories_below}
use Rattle.sys_store.specs.Blocks.{blocks_of, with_block}
use Rattle.sys_store.specs.Job.{job_text, shown}

-- two volumes, of one block and of two, with blocks of two bytes for short
abbrev two : List (List (List ℕ))
two = ((1 ∷ 2 ∷ []) ∷ []) ∷ ((3 ∷ 4 ∷ []) ∷ (5 ∷ 6 ∷ []) ∷ []) ∷ []

one_block_changes : with_block two 1 0 (7 ∷ 8 ∷ []) ≡ ((1 ∷ 2 ∷ []) ∷ []) ∷ ((7 ∷ 8 ∷ []) ∷ (5 ∷ 6 ∷ []) ∷ []) ∷ []
one_block_changes = refl

the_last_block : slice_get (blocks_of two 1) 1 ≡ Some (5 ∷ 6 ∷ [])
the_last_block = refl

a_block_beyond : slice_get (blocks_of two 0) 1 ≡ None
a_block_beyond = refl

-- the bounds of what prints
the_bounds : shown 0x1f ∷ shown 0x20 ∷ shown 0x7e ∷ shown 0x7f ∷ shown 0xff ∷ [] ≡ 0x2e ∷ 0x20 ∷ 0x7e ∷ 0x2e ∷ 0x2e ∷ []
the_bounds = refl

abbrev secret : AccessClass
secret = record { secrecy = 2; secrecy_cats = 34; integrity = 0; integrity_cats = 0 }

pub job : job_text secret (codes "A") (codes "hi" ++ 10 ∷ 0x7f ∷ []) ≡ codes "2{1,5};0{} A: hi..\r\n"
unfolding job_text class_text categories_below digits
job = refl

pub empty_job : job_text secret (codes "B2") [] ≡ codes "2{1,5};0{} B2: \r\n"
unfolding job_text class_text categories_below digits
empty_job = refl
