-- Known pages with a tag, which is added to their numbers: those of another tag say nothing.
use Rattle.std.specs.Prelude.{ℕ, ◌≡◌, ◌+◌, ◌-◌, ◌<◌, ◌≤◌, ◌&&◌, Bool, false, not, nat_lt, if◌then◌else◌, List, All}
use Rattle.vax_arch.specs.declared.mode.Intent.{Intent}
use Rattle.vax_arch.specs.declared.mode.Intent.TheVariants.{Read, Write}
use Rattle.vax_paged.specs.declared.known.Known.{Known}
use Rattle.vax_paged.specs.declared.pages.Tagged.{Tagged}

-- no page, by any tag
abbrev pub no_page : Tagged
no_page = record { read_page = 0; write_page = 0; base = 0 }

abbrev pub tagged_page_for : Intent → Tagged → ℕ
tagged_page_for Read k = k.read_page
tagged_page_for Write k = k.write_page

-- a page's number with a tag
abbrev pub with_tag : (page tag : ℕ) → ℕ
with_tag page tag = if nat_lt page 8388608 then page + tag else 0

abbrev pub with_tags : Known → (tag : ℕ) → Tagged
with_tags k tag = record { read_page = with_tag k.read_page tag; write_page = with_tag k.write_page tag; base = k.base }

-- the number of a page of this tag, or a number that no page has
abbrev pub untagged : (tag n : ℕ) → ℕ
untagged tag n = if not (nat_lt n tag) && nat_lt n (tag + 8388608) then n - tag else 4294967295

-- what a page of this tag is known as
abbrev pub at_present : (tag : ℕ) → Tagged → Known
at_present tag k = record { read_page = untagged tag k.read_page; write_page = untagged tag k.write_page; base = k.base }

-- a page of a tag before the next
pub record HasEarlierTag (next : ℕ) (k : Tagged) : Type 0 where
  pub read : k.read_page < next
  pub write : k.write_page < next

-- pages of this tag or earlier ones
pub record AreTagged (tag : ℕ) (ks : List Tagged) : Type 0 where
  pub some : 8388608 ≤ tag
  pub most : tag ≤ 4286578688
  pub before : All (HasEarlierTag (tag + 8388608)) ks

-- pages of this tag or earlier ones, of earlier ones alone where none is said to have this tag
pub record MayHaveSome (tag : ℕ) (has_some : Bool) (ks : List Tagged) : Type 0 where
  pub tagged : AreTagged tag ks
  pub none : has_some ≡ false → All (HasEarlierTag tag) ks
