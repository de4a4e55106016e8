-- Where two modes find a frame for an address, it is the same byte by the same entries.
use Rattle.std.proofs.Common.{◌≡◌, ℕ, ◌+◌, ◌*◌, ◌%◌, Bool, true, false, not, length, Option, Some, None, refl, sym, ap, ◌∙◌}
use Rattle.vv_base.specs.Bytes.{long_at}
use Rattle.vax_arch.specs.Fields.{frame_of, is_valid, protection_of}
use Rattle.vax_arch.specs.Ring.{open_of}
use Rattle.vax_arch.specs.Walk.{granted, is_past, page_of}
use Rattle.vax_arch.specs.declared.mode.Intent.{Intent}
use Rattle.vax_arch.specs.declared.mode.Mode.{Mode}
use Rattle.vax_arch.specs.declared.walk.Grant.{Grant}
use Rattle.vax_arch.specs.declared.walk.Grant.TheVariants.{Absent, Granted, Past, Refused}
use Rattle.vax_arch.specs.declared.walk.Lookup.{Lookup}
use Rattle.vax_arch.specs.declared.walk.Lookup.TheVariants.{Beyond, Direct, Fails, Found}
use Rattle.vm_state.specs.Laws.{FindsOneEntry}
use Rattle.vm_state.specs.State.{Guest}
use Rattle.vm_state.specs.Translation.{at_entry, look, walk_by, walk_of}
use Rattle.vm_state.specs.declared.walk.Walk.TheVariants.{Frame}

-- what a frame was granted by
Is : ℕ → Grant → Type 0
Is frame (Granted f) = f ≡ frame
Is frame Refused = Unit {0}
Is frame Absent = Unit {0}
Is frame Past = Unit {0}

granted_at : (may : ℕ → Mode → Intent → Bool) (size entry : ℕ) (m : Mode) (i : Intent) (a b c : Bool) → not (may (protection_of entry) m i) ≡ a → not (is_valid entry) ≡ b → is_past size (512 * frame_of entry) 512 ≡ c → Is (frame_of entry) (granted may size entry m i)
unfolding granted Is
granted_at may size entry m i true b c p q r = rw p tt
granted_at may size entry m i false true c p q r = rw (p, q) tt
granted_at may size entry m i false false true p q r = rw (p, q, r) tt
granted_at may size entry m i false false false p q r = rw (p, q, r) refl

granted_is : (may : ℕ → Mode → Intent → Bool) (size entry : ℕ) (m : Mode) (i : Intent) → Is (frame_of entry) (granted may size entry m i)
granted_is may size entry m i = granted_at may size entry m i _ _ _ refl refl refl

-- a frame that was found by an entry
record IsBy (va frame place : ℕ) (table : Option ℕ) (pa : ℕ) (entry above : Option ℕ) : Type 0 where
  at : pa ≡ 512 * frame + va % 512
  by : entry ≡ Some place
  under : above ≡ table

found_by : (va frame place : ℕ) (table : Option ℕ) (i : Intent) (x : Grant) (pa : ℕ) (entry above : Option ℕ) → Is frame x → at_entry va i place table x ≡ Frame pa entry above → IsBy va frame place table pa entry above
unfolding Is
found_by va frame place table i (Granted f) pa entry above is e =
    let one : 512 * f + va % 512 ≡ pa = cc in
    let two : Some place ≡ entry = cc in
    let three : table ≡ above = cc in
    record { at = sym one ∙ ap (λ n. 512 * n + va % 512) is; by = sym two; under = sym three }
found_by va frame place table i Refused pa entry above is e = cc
found_by va frame place table i Absent pa entry above is e = cc
found_by va frame place table i Past pa entry above is e = cc

one_entry : (g : Guest) (va : ℕ) (m n : Mode) (i j : Intent) (pa qa : ℕ) (entry other table above : Option ℕ) (x : Lookup) → walk_by g va m i x ≡ Frame pa entry table → walk_by g va n j x ≡ Frame qa other above → (pa ≡ qa) × (entry ≡ other) × (table ≡ above)
one_entry g va m n i j pa qa entry other table above (Found place t) e f =
    let a = found_by va (frame_of (long_at g.memory place)) place t i _ pa entry table (granted_is open_of (length g.memory) (long_at g.memory place) m i) e in
    let b = found_by va (frame_of (long_at g.memory place)) place t j _ qa other above (granted_is open_of (length g.memory) (long_at g.memory place) n j) f in
    (a.at ∙ sym b.at, a.by ∙ sym b.by, a.under ∙ sym b.under)
one_entry g va m n i j pa qa entry other table above (Direct frame) e f =
    let a : va ≡ pa = cc in let b : va ≡ qa = cc in
    let c : None ≡ entry = cc in let d : None ≡ other = cc in
    let k : None ≡ table = cc in let l : None ≡ above = cc in
    (sym a ∙ b, sym c ∙ d, sym k ∙ l)
one_entry g va m n i j pa qa entry other table above (Fails not_valid parameter) e f = cc
one_entry g va m n i j pa qa entry other table above Beyond e f = cc

pub finds_one_entry : FindsOneEntry
unfolding walk_of
finds_one_entry g va m n i j pa qa entry other table above e f = one_entry g va m n i j pa qa entry other table above (look g (page_of va)) e f
