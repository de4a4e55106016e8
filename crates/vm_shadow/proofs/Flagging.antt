-- Flags by frame.
use Rattle.std.proofs.Common.{◌≡◌, ℕ, ◌<◌, ◌≤◌, Bool, true, false, ◌==◌, List, length, set, slice_set, slice_index_or, Some, refl, ap, ◌∙◌, sym, subst, ◌⊎◌, inl, inr}
use Rattle.std.proofs.lemmas.Bool.{cases_eq, ne_eqb, or_from, true≢false}
use Rattle.std.proofs.lemmas.List.{get_or-set_other, get_or-set_same, length-set, set_past}
use Rattle.vm_shadow.specs.Flags.{IsWithin, with_flags}
use Rattle.vm_shadow.specs.Shadowed.{is_flagged, is_read_from}
use Rattle.vm_shadow.specs.declared.source.Source.{Source}
use Rattle.vm_shadow.specs.declared.source.Source.TheVariants.{Direct, Process, System}
use Rattle.vm_shadow.proofs.Places.{split}

pub no_flag : (flags : List Bool) (frame : ℕ) (value : Bool) → length flags ≤ frame → flags ≡ slice_set flags frame value
no_flag flags frame value h = sym (set_past flags frame value h)

pub flags_size : (value : Bool) (source : Source) (flags : List Bool) → length (with_flags value source flags) ≡ length flags
flags_size value Direct flags = refl
flags_size value (System entry) flags = length-set flags entry value
flags_size value (Process entry table) flags = length-set (set flags entry value) table value ∙ length-set flags entry value

-- a frame that isn't flagged when another is, isn't that one, and wasn't
unset : (flags : List Bool) (entry frame : ℕ) → entry < length flags → is_flagged frame (set flags entry true) ≡ false → (is_flagged frame flags ≡ false) × ((entry == frame) ≡ false)
unset flags entry frame h e = split (cases_eq frame entry)
    (λ same. absurd (true≢false (sym (ap (λ k. slice_index_or (set flags entry true) k false) same ∙ get_or-set_same flags entry true false h) ∙ e)))
    (λ differ. (sym (get_or-set_other flags entry frame true false differ) ∙ e, ne_eqb entry frame (λ s. differ (sym s))))

pub flagged_all : (source : Source) (flags : List Bool) (frame : ℕ) → IsWithin (length flags) source → is_flagged frame (with_flags true source flags) ≡ false → (is_flagged frame flags ≡ false) × (is_read_from frame (Some source) ≡ false)
flagged_all Direct flags frame h e = (e, refl)
flagged_all (System entry) flags frame h e = unset flags entry frame h e
flagged_all (Process entry table) flags frame h e =
    let t = unset (set flags entry true) table frame (subst (λ n. table < n) (sym (length-set flags entry true)) h.1) e in
    let u = unset flags entry frame h.0 t.0 in
    (u.0, or_from (entry == frame) (table == frame) u.1 t.1)

-- one flag taken away: another frame that isn't flagged then wasn't
pub untaken : (flags : List Bool) (entry frame : ℕ) → is_flagged frame (set flags entry false) ≡ false → (entry ≡ frame) ⊎ (is_flagged frame flags ≡ false)
untaken flags entry frame e = split (cases_eq frame entry) (λ s. inl (sym s)) (λ differ. inr (sym (get_or-set_other flags entry frame false false differ) ∙ e))
