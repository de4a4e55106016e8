-- Which object has a number.
use Rattle.std.proofs.Common.{◌≡◌, ◌<◌, ◌≤◌, ◌+◌, ◌-◌, ℕ, zero, suc, List, [], ◌∷◌, ◌++◌, length, Some, refl, arith, ◌∙◌, ap, append_assoc, length-append, sym}
use Rattle.std.specs.List.{slice_get}
use Rattle.sys_flow.specs.Reach.{ObjectPlace, numbered_from, audit_object, all_objects, IsTerminalAt, IsVolumeAt, IsPrinterAt, IsGuestAt}
use Rattle.sys_objects.specs.declared.records.Config.{Config}

pub length-numbered : {A : Type 0} (f : ℕ → ObjectPlace) (k : ℕ) (xs : List A) → length (numbered_from f k xs) ≡ length xs
length-numbered f k [] = refl
length-numbered f k (x ∷ xs) = ap suc (length-numbered f (suc k) xs)

-- within the first list, and after it
pub within_first : {A : Type 0} (f : ℕ → ObjectPlace) (k : ℕ) (xs : List A) (rest : List ObjectPlace) (i : ℕ) → i < length xs → slice_get (numbered_from f k xs ++ rest) i ≡ Some (f (k + i))
within_first f k [] rest i h = absurd (omega arith)
within_first f k (x ∷ xs) rest zero h = ap (λ n. Some (f n)) (omega arith)
within_first f k (x ∷ xs) rest (suc i) h = within_first f (suc k) xs rest i (omega arith) ∙ ap (λ n. Some (f n)) (omega arith)

pub after_first : {A : Type 0} (f : ℕ → ObjectPlace) (k : ℕ) (xs : List A) (rest : List ObjectPlace) (i : ℕ) → length xs ≤ i → slice_get (numbered_from f k xs ++ rest) i ≡ slice_get rest (i - length xs)
after_first f k [] rest i h = ap (slice_get rest) (omega arith)
after_first f k (x ∷ xs) rest zero h = absurd (omega arith)
after_first f k (x ∷ xs) rest (suc i) h = after_first f (suc k) xs rest i (omega arith) ∙ ap (slice_get rest) (omega arith)

pub grouped : (c : Config) → all_objects c ≡ numbered_from IsTerminalAt 0 c.terminals ++ (numbered_from IsVolumeAt 0 c.volumes ++ (numbered_from IsPrinterAt 0 c.printers ++ (numbered_from IsGuestAt 0 c.guests ++ audit_object c.audit)))
grouped c = simp append_assoc

-- by the lengths of the lists before it
module _ (c : Config) (i t v p g : ℕ) (ts : t ≡ length c.terminals) (vs : v ≡ length c.volumes) (ps : p ≡ length c.printers) (gs : g ≡ length c.guests) where
  after_terminals : t ≤ i → slice_get (all_objects c) i ≡ slice_get (numbered_from IsVolumeAt 0 c.volumes ++ (numbered_from IsPrinterAt 0 c.printers ++ (numbered_from IsGuestAt 0 c.guests ++ audit_object c.audit))) (i - t)
  after_terminals h = rw (grouped c, ts) (after_first IsTerminalAt 0 c.terminals _ i (omega arith))

  after_volumes : t ≤ i → v ≤ i - t → slice_get (all_objects c) i ≡ slice_get (numbered_from IsPrinterAt 0 c.printers ++ (numbered_from IsGuestAt 0 c.guests ++ audit_object c.audit)) (i - t - v)
  after_volumes h j = after_terminals h ∙ after_first IsVolumeAt 0 c.volumes _ (i - t) (omega arith) ∙ ap (λ n. slice_get (numbered_from IsPrinterAt 0 c.printers ++ (numbered_from IsGuestAt 0 c.guests ++ audit_object c.audit)) (i - t - n)) (sym vs)

  after_printers : t ≤ i → v ≤ i - t → p ≤ i - t - v → slice_get (all_objects c) i ≡ slice_get (numbered_from IsGuestAt 0 c.guests ++ audit_object c.audit) (i - t - v - p)
  after_printers h j m = after_volumes h j ∙ after_first IsPrinterAt 0 c.printers _ (i - t - v) (omega arith) ∙ ap (λ n. slice_get (numbered_from IsGuestAt 0 c.guests ++ audit_object c.audit) (i - t - v - n)) (sym ps)

  pub terminal_at : i < t → Some (IsTerminalAt i) ≡ slice_get (all_objects c) i
  terminal_at h = sym (rw (grouped c) (within_first IsTerminalAt 0 c.terminals _ i (omega arith) ∙ ap (λ n. Some (IsTerminalAt n)) (omega arith)))

  pub volume_at : t ≤ i → i - t < v → Some (IsVolumeAt (i - t)) ≡ slice_get (all_objects c) i
  volume_at h l = sym (after_terminals h ∙ within_first IsVolumeAt 0 c.volumes _ (i - t) (omega arith) ∙ ap (λ n. Some (IsVolumeAt n)) (omega arith))

  pub printer_at : t ≤ i → v ≤ i - t → i - t - v < p → Some (IsPrinterAt (i - t - v)) ≡ slice_get (all_objects c) i
  printer_at h j l = sym (after_volumes h j ∙ within_first IsPrinterAt 0 c.printers _ (i - t - v) (omega arith) ∙ ap (λ n. Some (IsPrinterAt n)) (omega arith))

  pub guest_at : t ≤ i → v ≤ i - t → p ≤ i - t - v → i - t - v - p < g → Some (IsGuestAt (i - t - v - p)) ≡ slice_get (all_objects c) i
  guest_at h j m l = sym (after_printers h j m ∙ within_first IsGuestAt 0 c.guests _ (i - t - v - p) (omega arith) ∙ ap (λ n. Some (IsGuestAt n)) (omega arith))

  pub audit_at : t ≤ i → v ≤ i - t → p ≤ i - t - v → g ≤ i - t - v - p → slice_get (audit_object c.audit) (i - t - v - p - g) ≡ slice_get (all_objects c) i
  audit_at h j m n = sym (after_printers h j m ∙ after_first IsGuestAt 0 c.guests _ (i - t - v - p) (omega arith) ∙ ap (λ n. slice_get (audit_object c.audit) (i - t - v - p - n)) (sym gs))

pub how_many : (c : Config) → length (all_objects c) ≡ length c.terminals + length c.volumes + length c.printers + length c.guests + length (audit_object c.audit)
how_many c = simp (length-append, length-numbered)
