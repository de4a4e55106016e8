-- A run whose steps were shown, as a run of the guest A.
use Rattle.std.proofs.Common.{ℕ, ◌≡◌, ◌≤◌, List, [], ◌∷◌, ◌++◌, length, map, Bool, true, false, Option, Ok, Err, Vec, Global, arith, ap, subst, sym, ◌∙◌}
use Rattle.sys_runs.specs.Besides.{MissesArePaid}
use Rattle.std.proofs.lemmas.List.{length-map}
use Rattle.vv_io.specs.Lines.{Seen}
use Rattle.sys_devices.proofs.Puts.{joined, still}
use Rattle.sys_devices.specs.ShownSince.{ShownSince}
use Rattle.sys_objects.specs.declared.records.Config.{Config}
use Rattle.sys_runs.specs.Ran.{MakesRun, RunOutside, Runs, StaysDown}
use Rattle.sys_runs.specs.declared.running.Ran.{Ran}
use Rattle.sys_devices.specs.declared.device.Device.{Device}
use Rattle.sys_system.specs.declared.power.PowerFault.{PowerFault}
use Rattle.sys_trace.specs.Traced.{HasOne, input_of}
use Rattle.vm_stepping.specs.Made.{steps_in}
use Rattle.vvmm_call.specs.Answer.{EndsWithPut, status_when_done}
use Rattle.vvmm_files.specs.Solo.{solo_config, solo_guest}
use Rattle.vvmm_files.specs.Words.{SoloWords}
use Rattle.vvmm_files.specs.declared.status.Status.{Status}

-- what was put before is cut, and no more is put
pub cut_before : (failed : Option Device) (is_cut : Bool) (status : Status) (start out : Seen) (before bytes : List ℕ) → is_cut ≡ true → status ≡ status_when_done failed true → ShownSince is_cut start out before → EndsWithPut failed (before ++ bytes) status start out
cut_before failed is_cut status start out before bytes is answer shown = record {
  cut = true;
  is = answer;
  shows = still start out before bytes (subst (λ (b : Bool). ShownSince b start out before) is shown);
}

-- all of it was put, and bytes are put after it
pub put_before : (failed : Option Device) (is_cut : Bool) (status : Status) (start out out' : Seen) (before bytes bytes' : List ℕ) → is_cut ≡ false → bytes' ≡ bytes → ShownSince is_cut start out before → EndsWithPut failed bytes' status out out' → EndsWithPut failed (before ++ bytes) status start out'
put_before failed is_cut status start out out' before bytes bytes' is same shown closes = record {
  cut = closes.cut;
  is = closes.is;
  shows = joined closes.cut start out out' before bytes (subst (λ (b : Bool). ShownSince b start out before) is shown) (subst (λ (xs : List ℕ). ShownSince closes.cut out out' xs) same closes.shows);
}

-- one guest, and no volume
pub one_guest : (a : SoloWords) (c : Config) → c ≡ solo_config a → length c.guests ≡ 1
one_guest a c config = ap (λ (x : Config). length x.guests) config

pub no_volume : (a : SoloWords) (c : Config) → c ≡ solo_config a → c.volumes ≡ []
no_volume a c config = ap (λ (x : Config). x.volumes) config

pub has_one : (a : SoloWords) (c : Config) → c ≡ solo_config a → HasOne c (solo_guest a)
has_one a c config = record { guests = ap (λ (x : Config). x.guests) config; volumes = no_volume a c config }

-- a run of one round takes few steps
pub few_traced : (x : Config) (image : List ℕ) (ran : Ran) (o : RunOutside) → MakesRun MissesArePaid (input_of x image) ran o → steps_in ran.counts ≤ 3200000000000
few_traced x image ran o made = omega (arith, made.makes.few)

-- the run that was made, and that which stays down, are those of the guest A
pub made_solo : (a : SoloWords) (c : Config) (image : List ℕ) (ran : Ran) (o : RunOutside) → c ≡ solo_config a → MakesRun MissesArePaid (input_of c image) ran o → Runs MissesArePaid (solo_config a) (image ∷ []) [] 1 (Ok ran) o
made_solo a c image ran o config made = ([], subst (λ (x : Config). MakesRun MissesArePaid (input_of x image) ran o) config made)

pub down_solo : (a : SoloWords) (c : Config) (image : List ℕ) (fault : PowerFault) (o : RunOutside) → c ≡ solo_config a → StaysDown c (image ∷ []) fault o → Runs MissesArePaid (solo_config a) (image ∷ []) [] 1 (Err fault) o
down_solo a c image fault o config down = subst (λ (x : Config). StaysDown x (image ∷ []) fault o) config down

-- the image is lent as a slice
abbrev items : Vec ℕ Global → List ℕ
items v = v.items

pub lent_one : (xs ys : List (Vec ℕ Global)) (image : List ℕ) → xs ≡ ys → map items ys ≡ image ∷ [] → map items xs ≡ image ∷ []
lent_one xs ys image same one = ap (map items) same ∙ one

pub one_lent : (xs ys : List (Vec ℕ Global)) (image : List ℕ) → xs ≡ ys → map items ys ≡ image ∷ [] → length xs ≡ 1
one_lent xs ys image same one = sym (length-map xs items) ∙ ap length (lent_one xs ys image same one)
