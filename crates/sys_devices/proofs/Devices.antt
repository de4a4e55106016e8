-- One sync of a line or a drive, and all of them.
use Rattle.std.proofs.Common.{ℕ, ◌≡◌, ◌<◌, ◌≤◌, List, length, map, slice_index_or, ◌∙◌, ap, subst, arith, is_err, Result, Option, Some, None}
use Rattle.std.proofs.lemmas.List.{length-map}
use Rattle.std.specs.declared.result.Result.TheVariants.{Ok, Err}
use Rattle.vv_io.specs.Blocks.{SeenDrive, SyncsDriveOn, unkept}
use Rattle.vv_io.specs.Lines.{Seen, SyncsOn, unseen}
use Rattle.sys_devices.proofs.Synced.{AreSynced, IsOne}
use Rattle.sys_devices.specs.Syncing.{FailedFirst, IsStillDrive, IsStillLine, SyncsDrives, SyncsLines}

-- a device of a list is one of what is seen of them
pub inside : {D V : Type 0} (f : D → V) (items : List D) (k : ℕ) → k < length items → k < length (map f items)
inside f items k h = let long : length (map f items) ≡ length items = length-map items f in omega (arith, h, long)

pub as_few : {D V : Type 0} (f : D → V) (items : List D) (n : ℕ) → n ≤ length items → n ≤ length (map f items)
as_few f items n few = let long : length (map f items) ≡ length items = length-map items f in omega (arith, few, long)

-- a first fault among n is one among more
among : {V : Type 0} (n m : ℕ) (none : V) (faults : V → ℕ) (start now : List V) (failed : Option ℕ) → n ≤ m → FailedFirst n none faults start now failed → FailedFirst m none faults start now failed
among n m none faults start now None few all = all
among n m none faults start now (Some k) few (low, rose, before) = (omega (arith, low, few), rose, before)

same_line : (a b : Seen) → a.shown ≡ b.shown → a.faults ≡ b.faults → a ≡ b
same_line a b shown faults =
    let first : a ≡ record { shown = b.shown; faults = a.faults } = ap (λ s. let line : Seen = record { shown = s; faults = a.faults } in line) shown in
    let second : record { shown = b.shown; faults = a.faults } ≡ b = ap (λ n. let line : Seen = record { shown = b.shown; faults = n } in line) faults in
    first ∙ second

at_line : {U E : Type 0} (n : ℕ) (now after : List Seen) (r : Result U E) → n < length now → SyncsOn n now after r → IsOne unseen (λ line. line.faults) IsStillLine n now after (is_err r)
at_line n now after (Ok u) there (line, is, syncs) = record {
  new = line;
  is = is;
  there = there;
  still = record { shown = syncs.shown; later = syncs.cause.later };
  same = λ _. same_line line (slice_index_or now n unseen) syncs.shown syncs.cause.kept;
  rose = λ e. absurd cc;
}
at_line n now after (Err e) there (line, is, syncs) = record {
  new = line;
  is = is;
  there = there;
  still = record { shown = syncs.shown; later = syncs.cause.later };
  same = λ f. absurd cc;
  rose = λ _. syncs.cause.failed;
}

at_drive : {U E : Type 0} (n : ℕ) (now after : List SeenDrive) (r : Result U E) → n < length now → SyncsDriveOn n now after r → IsOne unkept (λ drive. drive.faults) IsStillDrive n now after (is_err r)
at_drive n now after (Ok u) there (drive, is, syncs) = record {
  new = drive;
  is = is;
  there = there;
  still = record { stays = syncs.stays; later = syncs.cause.later };
  same = λ _. let old = slice_index_or now n unkept in syncs.stays ∙ ap (λ f. record old { faults = f }) syncs.cause.kept;
  rose = λ e. absurd cc;
}
at_drive n now after (Err e) there (drive, is, syncs) = record {
  new = drive;
  is = is;
  there = there;
  still = record { stays = syncs.stays; later = syncs.cause.later };
  same = λ f. absurd cc;
  rose = λ _. syncs.cause.failed;
}

pub all_lines : (n : ℕ) (start now : List Seen) (failed : Option ℕ) → n ≤ length start → AreSynced unseen (λ line. line.faults) IsStillLine n start now failed → SyncsLines start now failed
all_lines n start now failed few synced = record { still = synced.still; first = among n (length start) unseen (λ line. line.faults) start now failed few synced.first }

pub all_drives : (n : ℕ) (start now : List SeenDrive) (failed : Option ℕ) → n ≤ length start → AreSynced unkept (λ drive. drive.faults) IsStillDrive n start now failed → SyncsDrives start now failed
all_drives n start now failed few synced = record { still = synced.still; first = among n (length start) unkept (λ drive. drive.faults) start now failed few synced.first }

-- what one sync does, at a place that is known under another name
pub one_line : {U E : Type 0} (n i : ℕ) (now after : List Seen) (r : Result U E) → i ≡ n → n < length now → SyncsOn i now after r → IsOne unseen (λ line. line.faults) IsStillLine n now after (is_err r)
one_line n i now after r same there syncs = at_line n now after r there (subst (λ j. SyncsOn j now after r) same syncs)

-- what one sync does, at a place that is known under another name
pub one_drive : {U E : Type 0} (n i : ℕ) (now after : List SeenDrive) (r : Result U E) → i ≡ n → n < length now → SyncsDriveOn i now after r → IsOne unkept (λ drive. drive.faults) IsStillDrive n now after (is_err r)
one_drive n i now after r same there syncs = at_drive n now after r there (subst (λ j. SyncsDriveOn j now after r) same syncs)
