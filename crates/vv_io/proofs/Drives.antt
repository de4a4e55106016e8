-- A set of a drive in memory that fails.
use Rattle.std.proofs.Common.{ℕ, ◌≡◌, ◌≤◌, List, [], length, slice_index_or, refl, sym, ◌∙◌, ap, Result}
use Rattle.std.specs.declared.option.Option.TheVariants.{Some}
use Rattle.std.specs.declared.result.Result.TheVariants.{Err}
use Rattle.std.proofs.lemmas.List.{set-get_or}
use Rattle.vv_io.specs.Blocks.{SeenDrive, Sets}
use Rattle.vv_io.specs.Causes.{Rose}

pub failed_set : {U E : Type 0} (blocks blocks' : List (List ℕ)) (faults faults' block : ℕ) (bytes : List ℕ) (e : E) → blocks' ≡ blocks → faults ≤ faults' → Rose faults faults'
    → (let r : Result U E = Err e in let old : SeenDrive = record { size = length blocks; blocks = Some blocks; faults = faults } in let new : SeenDrive = record { size = length blocks'; blocks = Some blocks'; faults = faults' } in Sets old new block bytes r)
failed_set blocks blocks' faults faults' block bytes e same later rose = record {
  size = ap length same;
  writes = (slice_index_or blocks block [], ap Some (same ∙ sym (set-get_or blocks block [])), refl);
  cause = record { later = later; kept = tt; failed = rose };
}
