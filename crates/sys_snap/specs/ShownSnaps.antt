-- Worked examples of whole snapshots, checked by computation: of a configuration without guests and volumes, after two rounds.
use Rattle.std.specs.Prelude.{◌≡◌, ℕ, List, [], ◌∷◌, ◌++◌, codes, length, take, drop, replicate, None, Some, Ok, refl}
use Rattle.std.specs.Str.{is_utf8, chars}
use Rattle.toml.proofs.OnLiterals.{toml_on_literals}
use Rattle.sys_objects.specs.Judged.{validated}
use Rattle.sys_config.specs.Top.{tables_at, top_of, top_of_one, top_of_two}
use Rattle.sys_config.specs.Config.{numbers_of, rows_of, config_in, config_of}
use Rattle.sys_state.specs.Run.{Moment}
use Rattle.sys_snap.specs.Misfits.{fields_after_text, misfit_in}
use Rattle.sys_snap.specs.Reader.{moment_in, snap_in, state_in}
use Rattle.sys_snap.specs.Written.{snap_bytes}

abbrev text : List ℕ
text = codes "version = 1\nquantum = 10\nslice = 3\n"

abbrev second : Moment
second = record {
  config = record { slice = 3; audit = None; terminals = []; volumes = []; printers = []; guests = [] };
  made = 2;
  state = record { connected = []; mounts = []; guests = []; volumes = [] };
}

abbrev snapshot : List ℕ
snapshot = snap_bytes text second

pub written : (length snapshot ≡ 83) × (take 12 snapshot ≡ codes "VVSNAP1\n" ++ (35 ∷ 0 ∷ 0 ∷ 0 ∷ [])) × (drop 47 snapshot ≡ 2 ∷ 0 ∷ 0 ∷ 0 ∷ replicate 32 255)
written = (refl, refl, refl)

pub read_back : snap_in snapshot ≡ Ok second
unfolding toml_on_literals is_utf8 chars top_of top_of_one top_of_two tables_at numbers_of rows_of validated config_in config_of snap_in moment_in state_in
read_back = refl

-- without its last byte, at the terminals' 32 places; with one byte more, at its own length; another head
pub refused : (misfit_in (take 82 snapshot) ≡ Some 51) × (misfit_in (snapshot ++ 0 ∷ []) ≡ Some 83) × (misfit_in (drop 1 snapshot) ≡ Some 0)
unfolding toml_on_literals is_utf8 chars top_of top_of_one top_of_two tables_at numbers_of rows_of validated config_in config_of misfit_in fields_after_text
refused = (refl, refl, refl)
