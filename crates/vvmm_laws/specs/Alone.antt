-- What the devices of `solo` get: what the guest shows when it steps alone on its private virtual VAX.
use Rattle.std.specs.Prelude.{ℕ, ◌≡◌, ◌≤◌, List, [], ◌∷◌, codes}
use Rattle.sys_state.specs.Bytes.{line_bytes}
use Rattle.sys_state.specs.Counts.{run_outcome}
use Rattle.sys_state.specs.Dump.{dump_of}
use Rattle.sys_state.specs.Guests.{alone, powered, with_no_queue}
use Rattle.sys_state.specs.Run.{Input}
use Rattle.sys_state.specs.Transfers.{served}
use Rattle.vm_state.specs.State.{Guest}
use Rattle.vvmm_files.specs.Solo.{solo_config, solo_guest}
use Rattle.vvmm_files.specs.Words.{SoloWords}

-- its run of one round, without volumes and events
abbrev pub solo_input : SoloWords → List ℕ → Input
solo_input a image = record { config = solo_config a; images = image ∷ []; volumes = []; events = []; rounds = 1 }

-- the guest after its steps, when the transfers are made that it asked for: there is no volume, and no printer
abbrev pub served_alone : SoloWords → Guest → Guest
served_alone a g = (served (solo_config a) (solo_guest a) (solo_guest a).mounts (with_no_queue g) g.state.queue []).guest

-- a line's bytes are the guest's own: on line 0 what it shows, on line 1 its dump
pub record ShowsAlone (a : SoloWords) (image : List ℕ) (g : Guest) : Type 0 where
  pub console : line_bytes (solo_input a image) 0 ≡ (alone a.steps g).shown
  pub dump : line_bytes (solo_input a image) 1 ≡ dump_of (codes "A") (served_alone a (alone a.steps g).guest)
  pub others : (k : ℕ) → 2 ≤ k → line_bytes (solo_input a image) k ≡ []
  pub counts : (run_outcome (solo_input a image)).tally ≡ (alone a.steps g).tally

-- the guest that is loaded with the image, and runs
abbrev pub RunsAlone : Type 0
RunsAlone = (a : SoloWords) (image : List ℕ) → ShowsAlone a image (powered (solo_guest a) image)
