-- How the program ends: what is shown on standard error.
use Rattle.std.specs.Prelude.{ℕ, ◌≡◌, List, [], ◌∷◌, ◌++◌, Bool, true, false, codes}
use Rattle.vvmm_files.specs.Answers.{text_of}
use Rattle.vvmm_files.specs.declared.status.Status.{Status}
use Rattle.vvmm_files.specs.declared.status.Status.TheVariants.{Done}
use Rattle.vv_io.specs.Lines.{Seen}
use Rattle.vv_edge.specs.Hints.{hint_of}
use Rattle.vv_edge.specs.declared.hints.Told.{Told}
use Rattle.sys_devices.specs.ShownSince.{ShownSince}

-- a line, where not all was done and shown
abbrev pub report_of : Status → List ℕ
report_of Done = []
report_of status = (codes "vvmm: " ++ text_of status) ++ 10 ∷ []

-- the line alone; on a terminal also what to do about it
abbrev pub end_text : Bool → Status → Told → List ℕ
end_text false status told = report_of status
end_text true status told = report_of status ++ hint_of status told

-- some bytes are put once, whole or cut; none are no put
abbrev pub PutsIfAny : List ℕ → Seen → Seen → Type 0
PutsIfAny [] before after = after ≡ before
PutsIfAny (byte ∷ bytes) before after = (cut : Bool) × ShownSince cut before after (byte ∷ bytes)
