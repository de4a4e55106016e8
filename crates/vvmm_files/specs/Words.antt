-- What the words of the command line ask for.
use Rattle.std.specs.Prelude.{ℕ, ◌≡◌, ◌≤◌, List, [], ◌∷◌, Bool, true, nat_eq, nat_le, ◌&&◌, if◌then◌else◌, codes, Option, Some, None}
use Rattle.std.specs.Cmp.Lexicographic.{pointwise}
use Rattle.std.specs.Option.{option_map}
use Rattle.vv_base.specs.Digits.{decimal_of}
use Rattle.vv_base.specs.Names.{is_file_name}
use Rattle.vvmm_files.specs.declared.words.Request.{Request}
use Rattle.vvmm_files.specs.declared.words.Request.TheVariants.{Solo, Trace, Run, Save, Resume, Extend, Live, Load, Check, Migrate, Audit, Flow, Draw, Asm, List as Listing, Dis}

-- `solo IMAGE STEPS`, and `trace` likewise
pub record SoloWords : Type 0 where
  pub image : List ℕ
  pub steps : ℕ

-- `run CONFIG SCRIPT ROUNDS`, and `save` likewise
pub record RunWords : Type 0 where
  pub config : List ℕ
  pub script : List ℕ
  pub rounds : ℕ

-- `resume SNAP SCRIPT ROUNDS`, and `extend` likewise
pub record ResumeWords : Type 0 where
  pub snap : List ℕ
  pub script : List ℕ
  pub rounds : ℕ

-- `live CONFIG ROUNDS`
pub record LiveWords : Type 0 where
  pub config : List ℕ
  pub rounds : ℕ

-- `audit CONFIG RECORD`
pub record AuditWords : Type 0 where
  pub config : List ℕ
  pub recorded : List ℕ

-- what each command is given
pub data Wanted : Type 0 where
  WantsSolo : SoloWords → Wanted
  WantsTrace : SoloWords → Wanted
  WantsRun : RunWords → Wanted
  WantsSave : RunWords → Wanted
  WantsResume : ResumeWords → Wanted
  WantsExtend : ResumeWords → Wanted
  WantsLive : LiveWords → Wanted
  WantsLoad : ℕ → Wanted
  WantsCheck : List ℕ → Wanted
  WantsMigration : List ℕ → Wanted
  WantsAudit : AuditWords → Wanted
  WantsFlow : List ℕ → Wanted
  WantsDrawing : List ℕ → Wanted
  WantsBytes : List ℕ → Wanted
  WantsListing : List ℕ → Wanted
  WantsText : List ℕ → Wanted

-- the word is this command
abbrev pub is_word : List ℕ → List ℕ → Bool
is_word word command = pointwise nat_eq word command

-- a number from 1 to the most
abbrev pub from_one : Option ℕ → Option ℕ
from_one None = None
from_one (Some n) = if nat_le 1 n then Some n else None

abbrev pub number_from_one : List ℕ → ℕ → Option ℕ
number_from_one text most = from_one (decimal_of text most)

-- a command, and a file's name
abbrev pub file_wanted : List ℕ → List ℕ → Option Wanted
file_wanted command file =
    if is_file_name file then
    (if is_word command (codes "check") then Some (WantsCheck file)
    else if is_word command (codes "migrate") then Some (WantsMigration file)
    else if is_word command (codes "flow") then Some (WantsFlow file)
    else if is_word command (codes "draw") then Some (WantsDrawing file)
    else if is_word command (codes "asm") then Some (WantsBytes file)
    else if is_word command (codes "list") then Some (WantsListing file)
    else if is_word command (codes "dis") then Some (WantsText file) else None)
    else None

-- `load` and a number, or a command with a file's name
abbrev pub word_wanted : List ℕ → List ℕ → Option Wanted
word_wanted command word = if is_word command (codes "load") then option_map (λ n. WantsLoad n) (decimal_of word 4294967295) else file_wanted command word

-- this command, a file's name, and a number to 100,000
abbrev pub steps_asked : (name command image steps : List ℕ) → Option SoloWords
steps_asked name command image steps =
    if is_word command name && is_file_name image then option_map (λ n. record { image = image; steps = n }) (number_from_one steps 100000) else None

-- `audit`, and two files' names
abbrev pub audit_asked : List ℕ → List ℕ → List ℕ → Option AuditWords
audit_asked command config recorded =
    if is_word command (codes "audit") && is_file_name config && is_file_name recorded then Some (record { config = config; recorded = recorded }) else None

-- a file's name, and a number to 1,000,000
abbrev pub live_asked : List ℕ → List ℕ → Option LiveWords
live_asked config rounds = if is_file_name config then option_map (λ n. record { config = config; rounds = n }) (number_from_one rounds 1000000) else None

-- `audit` and its two files; `live`, a configuration and a number; or `solo` or `trace`, an image and a number
unfoldable pub two_wanted : List ℕ → List ℕ → List ℕ → Option Wanted
two_wanted command first second =
    if is_word command (codes "audit") then option_map (λ a. WantsAudit a) (audit_asked command first second)
    else if is_word command (codes "live") then option_map (λ a. WantsLive a) (live_asked first second)
    else if is_word command (codes "trace") then option_map (λ a. WantsTrace a) (steps_asked (codes "trace") command first second)
    else option_map (λ a. WantsSolo a) (steps_asked (codes "solo") command first second)

-- two files' names, and a number to 1,000,000
abbrev pub run_asked : List ℕ → List ℕ → List ℕ → Option RunWords
run_asked config script rounds =
    if is_file_name config && is_file_name script then option_map (λ n. record { config = config; script = script; rounds = n }) (number_from_one rounds 1000000) else None

abbrev pub resume_asked : List ℕ → List ℕ → List ℕ → Option ResumeWords
resume_asked snap script rounds =
    if is_file_name snap && is_file_name script then option_map (λ n. record { snap = snap; script = script; rounds = n }) (number_from_one rounds 1000000) else None

-- `run`, `save`, `resume` or `extend`, and what each is given
unfoldable pub three_wanted : List ℕ → List ℕ → List ℕ → List ℕ → Option Wanted
three_wanted command first script rounds =
    if is_word command (codes "run") then option_map (λ a. WantsRun a) (run_asked first script rounds)
    else if is_word command (codes "save") then option_map (λ a. WantsSave a) (run_asked first script rounds)
    else if is_word command (codes "resume") then option_map (λ a. WantsResume a) (resume_asked first script rounds)
    else if is_word command (codes "extend") then option_map (λ a. WantsExtend a) (resume_asked first script rounds) else None

-- what the words ask for, if they are of a form
abbrev pub wanted : List (List ℕ) → Option Wanted
wanted (command ∷ word ∷ []) = word_wanted command word
wanted (command ∷ first ∷ second ∷ []) = two_wanted command first second
wanted (command ∷ first ∷ script ∷ rounds ∷ []) = three_wanted command first script rounds
wanted words = None

-- what a request asks for
abbrev pub wanted_by : Request → Wanted
wanted_by (Solo order) = WantsSolo (record { image = order.image; steps = order.steps })
wanted_by (Trace order) = WantsTrace (record { image = order.image; steps = order.steps })
wanted_by (Run order) = WantsRun (record { config = order.config; script = order.script; rounds = order.rounds })
wanted_by (Save order) = WantsSave (record { config = order.config; script = order.script; rounds = order.rounds })
wanted_by (Resume order) = WantsResume (record { snap = order.snap; script = order.script; rounds = order.rounds })
wanted_by (Extend order) = WantsExtend (record { snap = order.snap; script = order.script; rounds = order.rounds })
wanted_by (Live order) = WantsLive (record { config = order.config; rounds = order.rounds })
wanted_by (Load number) = WantsLoad number
wanted_by (Check file) = WantsCheck file
wanted_by (Migrate file) = WantsMigration file
wanted_by (Audit order) = WantsAudit (record { config = order.config; recorded = order.recorded })
wanted_by (Flow file) = WantsFlow file
wanted_by (Draw file) = WantsDrawing file
wanted_by (Asm source) = WantsBytes source
wanted_by (Listing source) = WantsListing source
wanted_by (Dis image) = WantsText image

-- a run's files have files' names, and its number is in range
abbrev pub IsRequestInRange : Request → Type 0
IsRequestInRange (Solo order) = (is_file_name order.image ≡ true) × (1 ≤ order.steps) × (order.steps ≤ 100000)
IsRequestInRange (Trace order) = (is_file_name order.image ≡ true) × (1 ≤ order.steps) × (order.steps ≤ 100000)
IsRequestInRange (Run order) = (1 ≤ order.rounds) × (order.rounds ≤ 1000000)
IsRequestInRange (Save order) = (1 ≤ order.rounds) × (order.rounds ≤ 1000000)
IsRequestInRange (Resume order) = (1 ≤ order.rounds) × (order.rounds ≤ 1000000)
IsRequestInRange (Extend order) = (1 ≤ order.rounds) × (order.rounds ≤ 1000000)
IsRequestInRange (Live order) = (1 ≤ order.rounds) × (order.rounds ≤ 1000000)
IsRequestInRange request = Unit {0}
