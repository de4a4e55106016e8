-- The lines that the commands show on the sink.
use Rattle.std.specs.Prelude.{ℕ, List, [], ◌∷◌, ◌++◌, ◌+◌, codes, decimal, length}
use Rattle.vv_base.specs.Digits.{hex_text}
use Rattle.vm_state.specs.Run.{Tally}
use Rattle.sys_objects.specs.declared.records.Config.{Config}

-- a word and a number after a text
unfoldable pub with_summary_field : List ℕ → List ℕ → ℕ → List ℕ
with_summary_field text word number = text ++ word ++ decimal number

-- the trail after a text in 16 digits of base 16, and the end of the line
unfoldable pub trailer : List ℕ → ℕ → List ℕ
trailer text trail = text ++ codes " trail " ++ hex_text 16 trail ++ 10 ∷ []

-- steps of every kind
abbrev pub all_steps : Tally → ℕ
all_steps t = t.plain + t.sensitive + t.faults + t.interrupts + t.modify + t.idle + t.stopped

-- the summary of a run of a number of rounds
abbrev pub summary : ℕ → Tally → List ℕ
summary rounds t =
    let a = with_summary_field [] (codes "rounds ") rounds in
    let b = with_summary_field a (codes " steps ") (all_steps t) in
    let c = with_summary_field b (codes " plain ") t.plain in
    let d = with_summary_field c (codes " sensitive ") t.sensitive in
    let e = with_summary_field d (codes " faults ") t.faults in
    let f = with_summary_field e (codes " interrupts ") t.interrupts in
    let g = with_summary_field f (codes " modify ") t.modify in
    let h = with_summary_field g (codes " idle ") t.idle in
    let i = with_summary_field h (codes " stopped ") t.stopped in
    trailer i t.trail

-- how many terminals, volumes, printers and guests there are, and the end of the line
abbrev pub check_line : Config → List ℕ
check_line c =
    let a = with_summary_field [] (codes "terminals ") (length c.terminals) in
    let b = with_summary_field a (codes " volumes ") (length c.volumes) in
    let d = with_summary_field b (codes " printers ") (length c.printers) in
    let e = with_summary_field d (codes " guests ") (length c.guests) in
    e ++ 10 ∷ []
