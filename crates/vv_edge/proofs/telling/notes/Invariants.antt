use Rattle.std.proofs.Common.{◌≡◌, ◌≤◌, ◌*◌, length, take}
use Rattle.vv_edge.specs.Notes.{notes_of}
use Rattle.vv_edge.proofs.telling.notes.Given as goal

abbrev pub invariant-loop-note : goal.invariant-loop-note
invariant-loop-note l = (l.text ≡ notes_of (take l.note-index l.list)) × (length l.text ≤ 128 * l.note-index)
