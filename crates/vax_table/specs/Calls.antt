-- PUSHR and POPR; procedures and their frames (VAX Architecture Reference Manual: PUSHR, POPR; procedure call
-- instructions). A frame is from FP on: the handler's longword, one with the stack's alignment, the S flag, the entry
-- mask and the status word, then AP, FP, PC, and the registers of the mask.
use Rattle.std.specs.Prelude.{ℕ, ◌+◌, ◌*◌, ◌/◌, ◌%◌, ◌^◌, ◌==◌, Bool, true, false, List, [], ◌∷◌, if◌then◌else◌, map, slice_index, slice_set}
use Rattle.vv_base.specs.Bits.{is_set}
use Rattle.vax_arch.specs.declared.mode.Intent.TheVariants.{Read}
use Rattle.vax_table.specs.Arithmetic.{bit_of}
use Rattle.vax_table.specs.Effects.{Effect, begun, long_of}
use Rattle.vax_table.specs.Interaction.{Interaction, Done, Refuse, Touch, ◌>>=◌}
use Rattle.vax_table.specs.Operand.{place, plus}
use Rattle.vax_table.specs.Stack.{named_down, named_up, pop_all, push, push_all}
use Rattle.vax_table.specs.declared.act.Refusal.TheVariants.{ReservedOperand}
use Rattle.vax_table.specs.declared.evaluation.Operands.{Operands}
use Rattle.vax_table.specs.declared.evaluation.Place.{Place}

-- what registers hold
abbrev pub values_of : List ℕ → List ℕ → List ℕ
values_of r ns = map (λ n. slice_index r n) ns

-- PUSHR: the registers of mask bits 14 down to 0, SP as it is before the first push
unfoldable pub registers_pushed : Operands → ℕ → Interaction Effect
registers_pushed o psw = push_all (values_of o.r (named_down 15 (long_of o 0))) (begun o psw)

-- POPR: the registers of mask bits 0 up to 14; a popped SP is the value popped
unfoldable pub registers_popped : Operands → ℕ → Interaction Effect
registers_popped o psw =
    pop_all (named_up 15 0 (long_of o 0)) (place (slice_index o.r 14) o.r) >>= λ p.
    Done (record (begun o psw) { r = if is_set (long_of o 0) 14 then p.r else slice_set p.r 14 p.at })

-- the entry mask is the word at the procedure; its bits 13:12 are a reserved operand
abbrev pub entry_mask : ℕ → Interaction ℕ
entry_mask procedure = Touch Read procedure 2 (λ mask. if mask / 2 ^ 12 % 4 == 0 then Done mask else Refuse ReservedOperand)

-- the frame's second longword: alignment 31:30, S flag 29, mask 27:16, PSW 15:5
abbrev pub frame_word : Bool → ℕ → ℕ → ℕ → ℕ
frame_word is_on_stack mask sp psw = 2 ^ 30 * (sp % 4) + 2 ^ 29 * bit_of is_on_stack + 2 ^ 16 * (mask % 2 ^ 12) + psw / 2 ^ 5 * 2 ^ 5

-- the status word of a procedure: codes and FU 0, T kept, IV and DV from mask bits 14 and 15
abbrev pub procedure_status : ℕ → ℕ → ℕ
procedure_status mask psw = 2 ^ 4 * (psw / 2 ^ 4 % 2) + 2 ^ 5 * (mask / 2 ^ 14 % 2) + 2 ^ 7 * (mask / 2 ^ 15 % 2)

-- the longwords of a frame above its registers, in the order in which they are pushed
abbrev pub frame_end : Bool → ℕ → Effect → List ℕ
frame_end is_on_stack mask e = slice_index e.r 15 ∷ slice_index e.r 13 ∷ slice_index e.r 12 ∷ frame_word is_on_stack mask (slice_index e.r 14) e.psw ∷ 0 ∷ []

-- SP's low bits are cleared
abbrev pub aligned : Effect → Effect
aligned e = record e { r = slice_set e.r 14 (slice_index e.r 14 / 4 * 4) }

-- FP is SP, AP the argument list, and PC after the mask
abbrev pub in_procedure : ℕ → ℕ → ℕ → Effect → Effect
in_procedure procedure mask list e =
    record e { r = slice_set (slice_set (slice_set e.r 12 list) 13 (slice_index e.r 14)) 15 (plus procedure 2); psw = procedure_status mask e.psw }

-- a procedure is entered with an argument list: SP is aligned, and the registers of mask bits 11 down to 0 and the rest
-- of the frame are pushed
unfoldable pub entered : Bool → ℕ → ℕ → ℕ → Effect → Interaction Effect
entered is_on_stack procedure mask list e =
    push_all (values_of e.r (named_down 12 mask)) (aligned e) >>= λ f.
    push_all (frame_end is_on_stack mask e) f >>= λ g.
    Done (in_procedure procedure mask list g)

-- CALLG: argument list, procedure
unfoldable pub called_general : Operands → ℕ → Interaction Effect
called_general o psw = entry_mask (long_of o 1) >>= λ mask. entered false (long_of o 1) mask (long_of o 0) (begun o psw)

-- CALLS: count, procedure; the count is pushed first, and the argument list is at it
unfoldable pub called_on_stack : Operands → ℕ → Interaction Effect
called_on_stack o psw =
    entry_mask (long_of o 1) >>= λ mask.
    push (long_of o 0) (begun o psw) >>= λ e.
    entered true (long_of o 1) mask (slice_index e.r 14) e

-- what is after a frame's first two longwords: AP, FP, PC, and the registers of the mask
unfoldable pub frame_popped : ℕ → Place → Interaction Place
frame_popped mask p = pop_all (12 ∷ 13 ∷ 15 ∷ named_up 12 0 mask) p

-- SP after an argument list that was on the stack: the count's longword and 4 times its low byte go too
abbrev pub list_dropped : Bool → ℕ → Interaction ℕ
list_dropped is_on_stack sp = if is_on_stack then Touch Read sp 4 (λ count. Done (plus sp (4 + 4 * (count % 2 ^ 8)))) else Done sp

-- after the first two longwords at FP, of which `word` is the second
abbrev pub frame_left : ℕ → ℕ → Operands → ℕ → Interaction Effect
frame_left fp word o psw =
    frame_popped (word / 2 ^ 16) (place (plus fp 8) o.r) >>= λ p.
    list_dropped (is_set word 29) (plus p.at (word / 2 ^ 30)) >>= λ sp.
    Done (record (begun o psw) { r = slice_set p.r 14 sp; psw = word % 2 ^ 8 })

-- RET: the second longword's bits 15:8 are a reserved operand
unfoldable pub returned : Operands → ℕ → Interaction Effect
returned o psw =
    let fp = slice_index o.r 13 in
    Touch Read fp 4 (λ handler. Touch Read (plus fp 4) 4 (λ word.
    if word / 2 ^ 8 % 2 ^ 8 == 0 then frame_left fp word o psw else Refuse ReservedOperand))
