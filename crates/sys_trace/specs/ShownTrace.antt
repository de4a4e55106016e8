-- Worked examples of traces, by computation. Numbers are hexadecimal in the comments; the guests are those of the examples of
-- steps.
use Rattle.std.specs.Fmt.{digits}
use Rattle.std.specs.Prelude.{List, [], codes, refl, ℕ, ◌++◌, ◌∷◌, ◌≡◌}
use Rattle.sys_trace.specs.Trace.{trace_of}
use Rattle.sys_trace.specs.TraceLine.{instruction_spelled, readable, trace_line}
use Rattle.vasm_text.specs.Front.{front_text}
use Rattle.vasm_text.specs.Mnemonics.{mnemonic_of}
use Rattle.vasm_text.specs.Printing.{byte_text, displacement_text, field_text, increment_text, instruction_text, operand_text, register_text, specifier_text}
use Rattle.vasm_text.specs.Statements.{forms_of}
use Rattle.vax_table.specs.Computing.{operand_pushed as pushed_long}
use Rattle.vax_table.specs.Stack.{push}
use Rattle.vm_exception.specs.Noted.{note_of, note_of_instruction}
use Rattle.vm_state.specs.ShownSetup.{guest_m, guest_u, whole_step, with_isp, with_memory, with_register}
use Rattle.vm_state.specs.State.{Guest}

-- A trace with all that it computes with: the examples unfold this one name.
whole_trace : ℕ → Guest → List ℕ
unfolding
    whole_step pushed_long push trace_of trace_line instruction_spelled readable front_text note_of note_of_instruction
    digits instruction_text byte_text operand_text specifier_text increment_text displacement_text field_text register_text
    forms_of mnemonic_of
whole_trace steps g = trace_of steps g

-- MTPR of a letter to the console, HALT, and then the guest stays as it is
abbrev writes_letter : Guest
writes_letter = guest_u (0xda ∷ 0x8f ∷ 0x41 ∷ 0x00 ∷ 0x00 ∷ 0x00 ∷ 0x23 ∷ 0x00 ∷ [])

pub a_letter : trace_of 3 writes_letter ≡
    codes "     1 sensitive K 00000200 MTPR I^#^X00000041,S^#35         OUT=41\n"
    ++ codes "     2 sensitive K 00000207 HALT                             OUT=3F30362030303030303230380D0A\n"
    ++ codes "     3 stopped   K 00000208 -\n"
unfolding whole_trace
a_letter = refl

-- a loop that doubles R0, up to an integer overflow, whose trap is taken after the instruction
abbrev doubles : Guest
doubles =
    let code = 0xb8 ∷ 0x20 ∷ 0xc0 ∷ 0x50 ∷ 0x50 ∷ 0x11 ∷ 0xfb ∷ [] in
    with_register 0 0x30000000 (with_memory ((0x4434, 0x1004) ∷ []) (guest_u code))

pub a_trap : trace_of 4 doubles ≡
    codes "     1 plain     K 00000200 BISPSW S^#32                     PSL=00000020\n"
    ++ codes "     2 plain     K 00000202 ADDL2 R0,R0                      R0=60000000\n"
    ++ codes "     3 plain     K 00000205 BRB ^XFB\n"
    ++ codes "     4 plain     K 00000202 ADDL2 R0,R0                      VECTOR=034 R0=C0000000 SP=00002FF4 PSL=00000000\n"
unfolding whole_trace
a_trap = refl

-- a reference to a page that isn't valid, and the first instruction of its handler
abbrev reads : Guest
reads = with_register 1 0x800 (guest_m (0xd0 ∷ 0x61 ∷ 0x50 ∷ []) ((0x90, 0x14000004) ∷ (0x424, 0x80000a04) ∷ []))

pub a_page_fault : trace_of 2 reads ≡
    codes "     1 fault     K 00000200 MOVL (R1),R0                     VECTOR=024 SP=800007F0\n"
    ++ codes "     2 sensitive K 80000A04 HALT                             OUT=3F30362038303030304130350D0A\n"
unfolding whole_trace
a_page_fault = refl

-- software level 3 is requested, and taken
abbrev requests : Guest
requests = with_memory ((0x448c, 0x1004) ∷ []) (guest_u (0xda ∷ 0x03 ∷ 0x14 ∷ []))

pub an_interrupt : trace_of 2 requests ≡
    codes "     1 sensitive K 00000200 MTPR S^#3,S^#20\n"
    ++ codes "     2 interrupt K 00000203 -                                VECTOR=08C SP=00002FF8 PSL=00030000\n"
unfolding whole_trace
an_interrupt = refl

-- a PSL of user mode and a PC are pushed, and REI goes there; HALT is privileged
abbrev goes_to_user : Guest
goes_to_user =
    guest_u (0xdd ∷ 0x8f ∷ 0x00 ∷ 0x00 ∷ 0xc0 ∷ 0x03 ∷ 0x9f ∷ 0x9f ∷ 0x00 ∷ 0x03 ∷ 0x00 ∷ 0x00 ∷ 0x02 ∷ [])

pub to_user_mode : trace_of 4 goes_to_user ≡
    codes "     1 plain     K 00000200 PUSHL I^#^X03C00000              SP=00002FFC\n"
    ++ codes "     2 plain     K 00000206 PUSHAB @#^X00000300              SP=00002FF8\n"
    ++ codes "     3 sensitive K 0000020C REI                              SP=00000000 PSL=03C00000\n"
    ++ codes "     4 fault     U 00000300 HALT                             VECTOR=010 SP=00002FF8 PSL=00C00000\n"
unfolding whole_trace
to_user_mode = refl

-- the modify bit of the page at 800 is clear: it is set, and the instruction begins again
abbrev stores : Guest
stores = with_register 1 0x800 (guest_m (0xd0 ∷ 0x05 ∷ 0x61 ∷ []) ((0x90, 0xa0000004) ∷ []))

pub a_modify_bit : trace_of 2 stores ≡
    codes "     1 modify    K 00000200 MOVL S^#5,(R1)                   PAGE=00000800\n"
    ++ codes "     2 plain     K 00000200 MOVL S^#5,(R1)\n"
unfolding whole_trace
a_modify_bit = refl

-- a vector whose low bits are 2 stops the guest, so that no vector is taken
abbrev stops : Guest
stops = with_memory ((0x442c, 0x1002) ∷ []) (guest_u (0x03 ∷ []))

pub a_stop : trace_of 2 stops ≡
    codes "     1 fault     K 00000200 BPT                              OUT=3F30372030303030303230300D0A\n"
    ++ codes "     2 stopped   K 00000200 -\n"
unfolding whole_trace
a_stop = refl

-- bytes that begin no instruction
pub no_instruction : trace_of 1 (guest_u (0xff ∷ [])) ≡
    codes "     1 fault     K 00000200 .byte ^XFF                       VECTOR=010 SP=00002FF8\n"
unfolding whole_trace
no_instruction = refl

-- a PC beyond memory: nothing can be read there
pub nothing_to_read : trace_of 1 (with_register 15 0x8000 (guest_u (0x01 ∷ []))) ≡
    codes "     1 fault     K 00008000 -                                OUT=3F31302030303030383030300D0A\n"
unfolding whole_trace
nothing_to_read = refl

-- the kernel stack isn't valid: vector 08 is taken in the place of BPT's
pub another_vector : trace_of 1 (with_isp 0x80000800 (with_register 14 0x80002010 (guest_m (0x03 ∷ []) []))) ≡
    codes "     1 fault     K 00000200 BPT                              VECTOR=008 SP=800007F8 PSL=041F0000\n"
unfolding whole_trace
another_vector = refl

-- WAIT, and a step in which the guest waits
pub waiting : trace_of 2 (guest_u (0xfd ∷ 0x01 ∷ [])) ≡
    codes "     1 sensitive K 00000200 WAIT\n"
    ++ codes "     2 idle      K 00000202 -\n"
unfolding whole_trace
waiting = refl
