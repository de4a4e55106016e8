-- A record is read only from bytes that it is written as.
use Rattle.std.proofs.Common.{ℕ, zero, suc, ◌≡◌, ◌≤◌, ◌<◌, ◌-◌, ◌*◌, ◌/◌, ◌%◌, ◌^◌, ◌==◌, nat_le, nat_lt, List, [], ◌∷◌, ◌++◌, length, replicate, refl, sym, ap, subst, arith, Bool, true, false, ◌⊎◌, inl, inr}
use Rattle.std.specs.Prelude.{IsTrue, All}
use Rattle.std.specs.Int.{bit_at, from_bool}
use Rattle.std.proofs.lemmas.Bool.{and_parts, eqb-true, false≢true, leb-true, ltb-true, not-true, or_cases}
use Rattle.vv_base.specs.Bits.{is_set}
use Rattle.vv_base.specs.Bytes.{long_bytes, word_bytes}
use Rattle.sys_snap.proofs.OnlyFields.{AreSo, By, Gives, IsLong, Passes, gives_flag, gives_four, gives_halt, gives_last, gives_longs, gives_next, gives_one, gives_packets, gives_two, gives_waiting}
use Rattle.sys_snap.specs.Conditions.{any, is_iccs, is_p0br, is_psl, needs}
use Rattle.sys_snap.specs.Reader.{Bases, End, Levels, Queue, Registers, bases_in, clock_in, console_reading, either, end_in, halt_in, is_count, levels_in, longs_in, made_of, packets_in, queue_in, record_in, registers_in, waiting_in}
use Rattle.sys_snap.specs.Reading.{field, flag, four, one, two}
use Rattle.sys_snap.specs.Snap.{IsRecord}
use Rattle.sys_snap.specs.Written.{clock_bytes, console_bytes, flag_byte, guest_record_bytes, longs, place_byte}
use Rattle.vax_arch.specs.Rei.{has_must_be_zero_bit}
use Rattle.vm_clock.specs.Clock.{ClockState, iccs_of}
use Rattle.vm_clock.specs.Parts.{IsClock, clock_of_parts, parts_of_clock}
use Rattle.vm_clock.specs.declared.ClockParts.{ClockParts}
use Rattle.vm_console.specs.Console.{ConsoleState, IsConsole}
use Rattle.vm_state.specs.Allowed.{Allows, IsPacket}
use Rattle.vm_state.specs.Registers.{allows}
use Rattle.vm_state.specs.State.{State}
use Rattle.vm_state.specs.Stops.{IsHalt}
use Rattle.vm_state.specs.declared.register.Register.TheVariants.{Astlvl, P0br, P0lr, P1br, P1lr, Pcbb, Sbr, Scbb, Sisr, Slr}

-- registers
abbrev registers_written : Registers → List ℕ
registers_written a = longs a.r ++ (long_bytes a.psl ++ longs a.stacks)

record AreRegisters (a : Registers) : Type 0 where
  sixteen : length a.r ≡ 16
  psl : is_psl a.psl ≡ true
  five : length a.stacks ≡ 5

gives_registers : Gives registers_in (By registers_written AreRegisters)
gives_registers =
    gives_next (longs_in 16) _ longs (λ ns. length ns ≡ 16) _ (gives_longs 16) (λ r sixteen.
    gives_next (four is_psl) _ long_bytes (IsLong is_psl) _ (gives_four is_psl) (λ psl passes.
    gives_last (longs_in 5) _ longs (λ ns. length ns ≡ 5) _ (gives_longs 5) (λ stacks five.
    (refl, record { sixteen = sixteen; psl = passes.passes; five = five }))))

-- the table registers, PCBB, SCBB
abbrev bases_written : Bases → List ℕ
bases_written b =
    long_bytes b.p0br ++ long_bytes b.p0lr ++ long_bytes b.p1br ++ long_bytes b.p1lr
    ++ long_bytes b.sbr ++ long_bytes b.slr ++ long_bytes b.pcbb ++ long_bytes b.scbb

record AreBases (b : Bases) : Type 0 where
  p0br : is_p0br b.p0br ≡ true
  p0lr : Allows P0lr b.p0lr
  p1br : Allows P1br b.p1br
  p1lr : Allows P1lr b.p1lr
  sbr : Allows Sbr b.sbr
  slr : Allows Slr b.slr
  pcbb : Allows Pcbb b.pcbb
  scbb : Allows Scbb b.scbb

gives_bases : Gives bases_in (By bases_written AreBases)
gives_bases =
    gives_next (four is_p0br) _ long_bytes (IsLong is_p0br) _ (gives_four is_p0br) (λ p0br k0.
    gives_next (four (allows P0lr)) _ long_bytes (IsLong (allows P0lr)) _ (gives_four (allows P0lr)) (λ p0lr k1.
    gives_next (four (allows P1br)) _ long_bytes (IsLong (allows P1br)) _ (gives_four (allows P1br)) (λ p1br k2.
    gives_next (four (allows P1lr)) _ long_bytes (IsLong (allows P1lr)) _ (gives_four (allows P1lr)) (λ p1lr k3.
    gives_next (four (allows Sbr)) _ long_bytes (IsLong (allows Sbr)) _ (gives_four (allows Sbr)) (λ sbr k4.
    gives_next (four (allows Slr)) _ long_bytes (IsLong (allows Slr)) _ (gives_four (allows Slr)) (λ slr k5.
    gives_next (four (allows Pcbb)) _ long_bytes (IsLong (allows Pcbb)) _ (gives_four (allows Pcbb)) (λ pcbb k6.
    gives_last (four (allows Scbb)) _ long_bytes (IsLong (allows Scbb)) _ (gives_four (allows Scbb)) (λ scbb k7.
    (refl, record { p0br = k0.passes; p0lr = k1.passes; p1br = k2.passes; p1lr = k3.passes; sbr = k4.passes; slr = k5.passes; pcbb = k6.passes; scbb = k7.passes })))))))))

-- ASTLVL, SISR, MAPEN
abbrev levels_written : Levels → List ℕ
levels_written l = (l.astlvl ∷ []) ++ (word_bytes l.sisr ++ flag_byte l.mapped)

record AreLevels (l : Levels) : Type 0 where
  astlvl : Allows Astlvl l.astlvl
  sisr : Allows Sisr l.sisr

gives_levels : Gives levels_in (By levels_written AreLevels)
gives_levels =
    gives_next (one (allows Astlvl)) _ (λ n. n ∷ []) (Passes (allows Astlvl)) _ (gives_one (allows Astlvl)) (λ astlvl k0.
    gives_next (two (allows Sisr)) _ word_bytes (Passes (allows Sisr)) _ (gives_two (allows Sisr)) (λ sisr k1.
    gives_last (flag either) _ flag_byte (λ f. either f ≡ true) _ (gives_flag either) (λ mapped k2.
    (refl, record { astlvl = k0; sisr = k1 }))))

-- a request needs its enable
needs_means : (enable request : Bool) → needs enable request ≡ true → IsTrue request → IsTrue enable
needs_means true request needed is = refl
needs_means false true needed is = absurd (false≢true needed)
needs_means false false needed is = is

-- a clock: its ICCS has no bits but those that it keeps
set_bit : (n : ℕ) → n < 2 → from_bool (n == 1) ≡ n
set_bit zero short = refl
set_bit (suc zero) short = refl
set_bit (suc (suc n)) short = absurd (omega (arith, short))

iccs_back : (parts : ClockParts) → is_iccs parts.iccs ≡ true → parts.iccs < 2 ^ 32 → iccs_of (clock_of_parts parts) ≡ parts.iccs
iccs_back parts passes short =
    let v : ℕ = parts.iccs in
    let clear : ((parts.iccs / 2 % 2 ^ 5 == 0) ≡ true) × ((parts.iccs / 2 ^ 8 % 2 ^ 23 == 0) ≡ true) = and_parts (parts.iccs / 2 % 2 ^ 5 == 0) (parts.iccs / 2 ^ 8 % 2 ^ 23 == 0) passes in
    let low : parts.iccs / 2 % 2 ^ 5 ≡ 0 = eqb-true (parts.iccs / 2 % 2 ^ 5) 0 clear.0 in
    let high : parts.iccs / 2 ^ 8 % 2 ^ 23 ≡ 0 = eqb-true (parts.iccs / 2 ^ 8 % 2 ^ 23) 0 clear.1 in
    let b0 : from_bool (is_set parts.iccs 0) ≡ bit_at parts.iccs 0 = set_bit (bit_at parts.iccs 0) (omega arith) in
    let b6 : from_bool (is_set parts.iccs 6) ≡ bit_at parts.iccs 6 = set_bit (bit_at parts.iccs 6) (omega arith) in
    let b7 : from_bool (is_set parts.iccs 7) ≡ bit_at parts.iccs 7 = set_bit (bit_at parts.iccs 7) (omega arith) in
    let b31 : from_bool (is_set parts.iccs 31) ≡ bit_at parts.iccs 31 = set_bit (bit_at parts.iccs 31) (omega arith) in
    rw b0 (rw b6 (rw b7 (rw b31 (omega (arith, low, high, short)))))

is_clock : (parts : ClockParts) → is_iccs parts.iccs ≡ true → needs (is_set parts.iccs 6) parts.request ≡ true → IsClock parts
is_clock parts passes needed =
    let clear : ((parts.iccs / 2 % 2 ^ 5 == 0) ≡ true) × ((parts.iccs / 2 ^ 8 % 2 ^ 23 == 0) ≡ true) = and_parts (parts.iccs / 2 % 2 ^ 5 == 0) (parts.iccs / 2 ^ 8 % 2 ^ 23 == 0) passes in
    record {
      low_clear = eqb-true (parts.iccs / 2 % 2 ^ 5) 0 clear.0;
      high_clear = eqb-true (parts.iccs / 2 ^ 8 % 2 ^ 23) 0 clear.1;
      enabled = needs_means (is_set parts.iccs 6) parts.request needed;
    }

gives_clock : Gives clock_in (By clock_bytes (λ c. IsClock (parts_of_clock c)))
gives_clock =
    gives_next (four is_iccs) _ long_bytes (IsLong is_iccs) _ (gives_four is_iccs) (λ iccs k0.
    gives_next (four any) _ long_bytes (IsLong any) _ (gives_four any) (λ nicr k1.
    gives_next (four any) _ long_bytes (IsLong any) _ (gives_four any) (λ icr k2.
    gives_last (flag (needs (is_set iccs 6))) _ flag_byte (λ f. needs (is_set iccs 6) f ≡ true) _ (gives_flag (needs (is_set iccs 6))) (λ request k3.
    let parts : ClockParts = record { iccs = iccs; nicr = nicr; icr = icr; request = request } in
    let back : iccs ≡ iccs_of (clock_of_parts parts) = sym (iccs_back parts k0.passes k0.short) in
    let same : parts ≡ parts_of_clock (clock_of_parts parts) = λ i. record { iccs = back i; nicr = nicr; icr = icr; request = request } in
    (ap (λ k. long_bytes k ++ (long_bytes nicr ++ (long_bytes icr ++ flag_byte request))) back, subst IsClock same (is_clock parts k0.passes k3))))))

-- a console
count_means : (request : Bool) (n : ℕ) → is_count request n ≡ true → (n ≤ 256) × (IsTrue request → 0 < n)
count_means false n passes = (leb-true n 256 (and_parts (nat_le n 256) true passes).0, λ is. absurd (false≢true is))
count_means true n passes =
    let parts : (nat_le n 256 ≡ true) × (nat_lt 0 n ≡ true) = and_parts (nat_le n 256) (nat_lt 0 n) passes in
    (leb-true n 256 parts.0, λ is. ltb-true 0 n parts.1)

record IsConsoleOf (console : ConsoleState) : Type 0 where
  is : IsConsole console
  few : length console.waiting ≤ 256

gives_console : Gives console_reading (By console_bytes IsConsoleOf)
gives_console =
    gives_next (flag either) _ flag_byte (λ f. either f ≡ true) _ (gives_flag either) (λ rx_enable k0.
    gives_next (flag either) _ flag_byte (λ f. either f ≡ true) _ (gives_flag either) (λ tx_enable k1.
    gives_next (flag (needs rx_enable)) _ flag_byte (λ f. needs rx_enable f ≡ true) _ (gives_flag (needs rx_enable)) (λ rx_request k2.
    gives_next (flag (needs tx_enable)) _ flag_byte (λ f. needs tx_enable f ≡ true) _ (gives_flag (needs tx_enable)) (λ tx_request k3.
    gives_next (two (is_count rx_request)) _ word_bytes (Passes (is_count rx_request)) _ (gives_two (is_count rx_request)) (λ n k4.
    let count : (n ≤ 256) × (IsTrue rx_request → 0 < n) = count_means rx_request n k4 in
    gives_last (field 256 (waiting_in n)) _ (λ w. w ++ replicate (256 - n) 0) (λ w. length w ≡ n) _ (gives_waiting n count.0) (λ waiting long. (
      ap (λ k. flag_byte rx_enable ++ (flag_byte tx_enable ++ (flag_byte rx_request ++ (flag_byte tx_request ++ (word_bytes k ++ (waiting ++ replicate (256 - k) 0)))))) (sym long),
      record {
        is = record {
          rx_enabled = needs_means rx_enable rx_request k2;
          rx_waiting = λ asks. let some : 0 < n = count.1 asks in omega (arith, some, long);
          tx_enabled = needs_means tx_enable tx_request k3;
        };
        few = omega (arith, count.0, long);
      },
    )))))))

-- the queue
abbrev queue_written : Queue → List ℕ
queue_written q = flag_byte q.due ++ ((length q.packets ∷ []) ++ (longs q.packets ++ replicate (4 * (8 - length q.packets)) 0))

record IsQueue (size : ℕ) (q : Queue) : Type 0 where
  few : length q.packets ≤ 8
  each : All (IsPacket size) q.packets

gives_queue : (size : ℕ) → Gives (queue_in size) (By queue_written (IsQueue size))
gives_queue size =
    gives_next (flag either) _ flag_byte (λ f. either f ≡ true) _ (gives_flag either) (λ due k0.
    gives_next (one (λ n. nat_le n 8)) _ (λ n. n ∷ []) (Passes (λ n. nat_le n 8)) _ (gives_one (λ n. nat_le n 8)) (λ n k1.
    let few : n ≤ 8 = leb-true n 8 k1 in
    gives_last (packets_in size n 8) _ (λ ps. longs ps ++ replicate (4 * (8 - n)) 0) (AreSo (IsPacket size) n) _ (gives_packets size n 8 few) (λ ps are. (
      ap (λ k. flag_byte due ++ ((k ∷ []) ++ (longs ps ++ replicate (4 * (8 - k)) 0))) (sym are.many),
      record { few = omega (arith, few, are.many); each = are.each },
    ))))

-- the end
abbrev end_written : End → List ℕ
end_written e = flag_byte e.waiting ++ ((place_byte e.halt ∷ []) ++ long_bytes e.steps)

gives_end : Gives end_in (By end_written (λ e. IsHalt e.halt))
gives_end =
    gives_next (flag either) _ flag_byte (λ f. either f ≡ true) _ (gives_flag either) (λ waiting k0.
    gives_next (field 1 halt_in) _ (λ halt. place_byte halt ∷ []) IsHalt _ gives_halt (λ halt k1.
    gives_last (four any) _ long_bytes (IsLong any) _ (gives_four any) (λ steps k2. (refl, k1))))

-- a record
start_or : (v : ℕ) → is_p0br v ≡ true → (v ≡ 0) ⊎ Allows P0br v
start_or v passes = elim (or_cases (v == 0) (allows P0br v) passes) [ inl is ↦ inl (eqb-true v 0 is) | inr allowed ↦ inr allowed ]

pub record IsRecordOf (size : ℕ) (faults : Bool) (s : State) : Type 0 where
  pub is : IsRecord size s
  pub modify_faults : s.modify_faults ≡ faults

is_record : (size : ℕ) (modify_faults : Bool) (a : Registers) (b : Bases) (l : Levels) (clock : ClockState) (console : ConsoleState) (q : Queue) (e : End) → AreRegisters a → AreBases b → AreLevels l → IsClock (parts_of_clock clock) → IsConsoleOf console → IsQueue size q → IsHalt e.halt → IsRecordOf size modify_faults (made_of modify_faults a b l clock console q e)
is_record size modify_faults a b l clock console q e k0 k1 k2 k3 k4 k5 k6 = record {
  is = record {
    sound = record { sixteen = k0.sixteen; five = k0.five; clock = k3; console = k4.is; few_bytes = k4.few };
    allowed = record {
      p0br = start_or b.p0br k1.p0br;
      p0lr = k1.p0lr;
      p1br = k1.p1br;
      p1lr = k1.p1lr;
      sbr = k1.sbr;
      slr = k1.slr;
      pcbb = k1.pcbb;
      scbb = k1.scbb;
      astlvl = k2.astlvl;
      sisr = k2.sisr;
      psl = not-true (has_must_be_zero_bit a.psl) k0.psl;
      packets = k5.each;
      few = k5.few;
    };
    halt = k6;
  };
  modify_faults = refl;
}

pub gives_record : (size : ℕ) (modify_faults : Bool) → Gives (record_in size modify_faults) (By guest_record_bytes (IsRecordOf size modify_faults))
unfolding record_in guest_record_bytes
gives_record size modify_faults =
    gives_next registers_in _ registers_written AreRegisters _ gives_registers (λ a k0.
    gives_next bases_in _ bases_written AreBases _ gives_bases (λ b k1.
    gives_next levels_in _ levels_written AreLevels _ gives_levels (λ l k2.
    gives_next clock_in _ clock_bytes (λ c. IsClock (parts_of_clock c)) _ gives_clock (λ clock k3.
    gives_next console_reading _ console_bytes IsConsoleOf _ gives_console (λ console k4.
    gives_next (queue_in size) _ queue_written (IsQueue size) _ (gives_queue size) (λ q k5.
    gives_last end_in _ end_written (λ e. IsHalt e.halt) _ gives_end (λ e k6.
    (refl, is_record size modify_faults a b l clock console q e k0 k1 k2 k3 k4 k5 k6))))))))
