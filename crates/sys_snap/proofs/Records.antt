-- A guest's record is read as what it was written of.
use Rattle.std.proofs.Common.{ℕ, ◌≡◌, ◌<◌, ◌-◌, ◌*◌, ◌==◌, nat_le, [], ◌∷◌, ◌++◌, length, replicate, refl, subst, Bool, true, false, inl, inr}
use Rattle.std.specs.Prelude.{IsTrue}
use Rattle.std.proofs.lemmas.Bool.{false≢true, le-leb, lt-ltb, or_right}
use Rattle.vv_base.specs.Bits.{is_set}
use Rattle.vv_base.specs.Bytes.{long_bytes, word_bytes}
use Rattle.sys_snap.proofs.Fields.{ReadsAs, reads_flag, reads_four, reads_halt, reads_last, reads_longs, reads_one, reads_packets, reads_then, reads_two, reads_waiting}
use Rattle.sys_snap.specs.Conditions.{any, is_iccs, is_p0br, is_psl, needs}
use Rattle.sys_snap.specs.Reader.{bases_in, clock_in, console_reading, either, end_in, halt_in, is_count, levels_in, longs_in, packets_in, queue_in, record_in, registers_in, waiting_in}
use Rattle.sys_snap.specs.Reading.{field, flag, four, one, two}
use Rattle.sys_snap.specs.Snap.{IsRecord}
use Rattle.sys_snap.specs.Written.{base_bytes, clock_bytes, console_bytes, end_bytes, flag_byte, guest_record_bytes, level_bytes, longs, place_byte, queue_bytes, register_bytes}
use Rattle.vm_clock.specs.Clock.{ClockState, iccs_of}
use Rattle.vm_clock.specs.Parts.{clock_of_parts, parts_of_clock}
use Rattle.vm_state.specs.Registers.{allows}
use Rattle.vm_state.specs.State.{State}
use Rattle.vm_state.specs.declared.register.Register.TheVariants.{Astlvl, P0lr, P1br, P1lr, Pcbb, Sbr, Scbb, Sisr, Slr}

-- a clock's parts give it back
clock_by : (run enable interrupt error : Bool) (nicr icr : ℕ) (request : Bool) → clock_of_parts (parts_of_clock (record { run = run; enable = enable; interrupt = interrupt; error = error; nicr = nicr; icr = icr; request = request })) ≡ record { run = run; enable = enable; interrupt = interrupt; error = error; nicr = nicr; icr = icr; request = request }
clock_by true true true true nicr icr request = refl
clock_by true true true false nicr icr request = refl
clock_by true true false true nicr icr request = refl
clock_by true true false false nicr icr request = refl
clock_by true false true true nicr icr request = refl
clock_by true false true false nicr icr request = refl
clock_by true false false true nicr icr request = refl
clock_by true false false false nicr icr request = refl
clock_by false true true true nicr icr request = refl
clock_by false true true false nicr icr request = refl
clock_by false true false true nicr icr request = refl
clock_by false true false false nicr icr request = refl
clock_by false false true true nicr icr request = refl
clock_by false false true false nicr icr request = refl
clock_by false false false true nicr icr request = refl
clock_by false false false false nicr icr request = refl

clock_back : (c : ClockState) → clock_of_parts (parts_of_clock c) ≡ c
clock_back c = clock_by c.run c.enable c.interrupt c.error c.nicr c.icr c.request

needed : (request enable : Bool) → (IsTrue request → IsTrue enable) → needs enable request ≡ true
needed false enable h = refl
needed true true h = refl
needed true false h = absurd (false≢true (h refl))

module _ (size : ℕ) (s : State) (is : IsRecord size s) where
  psl_passes : is_psl s.psl ≡ true
  psl_passes = rw is.allowed.psl refl

  pub reads_registers : ReadsAs registers_in (register_bytes s) (record { r = s.r; psl = s.psl; stacks = s.stacks })
  reads_registers =
      reads_then (longs_in 16) _ (longs s.r) _ s.r _ (reads_longs 16 s.r is.sound.sixteen)
      (reads_then (four is_psl) _ (long_bytes s.psl) _ s.psl _ (reads_four is_psl s.psl psl_passes)
      (reads_last (longs_in 5) _ (longs s.stacks) s.stacks (reads_longs 5 s.stacks is.sound.five)))

  p0br_passes : is_p0br s.tables.p0br ≡ true
  p0br_passes = elim is.allowed.p0br [ inl zero_ ↦ rw zero_ refl | inr allowed ↦ rw allowed (or_right (s.tables.p0br == 0) true refl) ]

  pub reads_bases : ReadsAs bases_in (base_bytes s) (record { p0br = s.tables.p0br; p0lr = s.tables.p0lr; p1br = s.tables.p1br; p1lr = s.tables.p1lr; sbr = s.tables.sbr; slr = s.tables.slr; pcbb = s.pcbb; scbb = s.scbb })
  reads_bases =
      reads_then (four is_p0br) _ (long_bytes s.tables.p0br) _ s.tables.p0br _ (reads_four is_p0br s.tables.p0br p0br_passes)
      (reads_then (four (allows P0lr)) _ (long_bytes s.tables.p0lr) _ s.tables.p0lr _ (reads_four (allows P0lr) s.tables.p0lr is.allowed.p0lr)
      (reads_then (four (allows P1br)) _ (long_bytes s.tables.p1br) _ s.tables.p1br _ (reads_four (allows P1br) s.tables.p1br is.allowed.p1br)
      (reads_then (four (allows P1lr)) _ (long_bytes s.tables.p1lr) _ s.tables.p1lr _ (reads_four (allows P1lr) s.tables.p1lr is.allowed.p1lr)
      (reads_then (four (allows Sbr)) _ (long_bytes s.tables.sbr) _ s.tables.sbr _ (reads_four (allows Sbr) s.tables.sbr is.allowed.sbr)
      (reads_then (four (allows Slr)) _ (long_bytes s.tables.slr) _ s.tables.slr _ (reads_four (allows Slr) s.tables.slr is.allowed.slr)
      (reads_then (four (allows Pcbb)) _ (long_bytes s.pcbb) _ s.pcbb _ (reads_four (allows Pcbb) s.pcbb is.allowed.pcbb)
      (reads_last (four (allows Scbb)) _ (long_bytes s.scbb) s.scbb (reads_four (allows Scbb) s.scbb is.allowed.scbb))))))))

  pub reads_levels : ReadsAs levels_in (level_bytes s) (record { astlvl = s.astlvl; sisr = s.sisr; mapped = s.tables.mapped })
  reads_levels =
      reads_then (one (allows Astlvl)) _ (s.astlvl ∷ []) _ s.astlvl _ (reads_one (allows Astlvl) s.astlvl is.allowed.astlvl)
      (reads_then (two (allows Sisr)) _ (word_bytes s.sisr) _ s.sisr _ (reads_two (allows Sisr) s.sisr is.allowed.sisr)
      (reads_last (flag either) _ (flag_byte s.tables.mapped) s.tables.mapped (reads_flag either s.tables.mapped refl)))

  request_passes : needs (is_set (iccs_of s.clock) 6) s.clock.request ≡ true
  request_passes = needed s.clock.request (is_set (iccs_of s.clock) 6) is.sound.clock.enabled

  iccs_passes : is_iccs (iccs_of s.clock) ≡ true
  iccs_passes = rw is.sound.clock.low_clear (rw is.sound.clock.high_clear refl)

  pub reads_clock : ReadsAs clock_in (clock_bytes s.clock) (clock_of_parts (parts_of_clock s.clock))
  reads_clock =
      reads_then (four is_iccs) _ (long_bytes (iccs_of s.clock)) _ (iccs_of s.clock) _ (reads_four is_iccs (iccs_of s.clock) iccs_passes)
      (reads_then (four any) _ (long_bytes s.clock.nicr) _ s.clock.nicr _ (reads_four any s.clock.nicr refl)
      (reads_then (four any) _ (long_bytes s.clock.icr) _ s.clock.icr _ (reads_four any s.clock.icr refl)
      (reads_last (flag (needs (is_set (iccs_of s.clock) 6))) _ (flag_byte s.clock.request) s.clock.request (reads_flag (needs (is_set (iccs_of s.clock) 6)) s.clock.request request_passes))))

  count_passes : (request : Bool) → (IsTrue request → 0 < length s.console.waiting) → is_count request (length s.console.waiting) ≡ true
  count_passes false h = rw (le-leb (length s.console.waiting) 256 is.sound.few_bytes) refl
  count_passes true h = rw (le-leb (length s.console.waiting) 256 is.sound.few_bytes) (lt-ltb 0 (length s.console.waiting) (h refl))

  pub reads_console : ReadsAs console_reading (console_bytes s.console) s.console
  reads_console =
      reads_then (flag either) _ (flag_byte s.console.rx_enable) _ s.console.rx_enable _ (reads_flag either s.console.rx_enable refl)
      (reads_then (flag either) _ (flag_byte s.console.tx_enable) _ s.console.tx_enable _ (reads_flag either s.console.tx_enable refl)
      (reads_then (flag (needs s.console.rx_enable)) _ (flag_byte s.console.rx_request) _ s.console.rx_request _ (reads_flag (needs s.console.rx_enable) s.console.rx_request (needed s.console.rx_request s.console.rx_enable is.sound.console.rx_enabled))
      (reads_then (flag (needs s.console.tx_enable)) _ (flag_byte s.console.tx_request) _ s.console.tx_request _ (reads_flag (needs s.console.tx_enable) s.console.tx_request (needed s.console.tx_request s.console.tx_enable is.sound.console.tx_enabled))
      (reads_then (two (is_count s.console.rx_request)) _ (word_bytes (length s.console.waiting)) _ (length s.console.waiting) _ (reads_two (is_count s.console.rx_request) (length s.console.waiting) (count_passes s.console.rx_request is.sound.console.rx_waiting))
      (reads_last (field 256 (waiting_in (length s.console.waiting))) _ (s.console.waiting ++ replicate (256 - length s.console.waiting) 0) s.console.waiting (reads_waiting s.console.waiting is.sound.few_bytes))))))

  pub reads_queue : ReadsAs (queue_in size) (queue_bytes s) (record { due = s.kcall_due; packets = s.queue })
  reads_queue =
      reads_then (flag either) _ (flag_byte s.kcall_due) _ s.kcall_due _ (reads_flag either s.kcall_due refl)
      (reads_then (one (λ n. nat_le n 8)) _ (length s.queue ∷ []) _ (length s.queue) _ (reads_one (λ n. nat_le n 8) (length s.queue) (le-leb (length s.queue) 8 is.allowed.few))
      (reads_last (packets_in size (length s.queue) 8) _ (longs s.queue ++ replicate (4 * (8 - length s.queue)) 0) s.queue (reads_packets size 8 s.queue is.allowed.few is.allowed.packets)))

  pub reads_end : ReadsAs end_in (end_bytes s) (record { waiting = s.waiting; halt = s.halt; steps = s.steps })
  reads_end =
      reads_then (flag either) _ (flag_byte s.waiting) _ s.waiting _ (reads_flag either s.waiting refl)
      (reads_then (field 1 halt_in) _ (place_byte s.halt ∷ []) _ s.halt _ (reads_halt s.halt is.halt)
      (reads_last (four any) _ (long_bytes s.steps) s.steps (reads_four any s.steps refl)))

  -- a record
  pub reads_record : ReadsAs (record_in size s.modify_faults) (guest_record_bytes s) s
  unfolding record_in guest_record_bytes
  reads_record =
      reads_then registers_in _ (register_bytes s) _ _ _ reads_registers
      (reads_then bases_in _ (base_bytes s) _ _ _ reads_bases
      (reads_then levels_in _ (level_bytes s) _ _ _ reads_levels
      (reads_then clock_in _ (clock_bytes s.clock) _ s.clock _ (subst (λ c. ReadsAs clock_in (clock_bytes s.clock) c) (clock_back s.clock) reads_clock)
      (reads_then console_reading _ (console_bytes s.console) _ s.console _ reads_console
      (reads_then (queue_in size) _ (queue_bytes s) _ _ _ reads_queue
      (reads_last end_in _ (end_bytes s) _ reads_end))))))
