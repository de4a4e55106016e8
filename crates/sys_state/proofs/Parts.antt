-- Rounds that are made in two parts.
use Rattle.std.proofs.Common.{ℕ, zero, suc, ◌≡◌, ◌<◌, ◌+◌, ◌^◌, List, ◌++◌, refl, sym, ◌∙◌, ap, arith, append_assoc}
use Rattle.sys_objects.specs.declared.records.Config.{Config}
use Rattle.sys_state.proofs.Consoles.{bytes_append}
use Rattle.sys_state.proofs.Steps.{as_sum}
use Rattle.sys_state.specs.Bytes.{blocks_at, dump_on, is_on_drive, shown_from}
use Rattle.sys_state.specs.Counts.{added, round_tally, rounds_tally}
use Rattle.sys_state.specs.Events.{events}
use Rattle.sys_state.specs.Places.{place_of}
use Rattle.sys_state.specs.Run.{Moment, events_of, moment_after, round, rounds, rounds_from}
use Rattle.sys_state.specs.State.{SystemState, Went, bytes_on}
use Rattle.sys_script.specs.declared.event.Event.{Event}
use Rattle.sys_state.proofs.Additions.{added_either, added_twice}
use Rattle.sys_state.specs.Parts.{CutsAnywhere, IsBoth}
use Rattle.vm_state.specs.Run.{Tally, no_steps}

-- one after another
abbrev joined : Went SystemState → Went SystemState → Went SystemState
joined a b = record { now = b.now; puts = a.puts ++ b.puts }

pub rounds_then : (c : Config) (a i j : ℕ) (es : List Event) (s : SystemState) → rounds c a (i + j) es s ≡ joined (rounds c a i es s) (rounds c (a + i) j es (rounds c a i es s).now)
rounds_then c a zero j es s =
    let all : zero + j ≡ j = omega arith in
    let same : a + zero ≡ a = omega arith in
    rw all (rw same refl)
rounds_then c a (suc i) j es s =
    let all : suc i + j ≡ suc (i + j) = omega arith in
    let same : suc a + i ≡ a + suc i = omega arith in
    let first = round c a es s in
    let rest = rounds c (suc a) i es first.now in
    let last : ℕ → Went SystemState = λ k. rounds c k j es rest.now in
    ap (λ k. rounds c a k es s) all
    ∙ ap (joined first) (rounds_then c (suc a) i j es first.now)
    ∙ (λ k. record { now = (last (suc a + i)).now; puts = sym (append_assoc first.puts rest.puts (last (suc a + i)).puts) k })
    ∙ ap (λ k. joined (joined first rest) (last k)) same

-- the trail of the rounds is a number of 64 bits
rounds_fit : (c : Config) (a n : ℕ) (es : List Event) (s : SystemState) → (rounds_tally c a n es s).trail < 2 ^ 64
rounds_fit c a zero es s = omega arith
rounds_fit c a (suc n) es s = omega arith

tally_then : (c : Config) (a i j : ℕ) (es : List Event) (s : SystemState) → rounds_tally c a (i + j) es s ≡ added (rounds_tally c a i es s) (rounds_tally c (a + i) j es (rounds c a i es s).now)
tally_then c a zero j es s =
    let all : zero + j ≡ j = omega arith in
    let same : a + zero ≡ a = omega arith in
    let t = rounds_tally c a j es s in
    ap (λ k. rounds_tally c a k es s) all ∙ as_sum t (rounds_fit c a j es s) ∙ added_either t ∙ ap (λ k. added no_steps (rounds_tally c k j es s)) (sym same)
tally_then c a (suc i) j es s =
    let all : suc i + j ≡ suc (i + j) = omega arith in
    let same : suc a + i ≡ a + suc i = omega arith in
    let first = round_tally c.guests (events c a s (events_of a es)).now.guests in
    let now = (round c a es s).now in
    let rest = rounds_tally c (suc a) i es now in
    let last : ℕ → Tally = λ k. rounds_tally c k j es (rounds c (suc a) i es now).now in
    ap (λ k. rounds_tally c a k es s) all
    ∙ ap (added first) (tally_then c (suc a) i j es now)
    ∙ sym (added_twice first rest (last (suc a + i)))
    ∙ ap (λ k. added (added first rest) (last k)) same

module _ (m : Moment) (es : List Event) (i j : ℕ) where
  abbrev first : Went SystemState
  first = rounds_from m es i

  place : (m.made + i) + 1 ≡ (m.made + 1) + i
  place = omega arith

  -- the rounds of both parts
  all : rounds_from m es (i + j) ≡ joined first (rounds_from (moment_after m es i) es j)
  all =
      rounds_then m.config (m.made + 1) i j es m.state
      ∙ ap (λ k. joined first (rounds m.config k j es first.now)) (sym place)

  lines : (line : ℕ) → shown_from m es i line ++ (shown_from (moment_after m es i) es j line ++ dump_on line m.config.guests (rounds_from (moment_after m es i) es j).now.guests)
      ≡ shown_from m es (i + j) line ++ dump_on line m.config.guests (rounds_from m es (i + j)).now.guests
  lines line =
      let second = rounds_from (moment_after m es i) es j in
      let dump = dump_on line m.config.guests second.now.guests in
      sym (append_assoc (bytes_on line first.puts) (bytes_on line second.puts) dump)
      ∙ ap (λ bytes. bytes ++ dump) (sym (bytes_append line first.puts second.puts))
      ∙ ap (λ (w : Went SystemState). bytes_on line w.puts ++ dump_on line m.config.guests w.now.guests) (sym all)

  pub both_parts : IsBoth m es i j
  both_parts = record {
    lines = lines;
    drives = λ drive. ap (λ (w : Went SystemState). blocks_at w.now.volumes (place_of (is_on_drive drive) m.config.volumes)) (sym all);
    counts = ap (λ k. added (rounds_tally m.config (m.made + 1) i es m.state) (rounds_tally m.config k j es first.now)) place ∙ sym (tally_then m.config (m.made + 1) i j es m.state);
    last =
        let made : (m.made + i) + j ≡ m.made + (i + j) = omega arith in
        λ k. record { config = m.config; made = made k; state = (sym all k).now };
  }

pub cut_anywhere : CutsAnywhere
cut_anywhere m es i j = both_parts m es i j
