use Rattle.std.proofs.Common.{◌≡◌, ◌∙◌, ◌<◌, length, map, slice_index_or, sym, ap, subst, arith}
use Rattle.std.specs.List.{sum_by}
use Rattle.sys_guests.proofs.LaidOut.{placed_long}
use Rattle.sys_guests.specs.declared.turns.TimeSlice.{TimeSlice}
use Rattle.sys_objects.specs.Condition.{IsConfig}
use Rattle.sys_objects.specs.declared.records.Config.{Config}
use Rattle.sys_objects.specs.declared.records.GuestRow.{GuestRow}
use Rattle.sys_state.specs.Slices.{AreQuanta}
use Rattle.sys_system.proofs.Playing.{all_played, all_taken, plays_next, plays_none, slice_can}
use Rattle.sys_system.proofs.Rounding.{round_made}
use Rattle.sys_system.proofs.Slicing.{same_default}
use Rattle.sys_system.specs.System.{System, all_turns, slice_of_time}
use Rattle.sys_system.proofs.system.System.take_slices.Goals as goal

pub loop-one-init : goal.loop-one-init
loop-one-init g c =
    let b = c.begin_round.ensures.begins in
    record { plays = plays_none _ _ _ c.begin_round.ensures.holds b.goes.stands (ap (λ (s : System). s.turns.is_begun) b.system); holds = c.begin_round.ensures.holds }

pub slice-requires-clause-can : goal.slice-requires-clause-can
slice-requires-clause-can g c =
    let none : TimeSlice = record { guest = 0; steps = 0 } in
    let i = c.loop-one.one-index in
    let slice = slice_index_or c.args.slices.now i none in
    let read : slice ≡ slice_index_or c.args.slices.now i slice = same_default c.args.slices.now i none slice (omega arith) in
    let b = c.begin_round.ensures.begins in
    let s1 = c.begin_round.new.self in
    let config : s1.config ≡ c.args.self.now.config = ap (λ (s : System). s.config) b.system in
    let first : s1.turns ≡ all_turns s1.config.guests = ap (λ (s : System). s.turns) b.system ∙ ap (λ (y : Config). all_turns y.guests) (sym config) in
    let quanta : AreQuanta (map slice_of_time c.args.slices.now) 0 s1.config.guests = subst (λ (y : Config). AreQuanta (map slice_of_time c.args.slices.now) 0 y.guests) (sym config) c.requires.quanta in
    let rows = c.args.self.now.config.guests in
    let long : length c.args.self.now.guests ≡ length rows = placed_long 0 (sum_by (λ (row : GuestRow). row.pages) rows) rows c.args.self.now.guests c.requires.stands.laid_out in
    let same : length s1.config.guests ≡ length rows = ap (λ (y : Config). length y.guests) config in
    let there : slice.guest < length s1.guests = omega (arith, c.requires.there i none (omega arith), long, same, c.begin_round.ensures.holds.many) in
    let can = slice_can c.args.slices.now i slice _ _ s1 c.loop-one.self _ _ c.begin_round.ensures.holds c.loop-one.invariant.holds first quanta (omega arith) read there c.loop-one.invariant.plays in
    can

pub slice-requires-clause-stands : goal.slice-requires-clause-stands
slice-requires-clause-stands g c = c.loop-one.invariant.plays.stands

pub loop-one-preserved : goal.loop-one-preserved
loop-one-preserved g c =
    let none : TimeSlice = record { guest = 0; steps = 0 } in
    let i = c.loop-one.one-index in
    let slice = slice_index_or c.args.slices.now i none in
    let read : slice ≡ slice_index_or c.args.slices.now i slice = same_default c.args.slices.now i none slice (omega arith) in
    let b = c.begin_round.ensures.begins in
    let s1 = c.begin_round.new.self in
    let config : s1.config ≡ c.args.self.now.config = ap (λ (s : System). s.config) b.system in
    let first : s1.turns ≡ all_turns s1.config.guests = ap (λ (s : System). s.turns) b.system ∙ ap (λ (y : Config). all_turns y.guests) (sym config) in
    let quanta : AreQuanta (map slice_of_time c.args.slices.now) 0 s1.config.guests = subst (λ (y : Config). AreQuanta (map slice_of_time c.args.slices.now) 0 y.guests) (sym config) c.requires.quanta in
    let rows = c.args.self.now.config.guests in
    let long : length c.args.self.now.guests ≡ length rows = placed_long 0 (sum_by (λ (row : GuestRow). row.pages) rows) rows c.args.self.now.guests c.requires.stands.laid_out in
    let same : length s1.config.guests ≡ length rows = ap (λ (y : Config). length y.guests) config in
    let there : slice.guest < length s1.guests = omega (arith, c.requires.there i none (omega arith), long, same, c.begin_round.ensures.holds.many) in
    let can = slice_can c.args.slices.now i slice _ _ s1 c.loop-one.self _ _ c.begin_round.ensures.holds c.loop-one.invariant.holds first quanta (omega arith) read there c.loop-one.invariant.plays in
    record { plays = plays_next c.args.slices.now i slice _ _ _ _ _ _ _ _ _ (omega arith) read c.loop-one.invariant.plays can c.slice.ensures.takes c.slice.ensures.pays; holds = c.slice.ensures.holds }

pub end_round-requires-clause-none : goal.end_round-requires-clause-none
end_round-requires-clause-none g c =
    let b = c.begin_round.ensures.begins in
    let s1 = c.begin_round.new.self in
    let config : s1.config ≡ c.args.self.now.config = ap (λ (s : System). s.config) b.system in
    let first : s1.turns ≡ all_turns s1.config.guests = ap (λ (s : System). s.turns) b.system ∙ ap (λ (y : Config). all_turns y.guests) (sym config) in
    let quanta : AreQuanta (map slice_of_time c.args.slices.now) 0 s1.config.guests = subst (λ (y : Config). AreQuanta (map slice_of_time c.args.slices.now) 0 y.guests) (sym config) c.requires.quanta in
    let plays = all_played c.args.slices.now c.loop-one.one-index _ _ _ _ _ _ c.loop-one-test.false c.loop-one.invariant.plays in
    let none_left = all_taken (map slice_of_time c.args.slices.now) _ _ s1 c.loop-one.self _ _ first quanta plays in
    none_left

pub end_round-requires-clause-stands : goal.end_round-requires-clause-stands
end_round-requires-clause-stands g c = c.loop-one.invariant.plays.stands

pub returns-clause-makes : goal.returns-clause-makes
returns-clause-makes g c =
    let b = c.begin_round.ensures.begins in
    let s1 = c.begin_round.new.self in
    let config : s1.config ≡ c.args.self.now.config = ap (λ (s : System). s.config) b.system in
    let first : s1.turns ≡ all_turns s1.config.guests = ap (λ (s : System). s.turns) b.system ∙ ap (λ (y : Config). all_turns y.guests) (sym config) in
    let quanta : AreQuanta (map slice_of_time c.args.slices.now) 0 s1.config.guests = subst (λ (y : Config). AreQuanta (map slice_of_time c.args.slices.now) 0 y.guests) (sym config) c.requires.quanta in
    let plays = all_played c.args.slices.now c.loop-one.one-index _ _ _ _ _ _ c.loop-one-test.false c.loop-one.invariant.plays in
    let none_left = all_taken (map slice_of_time c.args.slices.now) _ _ s1 c.loop-one.self _ _ first quanta plays in
    let accepted = subst (λ (y : Config). IsConfig y) config c.begin_round.ensures.holds.accepted in
    round_made c.args.events.now (map slice_of_time c.args.slices.now) _ _ _ _ _ _ _ _ _ _ _ _ accepted c.requires.stands c.requires.events b plays none_left c.end_round.ensures.ends c.begin_round.ensures.present c.loop-one.invariant.holds.units c.end_round.ensures.present
