-- What holds of the events, whatever is drawn.
use Rattle.std.proofs.Common.{◌≡◌, ℕ, zero, suc, Bool, true, false, ◌+◌, ◌*◌, ◌%◌, ◌<◌, ◌≤◌, ◌==◌, codes, map, if◌then◌else◌, refl, arith}
use Rattle.std.specs.List.{range_with_len}
use Rattle.std.proofs.lemmas.List.Elements.{All-map}
use Rattle.vv_base.specs.Names.{is_object_name}
use Rattle.sys_script.specs.Events.{AreEvents, IsEvent, NeverFalls}
use Rattle.sys_script.specs.EventLine.{is_allowed}
use Rattle.sys_script.specs.Texts.{is_text}
use Rattle.sys_script.specs.declared.event.Event.{Event}
use Rattle.sys_script.specs.declared.event.Typed.TheVariants.{Break, Line}
use Rattle.vv_gen.specs.Config.{with_digit}
use Rattle.vv_gen.specs.Events.{event_of, events_drawn, mount_text, typed_of}
use Rattle.vv_gen.proofs.Ranges.{each_below, passed}

terminal_named : (k : ℕ) → k < 8 → is_object_name (with_digit (codes "T") k) ≡ true
terminal_named k below = passed (λ k. is_object_name (with_digit (codes "T") k)) 8 refl k below

pub mount_is_text : (k : ℕ) → k < 8 → is_text (mount_text k) ≡ true
mount_is_text k below = passed (λ k. is_text (mount_text k)) 8 refl k below

typed_allowed : (k which : ℕ) → k < 8 → is_allowed (typed_of k which) ≡ true
typed_allowed k which below = by_tests (which == 0) (which == 1) (which == 2)
  where
    by_tests : (a b c : Bool) → is_allowed (if a then Break else (if b then Line (codes "SHOW") else (if c then Line (mount_text k) else Line (codes "HELLO")))) ≡ true
    by_tests true b c = refl
    by_tests false true c = refl
    by_tests false false true = mount_is_text k below
    by_tests false false false = refl

event_is : (draws : ℕ → ℕ) (before : ℕ) → before < 20 → IsEvent (event_of (before + 1) draws)
event_is draws before below =
    let digit : draws 0 % 8 < 8 = omega arith in
    record {
      from = omega arith;
      to = omega arith;
      terminal = terminal_named (draws 0 % 8) digit;
      what = typed_allowed (draws 0 % 8) (draws 1 % 4) digit;
    }

rising : (draws : ℕ → ℕ → ℕ) (a n last : ℕ) → last ≤ a + 1 → NeverFalls last (map (λ before. event_of (before + 1) (draws before)) (range_with_len a n))
rising draws a zero last low = tt
rising draws a (suc n) last low = (low, rising draws (a + 1) n (a + 1) (omega arith))

pub are_events : (draws : ℕ → ℕ) → AreEvents (events_drawn draws)
unfolding events_drawn
are_events draws =
    let of : ℕ → ℕ → ℕ = λ before k. draws (2 * before + k) in
    let event : ℕ → Event = λ before. event_of (before + 1) (of before) in
    record {
      each = All-map IsEvent event (range_with_len 0 20) (each_below (λ before. IsEvent (event before)) 20 (λ before below. event_is (of before) before below));
      order = rising of 0 20 0 (omega arith);
    }
