-- Worked examples of the draws and of what is made of them, checked by computation. The values were computed apart.
use Rattle.std.specs.List.{range_with_len}
use Rattle.std.specs.Prelude.{◌≡◌, ℕ, ◌+◌, ◌%◌, List, [], ◌∷◌, codes, drop, map, take, refl}
use Rattle.sys_script.specs.declared.event.Event.{Event}
use Rattle.sys_script.specs.declared.event.Typed.{Typed}
use Rattle.sys_script.specs.declared.event.Typed.TheVariants.{Break, Line}
use Rattle.vv_gen.specs.Config.{generated_class, generated_config, generated_guest, with_digit}
use Rattle.vv_gen.specs.Draws.{after_draws, draw, draws_after}
use Rattle.vv_gen.specs.Events.{event_of, events_drawn}
use Rattle.vv_gen.specs.Image.{image_of}
use Rattle.vv_gen.specs.Workload.{workload_of}

draws_of_0 : map (draw 0) (range_with_len 0 4) ≡ 15470 ∷ 18256 ∷ 53708 ∷ 43769 ∷ []
unfolding draw after_draws
draws_of_0 = refl

draws_of_7 : map (draw 7) (range_with_len 0 4) ≡ 15648 ∷ 59866 ∷ 40140 ∷ 60750 ∷ []
unfolding draw after_draws
draws_of_7 = refl

slice_of_0 : 1 + draw 0 0 % 1000 ≡ 471
unfolding draw after_draws
slice_of_0 = refl

slice_of_7 : (workload_of 7).config.slice ≡ 649
unfolding workload_of generated_config draw after_draws
slice_of_7 = refl

periods_of_7 : map (λ g. 600 + draws_after 1 7 g % 1000) (range_with_len 0 8) ≡
    1466 ∷ 740 ∷ 1350 ∷ 833 ∷ 684 ∷ 1257 ∷ 1080 ∷ 1107 ∷ []
unfolding draw after_draws
periods_of_7 = refl

-- the interval -1466, by its lower half
period_in_an_image : take 6 (drop 0x79 (image_of 1466)) ≡ 0xda ∷ 0x8f ∷ 0x46 ∷ 0xfa ∷ 0xff ∷ 0xff ∷ []
unfolding image_of
period_in_an_image = refl

bytes_of_7 : map (λ i. draws_after 9 7 i % 256) (range_with_len 0 8) ≡ 227 ∷ 9 ∷ 0 ∷ 172 ∷ 63 ∷ 227 ∷ 4 ∷ 161 ∷ []
unfolding draw after_draws
bytes_of_7 = refl

last_byte_of_7 : draws_after 9 7 4095 % 256 ≡ 198
unfolding draw after_draws
last_byte_of_7 = refl

abbrev event : ℕ → ℕ → Typed → Event
event round k what = record { round = round; terminal = with_digit (codes "T") k; what = what }

first_event_of_7 : event_of 1 (draws_after 4105 7) ≡ event 1 7 (Line (codes "SHOW"))
unfolding draw after_draws
first_event_of_7 = refl

abbrev twenty_events : List Event
twenty_events =
    event 1 7 (Line (codes "SHOW"))
    ∷ event 2 3 Break
    ∷ event 3 4 (Line (codes "HELLO"))
    ∷ event 4 0 (Line (codes "MOUNT G0 2 V0 READ"))
    ∷ event 5 5 Break
    ∷ event 6 3 Break
    ∷ event 7 3 (Line (codes "HELLO"))
    ∷ event 8 5 (Line (codes "SHOW"))
    ∷ event 9 5 Break
    ∷ event 10 3 (Line (codes "HELLO"))
    ∷ event 11 5 (Line (codes "SHOW"))
    ∷ event 12 6 (Line (codes "SHOW"))
    ∷ event 13 3 (Line (codes "SHOW"))
    ∷ event 14 5 Break
    ∷ event 15 0 (Line (codes "SHOW"))
    ∷ event 16 5 (Line (codes "HELLO"))
    ∷ event 17 5 Break
    ∷ event 18 4 Break
    ∷ event 19 5 (Line (codes "HELLO"))
    ∷ event 20 1 (Line (codes "HELLO")) ∷ []

events_of_7 : events_drawn (draws_after 4105 7) ≡ twenty_events
unfolding events_drawn draw after_draws
events_of_7 = refl

-- level 1 and category 2
class_of_5 : generated_class 5 ≡ record { secrecy = 1; secrecy_cats = 4; integrity = 0; integrity_cats = 0 }
class_of_5 = refl

name_of_an_image : (generated_guest 5).image ≡ codes "IMAGE5"
name_of_an_image = refl
