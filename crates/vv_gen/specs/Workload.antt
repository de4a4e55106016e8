-- The workload of a number. It takes 4,145 draws: 1 for the slice, 8 for the periods, 4,096 for the bytes of the shared
-- volume and 40 for the events, in this order.
use Rattle.std.specs.Prelude.{ℕ, ◌+◌, ◌%◌, List, map}
use Rattle.sys_objects.specs.declared.records.Config.{Config}
use Rattle.sys_script.specs.declared.event.Event.{Event}
use Rattle.vv_gen.specs.Config.{generated_config}
use Rattle.vv_gen.specs.Draws.{draw, draws_after}
use Rattle.vv_gen.specs.Events.{events_drawn}
use Rattle.vv_gen.specs.Image.{images_of}
use Rattle.vv_gen.specs.Volumes.{volumes_of}
use Rattle.vv_gen.specs.declared.load.Workload.{Workload}

-- a workload, with plain lists
pub record Generated : Type 0 where
  pub config : Config
  pub images : List (List ℕ)
  pub volumes : List (List (List ℕ))
  pub events : List Event
  pub rounds : ℕ

abbrev pub generated : Workload → Generated
generated w = record {
  config = w.config;
  images = map (λ b. b.items) w.images.items;
  volumes = map (λ blocks. blocks.items) w.volumes.items;
  events = w.events.items;
  rounds = w.rounds;
}

unfoldable pub workload_of : ℕ → Generated
workload_of number = record {
  config = generated_config (1 + draw number 0 % 1000);
  images = images_of (draws_after 1 number);
  volumes = volumes_of (draws_after 9 number);
  events = events_drawn (draws_after 4105 number);
  rounds = 20;
}
