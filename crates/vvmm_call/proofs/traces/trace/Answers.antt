use Rattle.std.proofs.Common.{Err, Ok, inr}
use Rattle.sys_state.specs.Guests.{powered}
use Rattle.sys_runs.proofs.Stored.{touches_no_drive}
use Rattle.sys_trace.specs.Trace.{trace_of}
use Rattle.vvmm_call.proofs.Separate.{solo_drives}
use Rattle.vvmm_call.proofs.Tracing.{down_solo, few_traced, has_one, lent_one, made_solo, no_volume, one_guest, one_lent}
use Rattle.vvmm_files.specs.Solo.{solo_guest}
use Rattle.vvmm_files.specs.Words.{SoloWords}
use Rattle.vvmm_call.proofs.traces.trace.Goals as goal

pub trace-traced-requires-clause-one : goal.trace-traced-requires-clause-one
trace-traced-requires-clause-one g c =
    let a : SoloWords = record { image = c.args.order.image; steps = c.args.order.steps } in
    let (image, read, shelf, config, events, images) = c.in-Ok.ensures.fetches in
    one_guest a _ config

pub trace-traced-requires-clause-volumes : goal.trace-traced-requires-clause-volumes
trace-traced-requires-clause-volumes g c =
    let a : SoloWords = record { image = c.args.order.image; steps = c.args.order.steps } in
    let (image, read, shelf, config, events, images) = c.in-Ok.ensures.fetches in
    no_volume a _ config

pub trace-traced-requires-clause-images : goal.trace-traced-requires-clause-images
trace-traced-requires-clause-images g c =
    let (image, read, shelf, config, events, images) = c.in-Ok.ensures.fetches in
    one_lent _ _ image c.as_slice.ensures.value images

pub close_trace-requires : goal.close_trace-requires
close_trace-requires g c =
    let a : SoloWords = record { image = c.args.order.image; steps = c.args.order.steps } in
    let (image, read, shelf, config, events, images) = c.in-Ok.ensures.fetches in
    let traces = c.in-Ok-traced.ensures.traces (solo_guest a) image (has_one a _ config) (lent_one _ _ image c.as_slice.ensures.value images) in
    few_traced _ image _ _ traces.makes

pub returns-in-Ok-traced : goal.returns-in-Ok-traced
returns-in-Ok-traced g c =
    let a : SoloWords = record { image = c.args.order.image; steps = c.args.order.steps } in
    let (image, read, shelf, config, events, images) = c.in-Ok.ensures.fetches in
    let traces = c.in-Ok-traced.ensures.traces (solo_guest a) image (has_one a _ config) (lent_one _ _ image c.as_slice.ensures.value images) in
    let runs = made_solo a _ image _ _ config traces.makes in
    inr (record {
      image = image;
      read = read;
      shelf = shelf;
      result = Ok c.in-Ok-traced.traced.ran;
      runs = runs;
      answers = c.close_trace.ensures (g.O.Sink.printed c.args.out.now) (trace_of c.args.order.steps (powered (solo_guest a) image)) traces.shown;
      drives = solo_drives touches_no_drive a image (Ok c.in-Ok-traced.traced.ran) _ runs;
    })

pub returns : goal.returns
returns g c =
    let a : SoloWords = record { image = c.args.order.image; steps = c.args.order.steps } in
    let (image, read, shelf, config, events, images) = c.in-Ok.ensures.fetches in
    let (down, same) = c.in-Err-traced.ensures.traces (solo_guest a) image (has_one a _ config) (lent_one _ _ image c.as_slice.ensures.value images) in
    let runs = down_solo a _ image c.in-Err-traced.fault _ config down in
    inr (record {
      image = image;
      read = read;
      shelf = shelf;
      result = Err c.in-Err-traced.fault;
      runs = runs;
      answers = (c.power_status.ensures, same);
      drives = solo_drives touches_no_drive a image (Err c.in-Err-traced.fault) _ runs;
    })
