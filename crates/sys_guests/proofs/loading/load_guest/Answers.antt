use Rattle.std.proofs.Common.{◌≡◌, ◌*◌, ◌∙◌, ap}
use Rattle.std.proofs.lemmas.Result.{IfOk-weaker}
use Rattle.sys_guests.specs.Loads.{LoadsGuest, PutsIn}
use Rattle.sys_guests.proofs.Powering.{placed_as, powered_faults}
use Rattle.sys_state.specs.Guests.{powered}
use Rattle.vm_state.specs.Start.{memory_with_image}
use Rattle.vm_state.specs.State.{State}
use Rattle.sys_guests.proofs.loading.load_guest.Goals as goal

pub returns-clause-ok : goal.returns-clause-ok
returns-clause-ok g c =
    let row = c.args.row.now in
    let image = c.args.image.now in
    let state = c.first_state-state.result in
    let is = c.first_state-state.ensures in
    let before = (g.H.Hardware.machine c.args.machine.now).memory in
    let after = (g.H.Hardware.machine c.place_guest.new.machine).memory in
    let bytes = memory_with_image (512 * row.pages) row.load image in
    let same : memory_with_image (512 * state.pages) row.load image ≡ bytes = ap (λ n. memory_with_image (512 * n) row.load image) is.place.pages in
    IfOk-weaker c.place_guest.result (PutsIn state c.args.tables (memory_with_image (512 * state.pages) row.load image) before after) (LoadsGuest row image c.args.base c.args.tables before after)
    (λ k put. placed_as row (powered row image) c.args.base c.args.tables (memory_with_image (512 * state.pages) row.load image) before after state k is.place (ap (λ (s : State). s.modify_faults) is.state ∙ powered_faults row) (λ i. record { memory = same i; state = is.state i }) put) c.place_guest.ensures.ok
