use Rattle.std.proofs.Common.{◌≡◌, ◌∙◌, ◌+◌, ◌-◌, ◌%◌, ◌^◌, ap, arith}
use Rattle.std.specs.Prelude.{slice_index}
use Rattle.sys_trace.proofs.Pages.{all_read, first_read, goes_on, memory_long, none_beyond, none_read, page_read, walked}
use Rattle.vm_guest.specs.Kept.{guest_in}
use Rattle.vm_state.specs.State.{pc_of}
use Rattle.vm_state.specs.declared.guest_state.GuestState.{GuestState}
use Rattle.sys_trace.proofs.reading.readable.Goals as goal

pub loop-left-init : goal.loop-left-init
loop-left-init g c =
    let h = guest_in (g.H.Hardware.machine c.args.machine.now).memory c.args.guest.now in
    let first : c.pc-first.result ≡ pc_of h.state = c.pc-first.ensures ∙ ap (λ (s : GuestState). slice_index s.r 15) c.state-state.ensures in
    first_read h c.new-bytes.result c.new-bytes.ensures (omega (arith, first, c.pc-first.type_inv))

pub append-requires-clause-inside : goal.append-requires-clause-inside
append-requires-clause-inside g c =
    let memory = (g.H.Hardware.machine c.args.machine.now).memory in
    let k = c.args.guest.now in
    let h = guest_in memory k in
    let left = c.loop-left.left in
    let first : c.pc-first.result ≡ pc_of h.state = c.pc-first.ensures ∙ ap (λ (s : GuestState). slice_index s.r 15) c.state-state.ensures in
    let here : (c.pc-first.result + (21 - left)) % 2 ^ 32 ≡ (pc_of h.state + (21 - left)) % 2 ^ 32 = ap (λ n. (n + (21 - left)) % 2 ^ 32) first in
    let found = walked memory k c.state-state.result.now _ _ _ c.walk.result c.state-state.ensures c.current.ensures here c.walk.ensures ∙ c.in-Frame.is in
    let on = page_read h _ _ c.in-Frame.pa c.in_page-count.result _ _ here (omega arith) c.in_page-count.ensures.within found in
    omega (arith, on.inside, memory_long memory k c.requires)

pub loop-left-preserved : goal.loop-left-preserved
loop-left-preserved g c =
    let memory = (g.H.Hardware.machine c.args.machine.now).memory in
    let k = c.args.guest.now in
    let h = guest_in memory k in
    let left = c.loop-left.left in
    let first : c.pc-first.result ≡ pc_of h.state = c.pc-first.ensures ∙ ap (λ (s : GuestState). slice_index s.r 15) c.state-state.ensures in
    let here : (c.pc-first.result + (21 - left)) % 2 ^ 32 ≡ (pc_of h.state + (21 - left)) % 2 ^ 32 = ap (λ n. (n + (21 - left)) % 2 ^ 32) first in
    let found = walked memory k c.state-state.result.now _ _ _ c.walk.result c.state-state.ensures c.current.ensures here c.walk.ensures ∙ c.in-Frame.is in
    let on = page_read h _ _ c.in-Frame.pa c.in_page-count.result _ _ here (omega arith) c.in_page-count.ensures.within found in
    goes_on h left c.in_page-count.result c.in-Frame.pa c.loop-left.bytes c.append.new.bytes c.loop-left.invariant c.in_page-count.ensures.most on c.append.ensures

pub returns-in-Fault : goal.returns-in-Fault
returns-in-Fault g c =
    let memory = (g.H.Hardware.machine c.args.machine.now).memory in
    let k = c.args.guest.now in
    let h = guest_in memory k in
    let left = c.loop-left.left in
    let first : c.pc-first.result ≡ pc_of h.state = c.pc-first.ensures ∙ ap (λ (s : GuestState). slice_index s.r 15) c.state-state.ensures in
    let here : (c.pc-first.result + (21 - left)) % 2 ^ 32 ≡ (pc_of h.state + (21 - left)) % 2 ^ 32 = ap (λ n. (n + (21 - left)) % 2 ^ 32) first in
    let found = walked memory k c.state-state.result.now _ _ _ c.walk.result c.state-state.ensures c.current.ensures here c.walk.ensures ∙ c.in-Fault.is in
    none_read h left c.loop-left.bytes _ c.loop-left.invariant found

pub returns-in-Beyond : goal.returns-in-Beyond
returns-in-Beyond g c =
    let memory = (g.H.Hardware.machine c.args.machine.now).memory in
    let k = c.args.guest.now in
    let h = guest_in memory k in
    let left = c.loop-left.left in
    let first : c.pc-first.result ≡ pc_of h.state = c.pc-first.ensures ∙ ap (λ (s : GuestState). slice_index s.r 15) c.state-state.ensures in
    let here : (c.pc-first.result + (21 - left)) % 2 ^ 32 ≡ (pc_of h.state + (21 - left)) % 2 ^ 32 = ap (λ n. (n + (21 - left)) % 2 ^ 32) first in
    let found = walked memory k c.state-state.result.now _ _ _ c.walk.result c.state-state.ensures c.current.ensures here c.walk.ensures ∙ c.in-Beyond.is in
    none_beyond h left c.loop-left.bytes c.loop-left.invariant found

pub returns : goal.returns
returns g c = all_read _ c.loop-left.left c.loop-left.bytes c.loop-left.invariant (omega arith)
