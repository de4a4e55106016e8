use Rattle.std.proofs.Common.{ℕ, ◌∙◌, List, length, map, ap, arith}
use Rattle.sys_system.proofs.GoingOn.{seated_again, volumes_fit}
use Rattle.sys_system.proofs.Mounting.{assembled}
use Rattle.sys_system.specs.declared.parts.Parts.{Parts}
use Rattle.sys_system.proofs.assembling.assemble_again.Goals as goal

pub volumes_of-requires-clause-sizes : goal.volumes_of-requires-clause-sizes
volumes_of-requires-clause-sizes g c =
    let fit = volumes_fit c.args.snap.config.volumes (map (λ blocks. blocks.items) c.args.snap.volumes.items) c.requires.moment.volumes in
    rw (c.as_slice.ensures, c.deref.ensures.value) fit

pub returns-clause-inside : goal.returns-clause-inside
returns-clause-inside g c =
    let snap = c.args.snap in
    let parts : Parts = record { kernel = record { config = snap.config; server = snap.server; guests = c.in_ok-guests.guests; marks = _; port = c.in_ok-port.port }; volumes = c.in_ok-volumes.volumes; turns = c.in_ok-turns.turns; rounds = snap.round; counts = c.none-2.result; drives = _ } in
    let fit = volumes_fit snap.config.volumes (map (λ blocks. blocks.items) snap.volumes.items) c.requires.moment.volumes in
    let sized = ap (λ (vs : List (List (List ℕ))). map length vs) (c.in_ok-volumes.ensures ∙ ap (λ given. map (λ b. b.items) given) c.deref.ensures.value) ∙ fit in
    assembled _ parts c.as_slice-rows.result.now c.requires.held.config c.as_slice-rows.ensures c.in_ok-guests.ensures.placed (seated_again snap c.requires.held c.requires.moment) sized c.in_ok-turns.ensures (omega (arith, c.requires.moment.few_rounds)) c.none-2.ensures
