use Rattle.std.proofs.Common.{arith, ◌≡◌, replicate}
use Rattle.vm_shadow.proofs.Remembering.{are_empty, no_source, none_alike, none_marked}
use Rattle.vm_shadow.proofs.records.Records.new.Goals as goal

pub invariant_of-result : goal.invariant_of-result
invariant_of-result c =
    let sources : c.in_ok-sources.sources.items ≡ replicate 73728 no_source = c.in_ok-sources.ensures.items_if_clones_equal (none_alike _ (λ x h. h)) in
    none_marked c.args.frames c.in_ok-sources.sources.items c.in_ok-filled.filled c.in_ok-groups.groups (are_empty c.in_ok-sources.sources.items sources) c.requires (omega (arith, c.in_ok-filled.ensures)) (omega (arith, c.in_ok-groups.ensures))

pub returns : goal.returns
returns c =
    let sources : c.in_ok-sources.sources.items ≡ replicate 73728 no_source = c.in_ok-sources.ensures.items_if_clones_equal (none_alike _ (λ x h. h)) in
    are_empty c.in_ok-sources.sources.items sources
