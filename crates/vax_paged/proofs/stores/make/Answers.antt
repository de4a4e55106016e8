use Rattle.std.proofs.Common.{ℕ, ◌+◌, List, drop, sym, ap, ◌∙◌}
use Rattle.std.proofs.lemmas.List.{at_drop_more}
use Rattle.vax_paged.specs.Puts.{made}
use Rattle.vax_paged.specs.declared.stores.Put.{Put}
use Rattle.vax_paged.proofs.Watching.{byte_elsewhere}
use Rattle.vax_paged.proofs.stores.make.Goals as goal

pub loop-put-preserved : goal.loop-put-preserved
loop-put-preserved c =
    let memory = c.loop-put.memory in
    let rest = drop (c.loop-put.put-index + 1) c.args.puts.now in (
      ap (λ (m : List ℕ). made rest m) c.store_byte.ensures ∙ sym (at_drop_more (λ (ps : List Put). made ps memory) c.args.puts.now c.loop-put.put-index _ c.loop-put-test.true) ∙ c.loop-put.invariant.0,
      λ t h. c.stored.ensures memory c.store_byte.new.memory t (c.loop-put.invariant.1 t h) (byte_elsewhere memory c.store_byte.new.memory _ _ c.store_byte.ensures),
    )
