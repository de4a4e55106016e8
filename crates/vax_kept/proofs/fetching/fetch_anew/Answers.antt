use Rattle.std.proofs.Common.{◌≡◌, length, take, drop, arith, ap, sym, subst, refl, ◌∙◌, ◌++◌, List, ℕ, Ok, ◌+◌, ◌%◌, ◌^◌, append_assoc}
use Rattle.std.proofs.lemmas.List.{take-append-drop}
use Rattle.vax_kept.specs.Fetched.{fault_exit}
use Rattle.vax_paged.specs.Paged.{paged}
use Rattle.vax_table.specs.Fetch.{decided, fetched}
use Rattle.vax_table.specs.Interaction.{outcome}
use Rattle.vax_table.specs.Spelling.{Spells, view}
use Rattle.vax_table.specs.declared.decoded.Decoded.{Decoded}
use Rattle.vax_kept.proofs.Spelled.{spelled_front}
use Rattle.vax_kept.proofs.Looks.{whole, fault, no_more, next, stopped}
use Rattle.vax_kept.proofs.fetching.fetch_anew.Goals as goal

pub loop-looks-init : goal.loop-looks-init
unfolding fetched
loop-looks-init c = record {
  same = ap (λ (b : List ℕ). outcome (paged c.args.space.now.memory.now c.args.space.now.world.now) (decided 22 c.args.pc b)) c.new-bytes.ensures;
  room = ap (λ (b : List ℕ). length b + 22) c.new-bytes.ensures;
}

pub returns-in-Done-clause-fetched : goal.returns-in-Done-clause-fetched
returns-in-Done-clause-fetched c = ap (λ (d : Decoded). Ok (view d)) c.keep.ensures ∙ whole (paged c.args.space.now.memory.now c.args.space.now.world.now) c.loop-looks._looks c.args.pc c.loop-looks.bytes.items _ _ c.in-Done.decoded (omega arith) c.as_slice.ensures.value c.in-Done.ensures.reads c.loop-looks.invariant.same

pub loop-looks-preserved : goal.loop-looks-preserved
loop-looks-preserved c = record {
  same = next (paged c.args.space.now.memory.now c.args.space.now.world.now) c.loop-looks._looks c.args.pc ((c.args.pc + c.len.result) % 2 ^ 32) c.in-Ok.byte c.loop-looks.bytes.items _ _ _ (omega arith) c.as_slice.ensures.value c.in-NeedMore.ensures.reads (ap (λ (x : ℕ). (c.args.pc + x) % 2 ^ 32) c.len.ensures.value) c.in-Ok.ensures c.push.ensures.items c.loop-looks.invariant.same;
  room = omega (arith, c.push.ensures.len);
}

pub returns-in-Err-clause-fetched : goal.returns-in-Err-clause-fetched
returns-in-Err-clause-fetched c = stopped (paged c.args.space.now.memory.now c.args.space.now.world.now) c.loop-looks._looks c.args.pc ((c.args.pc + c.len.result) % 2 ^ 32) c.loop-looks.bytes.items _ (fault_exit c.in-Err.fault) _ (omega arith) c.as_slice.ensures.value c.in-NeedMore.ensures.reads (ap (λ (x : ℕ). (c.args.pc + x) % 2 ^ 32) c.len.ensures.value) c.in-Err.ensures c.loop-looks.invariant.same

pub returns-in-Fault-clause-fetched : goal.returns-in-Fault-clause-fetched
returns-in-Fault-clause-fetched c = fault (paged c.args.space.now.memory.now c.args.space.now.world.now) c.loop-looks._looks c.args.pc c.refusal_of.result c.loop-looks.bytes.items _ _ c.in-Fault.fault (omega arith) c.as_slice.ensures.value c.in-Fault.ensures.reads c.refusal_of.ensures c.loop-looks.invariant.same

pub returns-clause-fetched : goal.returns-clause-fetched
returns-clause-fetched c = no_more (paged c.args.space.now.memory.now c.args.space.now.world.now) c.loop-looks._looks c.args.pc c.loop-looks.bytes.items _ (omega arith) c.loop-looks.invariant.same

pub returns-in-Done-clause-formed : goal.returns-in-Done-clause-formed
returns-in-Done-clause-formed c = let h = c.in-Done.ensures.spells in (h.0, subst (λ (d : Decoded). Spells h.0 (view d)) (sym c.keep.ensures) h.3)

pub keep-requires-clause-spelled : goal.keep-requires-clause-spelled
keep-requires-clause-spelled c =
    let h = c.in-Done.ensures.spells in
    let all = c.with_zeros.result in
    let told = c.as_slice-in-Done.result.now in
    let front : take (length told) all ≡ h.0 ++ h.1 = c.with_zeros.ensures ∙ c.as_slice-in-Done.ensures.value ∙ sym c.as_slice.ensures.value ∙ h.2 in
    let is : all ≡ h.0 ++ (h.1 ++ drop (length told) all) =
    sym (take-append-drop (length told) all) ∙ ap (λ (xs : List ℕ). xs ++ drop (length told) all) front ∙ append_assoc h.0 h.1 (drop (length told) all) in
    spelled_front all all h.0 (h.1 ++ drop (length told) all) (view c.in-Done.decoded) refl is h.3
