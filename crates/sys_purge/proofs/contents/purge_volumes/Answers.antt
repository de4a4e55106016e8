use Rattle.std.proofs.Common.{◌≡◌, ◌<◌, ◌⊎◌, List, length, ℕ, arith, ◌∙◌, sym, ap, Vec, Global, true, false, get_or, inl, inr}
use Rattle.sys_objects.specs.declared.records.VolumeRow.{VolumeRow}
use Rattle.sys_purge.proofs.Taken.{keeps_all, keeps_none, keeps_one}
use Rattle.sys_purge.specs.Input.{is_kept_volume}
use Rattle.sys_purge.proofs.contents.purge_volumes.Goals as goal
use Rattle.sys_purge.proofs.contents.purge_volumes.Goals.{then-flows+in_ok-copied_blocks+in_ok-push, else-flows}

abbrev items : Vec (List ℕ) Global → List (List ℕ)
items v = v.items

pub loop-k-preserved : goal.loop-k-preserved
loop-k-preserved c =
    let xs : List VolumeRow = c.as_slice-rows.result.now in
    let vs : List (Vec (List ℕ) Global) = c.args.volumes.now in
    let k : ℕ = c.loop-k.k in
    let first : k < length xs = omega (arith, c.loop-k-test.true, c.fewer-k-end.ensures.left) in
    let second : k < length vs = omega (arith, c.loop-k-test.true, c.fewer-k-end.ensures.right) in
    elim c.if-flows.branch [
      | then-flows+in_ok-copied_blocks+in_ok-push w ↦
          (let flow : is_kept_volume c.args.to.now (get_or xs k c.index-rows-k.result) ≡ true = sym c.flows.ensures.value ∙ w.if-flows.true in
          let new : Vec (List ℕ) Global = w.in_ok-copied_blocks.field-0 in
          let copied : items new ≡ items (get_or vs k w.index-volumes-k.result) = w.in_ok-copied_blocks.ensures ∙ w.as_slice.ensures.value ∙ ap items w.index-volumes-k.is in
          rw w.kept-is (rw (w.in_ok-push.ensures.items) (keeps_one items (is_kept_volume c.args.to.now) xs vs k c.loop-k.kept.items c.index-rows-k.result w.index-volumes-k.result first second c.loop-k.invariant flow new copied)))
      | else-flows w ↦
          (let flow : is_kept_volume c.args.to.now (get_or xs k c.index-rows-k.result) ≡ false = sym c.flows.ensures.value ∙ w.if-flows.false in
          rw w.kept-is (keeps_none items (is_kept_volume c.args.to.now) xs vs k c.loop-k.kept.items c.index-rows-k.result first second c.loop-k.invariant flow))
    ]

at_end : {k n l m : ℕ} → k ≡ n → (n ≡ l) ⊎ (n ≡ m) → (k ≡ l) ⊎ (k ≡ m)
at_end e (inl a) = inl (e ∙ a)
at_end e (inr a) = inr (e ∙ a)

pub returns : goal.returns
returns c =
    let end : c.loop-k.k ≡ c.fewer-k-end.result = omega (arith, c.loop-k-test.false, c.loop-k.auto.k-end) in
    keeps_all items (is_kept_volume c.args.to.now) c.args.c.now.volumes c.as_slice-rows.result.now c.args.volumes.now c.loop-k.k c.loop-k.kept.items c.as_slice-rows.ensures
    (omega (arith, end, c.fewer-k-end.ensures.left)) (omega (arith, end, c.fewer-k-end.ensures.right)) (at_end end c.fewer-k-end.ensures.one) c.loop-k.invariant
