use Rattle.std.proofs.Common.{ℕ, ◌≡◌, ◌∙◌, List, Some, sym, ap}
use Rattle.sys_events.proofs.Happening.{somewhere}
use Rattle.sys_events.proofs.Lists.{found_within}
use Rattle.sys_objects.specs.declared.records.Terminal.{Terminal}
use Rattle.sys_state.specs.Events.{is_named}
use Rattle.sys_state.specs.Places.{place_of}
use Rattle.sys_script.specs.declared.event.Typed.TheVariants.{Break, Line}
use Rattle.sys_events.proofs.Touching.{somewhere_so}
use Rattle.sys_events.proofs.events.happen_one.Goals as goal

pub disconnect-requires-clause-there : goal.disconnect-requires-clause-there
disconnect-requires-clause-there g c =
    let k = c.args.kernel.now in
    let e = c.args.event.now in
    let at : place_of (is_named e.terminal) k.config.terminals ≡ Some c.in-Some.terminal = ap (λ (ts : List Terminal). place_of (is_named e.terminal) ts) (sym c.as_slice.ensures) ∙ sym c.terminal_named-place.ensures ∙ c.in-Some.is in
    found_within (is_named e.terminal) k.config.terminals c.in-Some.terminal at

pub take_line-requires-clause-there : goal.take_line-requires-clause-there
take_line-requires-clause-there g c =
    let k = c.args.kernel.now in
    let e = c.args.event.now in
    let at : place_of (is_named e.terminal) k.config.terminals ≡ Some c.in-Some.terminal = ap (λ (ts : List Terminal). place_of (is_named e.terminal) ts) (sym c.as_slice.ensures) ∙ sym c.terminal_named-place.ensures ∙ c.in-Some.is in
    found_within (is_named e.terminal) k.config.terminals c.in-Some.terminal at

pub returns-in-Break-clause-happens : goal.returns-in-Break-clause-happens
returns-in-Break-clause-happens g c =
    let k = c.args.kernel.now in
    let e = c.args.event.now in
    let m = g.H.Hardware.machine c.args.machine.now in
    let at : place_of (is_named e.terminal) k.config.terminals ≡ Some c.in-Some.terminal = ap (λ (ts : List Terminal). place_of (is_named e.terminal) ts) (sym c.as_slice.ensures) ∙ sym c.terminal_named-place.ensures ∙ c.in-Some.is in
    somewhere m m k c.disconnect.new.kernel _ _ c.args.round e c.in-Some.terminal Break at c.in-Break.is (c.disconnect.ensures.does c.args.round m c.requires)

pub returns-in-Line-clause-happens : goal.returns-in-Line-clause-happens
returns-in-Line-clause-happens g c =
    let k = c.args.kernel.now in
    let e = c.args.event.now in
    let m = g.H.Hardware.machine c.args.machine.now in
    let at : place_of (is_named e.terminal) k.config.terminals ≡ Some c.in-Some.terminal = ap (λ (ts : List Terminal). place_of (is_named e.terminal) ts) (sym c.as_slice.ensures) ∙ sym c.terminal_named-place.ensures ∙ c.in-Some.is in
    somewhere m (g.H.Hardware.machine c.take_line.new.machine) k c.take_line.new.kernel _ _ c.args.round e c.in-Some.terminal (Line c.bytes.result.now) at (c.in-Line.is ∙ ap (λ (xs : List ℕ). Line xs) (sym c.bytes.ensures.value)) c.take_line.ensures.does

pub returns-in-Break-clause-present : goal.returns-in-Break-clause-present
returns-in-Break-clause-present g c =
    let k = c.args.kernel.now in
    let e = c.args.event.now in
    let m = g.H.Hardware.machine c.args.machine.now in
    let at : place_of (is_named e.terminal) k.config.terminals ≡ Some c.in-Some.terminal = ap (λ (ts : List Terminal). place_of (is_named e.terminal) ts) (sym c.as_slice.ensures) ∙ sym c.terminal_named-place.ensures ∙ c.in-Some.is in
    somewhere_so m k _ _ _ e c.in-Some.terminal Break at c.in-Break.is (λ x. c.disconnect.ensures.present)

pub returns-in-Line-clause-present : goal.returns-in-Line-clause-present
returns-in-Line-clause-present g c =
    let k = c.args.kernel.now in
    let e = c.args.event.now in
    let m = g.H.Hardware.machine c.args.machine.now in
    let at : place_of (is_named e.terminal) k.config.terminals ≡ Some c.in-Some.terminal = ap (λ (ts : List Terminal). place_of (is_named e.terminal) ts) (sym c.as_slice.ensures) ∙ sym c.terminal_named-place.ensures ∙ c.in-Some.is in
    somewhere_so m k _ _ _ e c.in-Some.terminal (Line c.bytes.result.now) at (c.in-Line.is ∙ ap (λ (xs : List ℕ). Line xs) (sym c.bytes.ensures.value)) c.take_line.ensures.present
