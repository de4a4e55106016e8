use Rattle.std.proofs.Common.{ℕ, ◌≡◌, ◌<◌, ◌∙◌, List, Option, sym, ap, subst}
use Rattle.std.specs.Prelude.{IfSome}
use Rattle.sys_events.proofs.Obeying.{guest_halts}
use Rattle.sys_events.proofs.Telling.{small_line}
use Rattle.sys_devices.proofs.Showings.{shows_same}
use Rattle.sys_devices.specs.Shows.{only_on}
use Rattle.sys_objects.specs.declared.records.Terminal.{Terminal}
use Rattle.sys_state.specs.Consoles.{console_of}
use Rattle.sys_events.proofs.guests.halt.Goals as goal

pub show_each-requires : goal.show_each-requires
show_each-requires g c =
    let k = c.args.kernel.now in
    let console : c.console_of-console.result ≡ console_of k.config.terminals k.server.at c.args.guest = c.console_of-console.ensures ∙ ap (λ (ts : List Terminal). console_of ts k.server.at c.args.guest) c.as_slice-terminals.ensures in
    subst (λ (o : Option ℕ). IfSome o (λ line. line < 32)) (sym console) (small_line k.config.terminals k.server.at c.args.guest c.requires.accepted.terminals)

pub returns-clause-does : goal.returns-clause-does
returns-clause-does g c =
    let k = c.args.kernel.now in
    let console : c.console_of-console.result ≡ console_of k.config.terminals k.server.at c.args.guest = c.console_of-console.ensures ∙ ap (λ (ts : List Terminal). console_of ts k.server.at c.args.guest) c.as_slice-terminals.ensures in
    guest_halts k c.stop_at.new.guests c.stop_at.new.port _ _ _ c.args.guest c.console_of-console.result c.stop_at.new.port.bytes c.stop_at.ensures.turns c.stop_at.ensures.shown console
    (shows_same _ _ _ _ _ _ (λ line. ap (λ (bytes : List ℕ). only_on c.console_of-console.result bytes line) c.bytes.ensures.value) c.show_each.ensures)
