use Rattle.std.proofs.Common.{◌≡◌, ap, sym, ◌∙◌, false, Vec, Global, ℕ}
use Rattle.vv_io.specs.Keys.{given_of}
use Rattle.vv_io.specs.Memory.{is_next_named}
use Rattle.vv_io.proofs.Keyboards.{next_of, after_line, noted_more, takes_line}
use Rattle.vv_io.proofs.mem_keyboard.MemKeyboardKeyboard.next.Goals as goal

pub returns-clause-takes : goal.returns-clause-takes
returns-clause-takes g c =
    let found = c.in-Some.ensures.lookup.3 in
    let lines = c.deref-2.ensures.value in
    let line = c.in-Some.line.now in
    let within = rw lines at found.0 in
    let read = rw lines at (found.1 line) in
    let next = next_of (λ (v : Vec ℕ Global). v.items) c.self.inside.lines.items c.self.inside.given line within read in
    takes_line _ _ _ _ _ _ _ _ _ _ _ c.self.view_is next (c.given_of-line.ensures ∙ ap given_of c.deref-3.ensures.value) (noted_more (λ o. g.O.Sink.printed o) c.self.inside.outputs c.note.new.self c.args.out.now c.note.ensures)

pub returns-clause-exact : goal.returns-clause-exact
returns-clause-exact g c =
    let found = c.in-Some.ensures.lookup.3 in
    let lines = c.deref-2.ensures.value in
    let line = c.in-Some.line.now in
    let within = rw lines at found.0 in
    let read = rw lines at (found.1 line) in
    let next = next_of (λ (v : Vec ℕ Global). v.items) c.self.inside.lines.items c.self.inside.given line within read in
    let passes : is_next_named c.self.inside.failing.items c.self.inside.calls ≡ false = rw (← c.deref.ensures.value, ← c.counted-self-inside.ensures) (sym c.is_named.ensures ∙ c.if-is_named.false) in
    after_line _ _ _ _ _ _ _ _ _ _ _ c.self.view_is next c.counted-self-inside.ensures passes (noted_more (λ o. g.O.Sink.printed o) c.self.inside.outputs c.note.new.self c.args.out.now c.note.ensures)
