-- The guests' turns in states that agree at far objects.
use Rattle.std.proofs.Common.{◌≡◌, ℕ, suc, List, [], ◌∷◌, ◌++◌, Bool, true, false, refl, sym, ap, ◌∙◌, Option, if◌then◌else◌}
use Rattle.sys_flow.specs.Reach.{ObjectPlace}
use Rattle.vvmm_laws.proofs.Agree.{AgreeFrom}
use Rattle.vvmm_laws.proofs.Connected.{console_alike, console_near}
use Rattle.vvmm_laws.proofs.Far.{IsFarLine, far_guest, far_terminal}
use Rattle.vvmm_laws.specs.Reach.{IsClosed}
use Rattle.sys_objects.specs.declared.records.Config.{Config}
use Rattle.sys_objects.specs.declared.records.GuestRow.{GuestRow}
use Rattle.sys_purge.proofs.Fits.{ConnectFits, Pairs}
use Rattle.sys_purge.proofs.Kept.{both}
use Rattle.sys_purge.proofs.Places.{stand_all}
use Rattle.sys_state.proofs.Consoles.{bytes_append, bytes_of_console}
use Rattle.sys_state.specs.Consoles.{console_of, on_console}
use Rattle.sys_state.specs.Guests.{alone}
use Rattle.sys_state.specs.State.{bytes_on}
use Rattle.sys_state.specs.Turns.{turn_puts}
use Rattle.vm_state.specs.State.{Guest}

module _ (c : Config) (far : ObjectPlace → Bool) (closed : IsClosed c far) (line : ℕ) (silent : IsFarLine c far line) where
  module _ (os us : List (Option ℕ)) (p : Pairs (ConnectFits c) c.terminals os) (q : Pairs (ConnectFits c) c.terminals us) (a : AgreeFrom (far_terminal c far) 0 os us) where
    -- what a turn shows of one guest
    one_near : (g : ℕ) → far_guest c far g ≡ false → (ws : List (Option ℕ)) → Pairs (ConnectFits c) c.terminals ws → (shown : List ℕ) → bytes_on line (on_console (console_of c.terminals ws g) shown) ≡ []
    one_near g near ws r shown =
        bytes_of_console line (console_of c.terminals ws g) shown
        ∙ ap (λ (b : Bool). if b then shown else []) (console_near c far closed line silent g near 0 c.terminals ws (stand_all c.terminals) r)

    one_alike : (g : ℕ) → far_guest c far g ≡ true → (x y : List ℕ) → x ≡ y → bytes_on line (on_console (console_of c.terminals os g) x) ≡ bytes_on line (on_console (console_of c.terminals us g) y)
    one_alike g f x y e =
        let console = console_alike c far closed g f 0 c.terminals os us (stand_all c.terminals) p q a in
        λ i. bytes_on line (on_console (console i) (e i))

    pub turns_alike : (i : ℕ) (rows : List GuestRow) (gs hs : List Guest) → AgreeFrom (far_guest c far) i gs hs → bytes_on line (turn_puts c.terminals os i rows gs) ≡ bytes_on line (turn_puts c.terminals us i rows hs)
    turns_alike i [] gs hs b = refl
    turns_alike i (row ∷ rows) [] [] b = refl
    turns_alike i (row ∷ rows) [] (h ∷ hs) b = absurd b
    turns_alike i (row ∷ rows) (g ∷ gs) [] b = absurd b
    turns_alike i (row ∷ rows) (g ∷ gs) (h ∷ hs) b =
        let x : List ℕ = (alone row.quantum g).shown in
        let y : List ℕ = (alone row.quantum h).shown in
        let rest = turns_alike (suc i) rows gs hs b.1 in
        let one : bytes_on line (on_console (console_of c.terminals os i) x) ≡ bytes_on line (on_console (console_of c.terminals us i) y) = both (far_guest c far i)
        (λ f. one_alike i f x y (ap (λ (v : Guest). (alone row.quantum v).shown) (b.0 f)))
        (λ n. one_near i n os p x ∙ sym (one_near i n us q y)) in
        bytes_append line (on_console (console_of c.terminals os i) x) (turn_puts c.terminals os (suc i) rows gs)
        ∙ (λ j. one j ++ rest j)
        ∙ sym (bytes_append line (on_console (console_of c.terminals us i) y) (turn_puts c.terminals us (suc i) rows hs))
