-- Terminals and the guests whose consoles they are, in states that agree at far terminals.
use Rattle.std.proofs.Common.{◌≡◌, ◌==◌, ℕ, suc, List, [], ◌∷◌, map, Bool, true, false, refl, sym, ap, ◌∙◌, Option, Some, None, option_map, slice_get, if◌then◌else◌, true≢false}
use Rattle.std.proofs.lemmas.Bool.{eqb-true, false≢true, ne_eqb}
use Rattle.sys_flow.specs.Reach.{ObjectPlace}
use Rattle.vvmm_laws.proofs.Agree.{AgreeFrom, AsLong}
use Rattle.vvmm_laws.proofs.Far.{IsFarLine, far_guest, far_terminal, holds_far}
use Rattle.vvmm_laws.specs.Reach.{IsClosed}
use Rattle.sys_objects.specs.declared.records.Config.{Config}
use Rattle.sys_objects.specs.declared.records.Terminal.{Terminal}
use Rattle.sys_purge.proofs.Fits.{ConnectFits, Pairs}
use Rattle.sys_purge.proofs.Kept.{both}
use Rattle.sys_purge.proofs.Places.{StandFrom}
use Rattle.sys_server.specs.Apply.{freed}
use Rattle.sys_state.specs.Consoles.{console_of}
use Rattle.sys_objects.specs.Places.{is_at}

-- a line with something near is another than one of far objects
pub other_line : (own line : ℕ) (is : Bool) → (own ≡ line → is ≡ true) → is ≡ false → (own == line) ≡ false
other_line own line is far near = ne_eqb own line (λ same. true≢false (sym (far same) ∙ near))

module _ (c : Config) (far : ObjectPlace → Bool) (closed : IsClosed c far) where
  -- a terminal and its guest are both far, or neither is
  pub at_far : (n : ℕ) (k : Terminal) → slice_get c.terminals n ≡ Some k → (g : ℕ) (o : Option ℕ) → ConnectFits c k o → is_at g o ≡ true → far_guest c far g ≡ far_terminal c far n
  at_far n k at g None h e = absurd (false≢true e)
  at_far n k at g (Some j) h e = ap (far_guest c far) (sym (eqb-true j g e)) ∙ holds_far c far closed n k at j h

  not_at : (n : ℕ) (k : Terminal) → slice_get c.terminals n ≡ Some k → far_terminal c far n ≡ false → (g : ℕ) → far_guest c far g ≡ true → (o : Option ℕ) → ConnectFits c k o → is_at g o ≡ false
  not_at n k at near g f o h = both (is_at g o) (λ e. absurd (true≢false (sym f ∙ at_far n k at g o h e ∙ near))) (λ e. e)

  -- a far guest has one console in both
  pub console_alike : (g : ℕ) → far_guest c far g ≡ true → (i : ℕ) (ks : List Terminal) (os us : List (Option ℕ)) → StandFrom c.terminals i ks → Pairs (ConnectFits c) ks os → Pairs (ConnectFits c) ks us → AgreeFrom (far_terminal c far) i os us
      → console_of ks os g ≡ console_of ks us g
  console_alike g f i [] os us stand p q a = refl
  console_alike g f i (k ∷ ks) [] [] stand p q a = refl
  console_alike g f i (k ∷ ks) [] (u ∷ us) stand p q a = absurd a
  console_alike g f i (k ∷ ks) (o ∷ os) [] stand p q a = absurd a
  console_alike g f i (k ∷ ks) (o ∷ os) (u ∷ us) stand p q a =
      let rest = console_alike g f (suc i) ks os us stand.1 p.1 q.1 a.1 in
      both (far_terminal c far i)
      (λ e. let one = a.0 e in λ j. if is_at g (one j) then Some k.line else rest j)
      (λ n. let left = not_at i k stand.0 n g f o p.0 in let right = not_at i k stand.0 n g f u q.0 in rw (left, right) rest)

  -- a guest that isn't far is at no far terminal
  pub freed_near : (g : ℕ) → far_guest c far g ≡ false → (i : ℕ) (ks : List Terminal) (os : List (Option ℕ)) → StandFrom c.terminals i ks → AsLong ks os → Pairs (ConnectFits c) ks os → AgreeFrom (far_terminal c far) i os (map (freed g) os)
  freed_near g near i [] [] stand l p = tt
  freed_near g near i [] (o ∷ os) stand l p = absurd l
  freed_near g near i (k ∷ ks) [] stand l p = absurd l
  freed_near g near i (k ∷ ks) (o ∷ os) stand l p = (
    (λ f. both (is_at g o)
        (λ e. absurd (true≢false (sym f ∙ sym (at_far i k stand.0 g o p.0 e) ∙ near)))
        (λ e. rw e refl)),
    freed_near g near (suc i) ks os stand.1 l p.1,
  )

  module _ (line : ℕ) (silent : IsFarLine c far line) where
    pub terminal_off : (n : ℕ) (k : Terminal) → slice_get c.terminals n ≡ Some k → far_terminal c far n ≡ false → (k.line == line) ≡ false
    terminal_off n k at near = other_line k.line line (far_terminal c far n) (silent.terminals n k at) near

    -- nor has it a console on a far line
    pub console_near : (g : ℕ) → far_guest c far g ≡ false → (i : ℕ) (ks : List Terminal) (os : List (Option ℕ)) → StandFrom c.terminals i ks → Pairs (ConnectFits c) ks os → is_at line (console_of ks os g) ≡ false
    console_near g near i [] os stand p = refl
    console_near g near i (k ∷ ks) [] stand p = refl
    console_near g near i (k ∷ ks) (o ∷ os) stand p =
        let rest = console_near g near (suc i) ks os stand.1 p.1 in
        both (is_at g o)
        (λ e. rw e (terminal_off i k stand.0 (sym (at_far i k stand.0 g o p.0 e) ∙ near)))
        (λ e. rw e rest)
