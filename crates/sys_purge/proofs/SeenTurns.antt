-- What a class sees of the guests' turns, and what they show a line that flows into it.
use Rattle.std.proofs.Common.{◌≡◌, ℕ, suc, List, [], ◌∷◌, ◌++◌, map, filter, Bool, true, false, refl, sym, ap, ◌∙◌, All, Option, Some, None, option_map, slice_get, if◌then◌else◌, true≢false}
use Rattle.std.proofs.lemmas.Bool.{false≢true, eqb-true, ne_eqb}
use Rattle.std.proofs.lemmas.List.Elements.{All-head, All-tail}
use Rattle.vv_class.specs.Class.{does_flow}
use Rattle.vv_class.specs.declared.class.AccessClass.{AccessClass}
use Rattle.sys_objects.specs.declared.records.Config.{Config}
use Rattle.sys_objects.specs.declared.records.GuestRow.{GuestRow}
use Rattle.sys_objects.specs.declared.records.Terminal.{Terminal}
use Rattle.sys_purge.proofs.Accepted.{terminal_kept}
use Rattle.sys_purge.proofs.Fits.{ConnectFits, Fits, Pairs}
use Rattle.sys_purge.proofs.Kept.{both}
use Rattle.sys_purge.proofs.Places.{StandFrom, rank_first, rank_next, rank_same, stand_all}
use Rattle.sys_purge.proofs.Seen.{seen, seen_connected}
use Rattle.sys_purge.specs.Input.{beside, is_kept}
use Rattle.sys_purge.specs.Purge.{purge_config, rank, renumbered}
use Rattle.sys_state.proofs.Consoles.{bytes_append, bytes_of_console}
use Rattle.sys_state.specs.Consoles.{console_of, on_console}
use Rattle.sys_state.specs.Guests.{alone}
use Rattle.sys_state.specs.Places.{beside_with}
use Rattle.sys_objects.specs.Places.{is_at}
use Rattle.sys_state.specs.State.{Put, SystemState, bytes_on}
use Rattle.sys_state.specs.Turns.{turn, turn_puts, turns}
use Rattle.vm_state.specs.State.{Guest}

abbrev pub seen_rows : Config → AccessClass → List GuestRow → List GuestRow
seen_rows c to rows = map (renumbered to c) (filter (is_kept to) rows)

-- what is made beside the rows, where it doesn't depend on the places in them
pub made_beside : {Y Z : Type 0} (c : Config) (to : AccessClass) (f : GuestRow → Y → Z) → ((row : GuestRow) (y : Y) → f (renumbered to c row) y ≡ f row y) → (rows : List GuestRow) (ys : List Y)
    → beside_with f (seen_rows c to rows) (beside (is_kept to) rows ys) ≡ beside (is_kept to) rows (beside_with f rows ys)
made_beside c to f same [] ys = refl
made_beside c to f same (row ∷ rows) [] = both (is_kept to row) (λ e. rw e refl) (λ e. rw e (nothing rows))
  where
    nothing : (rest : List GuestRow) → beside_with f (seen_rows c to rest) [] ≡ []
    nothing [] = refl
    nothing (r ∷ rest) = both (is_kept to r) (λ e. rw e refl) (λ e. rw e (nothing rest))
made_beside c to f same (row ∷ rows) (y ∷ ys) =
    let first = same row y in
    let rest = made_beside c to f same rows ys in
    both (is_kept to row) (λ e. rw e (λ i. first i ∷ rest i)) (λ e. rw e rest)

-- each terminal on the line flows into the class
abbrev pub TerminalsFlow : ℕ → AccessClass → List Terminal → Type 0
TerminalsFlow line to ks = All (λ (k : Terminal). k.line ≡ line → does_flow k.class to ≡ true) ks

no_console : (ks : List Terminal) (i : ℕ) → console_of ks [] i ≡ None
no_console [] i = refl
no_console (k ∷ ks) i = refl

no_turns : (ks : List Terminal) (os : List (Option ℕ)) (i : ℕ) (rows : List GuestRow) → turn_puts ks os i rows [] ≡ []
no_turns ks os i [] = refl
no_turns ks os i (row ∷ rows) = refl

module _ (c : Config) (to : AccessClass) where
  -- a guest is kept where the terminal is to which it is connected
  pub kept_alike : (i : ℕ) (row : GuestRow) → slice_get c.guests i ≡ Some row → (k : Terminal) (o : Option ℕ) → ConnectFits c k o → is_at i o ≡ true → is_kept to row ≡ terminal_kept c to k
  kept_alike i row at k None h e = absurd (false≢true e)
  kept_alike i row at k (Some g) h e =
      let one : Some h.0 ≡ Some row = sym h.1 ∙ ap (slice_get c.guests) (eqb-true g i e) ∙ at in
      let same : h.0 ≡ row = cc in
      ap (is_kept to) (sym same) ∙ ap (λ d. does_flow d to) h.2

  pub at_kept : (i : ℕ) (row : GuestRow) → slice_get c.guests i ≡ Some row → is_kept to row ≡ true → (k : Terminal) → terminal_kept c to k ≡ true → (o : Option ℕ) → ConnectFits c k o
      → is_at (rank (is_kept to) c.guests i) (option_map (rank (is_kept to) c.guests) o) ≡ is_at i o
  at_kept i row at e k f None h = refl
  at_kept i row at e k f (Some g) h = rank_same (is_kept to) h.0 row (ap (λ d. does_flow d to) h.2 ∙ f) e c.guests g i h.1 at

  -- a guest that is kept has its console
  pub console_kept : (i : ℕ) (row : GuestRow) → slice_get c.guests i ≡ Some row → is_kept to row ≡ true → (ks : List Terminal) (os : List (Option ℕ)) → Pairs (ConnectFits c) ks os
      → console_of (filter (terminal_kept c to) ks) (seen_connected c to ks os) (rank (is_kept to) c.guests i) ≡ console_of ks os i
  console_kept i row at e [] os h = refl
  console_kept i row at e (k ∷ ks) [] h = no_console (filter (terminal_kept c to) (k ∷ ks)) (rank (is_kept to) c.guests i)
  console_kept i row at e (k ∷ ks) (o ∷ os) h =
      let rest = console_kept i row at e ks os h.1 in
      both (terminal_kept c to k)
      (λ f. let one = at_kept i row at e k f o h.0 in rw (f, one) (ap (λ (line : Option ℕ). if is_at i o then Some k.line else line) rest))
      (λ f. both (is_at i o) (λ b. absurd (true≢false (sym e ∙ kept_alike i row at k o h.0 b ∙ f))) (λ b. rw (f, b) rest))

  -- a guest that isn't kept has no console on a line that is seen
  pub not_on_line : (line i : ℕ) (row : GuestRow) → slice_get c.guests i ≡ Some row → is_kept to row ≡ false → (ks : List Terminal) (os : List (Option ℕ)) → Pairs (ConnectFits c) ks os → TerminalsFlow line to ks → is_at line (console_of ks os i) ≡ false
  not_on_line line i row at e [] os h flow = refl
  not_on_line line i row at e (k ∷ ks) [] h flow = refl
  not_on_line line i row at e (k ∷ ks) (o ∷ os) h flow =
      let rest = not_on_line line i row at e ks os h.1 (All-tail (λ (x : Terminal). x.line ≡ line → does_flow x.class to ≡ true) k ks flow) in
      let one = All-head (λ (x : Terminal). x.line ≡ line → does_flow x.class to ≡ true) k ks flow in
      both (is_at i o)
      (λ b. rw b (ne_eqb k.line line (λ same. true≢false (sym (one same) ∙ sym (kept_alike i row at k o h.0 b) ∙ e))))
      (λ b. rw b rest)

  -- the turns of the guests that are kept show a line all of its bytes
  turns_show : (line : ℕ) (ks : List Terminal) (os : List (Option ℕ)) → Pairs (ConnectFits c) ks os → TerminalsFlow line to ks → (i : ℕ) (rows : List GuestRow) → StandFrom c.guests i rows → (gs : List Guest)
      → bytes_on line (turn_puts (filter (terminal_kept c to) ks) (seen_connected c to ks os) (rank (is_kept to) c.guests i) (seen_rows c to rows) (beside (is_kept to) rows gs)) ≡ bytes_on line (turn_puts ks os i rows gs)
  turns_show line ks os h flow i [] stand gs = refl
  turns_show line ks os h flow i (row ∷ rows) stand [] = ap (bytes_on line) (no_turns (filter (terminal_kept c to) ks) (seen_connected c to ks os) (rank (is_kept to) c.guests i) (seen_rows c to (row ∷ rows)))
  turns_show line ks os h flow i (row ∷ rows) stand (g ∷ gs) =
      let later : ℕ → List Put = λ n. turn_puts (filter (terminal_kept c to) ks) (seen_connected c to ks os) n (seen_rows c to rows) (beside (is_kept to) rows gs) in
      let rest = turns_show line ks os h flow (suc i) rows stand.1 gs in
      let next = rank_next (is_kept to) c.guests i row stand.0 in
      let shown = (alone row.quantum g).shown in
      let whole = bytes_append line (on_console (console_of ks os i) shown) (turn_puts ks os (suc i) rows gs) in
      both (is_kept to row)
      (λ e.
      let console = console_kept i row stand.0 e ks os h in
      let place : rank (is_kept to) c.guests (suc i) ≡ suc (rank (is_kept to) c.guests i) = rw e at next in
      rw (e, console) (bytes_append line (on_console (console_of ks os i) shown) (later (suc (rank (is_kept to) c.guests i)))
      ∙ ap (λ (bytes : List ℕ). bytes_on line (on_console (console_of ks os i) shown) ++ bytes) (ap (λ (n : ℕ). bytes_on line (later n)) (sym place) ∙ rest)
      ∙ sym whole))
      (λ e.
      let place : rank (is_kept to) c.guests (suc i) ≡ rank (is_kept to) c.guests i = rw e at next in
      let none : bytes_on line (on_console (console_of ks os i) shown) ≡ [] = bytes_of_console line (console_of ks os i) shown ∙ ap (λ (b : Bool). if b then shown else []) (not_on_line line i row stand.0 e ks os h flow) in
      rw e (ap (λ (n : ℕ). bytes_on line (later n)) (sym place) ∙ rest ∙ sym (whole ∙ ap (λ (bytes : List ℕ). bytes ++ bytes_on line (turn_puts ks os (suc i) rows gs)) none)))

  pub turns_now : (s : SystemState) → (turns (purge_config c to) (seen c to s)).now ≡ seen c to (turns c s).now
  turns_now s = let guests = made_beside c to turn (λ row g. refl) c.guests s.guests in λ i. record (seen c to s) { guests = guests i }

  pub turns_bytes : (line : ℕ) → TerminalsFlow line to c.terminals → (s : SystemState) → Fits c s → bytes_on line (turns (purge_config c to) (seen c to s)).puts ≡ bytes_on line (turns c s).puts
  turns_bytes line flow s f =
      ap (λ (n : ℕ). bytes_on line (turn_puts (filter (terminal_kept c to) c.terminals) (seen_connected c to c.terminals s.connected) n (seen_rows c to c.guests) (beside (is_kept to) c.guests s.guests))) (sym (rank_first (is_kept to) c.guests))
      ∙ turns_show line c.terminals s.connected f.connected flow 0 c.guests (stand_all c.guests) s.guests
