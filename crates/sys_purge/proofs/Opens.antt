-- What is seen of the first state is the first state of the purge, and the first state keeps the rules.
use Rattle.std.proofs.Common.{◌≡◌, ℕ, suc, List, [], ◌∷◌, map, filter, true, refl, sym, ap, ◌∙◌, All, Option, Some, None, option_map, slice_get}
use Rattle.std.proofs.lemmas.Bool.{false≢true, eqb-true}
use Rattle.std.proofs.lemmas.List.Elements.{All-head, All-tail, All-weaker}
use Rattle.vv_class.specs.Class.{does_flow}
use Rattle.vv_class.specs.declared.class.AccessClass.{AccessClass}
use Rattle.sys_objects.specs.Condition.{MayHave}
use Rattle.sys_objects.specs.Rules.{is_of_class, may_connect}
use Rattle.sys_objects.specs.declared.records.Config.{Config}
use Rattle.sys_objects.specs.declared.records.GuestRow.{GuestRow}
use Rattle.sys_objects.specs.declared.records.Terminal.{Terminal}
use Rattle.sys_purge.proofs.Accepted.{same_is, terminal_kept}
use Rattle.sys_purge.proofs.Fits.{ConnectFits, Fits, MountFits, MountsFit, Pairs, each_of_all}
use Rattle.sys_purge.proofs.Kept.{both}
use Rattle.sys_purge.proofs.Places.{StandFrom, StandsAt, first_stands, place_kept, rank_first, rank_next, rank_same, stand_all}
use Rattle.sys_purge.proofs.Seen.{seen, seen_connected, seen_mounts}
use Rattle.sys_purge.proofs.SeenTurns.{made_beside, seen_rows}
use Rattle.sys_purge.specs.Input.{is_kept, purge_images, purge_volumes}
use Rattle.sys_purge.specs.Purge.{console_place, mount_place, purge_config, rank, renumbered}
use Rattle.sys_state.specs.Guests.{powered}
use Rattle.sys_state.specs.Places.{place_of}
use Rattle.sys_objects.specs.Places.{is_at}
use Rattle.sys_state.specs.Run.{connections, first_state}

module _ (c : Config) (held : All (MayHave c) c.guests) where
  -- a guest's console is of its class
  class_of_console : (class : AccessClass) (j i : ℕ) (k : Terminal) → slice_get c.terminals i ≡ Some k → is_of_class class (slice_get c.terminals j) ≡ true → j ≡ i → k.class ≡ class
  class_of_console class j i k at may e =
      let there : slice_get c.terminals j ≡ Some k = ap (slice_get c.terminals) e ∙ at in
      same_is k.class class (rw there at may)

  console_class : (row : GuestRow) → (i : ℕ) (k : Terminal) → slice_get c.terminals i ≡ Some k → (o : Option ℕ) → may_connect c.terminals row.class o ≡ true → is_at i o ≡ true → row.class ≡ k.class
  console_class row i k at None may e = absurd (false≢true e)
  console_class row i k at (Some j) may e = sym (class_of_console row.class j i k at may (eqb-true j i e))

  -- at first each terminal's guest has its class
  as_connection : (k : Terminal) (o : Option ℕ) → StandsAt (λ (row : GuestRow). row.class ≡ k.class) c.guests o → ConnectFits c k o
  as_connection k None h = tt
  as_connection k (Some g) h = h

  connections_fit : (i : ℕ) (ks : List Terminal) → StandFrom c.terminals i ks → Pairs (ConnectFits c) ks (connections c.guests i ks)
  connections_fit i [] stand = tt
  connections_fit i (k ∷ ks) stand = (
    as_connection k (place_of (λ (row : GuestRow). is_at i row.console) c.guests)
        (first_stands (λ (row : GuestRow). is_at i row.console) (λ (row : GuestRow). row.class ≡ k.class) c.guests
        (All-weaker (MayHave c) (λ (row : GuestRow). is_at i row.console ≡ true → row.class ≡ k.class) (λ row has. console_class row i k stand.0 row.console has.console) c.guests held)),
    connections_fit (suc i) ks stand.1,
  )

  mounts_fit : (rows : List GuestRow) → All (MayHave c) rows → Pairs (MountsFit c) rows (map (λ (row : GuestRow). row.mounts) rows)
  mounts_fit [] all = tt
  mounts_fit (row ∷ rows) all = (each_of_all (MountFits c row.class) row.mounts (All-head (MayHave c) row rows all).mounts, mounts_fit rows (All-tail (MayHave c) row rows all))

  pub first_fits : (images : List (List ℕ)) (volumes : List (List (List ℕ))) → Fits c (first_state c images volumes)
  first_fits images volumes = record { connected = connections_fit 0 c.terminals (stand_all c.terminals); mounts = mounts_fit c.guests held }

  module _ (to : AccessClass) where
    -- a terminal that is kept has its guest
    console_alike : (row : GuestRow) → is_kept to row ≡ true → (i : ℕ) (k : Terminal) → slice_get c.terminals i ≡ Some k → terminal_kept c to k ≡ true → (o : Option ℕ) → may_connect c.terminals row.class o ≡ true
        → is_at (rank (terminal_kept c to) c.terminals i) (console_place to c.terminals o) ≡ is_at i o
    console_alike row e i k at f None may = refl
    console_alike row e i k at f (Some j) may = by_terminal (slice_get c.terminals j) refl may
      where
        by_terminal : (o : Option Terminal) → slice_get c.terminals j ≡ o → is_of_class row.class o ≡ true → is_at (rank (terminal_kept c to) c.terminals i) (Some (rank (terminal_kept c to) c.terminals j)) ≡ is_at i (Some j)
        by_terminal None at_j is = absurd (false≢true is)
        by_terminal (Some t) at_j is = rank_same (terminal_kept c to) t k (ap (λ d. does_flow d to) (same_is t.class row.class is) ∙ e) f c.terminals j i at_j at

    connection_kept : (i : ℕ) (k : Terminal) → slice_get c.terminals i ≡ Some k → terminal_kept c to k ≡ true
        → place_of (λ (row : GuestRow). is_at (rank (terminal_kept c to) c.terminals i) row.console) (seen_rows c to c.guests) ≡ option_map (rank (is_kept to) c.guests) (place_of (λ (row : GuestRow). is_at i row.console) c.guests)
    connection_kept i k at f = place_kept (is_kept to) (λ (row : GuestRow). is_at i row.console) (λ (row : GuestRow). is_at (rank (terminal_kept c to) c.terminals i) row.console) (renumbered to c) c.guests
        (All-weaker (MayHave c) (λ (row : GuestRow). is_kept to row ≡ true → is_at (rank (terminal_kept c to) c.terminals i) (renumbered to c row).console ≡ is_at i row.console)
        (λ row has e. console_alike row e i k at f row.console has.console) c.guests held)
        (All-weaker (MayHave c) (λ (row : GuestRow). is_at i row.console ≡ true → is_kept to row ≡ true)
        (λ row has e. ap (λ d. does_flow d to) (console_class row i k at row.console has.console e) ∙ f) c.guests held)

    connections_kept : (i : ℕ) (ks : List Terminal) → StandFrom c.terminals i ks
        → connections (seen_rows c to c.guests) (rank (terminal_kept c to) c.terminals i) (filter (terminal_kept c to) ks) ≡ seen_connected c to ks (connections c.guests i ks)
    connections_kept i [] stand = refl
    connections_kept i (k ∷ ks) stand =
        let later : ℕ → List (Option ℕ) = λ n. connections (seen_rows c to c.guests) n (filter (terminal_kept c to) ks) in
        let rest = connections_kept (suc i) ks stand.1 in
        let next = rank_next (terminal_kept c to) c.terminals i k stand.0 in
        both (terminal_kept c to k)
        (λ e.
        let one = connection_kept i k stand.0 e in
        let place : rank (terminal_kept c to) c.terminals (suc i) ≡ suc (rank (terminal_kept c to) c.terminals i) = rw e at next in
        let more = ap later (sym place) ∙ rest in
        rw e (λ j. one j ∷ more j))
        (λ e.
        let place : rank (terminal_kept c to) c.terminals (suc i) ≡ rank (terminal_kept c to) c.terminals i = rw e at next in
        rw e (ap later (sym place) ∙ rest))

    -- the mounts of the rows that are kept
    mounts_kept : (rows : List GuestRow) → map (λ (row : GuestRow). row.mounts) (seen_rows c to rows) ≡ seen_mounts c to rows (map (λ (row : GuestRow). row.mounts) rows)
    mounts_kept [] = refl
    mounts_kept (row ∷ rows) =
        let rest = mounts_kept rows in
        both (is_kept to row) (λ e. rw e (ap (λ mss. map (mount_place to c.volumes) row.mounts ∷ mss) rest)) (λ e. rw e rest)

    pub first_seen : (images : List (List ℕ)) (volumes : List (List (List ℕ)))
        → first_state (purge_config c to) (purge_images c.guests images to) (purge_volumes c.volumes volumes to) ≡ seen c to (first_state c images volumes)
    first_seen images volumes =
        let connected = ap (λ (n : ℕ). connections (seen_rows c to c.guests) n (filter (terminal_kept c to) c.terminals)) (sym (rank_first (terminal_kept c to) c.terminals)) ∙ connections_kept 0 c.terminals (stand_all c.terminals) in
        let mounts = mounts_kept c.guests in
        let guests = made_beside c to powered (λ row image. refl) c.guests images in
        λ i. record { connected = connected i; mounts = mounts i; guests = guests i; volumes = purge_volumes c.volumes volumes to }
