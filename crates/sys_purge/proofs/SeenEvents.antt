-- What events make of what a class sees: those that are kept the same, those that aren't nothing.
use Rattle.std.proofs.Common.{◌≡◌, ℕ, zero, suc, List, [], ◌∷◌, map, filter, Bool, true, false, refl, sym, ap, ◌∙◌, Option, Some, None, option_map, slice_get, slice_index_or, true≢false}
use Rattle.std.specs.Prelude.{find}
use Rattle.std.specs.Option.{option_map_or}
use Rattle.vv_class.specs.declared.class.AccessClass.{AccessClass}
use Rattle.vv_class.specs.Class.{does_flow}
use Rattle.sys_objects.specs.declared.records.Config.{Config}
use Rattle.sys_objects.specs.declared.records.Terminal.{Terminal}
use Rattle.sys_purge.proofs.Accepted.{terminal_kept}
use Rattle.sys_purge.proofs.Beside.{beside_changed, beside_unchanged, beside_unset, index_beside, index_map, passes_at, passes_row}
use Rattle.sys_purge.proofs.Fits.{ConnectFits, Fits, fits_happened, pairs_at, verdict_fits}
use Rattle.sys_purge.proofs.Judged.{keeps_verdicts}
use Rattle.sys_purge.proofs.Kept.{both, get_kept}
use Rattle.sys_purge.proofs.Seen.{holds_passes, seen, seen_verdict, server_seen, set_seen, unseen_verdict}
use Rattle.sys_purge.specs.Events.{is_kept_event, purge_events}
use Rattle.sys_purge.specs.Input.{beside, is_kept}
use Rattle.sys_purge.specs.Judged.{guest_rank, moved_verdict}
use Rattle.sys_purge.specs.Purge.{purge_config, rank}
use Rattle.sys_state.specs.Events.{after_verdict, at_place, events, happened, is_named, lined, typed_at_terminal}
use Rattle.sys_state.specs.Guests.{typed}
use Rattle.sys_state.specs.Places.{place_of}
use Rattle.sys_state.specs.State.{SystemState, server_of}
use Rattle.sys_script.specs.declared.event.Event.{Event}
use Rattle.sys_script.specs.declared.event.Typed.{Typed}
use Rattle.sys_script.specs.declared.event.Typed.TheVariants.{Break, Line}
use Rattle.sys_server.specs.Verdict.{verdict_of}
use Rattle.sys_server.specs.declared.command.Verdict.{Verdict}

-- what is at the place that was found
abbrev pub Found : {X : Type 0} → (X → Bool) → List X → Option ℕ → Type 0
Found {X} p xs None = find p xs ≡ None
Found {X} p xs (Some k) = (x : X) × (slice_get xs k ≡ Some x) × (find p xs ≡ Some x)

found_after : {X : Type 0} (p : X → Bool) (x : X) (xs : List X) → p x ≡ false → (o : Option ℕ) → Found p xs o → Found p (x ∷ xs) (option_map suc o)
found_after p x xs e None h = rw e h
found_after p x xs e (Some k) h = (h.0, h.1, rw e (h.2))

pub found : {X : Type 0} (p : X → Bool) (xs : List X) → Found p xs (place_of p xs)
found p [] = refl
found p (x ∷ xs) = both (p x) (λ e. rw e (x, refl, rw e refl)) (λ e. rw e (found_after p x xs e (place_of p xs) (found p xs)))

-- the first that passes is the first among the kept, where it is kept
here_first : {X : Type 0} (p test : X → Bool) (x y : X) (ys : List X) → test x ≡ true → (n : ℕ) → Some 0 ≡ Some n → slice_get (y ∷ ys) n ≡ Some x → p y ≡ true → place_of p (filter test (y ∷ ys)) ≡ Some (rank test (y ∷ ys) n)
here_first p test x y ys v zero s g e = let q : y ≡ x = cc in let k : test y ≡ true = ap test q ∙ v in rw (k, e) refl
here_first p test x y ys v (suc n) s g e = cc

later_first : {X : Type 0} (p test : X → Bool) (x y : X) (ys : List X) → ((n : ℕ) → place_of p ys ≡ Some n → slice_get ys n ≡ Some x → place_of p (filter test ys) ≡ Some (rank test ys n))
    → (o : Option ℕ) → place_of p ys ≡ o → (n : ℕ) → option_map suc o ≡ Some n → slice_get (y ∷ ys) n ≡ Some x → p y ≡ false → place_of p (filter test (y ∷ ys)) ≡ Some (rank test (y ∷ ys) n)
later_first p test x y ys rest None q n s g e = cc
later_first p test x y ys rest (Some m) q zero s g e = cc
later_first p test x y ys rest (Some m) q (suc n) s g e =
    let k : m ≡ n = cc in
    let more : place_of p (filter test ys) ≡ Some (rank test ys n) = rest n (q ∙ ap Some k) g in
    both (test y) (λ b. rw (b, e) (ap (option_map suc) more)) (λ b. rw b more)

pub first_kept : {X : Type 0} (p test : X → Bool) (x : X) → test x ≡ true → (xs : List X) (n : ℕ) → place_of p xs ≡ Some n → slice_get xs n ≡ Some x → place_of p (filter test xs) ≡ Some (rank test xs n)
first_kept p test x v [] n h g = cc
first_kept p test x v (y ∷ ys) n h g =
    let rest = first_kept p test x v ys in
    both (p y) (λ e. here_first p test x y ys v n (rw e at h) g e) (λ e. later_first p test x y ys rest (place_of p ys) refl n (rw e at h) g e)

module _ (c : Config) (to : AccessClass) where
  abbrev pub sees : Terminal → Bool
  sees k = does_flow k.class to

  abbrev pub seen_place : ℕ → ℕ
  seen_place n = rank (terminal_kept c to) c.terminals n

  -- the verdict at a terminal that is seen
  pub verdict_seen : (s : SystemState) (n : ℕ) (k : Terminal) (text : List ℕ) → slice_get c.terminals n ≡ Some k → sees k ≡ true
      → verdict_of (purge_config c to) (server_of (seen c to s)) (seen_place n) text ≡ moved_verdict c to (verdict_of c (server_of s) n text)
  verdict_seen s n k text at e =
      ap (λ t. verdict_of (purge_config c to) t (seen_place n) text) (server_seen c to s) ∙ keeps_verdicts c to (server_of s) n k text at e

  -- the connection at a terminal that is seen
  pub connection_seen : (s : SystemState) (n : ℕ) → passes_at (terminal_kept c to) c.terminals n ≡ true → slice_index_or (seen c to s).connected (seen_place n) None ≡ option_map (guest_rank c to) (slice_index_or s.connected n None)
  connection_seen s n p =
      index_map (option_map (guest_rank c to)) (beside (terminal_kept c to) c.terminals s.connected) (seen_place n) None None refl
      ∙ ap (option_map (guest_rank c to)) (index_beside (terminal_kept c to) c.terminals s.connected n None p)

  pub connection_fits : (s : SystemState) → Fits c s → (n : ℕ) (k : Terminal) → slice_get c.terminals n ≡ Some k → ConnectFits c k (slice_index_or s.connected n None)
  connection_fits s f n k at = pairs_at (ConnectFits c) c.terminals s.connected n k None f.connected at tt

  -- a line and a break at a terminal that is seen
  seen_lined : (round : ℕ) (s : SystemState) → Fits c s → (n : ℕ) (k : Terminal) → slice_get c.terminals n ≡ Some k → sees k ≡ true → (text : List ℕ) (o : Option ℕ) → ConnectFits c k o
      → (lined (purge_config c to) round (seen c to s) (seen_place n) k text (option_map (guest_rank c to) o)).now ≡ seen c to (lined c round s n k text o).now
  seen_lined round s f n k at e text None h =
      let p = passes_row (terminal_kept c to) c.terminals n k at ∙ e in
      ap (λ (v : Verdict). (after_verdict (purge_config c to) (seen c to s) (seen_place n) k v).now) (verdict_seen s n k text at e)
      ∙ seen_verdict c to s f n k p k.class e (verdict_of c (server_of s) n text) (verdict_fits c s n k text at)
  seen_lined round s f n k at e text (Some g) h =
      let guests = sym (beside_changed (is_kept to) (typed text) c.guests s.guests g (holds_passes c to k.class g h ∙ e)) in
      λ i. record (seen c to s) { guests = guests i }

  seen_acted : (round : ℕ) (s : SystemState) → Fits c s → (n : ℕ) (k : Terminal) → slice_get c.terminals n ≡ Some k → sees k ≡ true → (what : Typed)
      → (typed_at_terminal (purge_config c to) round (seen c to s) (seen_place n) k what).now ≡ seen c to (typed_at_terminal c round s n k what).now
  seen_acted round s f n k at e Break =
      let connected = sym (set_seen c to s.connected n None (passes_row (terminal_kept c to) c.terminals n k at ∙ e)) in
      λ i. record (seen c to s) { connected = connected i }
  seen_acted round s f n k at e (Line text) =
      let p = passes_row (terminal_kept c to) c.terminals n k at ∙ e in
      ap (λ o. (lined (purge_config c to) round (seen c to s) (seen_place n) k text o).now) (connection_seen s n p)
      ∙ seen_lined round s f n k at e text (slice_index_or s.connected n None) (connection_fits s f n k at)

  -- at one that isn't
  unseen_lined : (round : ℕ) (s : SystemState) → Fits c s → (n : ℕ) (k : Terminal) → slice_get c.terminals n ≡ Some k → sees k ≡ false → (text : List ℕ) (o : Option ℕ) → ConnectFits c k o
      → seen c to (lined c round s n k text o).now ≡ seen c to s
  unseen_lined round s f n k at e text None h =
      unseen_verdict c to s f n k (passes_row (terminal_kept c to) c.terminals n k at ∙ e) k.class e (verdict_of c (server_of s) n text) (verdict_fits c s n k text at)
  unseen_lined round s f n k at e text (Some g) h =
      let guests = beside_unchanged (is_kept to) (typed text) c.guests s.guests g (holds_passes c to k.class g h ∙ e) in
      λ i. record (seen c to s) { guests = guests i }

  unseen_acted : (round : ℕ) (s : SystemState) → Fits c s → (n : ℕ) (k : Terminal) → slice_get c.terminals n ≡ Some k → sees k ≡ false → (what : Typed)
      → seen c to (typed_at_terminal c round s n k what).now ≡ seen c to s
  unseen_acted round s f n k at e Break =
      let connected = ap (map (option_map (guest_rank c to))) (beside_unset (terminal_kept c to) c.terminals s.connected n None (passes_row (terminal_kept c to) c.terminals n k at ∙ e)) in
      λ i. record (seen c to s) { connected = connected i }
  unseen_acted round s f n k at e (Line text) = unseen_lined round s f n k at e text (slice_index_or s.connected n None) (connection_fits s f n k at)

  -- whether an event is kept, by the first terminal of its name
  abbrev pub is_kept_at : Option Terminal → Bool
  is_kept_at o = option_map_or (λ t. does_flow t.class to) o false

  seen_place_now : (round : ℕ) (s : SystemState) → Fits c s → (name : List ℕ) (o : Option ℕ) → place_of (is_named name) c.terminals ≡ o → Found (is_named name) c.terminals o → is_kept_at (find (is_named name) c.terminals) ≡ true → (what : Typed)
      → (at_place (purge_config c to) round (seen c to s) (place_of (is_named name) (filter sees c.terminals)) what).now ≡ seen c to (at_place c round s o what).now
  seen_place_now round s f name None q h e what = absurd (true≢false (sym e ∙ ap is_kept_at h))
  seen_place_now round s f name (Some n) q h e what =
      let k : Terminal = h.0 in
      let at : slice_get c.terminals n ≡ Some k = h.1 in
      let kept : sees k ≡ true = sym (ap is_kept_at h.2) ∙ e in
      let first : place_of (is_named name) (filter sees c.terminals) ≡ Some (rank sees c.terminals n) = first_kept (is_named name) sees k kept c.terminals n q at in
      let new : slice_get (filter sees c.terminals) (rank sees c.terminals n) ≡ Some k = get_kept sees k kept c.terminals n at in
      rw first (rw (at, new) (seen_acted round s f n k at kept what))

  pub kept_now : (round : ℕ) (s : SystemState) → Fits c s → (e : Event) → is_kept_event c to e ≡ true → (happened (purge_config c to) round (seen c to s) e).now ≡ seen c to (happened c round s e).now
  kept_now round s f e h = seen_place_now round s f e.terminal (place_of (is_named e.terminal) c.terminals) refl (found (is_named e.terminal) c.terminals) h e.what

  unseen_place_now : (round : ℕ) (s : SystemState) → Fits c s → (name : List ℕ) (o : Option ℕ) → Found (is_named name) c.terminals o → is_kept_at (find (is_named name) c.terminals) ≡ false → (what : Typed)
      → seen c to (at_place c round s o what).now ≡ seen c to s
  unseen_place_now round s f name None h e what = refl
  unseen_place_now round s f name (Some n) h e what =
      let at : slice_get c.terminals n ≡ Some h.0 = h.1 in
      rw at (unseen_acted round s f n h.0 at (sym (ap is_kept_at h.2) ∙ e) what)

  pub dropped_now : (round : ℕ) (s : SystemState) → Fits c s → (e : Event) → is_kept_event c to e ≡ false → seen c to (happened c round s e).now ≡ seen c to s
  dropped_now round s f e h = unseen_place_now round s f e.terminal (place_of (is_named e.terminal) c.terminals) (found (is_named e.terminal) c.terminals) h e.what

  -- one after another
  pub events_now : (round : ℕ) (s : SystemState) → Fits c s → (es : List Event) → (events (purge_config c to) round (seen c to s) (purge_events c es to)).now ≡ seen c to (events c round s es).now
  events_now round s f [] = refl
  events_now round s f (e ∷ es) =
      let first = happened c round s e in
      let rest = events_now round first.now (fits_happened c round s f e) es in
      let later : SystemState → SystemState = λ t. (events (purge_config c to) round t (purge_events c es to)).now in
      both (is_kept_event c to e)
      (λ k. rw k (ap later (kept_now round s f e k) ∙ rest))
      (λ k. rw k (ap later (sym (dropped_now round s f e k)) ∙ rest))
