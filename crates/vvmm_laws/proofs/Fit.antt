-- The commands of a run fit an audit: rounds, terminals, texts; and the audit's line is no other's.
use Rattle.std.proofs.Common.{◌≡◌, ◌≢◌, ℕ, zero, suc, append-nil, ◌<◌, ◌≤◌, ◌==◌, ◌&&◌, nat_le, List, [], ◌∷◌, ◌++◌, map, length, Bool, true, false, refl, ◌∙◌, subst, arith, Option, Some, None, slice_get, slice_index_or, All, option_map, IfSome}
use Rattle.std.specs.List.{AllPairs, cons_option, filter_map, list_all}
use Rattle.std.proofs.lemmas.Bool.{and_parts, cond_both, eqb-true, leb-true, ne_eqb}
use Rattle.std.proofs.lemmas.List.Elements.{All-cons, All-head, All-nil, All-tail}
use Rattle.vvmm_laws.proofs.Puts.{Each, IsApart}
use Rattle.vvmm_laws.proofs.Tracks.{Tracks, rounds_track}
use Rattle.vvmm_laws.proofs.Puts.{no_dump}
use Rattle.sys_audit_check.specs.Audited.{Entry, EntryRoundsNeverFall, IsEntry, audit_bytes, opening_server}
use Rattle.vvmm_laws.specs.Entries.{entries_in, entries_over, entry_of, entry_of_line, entry_placed, entry_typed}
use Rattle.vvmm_laws.specs.Runs.{AuditsRuns}
use Rattle.sys_objects.specs.Condition.{IsConfig}
use Rattle.sys_objects.specs.Rules.{audit_line}
use Rattle.sys_objects.specs.declared.records.Audit.{Audit}
use Rattle.sys_objects.specs.declared.records.Config.{Config}
use Rattle.sys_objects.specs.declared.records.GuestRow.{GuestRow}
use Rattle.sys_objects.specs.declared.records.PrinterRow.{PrinterRow}
use Rattle.sys_objects.specs.declared.records.Terminal.{Terminal}
use Rattle.sys_state.specs.Events.{happened, is_named}
use Rattle.sys_state.specs.Places.{place_of}
use Rattle.sys_objects.specs.Places.{is_at}
use Rattle.sys_state.specs.Run.{events_of, first_state, round, rounds, run}
use Rattle.sys_state.specs.State.{SystemState}
use Rattle.sys_script.specs.Events.{IsEvent}
use Rattle.sys_script.specs.EventLine.{is_allowed}
use Rattle.sys_script.specs.Texts.{is_text}
use Rattle.sys_script.specs.declared.event.Event.{Event}
use Rattle.sys_script.specs.declared.event.Typed.{Typed}
use Rattle.sys_script.specs.declared.event.Typed.TheVariants.{Break, Line}

-- lists
each_all : {X : Type 0} (P : X → Type 0) (xs : List X) → Each P xs → All P xs
each_all P [] h = All-nil P
each_all P (x ∷ xs) h = All-cons P x xs h.0 (each_all P xs h.1)

each_append : {X : Type 0} (P : X → Type 0) (xs ys : List X) → Each P xs → Each P ys → Each P (xs ++ ys)
each_append P [] ys h k = k
each_append P (x ∷ xs) ys h k = (h.0, each_append P xs ys h.1 k)

each_front : {X : Type 0} (P : X → Type 0) (xs ys : List X) → Each P (xs ++ ys) → Each P xs × Each P ys
each_front P [] ys h = (tt, h)
each_front P (x ∷ xs) ys h = let rest = each_front P xs ys h.1 in ((h.0, rest.0), rest.1)

last_of : {X : Type 0} (P : X → Type 0) (xs : List X) (y : X) → All P (xs ++ y ∷ []) → P y
last_of P [] y all = All-head P y [] all
last_of P (x ∷ xs) y all = last_of P xs y (All-tail P x (xs ++ y ∷ []) all)

each_before : (xs : List ℕ) (y : ℕ) → AllPairs (λ a b. a ≢ b) (xs ++ y ∷ []) → Each (λ x. x ≢ y) xs
each_before [] y pairs = tt
each_before (x ∷ xs) y pairs =
    let first : All (λ b. x ≢ b) (xs ++ y ∷ []) = λ k d h. pairs 0 (suc k) d (omega arith) (omega (arith, h)) in
    let rest : AllPairs (λ a b. a ≢ b) (xs ++ y ∷ []) = λ i j d low h. pairs (suc i) (suc j) d (omega (arith, low)) (omega (arith, h)) in
    (last_of (λ b. x ≢ b) xs y first, each_before xs y rest)

-- the audit's line
module _ (line : ℕ) where
  terminals_far : (ts : List Terminal) → Each (λ l. l ≢ line) (map (λ t. t.line) ts) → Each (λ t. (t.line == line) ≡ false) ts
  terminals_far [] h = tt
  terminals_far (t ∷ ts) h = (ne_eqb t.line line h.0, terminals_far ts h.1)

  printers_far : (ps : List PrinterRow) → Each (λ l. l ≢ line) (map (λ p. p.line) ps) → Each (λ p. (p.line == line) ≡ false) ps
  printers_far [] h = tt
  printers_far (p ∷ ps) h = (ne_eqb p.line line h.0, printers_far ps h.1)

  dump_far : (o : Option ℕ) (rest : List ℕ) → Each (λ l. l ≢ line) (cons_option o rest) → (is_at line o ≡ false) × Each (λ l. l ≢ line) rest
  dump_far None rest h = (refl, h)
  dump_far (Some l) rest h = (ne_eqb l line h.0, h.1)

  dumps_far : (rows : List GuestRow) → Each (λ l. l ≢ line) (filter_map (λ g. g.dump) rows) → Each (λ row. is_at line row.dump ≡ false) rows
  dumps_far [] h = tt
  dumps_far (row ∷ rows) h = let own = dump_far row.dump (filter_map (λ g. g.dump) rows) h in (own.0, dumps_far rows own.1)

apart_of : (c : Config) (a : Audit) → IsConfig c → c.audit ≡ Some a → IsApart c a.line
apart_of c a is audited =
    let ts : List ℕ = map (λ t. t.line) c.terminals in
    let ps : List ℕ = map (λ p. p.line) c.printers in
    let ds : List ℕ = filter_map (λ g. g.dump) c.guests in
    let pairs : AllPairs (λ x y. x ≢ y) (((ts ++ ps) ++ ds) ++ a.line ∷ []) = subst (λ o. AllPairs (λ x y. x ≢ y) (((ts ++ ps) ++ ds) ++ audit_line o)) audited is.lines in
    let all = each_front (λ l. l ≢ a.line) (ts ++ ps) ds (each_before ((ts ++ ps) ++ ds) a.line pairs) in
    let two = each_front (λ l. l ≢ a.line) ts ps all.0 in
    record { terminals = terminals_far a.line c.terminals two.0; printers = printers_far a.line c.printers two.1; dumps = dumps_far a.line c.guests all.1 }

-- entries
place_fits : {X : Type 0} (p : X → Bool) (xs : List X) → IfSome (place_of p xs) (λ n. n < length xs)
place_fits p [] = tt
place_fits p (x ∷ xs) = cond_both (p x) (Some 0) (option_map suc (place_of p xs)) (λ o. IfSome o (λ n. n < length (x ∷ xs))) (λ t. omega arith) (λ t. later (place_of p xs) (place_fits p xs))
  where
    later : (o : Option ℕ) → IfSome o (λ n. n < length xs) → IfSome (option_map suc o) (λ n. n < length (x ∷ xs))
    later None h = tt
    later (Some n) h = omega (arith, h)

abbrev IsOf : Config → ℕ → Entry → Type 0
IsOf c i e = IsEntry c e × (e.round ≡ i)

printed : (bytes : List ℕ) → list_all (λ b. nat_le 32 b && nat_le b 126) bytes ≡ true → All (λ b. (32 ≤ b) × (b ≤ 126)) bytes
printed [] h = All-nil (λ b. (32 ≤ b) × (b ≤ 126))
printed (b ∷ bytes) h =
    let two = and_parts (nat_le 32 b && nat_le b 126) (list_all (λ x. nat_le 32 x && nat_le x 126) bytes) h in
    let own = and_parts (nat_le 32 b) (nat_le b 126) two.0 in
    All-cons (λ x. (32 ≤ x) × (x ≤ 126)) b bytes (leb-true 32 b own.0, leb-true b 126 own.1) (printed bytes two.1)

abbrev Allowed : Typed → Type 0
Allowed what = is_allowed what ≡ true

module _ (c : Config) (i : ℕ) (some : 1 ≤ i) (few : i ≤ 1000000) where
  at_fits : (n : ℕ) (text : List ℕ) (o : Option ℕ) → n < length c.terminals → is_text text ≡ true → Each (IsOf c i) (entry_of_line i n text o)
  at_fits n text (Some g) there is = tt
  at_fits n text None there is =
      let two = and_parts (nat_le (length text) 1000) (list_all (λ b. nat_le 32 b && nat_le b 126) text) is in
      ((record { some = some; few = few; there = there; short = leb-true (length text) 1000 two.0; printed = printed text two.1 }, refl), tt)

  by_fits : (s : SystemState) (n : ℕ) (o : Option Terminal) (what : Typed) → n < length c.terminals → Allowed what → Each (IsOf c i) (entry_typed i s n o what)
  by_fits s n None what there is = tt
  by_fits s n (Some t) Break there is = tt
  by_fits s n (Some t) (Line text) there is = at_fits n text (slice_index_or s.connected n None) there is

  placed_fits : (s : SystemState) (o : Option ℕ) (what : Typed) → IfSome o (λ n. n < length c.terminals) → Allowed what → Each (IsOf c i) (entry_placed c i s o what)
  placed_fits s None what there is = tt
  placed_fits s (Some n) what there is = by_fits s n (slice_get c.terminals n) what there is

  in_fits : (s : SystemState) (es : List Event) → Each (λ e. Allowed e.what) es → Each (IsOf c i) (entries_in c i s es)
  in_fits s [] h = tt
  in_fits s (e ∷ es) h =
      each_append (IsOf c i) (entry_of c i s e) (entries_in c i (happened c i s e).now es)
      (placed_fits s (place_of (is_named e.terminal) c.terminals) e.what (place_fits (is_named e.terminal) c.terminals) h.0)
      (in_fits (happened c i s e).now es h.1)

-- the events of a round
of_round : (i : ℕ) (es : List Event) → Each IsEvent es → Each (λ e. IsEvent e × (e.round ≡ i)) (events_of i es)
of_round i [] h = tt
of_round i (e ∷ es) h = cond_both (e.round == i) (e ∷ events_of i es) (events_of i es) (Each (λ x. IsEvent x × (x.round ≡ i))) (λ is. ((h.0, eqb-true e.round i is), of_round i es h.1)) (λ other. of_round i es h.1)

all_allowed : (i : ℕ) (es : List Event) → Each (λ e. IsEvent e × (e.round ≡ i)) es → Each (λ e. Allowed e.what) es
all_allowed i [] h = tt
all_allowed i (e ∷ es) h = (h.0.0.what, all_allowed i es h.1)

-- where a round has an event, it is one to 1,000,000
in_round : (c : Config) (i : ℕ) (s : SystemState) (es : List Event) → Each (λ e. IsEvent e × (e.round ≡ i)) es → Each (IsOf c i) (entries_in c i s es)
in_round c i s [] h = tt
in_round c i s (e ∷ es) h =
    let some : 1 ≤ i = omega (arith, h.0.0.from, h.0.1) in
    let few : i ≤ 1000000 = omega (arith, h.0.0.to, h.0.1) in
    in_fits c i some few s (e ∷ es) (all_allowed i (e ∷ es) h)

lower : (a b : ℕ) (es : List Entry) → a ≤ b → EntryRoundsNeverFall b es → EntryRoundsNeverFall a es
lower a b [] h order = tt
lower a b (e ∷ es) h order = (omega (arith, h, order.0), order.1)

order_then : (c : Config) (from i : ℕ) (xs ys : List Entry) → from ≤ i → Each (IsOf c i) xs → EntryRoundsNeverFall i ys → EntryRoundsNeverFall from (xs ++ ys)
order_then c from i [] ys h each order = lower from i ys h order
order_then c from i (x ∷ xs) ys h each order = (omega (arith, h, each.0.1), order_then c x.round i xs ys (omega (arith, each.0.1)) each.1 order)

-- all of them, and in order
pub record Fit (c : Config) (from : ℕ) (es : List Entry) : Type 0 where
  pub each : Each (IsEntry c) es
  pub order : EntryRoundsNeverFall from es

are_entries : (c : Config) (i : ℕ) (es : List Entry) → Each (IsOf c i) es → Each (IsEntry c) es
are_entries c i [] h = tt
are_entries c i (e ∷ es) h = (h.0.0, are_entries c i es h.1)

rounds_fit : (c : Config) (i n : ℕ) (es : List Event) (s : SystemState) → Each IsEvent es → Fit c i (entries_over c i n es s)
rounds_fit c i zero es s h = record { each = tt; order = tt }
rounds_fit c i (suc n) es s h =
    let own : List Entry = entries_in c i s (events_of i es) in
    let later : List Entry = entries_over c (suc i) n es (round c i es s).now in
    let first : Each (IsOf c i) own = in_round c i s (events_of i es) (of_round i es h) in
    let rest : Fit c (suc i) later = rounds_fit c (suc i) n es (round c i es s).now h in
    record {
      each = each_append (IsEntry c) own later (are_entries c i own first) rest.each;
      order = order_then c i i own later (omega arith) first (lower i (suc i) later (omega arith) rest.order);
    }

each_of : {X : Type 0} (P : X → Type 0) (xs : List X) → All P xs → Each P xs
each_of P [] all = tt
each_of P (x ∷ xs) all = (All-head P x xs all, each_of P xs (All-tail P x xs all))

pub audits_runs : AuditsRuns
audits_runs x a is events audited =
    let c = x.config in
    let first : SystemState = first_state c x.images x.volumes in
    let apart : IsApart c a.line = apart_of c a is audited in
    let entries : List Entry = entries_over c 1 x.rounds x.events first in
    let tracks : Tracks c a.line (opening_server c) entries (rounds c 1 x.rounds x.events first) = rounds_track c a audited apart 1 x.rounds (opening_server c) first x.events refl in
    let fit : Fit c 1 entries = rounds_fit c 1 x.rounds x.events first (each_of IsEvent x.events events.each) in
    record {
      entries = entries;
      each = each_all (IsEntry c) entries fit.each;
      order = fit.order;
      is = (λ i. tracks.bytes i ++ no_dump a.line c apart (run x).now.guests i) ∙ append-nil (audit_bytes c (opening_server c) entries);
    }
