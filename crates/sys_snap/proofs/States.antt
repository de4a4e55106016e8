-- A whole snapshot is read as what it was written of.
use Rattle.std.specs.Option.{option_map_or}
use Rattle.std.proofs.Common.{ℕ, zero, suc, ◌≡◌, ◌≤◌, ◌+◌, ◌-◌, ◌*◌, ◌==◌, nat_le, List, [], ◌∷◌, ◌++◌, length, take, drop, map, replicate, refl, sym, ◌∙◌, ap, subst, arith, Bool, true, false, not, ◌&&◌, Option, Some, None, append-nil}
use Rattle.std.specs.Prelude.{Ok, flat_map, slice_get, slice_index_or, All}
use Rattle.std.specs.List.{AllZip, list_all, list_any}
use Rattle.std.proofs.lemmas.Bool.{false≢true, le-leb, ne_eqb, and_parts}
use Rattle.std.proofs.lemmas.List.{take_at, drop_at, length-append, length-replicate, length-map}
use Rattle.std.proofs.lemmas.List.Elements.{All-head, All-tail}
use Rattle.vv_base.specs.Bytes.{long_bytes}
use Rattle.vv_class.specs.declared.class.AccessClass.{AccessClass}
use Rattle.sys_config.proofs.Accepted.{accepted_is}
use Rattle.sys_config.specs.Config.{config_of}
use Rattle.sys_objects.specs.Condition.{IsConfig}
use Rattle.sys_objects.specs.Rules.{is_mountable, may_mount, same_place, same_class}
use Rattle.sys_objects.specs.declared.records.Config.{Config}
use Rattle.sys_objects.specs.declared.records.GuestRow.{GuestRow}
use Rattle.sys_objects.specs.declared.records.Mount.{Mount}
use Rattle.sys_objects.specs.declared.records.Terminal.{Terminal}
use Rattle.sys_objects.specs.declared.records.VolumeRow.{VolumeRow}
use Rattle.sys_snap.proofs.Fields.{ReadsAs, got, reads_field, reads_four, reads_last, reads_none, reads_then, rest_at}
use Rattle.sys_snap.proofs.Records.{reads_record}
use Rattle.sys_snap.specs.Conditions.{may_all_sit, may_sit}
use Rattle.sys_snap.specs.Laws.{ReadsEach}
use Rattle.sys_state.specs.Run.{Moment}
use Rattle.sys_snap.specs.Reader.{accepted_config, all_bytes, at_end, cut_blocks, guest_reading, head_in, moment_got, moment_in, pair_in, record_in, seated_guest, seats_in, snap_in, state_in, units_in, volume_in}
use Rattle.sys_snap.specs.Reading.{Reading, ◌>>=◌, done, each, field, four, continued_by, times}
use Rattle.sys_snap.specs.Snap.{AreUnitsOf, IsGuestOf, IsMoment, IsVolumeOf}
use Rattle.sys_snap.specs.Written.{guest_bytes, guest_record_bytes, mount_bytes, place_byte, seat_bytes, snap_bytes, snap_head, state_bytes}
use Rattle.vm_state.specs.State.{Guest}

-- bytes of several, one after another
reads_each : {A B : Type 0} (p : A → Reading B) (write : B → List ℕ) (R : A → B → Type 0) → ((x : A) (y : B) → R x y → ReadsAs (p x) (write y) y) → (xs : List A) (ys : List B) → AllZip R xs ys → ReadsAs (each p xs) (flat_map write ys) ys
reads_each p write R reads [] [] h = reads_none []
reads_each p write R reads [] (y ∷ ys) h = absurd h
reads_each p write R reads (x ∷ xs) [] h = absurd h
reads_each p write R reads (x ∷ xs) (y ∷ ys) h =
    reads_then (p x) _ (write y) (flat_map write ys) y (y ∷ ys) (reads x y h.0)
    (reads_last (each p xs) (λ zs. y ∷ zs) (flat_map write ys) ys (reads_each p write R reads xs ys h.1))

reads_times : {A : Type 0} (p : Reading A) (write : A → List ℕ) (n : ℕ) (ys : List A) → length ys ≡ n → All (λ y. ReadsAs p (write y) y) ys → ReadsAs (times n p) (flat_map write ys) ys
reads_times p write zero [] long each = reads_none []
reads_times p write zero (y ∷ ys) long each = absurd (omega (arith, long))
reads_times p write (suc n) [] long each = absurd (omega (arith, long))
reads_times p write (suc n) (y ∷ ys) long each =
    reads_then p _ (write y) (flat_map write ys) y (y ∷ ys) (All-head (λ z. ReadsAs p (write z) z) y ys each)
    (reads_last (times n p) (λ zs. y ∷ zs) (flat_map write ys) ys (reads_times p write n ys (omega (arith, long)) (All-tail (λ z. ReadsAs p (write z) z) y ys each)))

-- guests
reads_guest : (row : GuestRow) (g : Guest) → IsGuestOf row g → ReadsAs (guest_reading row) (guest_bytes g) g
unfolding guest_reading
reads_guest row g is =
    let reads : ReadsAs (record_in (512 * row.pages) row.modify_faults) (guest_record_bytes g.state) g.state =
    subst (λ f. ReadsAs (record_in (512 * row.pages) f) (guest_record_bytes g.state) g.state) is.modify_faults (reads_record (512 * row.pages) g.state is.is) in
    reads_then (record_in (512 * row.pages) row.modify_faults) _ (guest_record_bytes g.state) _ g.state _ reads
    (reads_last (field (512 * row.pages) all_bytes) _ g.memory g.memory (reads_field (512 * row.pages) all_bytes g.memory g.memory is.size refl))

-- mounts
get_past : {X : Type 0} (xs : List X) (k : ℕ) → length xs ≤ k → slice_get xs k ≡ None
get_past [] k h = refl
get_past (y ∷ xs) zero h = absurd (omega (arith, h))
get_past (y ∷ xs) (suc k) h = get_past xs k (omega (arith, h))

mount_short : (volumes : List VolumeRow) (class : AccessClass) (v : ℕ) (write : Bool) → length volumes ≤ 16 → may_mount volumes class (Some (record { volume = v; write = write })) ≡ true → (v == 255) ≡ false
mount_short volumes class v write few may = ne_eqb v 255 (λ same.
    let none : slice_get volumes v ≡ None = get_past volumes v (omega (arith, same, few)) in
    false≢true (ap (is_mountable class write) (sym none) ∙ may))

pair_means : (volumes : List VolumeRow) (class : AccessClass) (m : Option Mount) → length volumes ≤ 16 → may_mount volumes class m ≡ true → pair_in volumes class (mount_bytes m) ≡ Some m
pair_means volumes class None few may = refl
pair_means volumes class (Some m) few may = by_write m.volume m.write may
  where
    by_write : (v : ℕ) (write : Bool) → may_mount volumes class (Some (record { volume = v; write = write })) ≡ true → pair_in volumes class (mount_bytes (Some (record { volume = v; write = write }))) ≡ Some (Some (record { volume = v; write = write }))
    by_write v true may = rw (mount_short volumes class v true few may) (rw may refl)
    by_write v false may = rw (mount_short volumes class v false few may) (rw may refl)

pair_long : (m : Option Mount) → length (mount_bytes m) ≡ 2
pair_long None = refl
pair_long (Some m) = refl

reads_units : (volumes : List VolumeRow) → length volumes ≤ 16 → (row : GuestRow) (units : List (Option Mount)) → AreUnitsOf volumes row units → ReadsAs (units_in volumes row) (flat_map mount_bytes units) units
reads_units volumes few row units are = reads_times (field 2 (pair_in volumes row.class)) mount_bytes 4 units are.four
    (λ k d h. let m = slice_index_or units k d in reads_field 2 (pair_in volumes row.class) (mount_bytes m) m (pair_long m) (pair_means volumes row.class m few (are.may k d h)))

-- volumes
abbrev joined : List (List ℕ) → List ℕ
joined blocks = flat_map (λ b. b) blocks

joined_long : (blocks : List (List ℕ)) → All (λ b. length b ≡ 512) blocks → length (joined blocks) ≡ 512 * length blocks
joined_long [] each = refl
joined_long (b ∷ blocks) each =
    omega (arith, length-append b (joined blocks), All-head (λ (x : List ℕ). length x ≡ 512) b blocks each, joined_long blocks (All-tail (λ (x : List ℕ). length x ≡ 512) b blocks each))

cut_back : (n : ℕ) (blocks : List (List ℕ)) → length blocks ≡ n → All (λ b. length b ≡ 512) blocks → cut_blocks n (joined blocks) ≡ blocks
cut_back zero [] many each = refl
cut_back zero (b ∷ blocks) many each = absurd (omega (arith, many))
cut_back (suc n) [] many each = absurd (omega (arith, many))
cut_back (suc n) (b ∷ blocks) many each =
    let long : length b ≡ 512 = All-head (λ (x : List ℕ). length x ≡ 512) b blocks each in
    let front : take 512 (b ++ joined blocks) ≡ b = take_at b (joined blocks) 512 long in
    let back : drop 512 (b ++ joined blocks) ≡ joined blocks = drop_at b (joined blocks) 512 long in
    rw front (rw back (ap (λ bs. b ∷ bs) (cut_back n blocks (omega (arith, many)) (All-tail (λ (x : List ℕ). length x ≡ 512) b blocks each))))

reads_volume : (row : VolumeRow) (blocks : List (List ℕ)) → IsVolumeOf row blocks → ReadsAs (volume_in row) (joined blocks) blocks
reads_volume row blocks is =
    let long : length (joined blocks) ≡ 512 * row.blocks = joined_long blocks is.long ∙ ap (λ n. 512 * n) is.many in
    reads_field (512 * row.blocks) (λ bytes. Some (cut_blocks row.blocks bytes)) (joined blocks) blocks long (ap Some (cut_back row.blocks blocks is.many is.long))

-- the 32 places
seats_fit : (rows : List GuestRow) (ts : List Terminal) (seats : List (Option ℕ)) → length rows ≤ 16 → may_all_sit rows ts seats ≡ true → (length seats ≡ length ts) × (map seated_guest (map place_byte seats) ≡ seats)
seats_fit rows [] [] few sit = (refl, refl)
seats_fit rows [] (seat ∷ seats) few sit = absurd (false≢true sit)
seats_fit rows (t ∷ ts) [] few sit = absurd (false≢true sit)
seats_fit rows (t ∷ ts) (seat ∷ seats) few sit =
    let first : (may_sit rows t seat && not (list_any (same_place seat) seats) ≡ true) × (may_all_sit rows ts seats ≡ true) = and_parts (may_sit rows t seat && not (list_any (same_place seat) seats)) (may_all_sit rows ts seats) sit in
    let own : (may_sit rows t seat ≡ true) × (not (list_any (same_place seat) seats) ≡ true) = and_parts (may_sit rows t seat) (not (list_any (same_place seat) seats)) first.0 in
    let rest : (length seats ≡ length ts) × (map seated_guest (map place_byte seats) ≡ seats) = seats_fit rows ts seats few first.1 in
    (omega (arith, rest.0), λ i. back seat own.0 i ∷ rest.1 i)
  where
    back : (seat : Option ℕ) → may_sit rows t seat ≡ true → seated_guest (place_byte seat) ≡ seat
    back None may = refl
    back (Some g) may =
        let short : (g == 255) ≡ false = ne_eqb g 255 (λ same.
        let none : slice_get rows g ≡ None = get_past rows g (omega (arith, same, few)) in
        false≢true (ap (λ (o : Option GuestRow). option_map_or (λ row. same_class row.class t.class) o false) (sym none) ∙ may)) in
        rw short refl

all_none : (k : ℕ) → list_all (λ b. b == 255) (replicate k 255) ≡ true
all_none zero = refl
all_none (suc k) = all_none k

seats_mean : (c : Config) (seats : List (Option ℕ)) → length c.guests ≤ 16 → may_all_sit c.guests c.terminals seats ≡ true → seats_in c (seat_bytes seats) ≡ Some seats
seats_mean c seats few sit =
    let fit : (length seats ≡ length c.terminals) × (map seated_guest (map place_byte seats) ≡ seats) = seats_fit c.guests c.terminals seats few sit in
    let own : List ℕ = map place_byte seats in
    let none : List ℕ = replicate (32 - length seats) 255 in
    let long : length own ≡ length c.terminals = length-map seats place_byte ∙ fit.0 in
    let front : take (length c.terminals) (own ++ none) ≡ own = take_at own none (length c.terminals) long in
    let back : drop (length c.terminals) (own ++ none) ≡ none = drop_at own none (length c.terminals) long in
    rw front (rw back (rw fit.1 (rw sit (rw (all_none (32 - length seats)) refl))))

reads_seats : (c : Config) (seats : List (Option ℕ)) → length c.guests ≤ 16 → length c.terminals ≤ 32 → may_all_sit c.guests c.terminals seats ≡ true → ReadsAs (field 32 (seats_in c)) (seat_bytes seats) seats
reads_seats c seats few terminals sit =
    let fit : (length seats ≡ length c.terminals) × (map seated_guest (map place_byte seats) ≡ seats) = seats_fit c.guests c.terminals seats few sit in
    let long : length (seat_bytes seats) ≡ 32 = omega (arith, length-append (map place_byte seats) (replicate (32 - length seats) 255), length-map seats place_byte, length-replicate {A = ℕ} (32 - length seats) 255, fit.0, terminals) in
    reads_field 32 (seats_in c) (seat_bytes seats) seats long (seats_mean c seats few sit)

-- the state
reads_state : (m : Moment) → IsConfig m.config → IsMoment m → ReadsAs (state_in m.config) (state_bytes m.state) m.state
unfolding state_in
reads_state m c is =
    reads_then (field 32 (seats_in m.config)) _ (seat_bytes m.state.connected) _ m.state.connected _ (reads_seats m.config m.state.connected c.few_guests c.few_terminals is.seated)
    (reads_then (each (units_in m.config.volumes) m.config.guests) _ (flat_map (λ units. flat_map mount_bytes units) m.state.mounts) _ m.state.mounts _
    (reads_each (units_in m.config.volumes) (λ units. flat_map mount_bytes units) (AreUnitsOf m.config.volumes) (reads_units m.config.volumes c.few_volumes) m.config.guests m.state.mounts is.mounted)
    (reads_then (each guest_reading m.config.guests) _ (flat_map guest_bytes m.state.guests) _ m.state.guests _
    (reads_each guest_reading guest_bytes IsGuestOf reads_guest m.config.guests m.state.guests is.guests)
    (reads_last (each volume_in m.config.volumes) _ (flat_map (λ blocks. flat_map (λ b. b) blocks) m.state.volumes) m.state.volumes
    (reads_each volume_in (λ blocks. flat_map (λ b. b) blocks) IsVolumeOf reads_volume m.config.volumes m.state.volumes is.volumes))))

-- bytes that are read to their end
record EndsAs {A : Type 0} (p : Reading A) (w : List ℕ) (value : A) : Type 0 where
  reads : (at : ℕ) → p (rest_at at w) ≡ got value (at + length w) []

ends_then : {A B : Type 0} (p : Reading A) (f : A → Reading B) (v w : List ℕ) (x : A) (y : B) → ReadsAs p v x → EndsAs (f x) w y → EndsAs (p >>= f) (v ++ w) y
ends_then p f v w x y first second = record {
  reads = λ at.
      let place : (at + length v) + length w ≡ at + length (v ++ w) = omega (arith, length-append v w) in
      ap (continued_by f) (first.reads at w) ∙ second.reads (at + length v) ∙ ap (λ k. got y k []) place;
}

ends_last : {A B : Type 0} (p : Reading A) (f : A → B) (v : List ℕ) (x : A) → ReadsAs p v x → EndsAs (p >>= λ y. at_end >>= λ end. done (f y)) v (f x)
ends_last p f v x first = record {
  reads = λ at. ap (λ bytes. (p >>= λ y. at_end >>= λ end. done (f y)) (rest_at at bytes)) (sym (append-nil v)) ∙ ap (continued_by (λ y. at_end >>= λ end. done (f y))) (first.reads at []);
}

module _ (text : List ℕ) (m : Moment) (few : length text ≤ 262144) (means : config_of text ≡ Ok m.config) (is : IsMoment m) where
  reads_head : ReadsAs (field 8 head_in) snap_head tt
  reads_head = reads_field 8 head_in snap_head tt refl refl

  reads_text : ReadsAs (field (length text) (λ bytes. accepted_config (config_of bytes))) text m.config
  reads_text = reads_field (length text) (λ bytes. accepted_config (config_of bytes)) text m.config refl (ap accepted_config means)

  ends : EndsAs moment_in (snap_bytes text m) m
  unfolding moment_in
  ends =
      ends_then (field 8 head_in) _ snap_head _ tt m reads_head
      (ends_then (four (λ n. nat_le n 262144)) _ (long_bytes (length text)) _ (length text) m (reads_four (λ n. nat_le n 262144) (length text) (le-leb (length text) 262144 few))
      (ends_then (field (length text) (λ bytes. accepted_config (config_of bytes))) _ text _ m.config m reads_text
      (ends_then (four (λ n. nat_le n 1000000)) _ (long_bytes m.made) _ m.made m (reads_four (λ n. nat_le n 1000000) m.made (le-leb m.made 1000000 is.few_rounds))
      (ends_last (state_in m.config) _ (state_bytes m.state) m.state (reads_state m (accepted_is text m.config means) is)))))

  whole : snap_in (snap_bytes text m) ≡ Ok m
  unfolding snap_in
  whole = ap moment_got (ends.reads 0)

pub reads_each_snapshot : ReadsEach
reads_each_snapshot bytes m s = ap snap_in s.is ∙ whole s.text m s.few_bytes s.means s.moment
