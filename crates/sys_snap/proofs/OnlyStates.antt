-- A snapshot is read only from bytes that it is written as.
use Rattle.std.proofs.Common.{ℕ, zero, suc, ◌≡◌, ◌≤◌, ◌-◌, ◌*◌, ◌==◌, nat_le, List, [], ◌∷◌, ◌++◌, length, take, drop, map, replicate, refl, sym, ◌∙◌, ap, subst, arith, append-nil, cond, true, false, ◌&&◌, Option, Some, None}
use Rattle.std.specs.Prelude.{Result, Ok, Err, IfOk, is_ok, IfSome, flat_map, All, bytes_eq}
use Rattle.std.specs.List.{AllZip, list_all}
use Rattle.std.proofs.lemmas.Bool.{and_parts, cond_both, eqb-true, false≢true, leb-true}
use Rattle.std.proofs.lemmas.List.{length-drop, length-map, length-take, length-take-le, take-append-drop}
use Rattle.std.proofs.lemmas.List.Elements.{All-cons, All-nil}
use Rattle.std.proofs.lemmas.Slice.Eq.{bytes_eq-Decides}
use Rattle.vv_base.specs.Bytes.{long_bytes}
use Rattle.vv_class.specs.declared.class.AccessClass.{AccessClass}
use Rattle.sys_config.specs.Config.{config_of}
use Rattle.sys_objects.specs.Rules.{may_mount}
use Rattle.sys_objects.specs.declared.errors.ConfigFault.{ConfigFault}
use Rattle.sys_objects.specs.declared.records.Config.{Config}
use Rattle.sys_objects.specs.declared.records.GuestRow.{GuestRow}
use Rattle.sys_objects.specs.declared.records.Mount.{Mount}
use Rattle.sys_objects.specs.declared.records.VolumeRow.{VolumeRow}
use Rattle.sys_state.specs.Run.{Moment}
use Rattle.sys_state.specs.State.{SystemState}
use Rattle.sys_snap.proofs.OnlyFields.{AreBytes, AreSo, By, Gives, IsLong, Took, all_are, gives_each, gives_field, gives_four, gives_last, gives_next, gives_times, gives_weaker, left_are}
use Rattle.sys_snap.proofs.OnlyRecords.{IsRecordOf, gives_record}
use Rattle.sys_snap.proofs.States.{reads_each_snapshot}
use Rattle.sys_snap.specs.Conditions.{may_all_sit}
use Rattle.sys_snap.specs.Laws.{AreOfOneMoment, ReadsOnlySnaps}
use Rattle.sys_snap.specs.Reader.{accepted_config, all_bytes, at_end, cut_blocks, guest_reading, head_in, moment_got, moment_in, mount_if, nothing, pair_in, record_in, seated_guest, seats_in, snap_in, state_in, units_in, volume_in}
use Rattle.sys_snap.specs.Reading.{Got, Reading, Rest, ◌>>=◌, done, each, field, four, continued_by}
use Rattle.sys_snap.specs.Snap.{AreUnitsOf, IsGuestOf, IsSnap, IsVolumeOf}
use Rattle.sys_snap.specs.Written.{guest_bytes, guest_record_bytes, mount_bytes, place_byte, seat_bytes, snap_head, state_bytes}
use Rattle.sys_snap.specs.declared.fault.SnapFault.{SnapFault}

-- guests
gives_guest : (row : GuestRow) → Gives (guest_reading row) (By guest_bytes (IsGuestOf row))
unfolding guest_reading
gives_guest row =
    gives_next (record_in (512 * row.pages) row.modify_faults) _ guest_record_bytes (IsRecordOf (512 * row.pages) row.modify_faults) _ (gives_record (512 * row.pages) row.modify_faults) (λ state k0.
    gives_last (field (512 * row.pages) all_bytes) _ (λ memory. memory) (λ memory. length memory ≡ 512 * row.pages) _
    (gives_field (512 * row.pages) all_bytes _ (λ w long are. (refl, long))) (λ memory long.
    (refl, record { size = long; modify_faults = k0.modify_faults; is = k0.is })))

-- mounts
abbrev MayMount : List VolumeRow → AccessClass → Option Mount → Type 0
MayMount volumes class m = may_mount volumes class m ≡ true

pair_means : (volumes : List VolumeRow) (class : AccessClass) (w : List ℕ) → IfSome (pair_in volumes class w) (By mount_bytes (MayMount volumes class) w)
pair_means volumes class [] = tt
pair_means volumes class (v ∷ []) = tt
pair_means volumes class (v ∷ w ∷ x ∷ rest) = tt
pair_means volumes class (v ∷ w ∷ []) =
    let U : Option Mount → Type 0 = By mount_bytes (MayMount volumes class) (v ∷ w ∷ []) in
    let read : Option Mount = Some (record { volume = v; write = false }) in
    let written : Option Mount = Some (record { volume = v; write = true }) in
    cond_both (v == 255) (cond (w == 0) (Some None) None) (cond (w == 0) (mount_if volumes class read) (cond (w == 1) (mount_if volumes class written) None)) (λ o. IfSome o U)
    (λ none. cond_both (w == 0) (Some None) None (λ o. IfSome o U)
    (λ zero_. let e = eqb-true v 255 none in let f = eqb-true w 0 zero_ in (λ i. e i ∷ f i ∷ [], refl))
    (λ other. tt))
    (λ some. cond_both (w == 0) (mount_if volumes class read) (cond (w == 1) (mount_if volumes class written) None) (λ o. IfSome o U)
    (λ zero_. cond_both (may_mount volumes class read) (Some read) None (λ o. IfSome o U) (λ may. (ap (λ b. v ∷ b ∷ []) (eqb-true w 0 zero_), may)) (λ not_. tt))
    (λ other. cond_both (w == 1) (mount_if volumes class written) None (λ o. IfSome o U)
    (λ one_. cond_both (may_mount volumes class written) (Some written) None (λ o. IfSome o U) (λ may. (ap (λ b. v ∷ b ∷ []) (eqb-true w 1 one_), may)) (λ not_. tt))
    (λ more. tt)))

gives_units : (volumes : List VolumeRow) (row : GuestRow) → Gives (units_in volumes row) (By (λ units. flat_map mount_bytes units) (AreUnitsOf volumes row))
gives_units volumes row =
    gives_weaker (units_in volumes row) (By (λ units. flat_map mount_bytes units) (AreSo (MayMount volumes row.class) 4)) _
    (gives_times (field 2 (pair_in volumes row.class)) mount_bytes (MayMount volumes row.class) 4
    (gives_field 2 (pair_in volumes row.class) _ (λ w long are. pair_means volumes row.class w)))
    (λ units v h. (h.0, record { four = h.1.many; may = h.1.each }))

-- volumes
abbrev joined : List (List ℕ) → List ℕ
joined blocks = flat_map (λ b. b) blocks

cut_is : (n : ℕ) (bytes : List ℕ) → length bytes ≡ 512 * n → (bytes ≡ joined (cut_blocks n bytes)) × (length (cut_blocks n bytes) ≡ n) × All (λ (b : List ℕ). length b ≡ 512) (cut_blocks n bytes)
cut_is zero [] long = (refl, refl, All-nil (λ (b : List ℕ). length b ≡ 512))
cut_is zero (b ∷ bytes) long = absurd (omega (arith, long))
cut_is (suc n) bytes long =
    let left : length (drop 512 bytes) ≡ 512 * n = omega (arith, length-drop 512 bytes, long) in
    let front : length (take 512 bytes) ≡ 512 = length-take-le 512 bytes (omega (arith, long)) in
    let rest = cut_is n (drop 512 bytes) left in
    (sym (take-append-drop 512 bytes) ∙ ap (λ bs. take 512 bytes ++ bs) rest.0, omega (arith, rest.1), All-cons (λ (b : List ℕ). length b ≡ 512) (take 512 bytes) (cut_blocks n (drop 512 bytes)) front rest.2)

gives_volume : (row : VolumeRow) → Gives (volume_in row) (By joined (IsVolumeOf row))
gives_volume row = gives_field (512 * row.blocks) (λ bytes. Some (cut_blocks row.blocks bytes)) (By joined (IsVolumeOf row)) (λ w long are.
    let cut = cut_is row.blocks w long in (cut.0, record { many = cut.1; long = cut.2 }))

-- the 32 places
place_back : (bytes : List ℕ) → bytes ≡ map place_byte (map seated_guest bytes)
place_back [] = refl
place_back (b ∷ bytes) =
    let own : b ≡ place_byte (seated_guest b) = cond_both (b == 255) None (Some b) (λ o. b ≡ place_byte o) (λ is. eqb-true b 255 is) (λ other. refl) in
    let rest : bytes ≡ map place_byte (map seated_guest bytes) = place_back bytes in
    λ i. own i ∷ rest i

abbrev MaySit : Config → List (Option ℕ) → Type 0
MaySit c seats = may_all_sit c.guests c.terminals seats ≡ true

gives_seats : (c : Config) → Gives (field 32 (seats_in c)) (By seat_bytes (MaySit c))
gives_seats c = gives_field 32 (seats_in c) (By seat_bytes (MaySit c)) (λ w long are.
    let n : ℕ = length c.terminals in
    let front : List ℕ = take (length c.terminals) w in
    let back : List ℕ = drop (length c.terminals) w in
    let seats : List (Option ℕ) = map seated_guest (take (length c.terminals) w) in
    cond_both (may_all_sit c.guests c.terminals seats && list_all (λ b. b == 255) back) (Some seats) None (λ o. IfSome o (By seat_bytes (MaySit c) w))
    (λ passes.
    let parts : (may_all_sit c.guests c.terminals seats ≡ true) × (list_all (λ b. b == 255) back ≡ true) = and_parts (may_all_sit c.guests c.terminals seats) (list_all (λ b. b == 255) back) passes in
    let none : back ≡ replicate (length back) 255 = all_are 255 back parts.1 in
    let many : length back ≡ 32 - length seats = omega (arith, length-drop (length c.terminals) w, length-take (length c.terminals) w, length-map front seated_guest, long) in
    let tail : back ≡ replicate (32 - length seats) 255 = none ∙ ap (λ k. replicate k 255) many in
    let own : front ≡ map place_byte seats = place_back front in
    (sym (take-append-drop (length c.terminals) w) ∙ ap (λ bs. bs ++ back) own ∙ ap (λ bs. map place_byte seats ++ bs) tail, parts.0))
    (λ fails. tt))

-- the state
record IsStateOf (c : Config) (s : SystemState) : Type 0 where
  seated : may_all_sit c.guests c.terminals s.connected ≡ true
  mounted : AllZip (AreUnitsOf c.volumes) c.guests s.mounts
  guests : AllZip IsGuestOf c.guests s.guests
  volumes : AllZip IsVolumeOf c.volumes s.volumes

gives_state : (c : Config) → Gives (state_in c) (By state_bytes (IsStateOf c))
unfolding state_in
gives_state c =
    gives_next (field 32 (seats_in c)) _ seat_bytes (MaySit c) _ (gives_seats c) (λ connected k0.
    gives_next (each (units_in c.volumes) c.guests) _ (λ mounts. flat_map (λ units. flat_map mount_bytes units) mounts) (AllZip (AreUnitsOf c.volumes) c.guests) _
    (gives_each (units_in c.volumes) (λ units. flat_map mount_bytes units) (AreUnitsOf c.volumes) (gives_units c.volumes) c.guests) (λ mounts k1.
    gives_next (each guest_reading c.guests) _ (λ guests. flat_map guest_bytes guests) (AllZip IsGuestOf c.guests) _ (gives_each guest_reading guest_bytes IsGuestOf gives_guest c.guests) (λ guests k2.
    gives_last (each volume_in c.volumes) _ (λ volumes. flat_map joined volumes) (AllZip IsVolumeOf c.volumes) _ (gives_each volume_in joined IsVolumeOf gives_volume c.volumes) (λ volumes k3.
    (refl, record { seated = k0; mounted = k1; guests = k2; volumes = k3 })))))

-- all bytes are taken
record Ends {A : Type 0} (p : Reading A) (U : List ℕ → A → Type 0) : Type 0 where
  ends : (r : Rest) → AreBytes r.bytes → IfOk (p r) (λ g. U r.bytes g.value)

then_ends : {A B : Type 0} (f : A → Reading B) (V : List ℕ → A → Type 0) (U : List ℕ → B → Type 0) (bytes : List ℕ) → AreBytes bytes → ((x : A) (v : List ℕ) → V v x → Ends (f x) (λ w y. U (v ++ w) y)) → (q : Result (Got A) SnapFault) → IfOk q (Took V bytes) → IfOk (continued_by f q) (λ g. U bytes g.value)
then_ends f V U bytes are next (Err e) t = tt
then_ends f V U bytes are next (Ok g) t =
    let left : AreBytes g.rest.bytes = left_are t.taken g.rest.bytes (subst AreBytes t.is are) in
    subst (λ bs. IfOk (f g.value g.rest) (λ k. U bs k.value)) (sym t.is) ((next g.value t.taken t.means).ends g.rest left)

ends_then : {A B : Type 0} (p : Reading A) (f : A → Reading B) (V : List ℕ → A → Type 0) (U : List ℕ → B → Type 0) → Gives p V → ((x : A) (v : List ℕ) → V v x → Ends (f x) (λ w y. U (v ++ w) y)) → Ends (p >>= f) U
ends_then p f V U first next = record { ends = λ r are. then_ends f V U r.bytes are next (p r) (first.gives r are) }

ends_next : {A B : Type 0} (p : Reading A) (f : A → Reading B) (write : A → List ℕ) (R : A → Type 0) (U : List ℕ → B → Type 0) → Gives p (By write R) → ((x : A) → R x → Ends (f x) (λ w y. U (write x ++ w) y)) → Ends (p >>= f) U
ends_next p f write R U first next = ends_then p f (By write R) U first (λ x v h. subst (λ bs. Ends (f x) (λ w y. U (bs ++ w) y)) (sym h.0) (next x h.1))

nothing_left : {B : Type 0} (y : B) (U : List ℕ → B → Type 0) (bytes taken left : List ℕ) (at : ℕ) → bytes ≡ taken ++ left → U taken y → IfOk (continued_by (λ end. done y) (nothing left at)) (λ g. U bytes g.value)
nothing_left y U bytes taken [] at is means = subst (λ bs. U bs y) (sym (is ∙ append-nil taken)) means
nothing_left y U bytes taken (b ∷ left) at is means = tt

last_ends : {A B : Type 0} (f : A → B) (V : List ℕ → A → Type 0) (U : List ℕ → B → Type 0) (bytes : List ℕ) → ((x : A) (v : List ℕ) → V v x → U v (f x)) → (q : Result (Got A) SnapFault) → IfOk q (Took V bytes) → IfOk (continued_by (λ y. at_end >>= λ end. done (f y)) q) (λ g. U bytes g.value)
last_ends f V U bytes last (Err e) t = tt
last_ends f V U bytes last (Ok g) t = nothing_left (f g.value) U bytes t.taken g.rest.bytes g.rest.at t.is (last g.value t.taken t.means)

ends_last : {A B : Type 0} (p : Reading A) (f : A → B) (write : A → List ℕ) (R : A → Type 0) (U : List ℕ → B → Type 0) → Gives p (By write R) → ((x : A) → R x → U (write x) (f x)) → Ends (p >>= λ y. at_end >>= λ end. done (f y)) U
ends_last p f write R U first last = record { ends = λ r are. last_ends f (By write R) U r.bytes (λ x v h. subst (λ bs. U bs (f x)) (sym h.0) (last x h.1)) (p r) (first.gives r are) }

-- the head and the text
gives_head : Gives (field 8 head_in) (By (λ head. snap_head) (λ head. Unit {0}))
gives_head = gives_field 8 head_in (By (λ head. snap_head) (λ head. Unit {0})) (λ w long are.
    cond_both (bytes_eq w snap_head) (Some tt) None (λ o. IfSome o (By (λ head. snap_head) (λ head. Unit {0}) w)) (λ same. ((bytes_eq-Decides w snap_head).0 same, tt)) (λ other. tt))

record IsTextOf (n : ℕ) (text : List ℕ) (c : Config) : Type 0 where
  long : length text ≡ n
  means : config_of text ≡ Ok c

accepted_means : (n : ℕ) (text : List ℕ) → length text ≡ n → (q : Result Config ConfigFault) → config_of text ≡ q → IfSome (accepted_config q) (IsTextOf n text)
accepted_means n text long (Ok c) means = record { long = long; means = means }
accepted_means n text long (Err fault) means = tt

gives_text : (n : ℕ) → Gives (field n (λ text. accepted_config (config_of text))) (IsTextOf n)
gives_text n = gives_field n (λ text. accepted_config (config_of text)) (IsTextOf n) (λ w long are. accepted_means n w long (config_of w) refl)

-- a snapshot
ends_moment : Ends moment_in IsSnap
unfolding moment_in
ends_moment =
    ends_next (field 8 head_in) _ (λ head. snap_head) (λ head. Unit {0}) _ gives_head (λ head k0.
    ends_next (four (λ n. nat_le n 262144)) _ long_bytes (IsLong (λ n. nat_le n 262144)) _ (gives_four (λ n. nat_le n 262144)) (λ n k1.
    ends_then (field n (λ text. accepted_config (config_of text))) _ (IsTextOf n) _ (gives_text n) (λ c text k2.
    ends_next (four (λ n. nat_le n 1000000)) _ long_bytes (IsLong (λ n. nat_le n 1000000)) _ (gives_four (λ n. nat_le n 1000000)) (λ made k3.
    ends_last (state_in c) _ state_bytes (IsStateOf c) _ (gives_state c) (λ state k4.
    record {
      text = text;
      few_bytes = let few : n ≤ 262144 = leb-true n 262144 k1.passes in omega (arith, few, k2.long);
      means = k2.means;
      moment = record { few_rounds = leb-true made 1000000 k3.passes; seated = k4.seated; mounted = k4.mounted; guests = k4.guests; volumes = k4.volumes };
      is = ap (λ k. snap_head ++ (long_bytes k ++ (text ++ (long_bytes made ++ state_bytes state)))) (sym k2.long);
    })))))

moment_or : Moment → Result Moment SnapFault → Moment
moment_or other (Ok m) = m
moment_or other (Err fault) = other

of_value : (bytes : List ℕ) (m : Moment) (q : Result (Got Moment) SnapFault) → IfOk q (λ g. IsSnap bytes g.value) → moment_got q ≡ Ok m → IsSnap bytes m
unfolding moment_or
of_value bytes m (Ok g) is same = subst (λ n. IsSnap bytes n) (ap (moment_or m) same) is
of_value bytes m (Err fault) is same = absurd (false≢true (ap is_ok same))

pub reads_only_snaps : ReadsOnlySnaps
unfolding snap_in
reads_only_snaps bytes m are same = of_value bytes m (moment_in (record { at = 0; bytes = bytes })) (ends_moment.ends (record { at = 0; bytes = bytes }) are) same

-- a snapshot is of one moment
pub of_one_moment : AreOfOneMoment
unfolding moment_or
of_one_moment bytes m n first second = ap (moment_or m) (sym (reads_each_snapshot bytes m first) ∙ reads_each_snapshot bytes n second)
