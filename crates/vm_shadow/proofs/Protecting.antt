-- Before an entry is read from frames of the guest, pages that map them are closed.
use Rattle.std.proofs.Common.{◌≡◌, ℕ, ◌+◌, ◌-◌, ◌*◌, ◌%◌, ◌<◌, ◌≤◌, inl, inr, Bool, true, false, ◌==◌, ◌&&◌, List, [], length, refl, ap, ◌∙◌, sym, subst, arith}
use Rattle.std.proofs.lemmas.Bool.{both_ways, cases_lt, eqb-false, false≢true, ne_eqb, or_from}
use Rattle.vax_arch.specs.Fields.{is_modified, is_valid}
use Rattle.vax_hw.specs.Machine.{Machine}
use Rattle.vm_shadow.specs.Calls.{maps_open}
use Rattle.vm_shadow.specs.Layout.{all_entries}
use Rattle.vm_shadow.specs.Marks.{AreAbsent, Frees, IsCleared, Shuts, flags_of, is_in}
use Rattle.vm_shadow.specs.Shadowed.{IsKept, Keeps, Shadowed, is_flagged, mapped_frame, own, read_at, real_at, seen_at, way_of}
use Rattle.vm_shadow.specs.StandsFor.{Protects}
use Rattle.vm_shadow.specs.declared.source.Source.TheVariants.{Direct, Process, System}
use Rattle.vm_shadow.proofs.Entries.{fits_in, seen_kept}
use Rattle.vm_shadow.proofs.Places.{split}
use Rattle.vm_shadow.proofs.Scanning.{apart_again, only_none}
use Rattle.vm_shadow.proofs.Ways.{flag_is, flag_within, flags_size}

not_mapped : (base frame real : ℕ) → is_modified real ≡ true → maps_open base (System frame) real ≡ false → (frame == real % 2097152 - base) ≡ false
not_mapped base frame real x e = right (is_modified real) _ x e
  where
    right : (a b : Bool) → a ≡ true → (a && b) ≡ false → b ≡ false
    right true b x e = e
    right false b x e = absurd (false≢true x)

-- A frame beyond the guest's is mapped by none.
pub frees_beyond : (frame : ℕ) (m : Machine) (s : Shadowed) → Keeps [] [] m.memory s → s.pages ≤ frame → Frees frame m s m s
frees_beyond frame m s k beyond = record {
  keeps = k;
  free = λ i h v x. ne_eqb frame (mapped_frame s (real_at m.memory s i)) (λ same. past i h v x same);
  same = λ i h x. refl;
  rest = refl;
  only = only_none s.at m;
}
  where
    past : (i : ℕ) → i < all_entries → is_valid (real_at m.memory s i) ≡ true → is_modified (real_at m.memory s i) ≡ true → frame ≡ mapped_frame s (real_at m.memory s i) → ⊥
    past i h v x same =
        let within : way_of (mapped_frame s (real_at m.memory s i)) i < length s.writable = flag_within (way_of (mapped_frame s (real_at m.memory s i)) i) s.writable (k.writes i h v x) in
        omega (arith, k.remembers.writable)

-- None may map a frame for which no group is marked.
pub frees_none : (frame : ℕ) (ways : List ℕ) (m : Machine) (s : Shadowed) → Keeps [] [] m.memory s → s.writable ≡ flags_of ways → AreAbsent (64 * (9 * frame)) (64 * (9 * (frame + 1))) ways → Frees frame m s m s
frees_none frame ways m s k w none = record {
  keeps = k;
  free = λ i h v x. ne_eqb frame (mapped_frame s (real_at m.memory s i)) (λ same. both_ways (is_in (way_of frame i) ways) (none.free (way_of frame i) (omega arith) (omega arith))
      (sym (flag_is ways (way_of frame i)) ∙ ap (is_flagged (way_of frame i)) (sym w) ∙ subst (λ y. is_flagged (way_of y i) s.writable ≡ true) (sym same) (k.writes i h v x)));
  same = λ i h x. refl;
  rest = refl;
  only = only_none s.at m;
}

-- A scan over the groups that are marked for a frame, whose marks are then cleared.
pub frees_all : (frame : ℕ) (ways ways' : List ℕ) (m m' : Machine) (s : Shadowed) → Keeps [] [] m.memory s → s.writable ≡ flags_of ways → Shuts s.at s.base all_entries frame ways m s.reads m' → IsCleared (64 * (9 * frame)) (64 * (9 * (frame + 1))) ways ways' → Frees frame m s m' (record s { writable = flags_of ways' })
frees_all frame ways ways' m m' s k w c gone =
    let after = c.keeps s refl refl refl k in
    let free : (i : ℕ) → i < all_entries → is_valid (real_at m'.memory s i) ≡ true → is_modified (real_at m'.memory s i) ≡ true → (frame == mapped_frame s (real_at m'.memory s i)) ≡ false = λ i h v x. not_mapped s.base frame (real_at m'.memory s i) x (c.gone s refl refl refl w k i h v) in
    record { keeps = kept after free; free = free; same = c.same; rest = refl; only = c.only }
  where
    kept : Keeps [] [] m'.memory s → ((i : ℕ) → i < all_entries → is_valid (real_at m'.memory s i) ≡ true → is_modified (real_at m'.memory s i) ≡ true → (frame == mapped_frame s (real_at m'.memory s i)) ≡ false) → Keeps [] [] m'.memory (record s { writable = flags_of ways' })
    kept a free = let r = a.remembers in record {
      fits = fits_in a.fits;
      remembers = record {
        whole = r.whole;
        consulted = r.consulted;
        writable = flags_size ways' ∙ ap (λ n. 64 * n) gone.size ∙ sym (flags_size ways) ∙ ap length (sym w) ∙ r.writable;
        consults = r.consults;
      };
      entries = entries_kept a.entries;
      guarded = a.guarded;
      writes = λ i h v x.
          let other = mapped_frame s (real_at m'.memory s i) in
          let differ : frame ≡ other → ⊥ = eqb-false frame other (free i h v x) in
          let before : is_in (way_of other i) ways ≡ true = sym (flag_is ways (way_of other i)) ∙ ap (is_flagged (way_of other i)) (sym w) ∙ a.writes i h v x in
          flag_is ways' (way_of other i) ∙ stays other i h differ ∙ before;
    }
      where
        stays : (other i : ℕ) → i < all_entries → (frame ≡ other → ⊥) → is_in (way_of other i) ways' ≡ is_in (way_of other i) ways
        stays other i h differ = split (cases_lt other frame)
            (λ l. gone.others (way_of other i) (inl (omega arith)))
            (λ l. split (cases_lt frame other)
            (λ g. gone.others (way_of other i) (inr (omega arith)))
            (λ g. absurd (differ (omega arith))))

        entries_kept : ((n : ℕ) → n < all_entries → IsKept (512 * s.pages) s.base (own m'.memory s) [] (seen_at m'.memory s n) (real_at m'.memory s n) (read_at s n)) → (n : ℕ) → n < all_entries → IsKept (512 * s.pages) s.base (own m'.memory s) [] (seen_at m'.memory (record s { writable = flags_of ways' }) n) (real_at m'.memory s n) (read_at s n)
        entries_kept e n l = rw (seen_kept m'.memory m'.memory s s.reads s.consulted (flags_of ways') n refl) (e n l)

pub frees_seen : (frame : ℕ) (m m' : Machine) (inside s s' : Shadowed) → inside ≡ s → Frees frame m inside m' s' → Frees frame m s m' s'
frees_seen frame m m' inside s s' e p = subst (λ x. Frees frame m x m' s') e p

-- Both frames of a source, one after the other.

pub protects_direct : (m : Machine) (s : Shadowed) → Keeps [] [] m.memory s → Protects Direct m s m s
protects_direct m s k = record { keeps = k; free = λ i h v x. refl; rest = refl; only = only_none s.at m }

pub protects_system : (entry : ℕ) (m m' : Machine) (s s' : Shadowed) → Frees entry m s m' s' → Protects (System entry) m s m' s'
protects_system entry m m' s s' f = record { keeps = f.keeps; free = f.free; rest = f.rest; only = f.only }

pub protects_process : (entry table : ℕ) (m m1 m2 : Machine) (s s1 s2 : Shadowed) → Frees entry m s m1 s1 → Frees table m1 s1 m2 s2 → Protects (Process entry table) m s m2 s2
protects_process entry table m m1 m2 s s1 s2 f g = by s1.writable s2 f (subst (λ x. Frees table m1 x m2 s2) f.rest g)
  where
    by : (w : List Bool) (s2 : Shadowed) → Frees entry m s m1 s1 → Frees table m1 (record s { writable = w }) m2 s2 → Protects (Process entry table) m s m2 s2
    by w s2 f g = record {
      keeps = g.keeps;
      free = λ i h v x.
          let same = g.same i h x in
          let one : (entry == mapped_frame s (real_at m1.memory s i)) ≡ false = f.free i h (subst (λ y. is_valid y ≡ true) same v) (subst (λ y. is_modified y ≡ true) same x) in
          or_from (entry == mapped_frame s (real_at m2.memory s i)) (table == mapped_frame s (real_at m2.memory s i)) (ap (λ y. entry == mapped_frame s y) same ∙ one) (g.free i h v x);
      rest = g.rest;
      only = record { rest = g.only.rest ∙ ap (λ (x : Machine). record x { memory = m2.memory }) f.only.rest; tables = apart_again (512 * s.at) (512 * 580) m.memory m1.memory m2.memory f.only.tables g.only.tables };
    }
