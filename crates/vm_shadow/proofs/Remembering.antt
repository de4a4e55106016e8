-- Marks of records: an entry that isn't marked needn't be looked at.
use Rattle.std.proofs.Common.{◌≡◌, ◌≢◌, ℕ, zero, suc, ◌+◌, ◌-◌, ◌*◌, ◌/◌, ◌%◌, ◌<◌, ◌≤◌, ◌==◌, inl, inr, true, false, List, [], ◌∷◌, length, set, Option, Some, None, is_some, replicate, slice_index_or, refl, ap, ◌∙◌, sym, subst, arith}
use Rattle.std.proofs.lemmas.Bool.{both_ways, cases_eq, cases_lt, eqb-true, false_from_ne_true, false≢true, le-ltb, lt-ltb, or_cases}
use Rattle.std.proofs.lemmas.List.{get_or-replicate, get_or-set_other, get_or-set_same, length-replicate, length-set}
use Rattle.std.specs.Prelude.{if◌then◌else◌}
use Rattle.vm_shadow.specs.Calls.{is_dropped, remembered}
use Rattle.vm_shadow.specs.Layout.{all_entries}
use Rattle.vm_shadow.specs.Marks.{AreEmpty, AreMarked, IsCleared, IsNextMember, IsPast, IsPastIn, MarksGroups, SetsMember, Skips, is_in, row_start}
use Rattle.vm_shadow.specs.Shadowed.{is_read_from}
use Rattle.vm_shadow.specs.declared.source.Source.{Source}
use Rattle.vm_shadow.specs.declared.scans.Dropped.{Dropped}
use Rattle.vm_shadow.specs.declared.scans.Dropped.TheVariants.{All, ReadFrom}
use Rattle.vm_shadow.specs.declared.source.Source.TheVariants.{Direct, Process, System}
use Rattle.vm_shadow.proofs.Places.{split}

pub dropped_some : (which : Dropped) (x : Option Source) → is_dropped which x ≡ true → is_some x ≡ true
dropped_some All x e = e
dropped_some (ReadFrom frame) None e = absurd (false≢true e)
dropped_some (ReadFrom frame) (Some source) e = refl

some_within : (reads : List (Option Source)) (n : ℕ) → is_some (remembered reads n) ≡ true → n < length reads
some_within [] n e = absurd (false≢true e)
some_within (x ∷ xs) zero e = omega arith
some_within (x ∷ xs) (suc n) e = let h : n < length xs = some_within xs n e in omega arith

-- New records.

abbrev pub no_source : Option Source
no_source = None

-- what is true of none alone
pub none_alike : (P : Option Source → Type 0) → ((x : Source) → P (Some x) → ⊥) → (y : Option Source) → P y → y ≡ None
none_alike P h None p = refl
none_alike P h (Some x) p = absurd (h x p)

past_end : {X : Type 0} (xs : List X) (k : ℕ) (d : X) → length xs ≤ k → slice_index_or xs k d ≡ d
past_end [] k d h = refl
past_end (x ∷ xs) zero d h = absurd (omega arith)
past_end (x ∷ xs) (suc k) d h = past_end xs k d (omega arith)

all_same : {X : Type 0} (n k : ℕ) (x : X) → slice_index_or (replicate n x) k x ≡ x
all_same n k x = split (cases_lt k n) (λ h. get_or-replicate n k x x h) (λ h. past_end (replicate n x) k x (omega (arith, length-replicate n x)))

pub are_empty : (reads : List (Option Source)) → reads ≡ replicate all_entries no_source → AreEmpty reads
are_empty reads e = record {
  whole = ap length e ∙ length-replicate all_entries no_source;
  empty = λ n. ap (λ r. remembered r n) e ∙ all_same all_entries n None;
}

pub none_marked : (frames : ℕ) (reads : List (Option Source)) (filled groups : List ℕ) → AreEmpty reads → frames ≤ 2048 → 64 * length filled ≡ all_entries → 64 * length groups ≡ 576 * (frames + 1) → AreMarked frames reads filled groups
none_marked frames reads filled groups e few entries rows = record {
  few = few;
  whole = e.whole;
  entries = entries;
  rows = rows;
  each = λ n h. absurd (false≢true (subst (λ x. is_some x ≡ true) (e.empty n) h));
  group = λ which n h. absurd (false≢true (subst (λ x. is_some x ≡ true) (e.empty n) (dropped_some which (remembered reads n) h)));
}

-- The rows of groups.

row_within : (frames frame : ℕ) → frame < frames → row_start frames (ReadFrom frame) ≡ 576 * (frame + 1)
row_within frames frame h = ap (λ b. if b then 576 * (frame + 1) else 0) (lt-ltb frame frames h)

row_beyond : (frames frame : ℕ) → frames ≤ frame → row_start frames (ReadFrom frame) ≡ 0
row_beyond frames frame h = ap (λ b. if b then 576 * (frame + 1) else 0) (le-ltb frame frames h)

pub row_small : (frames : ℕ) (which : Dropped) → row_start frames which ≤ 576 * frames
row_small frames All = omega arith
row_small frames (ReadFrom frame) = split (cases_lt frame frames)
    (λ h. let e : row_start frames (ReadFrom frame) ≡ 576 * (frame + 1) = row_within frames frame h in omega arith)
    (λ h. let e : row_start frames (ReadFrom frame) ≡ 0 = row_beyond frames frame h in omega arith)

-- What isn't looked at.

pub past_none : (which : Dropped) (reads : List (Option Source)) (from : ℕ) → IsPast which reads from from
past_none which reads from = record { order = omega arith; free = λ k a b. absurd (omega arith) }

pub past_one : (which : Dropped) (reads : List (Option Source)) (n : ℕ) → is_dropped which (remembered reads n) ≡ false → IsPast which reads n (n + 1)
past_one which reads n e = record { order = omega arith; free = λ k a b. let same : n ≡ k = omega arith in subst (λ x. is_dropped which (remembered reads x) ≡ false) same e }

pub past_both : (which : Dropped) (reads : List (Option Source)) (from mid n : ℕ) → IsPast which reads from mid → IsPast which reads mid n → IsPast which reads from n
past_both which reads from mid n p q = record {
  order = omega (arith, p.order, q.order);
  free = λ k a b. split (cases_lt k mid) (λ h. p.free k a h) (λ h. q.free k h b);
}

pub past_less : (which : Dropped) (reads : List (Option Source)) (from end n : ℕ) → from ≤ end → end ≤ n → IsPast which reads from n → IsPast which reads from end
past_less which reads from end n order within p = record { order = order; free = λ k a b. p.free k a (omega arith) }

-- Groups that aren't marked.

pub skips_none : (groups : List ℕ) (row from : ℕ) → Skips groups row from from
skips_none groups row from = record { order = omega arith; free = λ k a b. absurd (omega arith) }

pub skips_groups : (groups : List ℕ) (row from found : ℕ) → IsNextMember (row + from / 128) (row + 576) groups found → from % 128 ≡ 0 → Skips groups row from (128 * (found - row))
skips_groups groups row from found n start = record {
  order = omega (arith, n.order);
  free = λ k a b. n.free (row + k / 128) (omega arith) (omega (arith, n.order));
}

pub skipped : (groups : List ℕ) (row : ℕ) (reads : List (Option Source)) (from n : ℕ) → Skips groups row from n → IsPastIn groups row reads from n
skipped groups row reads from n s = record { order = s.order; free = λ k a b. inr (s.free k a b) }

pub in_more : (groups : List ℕ) (row : ℕ) (reads : List (Option Source)) (from found mid n : ℕ) → from ≤ mid → mid ≤ found → IsPastIn groups row reads from found → Skips groups row mid n → IsPastIn groups row reads from n
in_more groups row reads from found mid n order within p s = record {
  order = omega (arith, s.order);
  free = λ k a b. split (cases_lt k mid) (λ h. p.free k a (omega arith)) (λ h. inr (s.free k h b));
}

pub in_less : (groups : List ℕ) (row : ℕ) (reads : List (Option Source)) (from end n : ℕ) → from ≤ end → end ≤ n → IsPastIn groups row reads from n → IsPastIn groups row reads from end
in_less groups row reads from end n order within p = record { order = order; free = λ k a b. p.free k a (omega arith) }

module _ (frames : ℕ) (reads : List (Option Source)) (filled groups : List ℕ) (m : AreMarked frames reads filled groups) where
  dropped_small : (which : Dropped) (n : ℕ) → is_dropped which (remembered reads n) ≡ true → n < all_entries
  dropped_small which n e = let h : n < length reads = some_within reads n (dropped_some which (remembered reads n) e) in omega (arith, m.whole)

  pub past_marked : (which : Dropped) (from row n : ℕ) → row ≡ row_start frames which → IsPastIn groups row reads from n → IsPast which reads from n
  past_marked which from row n is p = record {
    order = p.order;
    free = λ k a b. false_from_ne_true (is_dropped which (remembered reads k)) (λ e. split (p.free k a b)
        (λ none. both_ways (is_some (remembered reads k)) none (dropped_some which (remembered reads k) e))
        (λ none. both_ways (is_in (row + k / 128) groups) none (subst (λ x. is_in (x + k / 128) groups ≡ true) (sym is) (m.group which k e))));
  }

  pub past_in : (ways : List ℕ) (row from n end found : ℕ) → IsNextMember n end filled found → IsPastIn ways row reads from n → IsPastIn ways row reads from found
  past_in ways row from n end found next p = record {
    order = omega (arith, next.order, p.order);
    free = λ k a b. split (cases_lt k n) (λ h. p.free k a h) (λ h. inl (false_from_ne_true (is_some (remembered reads k)) (λ e. both_ways (is_in k filled) (next.free k h b) (m.each k e))));
  }

  -- An entry is filled.
  pub fills : (n : ℕ) (source : Source) (filled' groups' : List ℕ) → n < all_entries → SetsMember true n filled filled' → MarksGroups frames n source groups groups' → AreMarked frames (set reads n (Some source)) filled' groups'
  fills n source filled' groups' h s g =
      let here : remembered (set reads n (Some source)) n ≡ Some source = get_or-set_same reads n (Some source) None (omega (arith, m.whole)) in
      let other : (k : ℕ) → k ≢ n → remembered (set reads n (Some source)) k ≡ remembered reads k = λ k differ. get_or-set_other reads n k (Some source) None differ in
      record {
        few = m.few;
        whole = length-set reads n (Some source) ∙ m.whole;
        entries = omega (arith, m.entries, s.size);
        rows = omega (arith, m.rows, g.size);
        each = λ k e. split (cases_eq k n)
            (λ same. subst (λ x. is_in x filled' ≡ true) (sym same) s.here)
            (λ differ. s.others k differ ∙ m.each k (subst (λ x. is_some x ≡ true) (other k differ) e));
        group = λ which k e. split (cases_eq k n)
            (λ same. subst (λ x. is_in (row_start frames which + x / 128) groups' ≡ true) (sym same) (g.group which (subst (λ x. is_dropped which x ≡ true) (ap (remembered (set reads n (Some source))) same ∙ here) e)))
            (λ differ. g.more (row_start frames which + k / 128) (m.group which k (subst (λ x. is_dropped which x ≡ true) (other k differ) e)));
      }

  -- An entry isn't filled any longer: what is then still filled was before.
  record IsStill (n k : ℕ) : Type 0 where
    pub differ : k ≢ n
    pub same : remembered (set reads n None) k ≡ remembered reads k

  still_filled : (n k : ℕ) → n < all_entries → is_some (remembered (set reads n None) k) ≡ true → IsStill n k
  still_filled n k h e =
      let here : remembered (set reads n None) n ≡ None = get_or-set_same reads n None None (omega (arith, m.whole)) in
      let differ : k ≢ n = λ same. false≢true (sym (ap is_some (ap (remembered (set reads n None)) same ∙ here)) ∙ e) in
      record { differ = differ; same = get_or-set_other reads n k None None differ }

  pub removes : (n : ℕ) (filled' groups' : List ℕ) → n < all_entries → SetsMember false n filled filled' → length groups' ≡ length groups → ((which : Dropped) (k : ℕ) → is_dropped which (remembered reads k) ≡ true → is_in k filled' ≡ true → is_in (row_start frames which + k / 128) groups' ≡ true) → AreMarked frames (set reads n None) filled' groups'
  removes n filled' groups' h s size group = record {
    few = m.few;
    whole = length-set reads n None ∙ m.whole;
    entries = omega (arith, m.entries, s.size);
    rows = omega (arith, m.rows, size);
    each = λ k e. let i = still_filled n k h e in s.others k i.differ ∙ m.each k (subst (λ x. is_some x ≡ true) i.same e);
    group = λ which k e.
        let some : is_some (remembered (set reads n None) k) ≡ true = dropped_some which (remembered (set reads n None) k) e in
        let i = still_filled n k h some in
        group which k (subst (λ x. is_dropped which x ≡ true) i.same e) (s.others k i.differ ∙ m.each k (subst (λ x. is_some x ≡ true) i.same some));
  }

  -- its group has others
  pub removes_one : (n : ℕ) (filled' : List ℕ) → n < all_entries → SetsMember false n filled filled' → AreMarked frames (set reads n None) filled' groups
  removes_one n filled' h s = removes n filled' groups h s refl (λ which k e i. m.group which k e)

  -- it was the last of its group
  pub removes_last : (n found : ℕ) (filled' groups' : List ℕ) → n < all_entries → SetsMember false n filled filled' → IsNextMember (n / 128 * 128) (n / 128 * 128 + 128) filled' found → found ≡ n / 128 * 128 + 128 → SetsMember false (n / 128) groups groups' → AreMarked frames (set reads n None) filled' groups'
  removes_last n found filled' groups' h s next none g = removes n filled' groups' h s g.size (λ which k e i. g.others (row_start frames which + k / 128) (λ same. apart which k e i same) ∙ m.group which k e)
    where
      apart : (which : Dropped) (k : ℕ) → is_dropped which (remembered reads k) ≡ true → is_in k filled' ≡ true → row_start frames which + k / 128 ≡ n / 128 → ⊥
      apart which k e i same =
          let small : k < all_entries = dropped_small which k e in
          let q : k / 128 ≡ n / 128 = first_row which k small same in
          both_ways (is_in k filled') (next.free k (omega arith) (omega arith)) i
        where
          first_row : (which : Dropped) (k : ℕ) → k < all_entries → row_start frames which + k / 128 ≡ n / 128 → k / 128 ≡ n / 128
          first_row All k small same = omega arith
          first_row (ReadFrom frame) k small same = split (cases_lt frame frames)
              (λ l. let r : row_start frames (ReadFrom frame) ≡ 576 * (frame + 1) = row_within frames frame l in omega arith)
              (λ l. let r : row_start frames (ReadFrom frame) ≡ 0 = row_beyond frames frame l in omega arith)

  -- The marks of a frame from which no entry was read are cleared.
  pub forgets : (frame : ℕ) (groups' : List ℕ) → frame < frames → ((n : ℕ) → is_read_from frame (remembered reads n) ≡ false) → IsCleared (64 * (9 * (frame + 1))) (64 * (9 * (frame + 2))) groups groups' → AreMarked frames reads filled groups'
  forgets frame groups' h none c = record {
    few = m.few;
    whole = m.whole;
    entries = m.entries;
    rows = omega (arith, m.rows, c.size);
    each = m.each;
    group = λ which k e. kept which k (dropped_small which k e) e ∙ m.group which k e;
  }
    where
      kept : (which : Dropped) (k : ℕ) → k < all_entries → is_dropped which (remembered reads k) ≡ true → is_in (row_start frames which + k / 128) groups' ≡ is_in (row_start frames which + k / 128) groups
      kept All k small e = c.others (row_start frames All + k / 128) (inl (omega arith))
      kept (ReadFrom other) k small e = split (cases_lt other frames)
          (λ l.
          let r : row_start frames (ReadFrom other) ≡ 576 * (other + 1) = row_within frames other l in
          split (cases_eq other frame)
          (λ same. absurd (both_ways (is_read_from other (remembered reads k)) (ap (λ x. is_read_from x (remembered reads k)) same ∙ none k) e))
          (λ differ. split (cases_lt other frame)
          (λ less. c.others (row_start frames (ReadFrom other) + k / 128) (inl (omega arith)))
          (λ more. c.others (row_start frames (ReadFrom other) + k / 128) (inr (above other k differ more r)))))
          (λ l. let r : row_start frames (ReadFrom other) ≡ 0 = row_beyond frames other l in c.others (row_start frames (ReadFrom other) + k / 128) (inl (omega arith)))
        where
          above : (other k : ℕ) → other ≢ frame → frame ≤ other → row_start frames (ReadFrom other) ≡ 576 * (other + 1) → 64 * (9 * (frame + 2)) ≤ row_start frames (ReadFrom other) + k / 128
          above other k differ more r = split (cases_lt frame other) (λ l. omega arith) (λ l. absurd (differ (omega arith)))

-- Groups are marked for a source.

keeps_marks : (n : ℕ) (groups groups' : List ℕ) → SetsMember true n groups groups' → (k : ℕ) → is_in k groups ≡ true → is_in k groups' ≡ true
keeps_marks n groups groups' s k e = split (cases_eq k n) (λ same. subst (λ x. is_in x groups' ≡ true) (sym same) s.here) (λ differ. s.others k differ ∙ e)

pub marks_direct : (frames n : ℕ) (g g1 : List ℕ) → SetsMember true (row_start frames All + n / 128) g g1 → MarksGroups frames n Direct g g1
marks_direct frames n g g1 s = record { size = s.size; more = keeps_marks (row_start frames All + n / 128) g g1 s; group = groups }
  where
    groups : (which : Dropped) → is_dropped which (Some Direct) ≡ true → is_in (row_start frames which + n / 128) g1 ≡ true
    groups All e = s.here
    groups (ReadFrom frame) e = absurd (false≢true e)

-- a group is marked for one frame more
marked_more : (frames n frame entry : ℕ) (g g' : List ℕ) → SetsMember true (row_start frames (ReadFrom entry) + n / 128) g g' → (entry == frame) ≡ true → is_in (row_start frames (ReadFrom frame) + n / 128) g' ≡ true
marked_more frames n frame entry g g' s e = subst (λ x. is_in (row_start frames (ReadFrom x) + n / 128) g' ≡ true) (eqb-true entry frame e) s.here

pub marks_system : (frames n entry : ℕ) (g g1 g2 : List ℕ) → SetsMember true (row_start frames All + n / 128) g g1 → SetsMember true (row_start frames (ReadFrom entry) + n / 128) g1 g2 → MarksGroups frames n (System entry) g g2
marks_system frames n entry g g1 g2 s t = record {
  size = t.size ∙ s.size;
  more = λ k e. keeps_marks (row_start frames (ReadFrom entry) + n / 128) g1 g2 t k (keeps_marks (row_start frames All + n / 128) g g1 s k e);
  group = groups;
}
  where
    groups : (which : Dropped) → is_dropped which (Some (System entry)) ≡ true → is_in (row_start frames which + n / 128) g2 ≡ true
    groups All e = keeps_marks (row_start frames (ReadFrom entry) + n / 128) g1 g2 t (row_start frames All + n / 128) s.here
    groups (ReadFrom frame) e = marked_more frames n frame entry g1 g2 t e

pub marks_process : (frames n entry table : ℕ) (g g1 g2 g3 : List ℕ) → SetsMember true (row_start frames All + n / 128) g g1 → SetsMember true (row_start frames (ReadFrom entry) + n / 128) g1 g2 → SetsMember true (row_start frames (ReadFrom table) + n / 128) g2 g3 → MarksGroups frames n (Process entry table) g g3
marks_process frames n entry table g g1 g2 g3 s t u =
    let m = marks_system frames n entry g g1 g2 s t in
    let kept = keeps_marks (row_start frames (ReadFrom table) + n / 128) g2 g3 u in
    record { size = u.size ∙ m.size; more = λ k e. kept k (m.more k e); group = groups m kept }
  where
    groups : MarksGroups frames n (System entry) g g2 → ((k : ℕ) → is_in k g2 ≡ true → is_in k g3 ≡ true) → (which : Dropped) → is_dropped which (Some (Process entry table)) ≡ true → is_in (row_start frames which + n / 128) g3 ≡ true
    groups m kept All e = kept (row_start frames All + n / 128) (m.group All refl)
    groups m kept (ReadFrom frame) e = split (or_cases (entry == frame) (table == frame) e)
        (λ a. kept (row_start frames (ReadFrom frame) + n / 128) (m.group (ReadFrom frame) a))
        (λ b. marked_more frames n frame table g2 g3 u b)
