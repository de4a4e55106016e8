-- How far a check has come: the lines so far are records, and the records that may follow them are those that the replay allows.
use Rattle.std.proofs.Common.{◌≡◌, ◌≤◌, ◌<◌, ◌+◌, inl, inr, ℕ, suc, zero, List, [], ◌∷◌, ◌++◌, length, Some, None, All, refl, sym, ◌∙◌, ap, subst, arith, append-nil, append_assoc, add-one}
use Rattle.std.proofs.lemmas.Bool.{cases_lt}
use Rattle.std.proofs.lemmas.List.Elements.{All-cons, All-head, All-nil, All-tail}
use Rattle.sys_audit_check.proofs.Following.{Follows, follows, is_followed, one_reading}
use Rattle.sys_audit_check.proofs.Lines.{after_lines, after_more, line_of_line, line_some, rest_shorter, through_more, through_whole}
use Rattle.sys_audit_check.proofs.Mounts.{Covers, bytes_covered}
use Rattle.sys_audit_check.proofs.Records.{record_is_line, record_is_read}
use Rattle.sys_audit_check.specs.Audited.{Audited, AuditedFrom, Entry, EntryRoundsNeverFall, IsEntry, audit_bytes, opening_server, record_of, server_after_entry}
use Rattle.sys_audit_check.specs.Lines.{IsFirstBad, after_first_line, first_line, through}
use Rattle.sys_audit_check.specs.Reading.{entry_in, followed}
use Rattle.sys_audit_check.specs.declared.replay.Replay.{Replay}
use Rattle.sys_objects.specs.Condition.{IsConfig}
use Rattle.sys_objects.specs.declared.records.Config.{Config}
use Rattle.sys_server.specs.declared.command.ServerState.{ServerState}

-- no bytes at all are an audit
pub none_from : (c : Config) (s : ServerState) (from : ℕ) → AuditedFrom c s from []
none_from c s from = record { entries = []; each = All-nil (IsEntry c); order = tt; is = refl }

-- a record and then others
pub one_more : (c : Config) (s : ServerState) (from : ℕ) (e : Entry) (bytes : List ℕ) → IsEntry c e → from ≤ e.round → AuditedFrom c (server_after_entry c s e) e.round bytes → AuditedFrom c s from (record_of c s e ++ bytes)
one_more c s from e bytes fits rises rest = record {
  entries = e ∷ rest.entries;
  each = All-cons (IsEntry c) e rest.entries fits rest.each;
  order = (rises, rest.order);
  is = ap (λ more. record_of c s e ++ more) rest.is;
}

pub no_record : (c : Config) → entry_in c [] ≡ None
unfolding entry_in
no_record c = refl

module _ (c : Config) (is : IsConfig c) where
  some_bytes : (s : ServerState) (e : Entry) (bytes : List ℕ) → IsEntry c e → record_of c s e ++ bytes ≡ [] → ⊥
  some_bytes s e bytes fits none =
      let line : record_of c s e ≡ [] = sym (record_is_line c s e is fits bytes).0 ∙ ap first_line none in
      let no : Some e ≡ None = sym (record_is_read c s e is fits) ∙ ap (entry_in c) line ∙ no_record c in
      cc

  after_entries : (s : ServerState) (from : ℕ) (e : Entry) (bytes : List ℕ) → IsEntry c e → (es : List Entry) → All (IsEntry c) es → EntryRoundsNeverFall from es → record_of c s e ++ bytes ≡ audit_bytes c s es → AuditedFrom c (server_after_entry c s e) e.round bytes
  after_entries s from e bytes fits [] each order same = absurd (some_bytes s e bytes fits same)
  after_entries s from e bytes fits (f ∷ fs) each order same =
      let two = one_reading c s s e f bytes (audit_bytes c (server_after_entry c s f) fs) is fits (All-head (IsEntry c) f fs each) same in
      let rest : AuditedFrom c (server_after_entry c s f) f.round bytes = record { entries = fs; each = All-tail (IsEntry c) f fs each; order = order.1; is = two.1 } in
      subst (λ (x : Entry). AuditedFrom c (server_after_entry c s x) x.round bytes) (sym two.0) rest

  -- after a record come others
  pub one_less : (s : ServerState) (from : ℕ) (e : Entry) (bytes : List ℕ) → IsEntry c e → AuditedFrom c s from (record_of c s e ++ bytes) → AuditedFrom c (server_after_entry c s e) e.round bytes
  one_less s from e bytes fits all = after_entries s from e bytes fits all.entries all.each all.order all.is

  -- where the first line isn't followed, the bytes are no records
  refused_entries : (replay : Replay) (line bytes : List ℕ) → first_line bytes ≡ line → 0 < length bytes → followed c replay line ≡ None → (es : List Entry) → All (IsEntry c) es → EntryRoundsNeverFall replay.round es → bytes ≡ audit_bytes c replay.server es → ⊥
  refused_entries replay line bytes cut some none [] each order same = let no : length bytes ≡ 0 = ap length same in omega (arith, some, no)
  refused_entries replay line bytes cut some none (e ∷ es) each order same =
      let fits : IsEntry c e = All-head (IsEntry c) e es each in
      let own : line ≡ record_of c replay.server e = sym cut ∙ ap first_line same ∙ (record_is_line c replay.server e is fits (audit_bytes c (server_after_entry c replay.server e) es)).0 in
      let next : Replay = record { round = e.round; server = server_after_entry c replay.server e } in
      let no : None ≡ Some next = sym none ∙ ap (followed c replay) own ∙ is_followed c replay e is fits order.0 in
      cc

  refused : (replay : Replay) (line bytes : List ℕ) → first_line bytes ≡ line → 0 < length bytes → followed c replay line ≡ None → AuditedFrom c replay.server replay.round bytes → ⊥
  refused replay line bytes cut some none all = refused_entries replay line bytes cut some none all.entries all.each all.order all.is

-- `line` lines of the bytes were followed, to a replay, and this is the rest
pub record Reached (c : Config) (bytes : List ℕ) (line : ℕ) (replay : Replay) (rest : List ℕ) : Type 0 where
  pub rest_is : rest ≡ after_lines line bytes
  pub from : 1 ≤ replay.round
  pub goes : (more : List ℕ) → AuditedFrom c replay.server replay.round more → Audited c (through line bytes ++ more)
  pub only : (more : List ℕ) → Audited c (through line bytes ++ more) → AuditedFrom c replay.server replay.round more
  pub before : (k : ℕ) → k ≤ line → Audited c (through k bytes)
  pub few : line + length rest ≤ length bytes

covered_from : (c : Config) (t s : ServerState) (from : ℕ) (bytes : List ℕ) → Covers c t s → AuditedFrom c s from bytes → AuditedFrom c t from bytes
covered_from c t s from bytes covers all = record { entries = all.entries; each = all.each; order = all.order; is = all.is ∙ bytes_covered c t s all.entries covers }

covering_from : (c : Config) (t s : ServerState) (from : ℕ) (bytes : List ℕ) → Covers c t s → AuditedFrom c t from bytes → AuditedFrom c s from bytes
covering_from c t s from bytes covers all = record { entries = all.entries; each = all.each; order = all.order; is = all.is ∙ sym (bytes_covered c t s all.entries covers) }

pub begins : (c : Config) (bytes : List ℕ) (replay : Replay) → replay.round ≡ 1 → Covers c replay.server (opening_server c) → Reached c bytes 0 replay bytes
begins c bytes replay round covers = record {
  rest_is = refl;
  from = omega (arith, round);
  goes = λ more all. covering_from c replay.server (opening_server c) 1 more covers (subst (λ n. AuditedFrom c replay.server n more) round all);
  only = λ more all. subst (λ n. AuditedFrom c replay.server n more) (sym round) (covered_from c replay.server (opening_server c) 1 more covers all);
  before = λ k none. let e : zero ≡ k = omega (arith, none) in subst (λ n. Audited c (through n bytes)) e (none_from c (opening_server c) 1);
  few = omega arith;
}

module _ (c : Config) (is : IsConfig c) (bytes : List ℕ) (line : ℕ) (replay : Replay) (rest : List ℕ) (some : 0 < length rest) (reached : Reached c bytes line replay rest) where
  next_line : through (suc line) bytes ≡ through line bytes ++ first_line rest
  next_line = through_more line bytes ∙ ap (λ xs. through line bytes ++ first_line xs) (sym reached.rest_is)

  more_after : (more : List ℕ) → through (suc line) bytes ++ more ≡ through line bytes ++ (first_line rest ++ more)
  more_after more = ap (λ xs. xs ++ more) next_line ∙ append_assoc (through line bytes) (first_line rest) more

  goes_on : (next : Replay) → Follows c replay (first_line rest) next → (more : List ℕ) → AuditedFrom c next.server next.round more → Audited c (through (suc line) bytes ++ more)
  goes_on next h more all =
      let e : Entry = h.entry in
      let own : AuditedFrom c (server_after_entry c replay.server e) e.round more = subst (λ n. AuditedFrom c (server_after_entry c replay.server e) n more) h.round (subst (λ (s : ServerState). AuditedFrom c s next.round more) h.server all) in
      let two : AuditedFrom c replay.server replay.round (record_of c replay.server e ++ more) = one_more c replay.server replay.round e more h.fits h.rises own in
      let here : AuditedFrom c replay.server replay.round (first_line rest ++ more) = subst (λ xs. AuditedFrom c replay.server replay.round (xs ++ more)) (sym h.is) two in
      subst (λ xs. Audited c xs) (sym (more_after more)) (reached.goes (first_line rest ++ more) here)

  only_on : (next : Replay) → Follows c replay (first_line rest) next → (more : List ℕ) → Audited c (through (suc line) bytes ++ more) → AuditedFrom c next.server next.round more
  only_on next h more all =
      let e : Entry = h.entry in
      let here : AuditedFrom c replay.server replay.round (first_line rest ++ more) = reached.only (first_line rest ++ more) (subst (λ xs. Audited c xs) (more_after more) all) in
      let two : AuditedFrom c replay.server replay.round (record_of c replay.server e ++ more) = subst (λ xs. AuditedFrom c replay.server replay.round (xs ++ more)) h.is here in
      let own : AuditedFrom c (server_after_entry c replay.server e) e.round more = one_less c is replay.server replay.round e more h.fits two in
      subst (λ (s : ServerState). AuditedFrom c s next.round more) (sym h.server) (subst (λ n. AuditedFrom c (server_after_entry c replay.server e) n more) (sym h.round) own)

  before_next : (next : Replay) → Follows c replay (first_line rest) next → (k : ℕ) → k ≤ suc line → Audited c (through k bytes)
  before_next next h k most = elim (cases_lt line k) [
    | inl last ↦
        let e : suc line ≡ k = omega (arith, last, most) in
        let whole : Audited c (through (suc line) bytes ++ []) = goes_on next h [] (none_from c next.server next.round) in
        subst (λ n. Audited c (through n bytes)) e (subst (λ xs. Audited c xs) (append-nil (through (suc line) bytes)) whole)
    | inr earlier ↦ reached.before k earlier
  ]

  next_reached : (next : Replay) → Follows c replay (first_line rest) next → Reached c bytes (suc line) next (after_first_line rest)
  next_reached next h = record {
    rest_is = ap after_first_line reached.rest_is ∙ sym (after_more line bytes);
    from = omega (arith, reached.from, h.rises, h.round);
    goes = goes_on next h;
    only = only_on next h;
    before = before_next next h;
    few = omega (arith, reached.few, rest_shorter rest some);
  }

  pub goes_further : (next : Replay) → followed c replay (first_line rest) ≡ Some next → Reached c bytes (line + 1) next (after_first_line rest)
  goes_further next is_next = rw add-one (next_reached next (follows c replay (first_line rest) next reached.from is_next))

  stops_at : followed c replay (first_line rest) ≡ None → IsFirstBad c bytes (suc line) × (Audited c bytes → ⊥)
  stops_at none =
      let whole : bytes ≡ through line bytes ++ rest = sym (through_whole line bytes) ∙ ap (λ xs. through line bytes ++ xs) (sym reached.rest_is) in (
        record {
          from = omega arith;
          before = λ k below. reached.before k (omega (arith, below));
          bad = λ all. refused c is replay (first_line rest) (first_line rest) (line_of_line rest) (line_some rest some) none (reached.only (first_line rest) (subst (λ xs. Audited c xs) next_line all));
        },
        λ all. refused c is replay (first_line rest) rest refl some none (reached.only rest (subst (λ xs. Audited c xs) whole all)),
      )

  pub stops : followed c replay (first_line rest) ≡ None → IsFirstBad c bytes (line + 1) × (Audited c bytes → ⊥)
  stops none = rw add-one (stops_at none)

pub ends : (c : Config) (bytes : List ℕ) (line : ℕ) (replay : Replay) (rest : List ℕ) → length rest ≡ 0 → Reached c bytes line replay rest → Audited c bytes
ends c bytes line replay [] none reached =
    let whole : through line bytes ++ [] ≡ bytes = ap (λ xs. through line bytes ++ xs) reached.rest_is ∙ through_whole line bytes in
    subst (λ xs. Audited c xs) whole (reached.goes [] (none_from c replay.server replay.round))
ends c bytes line replay (b ∷ rest) none reached = absurd (omega (arith, none))
