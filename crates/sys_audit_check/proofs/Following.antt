-- A line is followed exactly where it is the record of a command that may come next.
use Rattle.std.proofs.Common.{◌≡◌, ◌≤◌, ◌<◌, ℕ, List, [], ◌∷◌, length, Bool, true, false, ◌&&◌, nat_le, cond, Option, Some, None, All, refl, sym, ◌∙◌, ap, arith, slice_get, bytes_eq}
use Rattle.std.proofs.lemmas.Bool.{and_from, and_parts, le-leb, leb-true}
use Rattle.std.proofs.lemmas.List.Elements.{All-cons, All-head, All-nil, All-tail}
use Rattle.std.proofs.lemmas.Option.{slice_get_within}
use Rattle.std.proofs.lemmas.Slice.Eq.{bytes_eq-Decides}
use Rattle.std.specs.List.{list_all}
use Rattle.vv_base.specs.Digits.{decimal_from, decimal_of, is_decimal}
use Rattle.sys_audit_check.proofs.Records.{record_is_line, record_is_read}
use Rattle.sys_audit_check.specs.Audited.{Entry, IsEntry, record_of, server_after_entry}
use Rattle.sys_audit_check.specs.Laws.{OneReading}
use Rattle.sys_audit_check.specs.Lines.{after_first_line, first_line}
use Rattle.sys_audit_check.specs.Reading.{entry_read_at, entry_read, entry_in, read_in_round, followed, followed_by, followed_if, terminal_place}
use Rattle.sys_audit_check.specs.declared.replay.Replay.{Replay}
use Rattle.sys_objects.specs.Condition.{IsConfig}
use Rattle.sys_objects.specs.declared.records.Config.{Config}
use Rattle.sys_objects.specs.declared.records.Terminal.{Terminal}
use Rattle.sys_script.specs.EventLine.{after_blank, front}
use Rattle.sys_script.specs.Texts.{is_text, is_text_character}

-- where a choice by a test gives a value, the test passes
passed : {A : Type 0} (test : Bool) (x y : A) → cond test (Some x) None ≡ Some y → (test ≡ true) × (x ≡ y)
passed true x y is = (refl, cc)
passed false x y is = (cc, cc)

-- what is read is of a round up to the last, and at a terminal that exists
record Read (c : Config) (e : Entry) : Type 0 where
  few : e.round ≤ 1000000
  there : e.terminal < length c.terminals

at_read : (c : Config) (round n : ℕ) (o : Option Terminal) (bytes : List ℕ) (e : Entry) → round ≤ 1000000 → slice_get c.terminals n ≡ o → entry_read_at round n o bytes ≡ Some e → Read c e
at_read c round n None bytes e few at is = let no : None ≡ Some e = is in cc
at_read c round n (Some t) bytes e few at is =
    let r : round ≡ e.round = cc in
    let p : n ≡ e.terminal = cc in
    record { few = omega (arith, few, r); there = omega (arith, slice_get_within c.terminals n t at, p) }

by_read : (c : Config) (round : ℕ) (o : Option ℕ) (bytes : List ℕ) (e : Entry) → round ≤ 1000000 → entry_read c round o bytes ≡ Some e → Read c e
by_read c round None bytes e few is = let no : None ≡ Some e = is in cc
by_read c round (Some n) bytes e few is = at_read c round n (slice_get c.terminals n) bytes e few refl is

number_few : (text : List ℕ) (n : ℕ) → decimal_of text 1000000 ≡ Some n → n ≤ 1000000
number_few text n is =
    let both = passed (is_decimal text && nat_le (decimal_from 0 text) 1000000) (decimal_from 0 text) n is in
    let most : decimal_from 0 text ≤ 1000000 = leb-true (decimal_from 0 text) 1000000 (and_parts (is_decimal text) (nat_le (decimal_from 0 text) 1000000) both.0).1 in
    omega (arith, most, both.1)

round_read : (c : Config) (o : Option ℕ) (bytes : List ℕ) (e : Entry) → ((n : ℕ) → o ≡ Some n → n ≤ 1000000) → read_in_round c o bytes ≡ Some e → Read c e
round_read c None bytes e few is = let no : None ≡ Some e = is in cc
round_read c (Some n) bytes e few is = by_read c n (terminal_place c (front bytes)) (after_blank bytes) e (few n refl) is

is_read : (c : Config) (line : List ℕ) (e : Entry) → entry_in c line ≡ Some e → Read c e
unfolding entry_in
is_read c line e is = round_read c (decimal_of (front line) 1000000) (after_blank line) e (number_few (front line)) is

-- texts, as a test and as a fact
printed : (text : List ℕ) → list_all is_text_character text ≡ true → All (λ b. (32 ≤ b) × (b ≤ 126)) text
printed [] is = All-nil (λ b. (32 ≤ b) × (b ≤ 126))
printed (b ∷ text) is =
    let two = and_parts (is_text_character b) (list_all is_text_character text) is in
    let own = and_parts (nat_le 32 b) (nat_le b 126) two.0 in
    All-cons (λ x. (32 ≤ x) × (x ≤ 126)) b text (leb-true 32 b own.0, leb-true b 126 own.1) (printed text two.1)

shown : (text : List ℕ) → All (λ b. (32 ≤ b) × (b ≤ 126)) text → list_all is_text_character text ≡ true
shown [] all = refl
shown (b ∷ text) all =
    let own = All-head (λ x. (32 ≤ x) × (x ≤ 126)) b text all in
    and_from (is_text_character b) (list_all is_text_character text) (and_from (nat_le 32 b) (nat_le b 126) (le-leb 32 b own.0) (le-leb b 126 own.1)) (shown text (All-tail (λ x. (32 ≤ x) × (x ≤ 126)) b text all))

-- the line is the record of a command that may come next, and this is the replay after it
pub record Follows (c : Config) (replay : Replay) (line : List ℕ) (next : Replay) : Type 0 where
  pub entry : Entry
  pub fits : IsEntry c entry
  pub rises : replay.round ≤ entry.round
  pub is : line ≡ record_of c replay.server entry
  pub round : next.round ≡ entry.round
  pub server : next.server ≡ server_after_entry c replay.server entry

entry_follows : (c : Config) (replay : Replay) (line : List ℕ) (e : Entry) (next : Replay) → 1 ≤ replay.round → Read c e → followed_by c replay line e ≡ Some next → Follows c replay line next
unfolding followed_by
entry_follows c replay line e next from read is =
    let after : Replay = record { round = e.round; server = server_after_entry c replay.server e } in
    let all = passed (nat_le replay.round e.round && is_text e.text && bytes_eq (record_of c replay.server e) line) after next is in
    let two = and_parts (nat_le replay.round e.round && is_text e.text) (bytes_eq (record_of c replay.server e) line) all.0 in
    let one = and_parts (nat_le replay.round e.round) (is_text e.text) two.0 in
    let text = and_parts (nat_le (length e.text) 1000) (list_all is_text_character e.text) one.1 in
    let rises : replay.round ≤ e.round = leb-true replay.round e.round one.0 in
    record {
      entry = e;
      fits = record { some = omega (arith, from, rises); few = read.few; there = read.there; short = leb-true (length e.text) 1000 text.0; printed = printed e.text text.1 };
      rises = rises;
      is = sym ((bytes_eq-Decides (record_of c replay.server e) line).0 two.1);
      round = ap (λ (r : Replay). r.round) (sym all.1);
      server = ap (λ (r : Replay). r.server) (sym all.1);
    }

if_follows : (c : Config) (replay : Replay) (line : List ℕ) (o : Option Entry) (next : Replay) → 1 ≤ replay.round → entry_in c line ≡ o → followed_if c replay line o ≡ Some next → Follows c replay line next
if_follows c replay line None next from read is = let no : None ≡ Some next = is in cc
if_follows c replay line (Some e) next from read is = entry_follows c replay line e next from (is_read c line e read) is

pub follows : (c : Config) (replay : Replay) (line : List ℕ) (next : Replay) → 1 ≤ replay.round → followed c replay line ≡ Some next → Follows c replay line next
follows c replay line next from is = if_follows c replay line (entry_in c line) next from refl is

-- and each such line is followed
by_record : (c : Config) (replay : Replay) (e : Entry) → IsEntry c e → replay.round ≤ e.round → followed_by c replay (record_of c replay.server e) e ≡ Some (record { round = e.round; server = server_after_entry c replay.server e })
unfolding followed_by
by_record c replay e fits rises =
    let same : bytes_eq (record_of c replay.server e) (record_of c replay.server e) ≡ true = (bytes_eq-Decides (record_of c replay.server e) (record_of c replay.server e)).1 refl in
    rw (le-leb replay.round e.round rises, le-leb (length e.text) 1000 fits.short, shown e.text fits.printed, same)

pub is_followed : (c : Config) (replay : Replay) (e : Entry) → IsConfig c → IsEntry c e → replay.round ≤ e.round
    → followed c replay (record_of c replay.server e) ≡ Some (record { round = e.round; server = server_after_entry c replay.server e })
is_followed c replay e is fits rises = ap (followed_if c replay (record_of c replay.server e)) (record_is_read c replay.server e is fits) ∙ by_record c replay e fits rises

-- a record can be cut in one way
pub one_reading : OneReading
one_reading c s t e f more other is fits fits' same =
    let mine = record_is_line c s e is fits more in
    let yours = record_is_line c t f is fits' other in
    let line : record_of c s e ≡ record_of c t f = sym mine.0 ∙ ap first_line same ∙ yours.0 in
    let read : Some e ≡ Some f = sym (record_is_read c s e is fits) ∙ ap (entry_in c) line ∙ record_is_read c t f is fits' in
    let entries : e ≡ f = cc in
    (entries, sym mine.1 ∙ ap after_first_line same ∙ yours.1)
