-- A record is a line, and is read as the command of which it is the record.
use Rattle.std.proofs.Common.{◌≡◌, ◌≢◌, ◌≤◌, ◌<◌, ◌+◌, ◌-◌, ◌^◌, decimal, ℕ, zero, suc, List, [], ◌∷◌, ◌++◌, length, drop, Bool, true, false, Option, Some, All, refl, sym, ◌∙◌, ap, subst, arith, lit≤, append_assoc, append-nil, length-append, slice_get, slice_index_or, bytes_eq, codes, nat_le}
use Rattle.std.proofs.lemmas.Bool.{leb-true, lt-ltb}
use Rattle.std.proofs.lemmas.List.{drop_at, take_at}
use Rattle.std.proofs.lemmas.List.Elements.{All-head, All-tail}
use Rattle.std.proofs.lemmas.Option.{get_or_from_slice_get, slice_get_within}
use Rattle.std.proofs.lemmas.Slice.Eq.{bytes_eq-Decides}
use Rattle.std.specs.List.{list_all, position_or_len}
use Rattle.vv_class.specs.Text.{class_text}
use Rattle.vv_class.specs.declared.class.AccessClass.{AccessClass}
use Rattle.sys_audit.specs.Audit.{audit_record}
use Rattle.sys_audit_check.proofs.Lines.{line_at}
use Rattle.sys_audit_check.proofs.Words.{AreFrom, after_at, class_from, from_test, front_at, joined, lower, name_from, number_from, number_read}
use Rattle.sys_audit_check.specs.Audited.{Entry, IsEntry, record_at, record_of, verdict_on}
use Rattle.sys_audit_check.specs.Laws.{IsGranted}
use Rattle.sys_audit_check.specs.Lines.{after_first_line, first_line}
use Rattle.sys_audit_check.specs.Reading.{command_in, entry_in, terminal_place, text_after_reply, without_end}
use Rattle.sys_objects.proofs.JudgedAgain.{are_apart, texts_differ}
use Rattle.sys_objects.specs.Condition.{IsConfig, IsTerminal}
use Rattle.sys_objects.specs.declared.records.Config.{Config}
use Rattle.sys_objects.specs.declared.records.Terminal.{Terminal}
use Rattle.sys_script.specs.EventLine.{after_blank, front}
use Rattle.sys_server.specs.Replies.{reply_of}
use Rattle.sys_server.specs.declared.command.Command.{Command}
use Rattle.sys_server.specs.declared.command.Rule.TheVariants.{Equal, Write}
use Rattle.sys_server.specs.declared.command.ServerState.{ServerState}
use Rattle.sys_server.specs.declared.command.Verdict.{Verdict}
use Rattle.sys_server.specs.declared.command.Verdict.TheVariants.{Granted, BadCommand, NoSuchObject, Denied}

-- a record's words, with its end
abbrev said : List ℕ → Verdict → List ℕ → List ℕ
said class v text = class ++ 32 ∷ (reply_of v ++ 32 ∷ (text ++ 13 ∷ 10 ∷ []))

abbrev words : ℕ → Terminal → List ℕ → Verdict → List ℕ
words round t text v = decimal round ++ 32 ∷ (t.name ++ 32 ∷ said (class_text t.class) v text)

in_words : (round : ℕ) (t : Terminal) (text : List ℕ) (v : Verdict) → audit_record round t text v ≡ words round t text v
unfolding audit_record
in_words round t text v = simp append_assoc

-- without the line feed
abbrev body : ℕ → Terminal → List ℕ → Verdict → List ℕ
body round t text v = decimal round ++ 32 ∷ (t.name ++ 32 ∷ (class_text t.class ++ 32 ∷ (reply_of v ++ 32 ∷ (text ++ 13 ∷ []))))

with_feed : (round : ℕ) (t : Terminal) (text : List ℕ) (v : Verdict) (more : List ℕ) → words round t text v ++ more ≡ body round t text v ++ 10 ∷ more
with_feed round t text v more = simp append_assoc

not_below : (bytes : List ℕ) → list_all (λ b. nat_le 32 b) bytes ≡ true → AreFrom 32 bytes
not_below bytes is = from_test (λ b. nat_le 32 b) 32 (λ b from. leb-true 32 b from) bytes is

reply_from : (v : Verdict) → AreFrom 32 (reply_of v)
reply_from (Granted command) = not_below (codes "OK") refl
reply_from BadCommand = not_below (codes "BAD COMMAND") refl
reply_from NoSuchObject = not_below (codes "NO SUCH OBJECT") refl
reply_from (Denied Equal) = not_below (codes "DENIED EQUAL") refl
reply_from (Denied Write) = not_below (codes "DENIED WRITE") refl

text_from : (text : List ℕ) → All (λ b. (32 ≤ b) × (b ≤ 126)) text → AreFrom 32 text
text_from [] all = tt
text_from (b ∷ text) all = ((All-head (λ b. (32 ≤ b) × (b ≤ 126)) b text all).0, text_from text (All-tail (λ b. (32 ≤ b) × (b ≤ 126)) b text all))

-- each of its bytes but the last is no line feed
body_from : (round : ℕ) (t : Terminal) (text : List ℕ) (v : Verdict) → round < 2 ^ 64 → IsTerminal t → AreFrom 32 text → AreFrom 11 (body round t text v)
body_from round t text v small is shown =
    let blank : 11 ≤ 32 = lit≤ tt in
    let number : AreFrom 11 (decimal round) = lower 48 11 (decimal round) (lit≤ tt) (number_from round small) in
    let name : AreFrom 11 t.name = lower 48 11 t.name (lit≤ tt) (name_from t.name is.named) in
    let class : AreFrom 11 (class_text t.class) = lower 44 11 (class_text t.class) (lit≤ tt) (class_from t.class is.class) in
    let reply : AreFrom 11 (reply_of v) = lower 32 11 (reply_of v) (lit≤ tt) (reply_from v) in
    let end : AreFrom 11 (text ++ 13 ∷ []) = joined 11 text (13 ∷ []) (lower 32 11 text (lit≤ tt) shown) (lit≤ tt, tt) in
    joined 11 (decimal round) (32 ∷ (t.name ++ 32 ∷ (class_text t.class ++ 32 ∷ (reply_of v ++ 32 ∷ (text ++ 13 ∷ []))))) number (
      blank,
      joined 11 t.name (32 ∷ (class_text t.class ++ 32 ∷ (reply_of v ++ 32 ∷ (text ++ 13 ∷ [])))) name (
        blank,
        joined 11 (class_text t.class) (32 ∷ (reply_of v ++ 32 ∷ (text ++ 13 ∷ []))) class
            (blank, joined 11 (reply_of v) (32 ∷ (text ++ 13 ∷ [])) reply (blank, end)),
      ),
    )

-- the command after the class and the reply
after_reply : (v : Verdict) (rest : List ℕ) → text_after_reply (reply_of v ++ 32 ∷ rest) ≡ rest
after_reply (Granted command) rest = refl
after_reply BadCommand rest = refl
after_reply NoSuchObject rest = refl
after_reply (Denied Equal) rest = refl
after_reply (Denied Write) rest = refl

end_gone : (text : List ℕ) → without_end (text ++ 13 ∷ 10 ∷ []) ≡ text
end_gone text = take_at text (13 ∷ 10 ∷ []) (length (text ++ 13 ∷ 10 ∷ []) - 2) (omega (arith, length-append text (13 ∷ 10 ∷ [])))

command_read : (class : AccessClass) (v : Verdict) (text : List ℕ) → command_in class (said (class_text class) v text) ≡ text
unfolding command_in
command_read class v text =
    let apart : said (class_text class) v text ≡ (class_text class ++ 32 ∷ []) ++ (reply_of v ++ 32 ∷ (text ++ 13 ∷ 10 ∷ [])) = sym (append_assoc (class_text class) (32 ∷ []) (reply_of v ++ 32 ∷ (text ++ 13 ∷ 10 ∷ []))) in
    let reply : drop (length (class_text class) + 1) (said (class_text class) v text) ≡ reply_of v ++ 32 ∷ (text ++ 13 ∷ 10 ∷ []) =
    ap (drop (length (class_text class) + 1)) apart ∙ drop_at (class_text class ++ 32 ∷ []) (reply_of v ++ 32 ∷ (text ++ 13 ∷ 10 ∷ [])) (length (class_text class) + 1) (length-append (class_text class) (32 ∷ [])) in
    ap (λ bytes. without_end (text_after_reply bytes)) reply ∙ ap without_end (after_reply v (text ++ 13 ∷ 10 ∷ [])) ∙ end_gone text

-- the place of the first that passes
first_place : {A : Type 0} (p : A → Bool) (xs : List A) (k : ℕ) (d : A) → k < length xs → p (slice_index_or xs k d) ≡ true → ((i : ℕ) → i < k → p (slice_index_or xs i d) ≡ false) → position_or_len p xs ≡ k
first_place p [] k d within here before = absurd (omega arith)
first_place p (x ∷ xs) zero d within here before = rw here
first_place p (x ∷ xs) (suc k) d within here before =
    let first : p x ≡ false = before 0 (omega arith) in
    let rest : position_or_len p xs ≡ k = first_place p xs k d (omega arith) here (λ i below. before (suc i) (omega arith)) in
    rw (first, rest) (omega arith)

-- the name of a terminal is no other's
terminal_found : (c : Config) (n : ℕ) (t : Terminal) → IsConfig c → slice_get c.terminals n ≡ Some t → terminal_place c t.name ≡ Some n
terminal_found c n t is at =
    let within : n < length c.terminals = slice_get_within c.terminals n t at in
    let here : slice_index_or c.terminals n t ≡ t = get_or_from_slice_get c.terminals n t t at in
    let p : Terminal → Bool = λ x. bytes_eq x.name t.name in
    let place : position_or_len p c.terminals ≡ n =
    first_place p c.terminals n t within (rw here ((bytes_eq-Decides t.name t.name).1 refl))
    (λ i below. let differ : (slice_index_or c.terminals i t).name ≢ (slice_index_or c.terminals n t).name = (are_apart c is).terminals i n t below within in
    texts_differ t.name (slice_index_or c.terminals i t).name (λ e. (rw here at differ) (sym e))) in
    rw (place, lt-ltb n (length c.terminals) within)

-- a record is read
words_read : (c : Config) (n : ℕ) (t : Terminal) (round : ℕ) (text : List ℕ) (v : Verdict) → IsConfig c → 1 ≤ round → round ≤ 1000000 → slice_get c.terminals n ≡ Some t → IsTerminal t
    → entry_in c (words round t text v) ≡ Some (record { round = round; terminal = n; text = text })
unfolding entry_in
words_read c n t round text v is from to at named =
    let number : AreFrom 33 (decimal round) = lower 48 33 (decimal round) (lit≤ tt) (number_from round (omega (arith, to))) in
    let name : AreFrom 33 t.name = lower 48 33 t.name (lit≤ tt) (name_from t.name named.named) in
    let rest : List ℕ = said (class_text t.class) v text in
    let first : front (words round t text v) ≡ decimal round = front_at (decimal round) (t.name ++ 32 ∷ rest) number in
    let after : after_blank (words round t text v) ≡ t.name ++ 32 ∷ rest = after_at (decimal round) (t.name ++ 32 ∷ rest) number in
    let second : front (t.name ++ 32 ∷ rest) ≡ t.name = front_at t.name rest name in
    let last : after_blank (t.name ++ 32 ∷ rest) ≡ rest = after_at t.name rest name in
    rw (first, after, number_read round from to, second, last, terminal_found c n t is at, at, command_read t.class v text)

-- a terminal that exists
pub record Stands (c : Config) (n : ℕ) : Type 0 where
  pub terminal : Terminal
  pub at : slice_get c.terminals n ≡ Some terminal
  pub is : IsTerminal terminal

stands_at : (c : Config) (ts : List Terminal) (n : ℕ) → All IsTerminal ts → n < length ts → (t : Terminal) × (slice_get ts n ≡ Some t) × IsTerminal t
stands_at c [] n all there = absurd (omega (arith, there))
stands_at c (t ∷ ts) zero all there = (t, refl, All-head IsTerminal t ts all)
stands_at c (t ∷ ts) (suc n) all there = stands_at c ts n (All-tail IsTerminal t ts all) (omega (arith, there))

stands : (c : Config) (n : ℕ) → IsConfig c → n < length c.terminals → Stands c n
stands c n is there = let one = stands_at c c.terminals n is.terminals there in record { terminal = one.0; at = one.1; is = one.2 }

-- a record with any answer is read, and is the first line of what begins with it
module _ (c : Config) (is : IsConfig c) (n : ℕ) (t : Terminal) (round : ℕ) (text : List ℕ) (v : Verdict) (at : slice_get c.terminals n ≡ Some t) where
  terminal_is : IsTerminal t
  terminal_is = let one : Stands c n = stands c n is (slice_get_within c.terminals n t at) in
      let same : one.terminal ≡ t = let both : Some one.terminal ≡ Some t = sym one.at ∙ at in cc in
      subst IsTerminal same one.is

  pub audit_is_read : 1 ≤ round → round ≤ 1000000 → entry_in c (audit_record round t text v) ≡ Some (record { round = round; terminal = n; text = text })
  audit_is_read from to = ap (entry_in c) (in_words round t text v) ∙ words_read c n t round text v is from to at terminal_is

  pub audit_is_line : round ≤ 1000000 → All (λ b. (32 ≤ b) × (b ≤ 126)) text → (more : List ℕ)
      → (first_line (audit_record round t text v ++ more) ≡ audit_record round t text v) × (after_first_line (audit_record round t text v ++ more) ≡ more)
  audit_is_line to printed more =
      let own : List ℕ = body round t text v in
      let ends : audit_record round t text v ≡ own ++ 10 ∷ [] = in_words round t text v ∙ sym (append-nil (words round t text v)) ∙ with_feed round t text v [] in
      let begins : audit_record round t text v ++ more ≡ own ++ 10 ∷ more = ap (λ bytes. bytes ++ more) (in_words round t text v) ∙ with_feed round t text v more in
      let cut = line_at own more (body_from round t text v (omega (arith, to)) terminal_is (text_from text printed)) in
      (ap first_line begins ∙ cut.0 ∙ sym ends, ap after_first_line begins ∙ cut.1)

module _ (c : Config) (s : ServerState) (e : Entry) (is : IsConfig c) (fits : IsEntry c e) where
  record_audit : (t : Terminal) → slice_get c.terminals e.terminal ≡ Some t → record_of c s e ≡ audit_record e.round t e.text (verdict_on c s e)
  record_audit t at = ap (λ (o : Option Terminal). record_at e.round o e.text (verdict_on c s e)) at

  pub record_is_read : entry_in c (record_of c s e) ≡ Some e
  record_is_read =
      let one : Stands c e.terminal = stands c e.terminal is fits.there in
      ap (entry_in c) (record_audit one.terminal one.at) ∙ audit_is_read c is e.terminal one.terminal e.round e.text (verdict_on c s e) one.at fits.some fits.few

  pub record_is_line : (more : List ℕ) → (first_line (record_of c s e ++ more) ≡ record_of c s e) × (after_first_line (record_of c s e ++ more) ≡ more)
  record_is_line more =
      let one : Stands c e.terminal = stands c e.terminal is fits.there in
      let same : audit_record e.round one.terminal e.text (verdict_on c s e) ≡ record_of c s e = sym (record_audit one.terminal one.at) in
      subst (λ bytes. (first_line (bytes ++ more) ≡ bytes) × (after_first_line (bytes ++ more) ≡ more)) same (audit_is_line c is e.terminal one.terminal e.round e.text (verdict_on c s e) one.at fits.few fits.printed more)

-- an answer as long as OK is OK
granted_by_length : (v : Verdict) → length (reply_of v) ≡ 2 → IsGranted v
granted_by_length (Granted command) e = tt
granted_by_length BadCommand e = omega (arith, e)
granted_by_length NoSuchObject e = omega (arith, e)
granted_by_length (Denied Equal) e = omega (arith, e)
granted_by_length (Denied Write) e = omega (arith, e)

pub granted_by_text : (round : ℕ) (t : Terminal) (text : List ℕ) (command : Command) (v : Verdict) → audit_record round t text (Granted command) ≡ audit_record round t text v → IsGranted v
unfolding audit_record
granted_by_text round t text command v same =
    let front : List ℕ = decimal round ++ codes " " ++ t.name ++ codes " " ++ class_text t.class ++ codes " " in
    granted_by_length v (omega (arith, simp length-append at (ap length same)))
