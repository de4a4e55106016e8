-- A line that is read as a command has its words.
use Rattle.std.proofs.Common.{◌≡◌, ◌<◌, ◌≤◌, ◌+◌, ◌-◌, ℕ, List, [], ◌∷◌, Bool, true, false, ◌&&◌, nat_le, codes, Option, Some, None, option_and_then, option_map, subst, refl, sym, ◌∙◌, ap, arith, if◌then◌else◌}
use Rattle.std.specs.Option.{IfSome}
use Rattle.std.specs.Str.{bytes_eq}
use Rattle.std.proofs.lemmas.Bool.{leb-true}
use Rattle.std.proofs.lemmas.List.Splits.{join_with_byte-slice_split}
use Rattle.std.proofs.lemmas.Option.{IfSome_then}
use Rattle.std.proofs.lemmas.Slice.Eq.{bytes_eq-Decides}
use Rattle.std.specs.List.{join_with_byte}
use Rattle.vv_base.specs.Names.{is_object_name, tested}
use Rattle.sys_server.proofs.Reading.{parts}
use Rattle.sys_server.specs.CommandLine.{Asks, IsAsked, IsName, access_in, access_text, asked_in, asked_of, asked_of_guest, unit_in, unit_text, words, words_of}
use Rattle.sys_server.specs.declared.command.NamedCommand.{NamedCommand}
use Rattle.sys_server.specs.declared.command.NamedCommand.TheVariants.{Dismount, Mount}

both : {A : Type 0} (b : Bool) → (b ≡ true → A) → (b ≡ false → A) → A
both true f g = f refl
both false f g = g refl

same : (x y : List ℕ) → bytes_eq x y ≡ true → x ≡ y
same x y = (bytes_eq-Decides x y).0

-- what is asked has these words
abbrev Says : List (List ℕ) → NamedCommand → Type 0
Says ws asked = IsAsked asked × (ws ≡ words_of asked)

digit_is : (b n : ℕ) (test : Bool) → (nat_le 48 b && nat_le b 51) ≡ test → (if test then Some (b - 48) else None) ≡ Some n → ((b ∷ []) ≡ unit_text n) × (n < 4)
digit_is b n true e h =
    let p : (nat_le 48 b ≡ true) × (nat_le b 51 ≡ true) = parts (nat_le 48 b) (nat_le b 51) e in
    let from : 48 ≤ b = leb-true _ _ p.0 in
    let to : b ≤ 51 = leb-true _ _ p.1 in
    let m : b - 48 ≡ n = cc in
    let s : b ≡ 48 + n = omega arith in
    (ap (λ x. x ∷ []) s, omega arith)
digit_is b n false e h = absurd (cc)

unit_is : (word : List ℕ) (n : ℕ) → unit_in word ≡ Some n → (word ≡ unit_text n) × (n < 4)
unit_is [] n h = absurd (cc)
unit_is (b ∷ []) n h = digit_is b n (nat_le 48 b && nat_le b 51) refl h
unit_is (b ∷ c ∷ more) n h = absurd (cc)

of_guest : (verb vm : List ℕ) → IsName vm → IfSome (asked_of_guest verb vm) (Says (verb ∷ vm ∷ []))
of_guest verb vm named = both (bytes_eq verb (codes "CONNECT"))
    (λ e. rw e (named, ap (λ v. v ∷ vm ∷ []) (same verb (codes "CONNECT") e)))
    (λ e. both (bytes_eq verb (codes "START"))
    (λ f. rw (e, f) (named, ap (λ v. v ∷ vm ∷ []) (same verb (codes "START") f)))
    (λ f. both (bytes_eq verb (codes "HALT"))
    (λ g. rw (e, f, g) (named, ap (λ v. v ∷ vm ∷ []) (same verb (codes "HALT") g)))
    (λ g. rw (e, f, g) tt)))

access_is : (word : List ℕ) (write : Bool) → access_in word ≡ Some write → word ≡ access_text write
access_is word write h = both (bytes_eq word (codes "WRITE"))
    (λ e. let is : Some true ≡ Some write = rw e at h in let s : true ≡ write = cc in same word (codes "WRITE") e ∙ ap access_text s)
    (λ e. both (bytes_eq word (codes "READ"))
    (λ f. let is : Some false ≡ Some write = rw (e, f) at h in let s : false ≡ write = cc in same word (codes "READ") f ∙ ap access_text s)
    (λ f. let is : None ≡ Some write = rw (e, f) at h in absurd (cc)))

of_access : (vm unit volume access : List ℕ) (n : ℕ) → IsName vm → unit ≡ unit_text n → n < 4 → IsName volume → (o : Option Bool) → access_in access ≡ o
    → IfSome (option_map (Mount vm n volume) o) (Says (codes "MOUNT" ∷ vm ∷ unit ∷ volume ∷ access ∷ []))
of_access vm unit volume access n named is few held None e = tt
of_access vm unit volume access n named is few held (Some write) e = let says = access_is access write e in ((named, few, held), λ i. codes "MOUNT" ∷ vm ∷ is i ∷ volume ∷ says i ∷ [])

of_volume : (vm unit volume access : List ℕ) (n : ℕ) → IsName vm → unit ≡ unit_text n → n < 4
    → IfSome (option_and_then (λ v. option_map (Mount vm n v) (access_in access)) (tested is_object_name volume)) (Says (codes "MOUNT" ∷ vm ∷ unit ∷ volume ∷ access ∷ []))
of_volume vm unit volume access n named is few = both (is_object_name volume)
    (λ e. rw e (of_access vm unit volume access n named is few e (access_in access) refl))
    (λ e. rw e tt)

of_mount : (vm unit volume access : List ℕ) → IsName vm → (o : Option ℕ) → unit_in unit ≡ o
    → IfSome (option_and_then (λ u. option_and_then (λ v. option_map (Mount vm u v) (access_in access)) (tested is_object_name volume)) o) (Says (codes "MOUNT" ∷ vm ∷ unit ∷ volume ∷ access ∷ []))
of_mount vm unit volume access named None e = tt
of_mount vm unit volume access named (Some n) e = let is = unit_is unit n e in of_volume vm unit volume access n named is.0 is.1

of_dismount : (vm unit : List ℕ) → IsName vm → (o : Option ℕ) → unit_in unit ≡ o → IfSome (option_map (Dismount vm) o) (Says (codes "DISMOUNT" ∷ vm ∷ unit ∷ []))
of_dismount vm unit named None e = tt
of_dismount vm unit named (Some n) e = let is = unit_is unit n e in ((named, is.1), λ i. codes "DISMOUNT" ∷ vm ∷ is.0 i ∷ [])

-- of a verb that is one of these
of_verb : (verb known : List ℕ) (more : List (List ℕ)) (o : Option NamedCommand) → bytes_eq verb known ≡ true → IfSome o (Says (known ∷ more)) → IfSome o (Says (verb ∷ more))
of_verb verb known more o is said = subst (λ (v : List ℕ). IfSome o (Says (v ∷ more))) (sym (same verb known is)) said

of_words : (ws : List (List ℕ)) → IfSome (asked_of ws) (Says ws)
of_words [] = tt
of_words (verb ∷ []) = both (bytes_eq verb (codes "SHOW"))
    (λ e. rw e (tt, ap (λ v. v ∷ []) (same verb (codes "SHOW") e)))
    (λ e. rw e tt)
of_words (verb ∷ vm ∷ []) = both (is_object_name vm) (λ e. rw e (of_guest verb vm e)) (λ e. rw e tt)
of_words (verb ∷ vm ∷ unit ∷ []) = both (bytes_eq verb (codes "DISMOUNT"))
    (λ f. both (is_object_name vm)
    (λ e. rw (f, e) (of_verb verb (codes "DISMOUNT") (vm ∷ unit ∷ []) (option_map (Dismount vm) (unit_in unit)) f (of_dismount vm unit e (unit_in unit) refl)))
    (λ e. rw (f, e) tt))
    (λ f. rw f tt)
of_words (verb ∷ vm ∷ unit ∷ volume ∷ []) = tt
of_words (verb ∷ vm ∷ unit ∷ volume ∷ access ∷ []) = both (bytes_eq verb (codes "MOUNT"))
    (λ f. both (is_object_name vm)
    (λ e. rw (f, e) (of_verb verb (codes "MOUNT") (vm ∷ unit ∷ volume ∷ access ∷ []) _ f (of_mount vm unit volume access e (unit_in unit) refl)))
    (λ e. rw (f, e) tt))
    (λ f. rw f tt)
of_words (verb ∷ vm ∷ unit ∷ volume ∷ access ∷ next ∷ more) = tt

pub lines_are_written : (text : List ℕ) → IfSome (asked_in text) (Asks text)
unfolding asked_in
lines_are_written text = IfSome_then (asked_of (words text)) (of_words (words text))
    (λ asked said. (said.0, sym (join_with_byte-slice_split 32 text) ∙ ap (join_with_byte 32) said.1))
