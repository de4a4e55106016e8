-- What is reported of lines, and of what they say.
use Rattle.std.proofs.Common.{◌≡◌, ℕ, List, [], ◌++◌, Bool, true, false, Result, Ok, Err, OnErr, OnOk, is_ok, is_err, if◌then◌else◌, refl, sym, ◌∙◌, ap, subst, append-nil}
use Rattle.vv_io.specs.Lines.{Puts, Seen}
use Rattle.sys_devices.specs.ShownSince.{ShownSince}
use Rattle.sys_devices.proofs.Puts.{joined, shows, shows_nothing, still}
use Rattle.sys_devices.specs.Shows.{ShowsUnlessMarked}
use Rattle.sys_script.specs.Script.{is_passed_over}
use Rattle.sys_script.specs.Typed.{if_said, refusal_message, says_event, typed_in, why_not}
use Rattle.sys_script.specs.declared.event.Event.{Event}
use Rattle.sys_script.specs.declared.event.ScriptKind.{ScriptKind}
use Rattle.sys_script.proofs.TypedLines.{passed_over_says_none, refused_in_each, says_in_each}

-- what is so of each error
pub on_err : {T E P : Type 0} (r : Result T E) → P → OnErr r P
on_err (Ok x) is = tt
on_err (Err e) is = is

pub off_err : {T E P : Type 0} (r : Result T E) → is_err r ≡ true → OnErr r P → P
off_err (Ok x) is on = absurd cc
off_err (Err e) is on = on

pub off_ok : {T E P : Type 0} (r : Result T E) → is_err r ≡ false → OnOk r P → P
off_ok (Ok x) is on = on
off_ok (Err e) is on = absurd cc

-- nothing is reported
pub tells_none : (cut : Bool) (seen : Seen) → ShowsUnlessMarked cut cut seen seen []
tells_none true seen = (refl, refl)
tells_none false seen = shows_nothing seen

-- a text is reported where nothing was cut before
pub tells_now : {U E : Type 0} (cut failed : Bool) (before after : Seen) (given bytes : List ℕ) (r : Result U E) → cut ≡ false → failed ≡ is_err r → given ≡ bytes → Puts before after given r → ShowsUnlessMarked cut failed before after bytes
tells_now true failed before after given bytes r uncut is same puts = absurd cc
tells_now false failed before after given bytes r uncut is same puts =
    subst (λ b. ShownSince b before after bytes) (sym is) (subst (ShownSince (is_err r) before after) same (shows before after given r puts))

-- one text is reported after another
pub tells_both : (cut middle last : Bool) (a b c : Seen) (x y : List ℕ) → ShowsUnlessMarked cut middle a b x → ShowsUnlessMarked middle last b c y → ShowsUnlessMarked cut last a c (x ++ y)
tells_both true true last a b c x y (is, same) (next, after) = (next, after ∙ same)
tells_both true false last a b c x y (is, same) second = absurd cc
tells_both false true true a b c x y first (next, after) = subst (λ s. ShownSince true a s (x ++ y)) (sym after) (still a b x y first)
tells_both false true false a b c x y first (next, after) = absurd cc
tells_both false false last a b c x y first second = joined last a b c x y first second

-- a line that is passed over says no event
none_said : (made : Result Event ScriptKind) → is_ok made ≡ false → if_said made [] ≡ []
none_said (Ok event) is = absurd cc
none_said (Err kind) is = refl

pub no_event : (round : ℕ) (line : List ℕ) (events : List Event) → is_passed_over line ≡ true → events ≡ events ++ if_said (typed_in round line) []
no_event round line events is = sym (ap (λ more. events ++ more) (none_said (typed_in round line) (passed_over_says_none round line is)) ∙ append-nil events)

-- a line that says an event in one round says one
pub says_one : (round : ℕ) (line : List ℕ) → is_ok (typed_in round line) ≡ true → says_event line ≡ true
says_one round line is = sym (says_in_each round line) ∙ is

says_it : (made : Result Event ScriptKind) (event : Event) → made ≡ Ok event → is_ok made ≡ true
says_it (Ok x) event is = refl
says_it (Err kind) event is = absurd cc

pub says_that : (round : ℕ) (line : List ℕ) (event : Event) → typed_in round line ≡ Ok event → says_event line ≡ true
says_that round line event is = says_one round line (says_it (typed_in round line) event is)

-- nothing is reported of it
told_nothing : (passed : Bool) (number : ℕ) (made : Result Event ScriptKind) → is_ok made ≡ true → (if passed then [] else why_not number made) ≡ []
told_nothing true number made is = refl
told_nothing false number (Ok event) is = refl
told_nothing false number (Err kind) is = absurd cc

pub tells_no_event : (cut : Bool) (seen : Seen) (number : ℕ) (line : List ℕ) → says_event line ≡ true → ShowsUnlessMarked cut cut seen seen (refusal_message number line)
tells_no_event cut seen number line is = subst (ShowsUnlessMarked cut cut seen seen) (sym (told_nothing (is_passed_over line) number (typed_in 1 line) is)) (tells_none cut seen)

-- why another says none
told_why : (passed : Bool) (number : ℕ) (made : Result Event ScriptKind) (kind : ScriptKind) → passed ≡ false → made ≡ Err kind → why_not number (Err kind) ≡ (if passed then [] else why_not number made)
told_why passed number made kind is refused = rw (is, refused)

pub tells_why : (cut failed : Bool) (before after : Seen) (number round : ℕ) (line : List ℕ) (kind : ScriptKind) → is_passed_over line ≡ false → typed_in round line ≡ Err kind → ShowsUnlessMarked cut failed before after (why_not number (Err kind)) → ShowsUnlessMarked cut failed before after (refusal_message number line)
tells_why cut failed before after number round line kind is refused tells =
    subst (ShowsUnlessMarked cut failed before after) (told_why (is_passed_over line) number (typed_in 1 line) kind is (refused_in_each round line kind refused)) tells
